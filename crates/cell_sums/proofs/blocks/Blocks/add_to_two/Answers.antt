use Rattle.std.proofs.Common.{ℕ, ◌-◌, ◌+◌, ◌*◌, ◌%◌, ap, sym, subst, ◌∙◌, arith}
use Rattle.std.proofs.lemmas.List.{with_items_is}
use Rattle.cell_sums.specs.Blocks.{AreInBlocks, HasGained, one_of_two, run_gains}
use Rattle.cell_sums.proofs.GainLemmas.{gained_in_blocks, kept_in_blocks, one_at_most, pair_added}
use Rattle.cell_sums.proofs.blocks.Blocks.add_to_two.Goals as goal

pub invariant_of-self : goal.invariant_of-self
invariant_of-self g c =
    let cells = c.args.cells.now in
    let inside = c.self.inside in
    let area = (λ (i : ℕ). one_of_two c.args.area c.args.next_area (i - cells.first)) in
    let got = c.as_mut_slice-sums.result.now in
    let is = ap (λ xs. record { keys = inside.places; sums = xs; spilled = inside.spilled.items; most = inside.most }) c.as_mut_slice-sums.ensures.value ∙ c.self.view_is in
    let added = pair_added got c.add_two.new.sums (c.in_ok-block.block * 64 + cells.first % 64) cells.first cells.end c.args.area c.args.next_area c.requires.two c.add_two.ensures in
    let put = with_items_is inside.sums c.add_two.new.sums (c.add_two.auto.sums ∙ c.as_mut_slice-sums.ensures.len) in
    subst (λ xs. AreInBlocks inside.places xs inside.spilled.items inside.most) (sym put)
    (kept_in_blocks cells area c.max.result (λ i. one_at_most c.args.area c.args.next_area (i - cells.first) c.max.result c.max.ensures) (omega (arith, c.requires.two)) c.requires.together c.args.self.now c.block_with_room.new.self c.in_ok-block.block c.in_ok-block.ensures.place c.in_ok-block.ensures.room c.in_ok-block.ensures.same c.requires.fits inside.places got c.add_two.new.sums inside.spilled.items inside.most is c.add_two.auto.sums added
    (subst (λ xs. AreInBlocks inside.places xs inside.spilled.items inside.most) (sym c.as_mut_slice-sums.ensures.value) c.self.invariant))

pub returns-clause-added : goal.returns-clause-added
returns-clause-added g c =
    let cells = c.args.cells.now in
    let inside = c.self.inside in
    let area = (λ (i : ℕ). one_of_two c.args.area c.args.next_area (i - cells.first)) in
    let got = c.as_mut_slice-sums.result.now in
    let is = ap (λ xs. record { keys = inside.places; sums = xs; spilled = inside.spilled.items; most = inside.most }) c.as_mut_slice-sums.ensures.value ∙ c.self.view_is in
    let added = pair_added got c.add_two.new.sums (c.in_ok-block.block * 64 + cells.first % 64) cells.first cells.end c.args.area c.args.next_area c.requires.two c.add_two.ensures in
    let put = with_items_is inside.sums c.add_two.new.sums (c.add_two.auto.sums ∙ c.as_mut_slice-sums.ensures.len) in
    subst (λ xs. HasGained c.args.self.now (record { keys = inside.places; sums = xs; spilled = inside.spilled.items; most = inside.most }) (run_gains cells area)) (sym put)
    (gained_in_blocks cells area c.max.result (λ i. one_at_most c.args.area c.args.next_area (i - cells.first) c.max.result c.max.ensures) (omega (arith, c.requires.two)) c.requires.together c.args.self.now c.block_with_room.new.self c.in_ok-block.block c.in_ok-block.ensures.place c.in_ok-block.ensures.room c.in_ok-block.ensures.same c.requires.fits inside.places got c.add_two.new.sums inside.spilled.items inside.most is c.add_two.auto.sums added)
