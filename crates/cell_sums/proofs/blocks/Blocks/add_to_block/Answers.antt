use Rattle.std.proofs.Common.{ap, sym, subst, ◌∙◌}
use Rattle.std.proofs.lemmas.List.{with_items_is}
use Rattle.cell_sums.specs.Blocks.{AreInBlocks, HasGained, run_gains, strip_area}
use Rattle.cell_sums.proofs.GainLemmas.{gained_in_blocks, kept_in_blocks}
use Rattle.cell_sums.proofs.blocks.Blocks.add_to_block.Goals as goal

pub invariant_of-self : goal.invariant_of-self
invariant_of-self g c =
    let cells = c.args.cells.now in
    let inside = c.self.inside in
    let area = strip_area c.args.lines.now c.args.strip.now in
    let got = c.as_mut_slice-sums.result.now in
    let is = ap (λ xs. record { keys = inside.places; sums = xs; spilled = inside.spilled.items; most = inside.most }) c.as_mut_slice-sums.ensures.value ∙ c.self.view_is in
    let added = c.add_areas.ensures in
    let put = with_items_is inside.sums c.add_areas.new.sums (c.add_areas.auto.sums ∙ c.as_mut_slice-sums.ensures.len) in
    subst (λ xs. AreInBlocks inside.places xs inside.spilled.items inside.most) (sym put)
    (kept_in_blocks cells area c.most_of_cell.result (c.most_of_cell.ensures c.args.lines.now c.requires.lines) c.requires.some c.requires.together c.args.self.now c.block_with_room.new.self c.in_ok-block.block c.in_ok-block.ensures.place c.in_ok-block.ensures.room c.in_ok-block.ensures.same c.requires.fits inside.places got c.add_areas.new.sums inside.spilled.items inside.most is c.add_areas.auto.sums added
    (subst (λ xs. AreInBlocks inside.places xs inside.spilled.items inside.most) (sym c.as_mut_slice-sums.ensures.value) c.self.invariant))

pub returns-clause-added : goal.returns-clause-added
returns-clause-added g c =
    let cells = c.args.cells.now in
    let inside = c.self.inside in
    let area = strip_area c.args.lines.now c.args.strip.now in
    let got = c.as_mut_slice-sums.result.now in
    let is = ap (λ xs. record { keys = inside.places; sums = xs; spilled = inside.spilled.items; most = inside.most }) c.as_mut_slice-sums.ensures.value ∙ c.self.view_is in
    let added = c.add_areas.ensures in
    let put = with_items_is inside.sums c.add_areas.new.sums (c.add_areas.auto.sums ∙ c.as_mut_slice-sums.ensures.len) in
    subst (λ xs. HasGained c.args.self.now (record { keys = inside.places; sums = xs; spilled = inside.spilled.items; most = inside.most }) (run_gains cells area)) (sym put)
    (gained_in_blocks cells area c.most_of_cell.result (c.most_of_cell.ensures c.args.lines.now c.requires.lines) c.requires.some c.requires.together c.args.self.now c.block_with_room.new.self c.in_ok-block.block c.in_ok-block.ensures.place c.in_ok-block.ensures.room c.in_ok-block.ensures.same c.requires.fits inside.places got c.add_areas.new.sums inside.spilled.items inside.most is c.add_areas.auto.sums added)
