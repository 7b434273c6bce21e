use Rattle.std.proofs.Common.{◌≡◌, ◌+◌, ◌∙◌, ℕ, List, Some, map, take, refl, sym, ap, subst, arith}
use Rattle.std.specs.Prelude.{option_map}
use Rattle.design_model.specs.declared.identifier.StmtId.{StmtId}
use Rattle.text_pieces.specs.Chunks.{AreOnce, all_ids, ids_at, shown}
use Rattle.text_pieces.specs.Tables.{ids_after, ids_before, kept, start_in, weight}
use Rattle.text_pieces.proofs.Ids.{absent_before}
use Rattle.text_pieces.proofs.NewWeights.{has_bytes}
use Rattle.text_pieces.proofs.Weights.{no_start, start_is, weight_append, weight_within}
use Rattle.text_pieces.proofs.table.PieceTable.start_of.Goals as goal

pub returns-in_default : goal.returns-in_default
returns-in_default g c = sym (no_start (map (option_map kept) c.args.self.now.pieces.slots) 0 c.args.id _ c.in_default.ensures)

pub returns : goal.returns
returns g c =
    let s = c.in-Some.ensures in
    let slots = map (option_map kept) c.args.self.now.pieces.slots in
    let cs = map shown c.args.self.now.chunks.items in
    let k = c.in-Some.chunk in
    let i = c.in-Some.place in
    let id = c.args.id in
    let before = ids_before cs k i in
    let absent = absent_before id before (ids_after cs k i) (subst (λ (l : List StmtId). AreOnce l) s.is c.requires.once) in
    let sum : c.weight_before.result + c.weight_to.result ≡ 0 + weight slots before = omega (arith, c.weight_to.ensures, c.weight_before.ensures, weight_append slots (all_ids (take k cs)) (take i (ids_at cs k))) in
    ap (λ (n : ℕ). Some n) sum ∙ sym (start_is slots 0 id before (ids_after cs k i) absent) ∙ sym (ap (start_in slots 0 id) s.is)

pub overflow_add-result : goal.overflow_add-result
overflow_add-result g c =
    let s = c.in-Some.ensures in
    let slots = map (option_map kept) c.args.self.now.pieces.slots in
    let cs = map shown c.args.self.now.chunks.items in
    let k = c.in-Some.chunk in
    let n = has_bytes slots cs k _ c.requires s.within refl in
    omega (arith, c.weight_to.ensures, c.weight_before.ensures, weight_within slots (ids_at cs k) c.in-Some.place, n.is, n.fits)
