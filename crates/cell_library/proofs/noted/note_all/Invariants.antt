use Rattle.std.proofs.Common.{◌≡◌, ℕ, List, drop}
use Rattle.std.specs.List.{filter_map}
use Rattle.cell_library.specs.Records.{records_view}
use Rattle.cell_library.proofs.noted.note_all.Given as goal

abbrev pub invariant-loop-place : goal.invariant-loop-place
invariant-loop-place g l =
    let n = g.N.Noted in
    (name : List ℕ) → n.view (name, l.noted) ≡ n.says (name, filter_map n.part (records_view (drop l.place l.inner)))
