use Rattle.std.proofs.Common.{◌≡◌, drop}
use Rattle.lef_reader.specs.StatementViews.{lef_view}
use Rattle.cell_library.proofs.AddingLemmas.{all_with}
use Rattle.cell_library.proofs.definition.add_all.Given as goal

abbrev pub invariant-loop-place : goal.invariant-loop-place
invariant-loop-place g l =
    let d = g.D.Definition in
    all_with lef_view d.view d.name_in d.header d.part d.define l.named (drop l.place l.statements) ≡ all_with lef_view d.view d.name_in d.header d.part d.define l.fn.named l.statements
