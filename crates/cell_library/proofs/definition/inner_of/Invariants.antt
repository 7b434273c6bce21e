use Rattle.std.proofs.Common.{◌≡◌, ◌++◌, drop, take}
use Rattle.lef_reader.specs.StatementViews.{lef_view}
use Rattle.cell_library.proofs.InnerLemmas.{Inside, before_end, parts}
use Rattle.cell_library.proofs.definition.inner_of.Given as goal

abbrev pub invariant-loop-place : goal.invariant-loop-place
invariant-loop-place g l =
    let part = g.D.Definition.part in
    record {
      inside : Inside lef_view part (take l.place l.behind);
      all : parts lef_view part (take l.place l.behind) ++ before_end lef_view part (drop l.place l.behind) ≡ before_end lef_view part l.behind;
    }
