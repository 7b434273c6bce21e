-- The kinds of printed lines.
use Rattle.std.specs.Prelude.{List}
use Rattle.std.specs.List.{All}
use Rattle.design_model.specs.declared.diagnostic.DiagLine.{DiagLine}
use Rattle.design_model.specs.Lines.{IsOfItsKind}

-- each printed line is of the kind that it has
pub record HaveTheirKinds {A : Type 0} (lines : List (DiagLine A)) : Type 0 where
  pub each : All IsOfItsKind lines
