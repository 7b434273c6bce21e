-- What was looked up for statements before is known to these definitions, or found in them.
use Rattle.entry_checks.specs.Definitions.{Definitions, known_in}
use Rattle.entry_checks.specs.FoundVias.{AreFound}
use Rattle.entry_checks.specs.Views.{AreSeen}
use Rattle.entry_checks.specs.declared.statement_lines.Kept.{Kept}

pub record AreKept (d : Definitions) (kept : Kept) : Type 0 where
  pub seen : AreSeen (known_in d) kept.seen
  pub vias : AreFound d kept.vias
