-- The width that a rule gives on a layer, where there is a rule.
use Rattle.std.specs.Prelude.{ℕ, List, Option, ℤ}
use Rattle.form_meanings.specs.Words.{◌>>=◌}
use Rattle.lef_grammar.specs.Library.{Library}
use Rattle.def_grammar.specs.Records.{Record}
use Rattle.net_rules.specs.Widths.{rule_width}

abbrev pub width_if : Library → List Record → ℕ → Option (List ℕ) → List ℕ → Option ℤ
width_if library design u rule layer = rule >>= rule_width library design u layer
