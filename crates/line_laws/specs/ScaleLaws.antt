-- Laws of database units.
use Rattle.std.specs.Prelude.{◌≡◌, ◌≤◌, ◌<◌, ℕ, List, Ok}
use Rattle.def_grammar.specs.Records.{Record, read_def}
use Rattle.design_rules.specs.Boxes.{scale}

-- a number of database units per micron
pub record HasScale (u : ℕ) : Type 0 where
  pub some : 0 < u
  pub few : u ≤ 100000

-- A text that reads has such a number.
abbrev pub ScalesAreGood : Type 0
ScalesAreGood = (text : List ℕ) (design : List Record) → read_def text ≡ Ok design → HasScale (scale design)
