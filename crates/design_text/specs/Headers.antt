-- What the header of a section says.
use Rattle.std.specs.Prelude.{ℕ, List, Option, Some, None}
use Rattle.def_grammar.specs.Records.{Record, top}
use Rattle.def_grammar.specs.Top.{header}

-- the number in a header, as it is written
abbrev pub number_in : Record → Option (List ℕ)
number_in (top (header s n)) = Some n
number_in r = None
