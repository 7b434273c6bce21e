-- A path of one wire.
use Rattle.std.specs.Prelude.{List, [], ◌∷◌, ℤ, pos, Option, Some, None}
use Rattle.wire_rules.specs.Paths.{PathItem, to_point}

abbrev pub wire_to : Option ℤ → List PathItem
wire_to None = []
wire_to (Some x) = to_point (record { x = x; y = pos 0 }) None ∷ []
