-- The parts that one entry draws.
use Rattle.std.specs.Prelude.{List, [], map, filter, Option, Some, None}
use Rattle.lef_grammar.specs.Definitions.{Layer}
use Rattle.connection_rules.specs.NetParts.{Part, Wired, drawn, drawn_part, has_shapes}

abbrev pub parts_drawn : List Layer → Wired → List Part
parts_drawn layers w = filter has_shapes (map (drawn_part layers) (drawn w.pieces))

abbrev pub parts_if : List Layer → Option Wired → List Part
parts_if layers None = []
parts_if layers (Some w) = parts_drawn layers w
