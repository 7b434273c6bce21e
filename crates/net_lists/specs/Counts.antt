-- How many elements of the next list a head counts.
use Rattle.std.specs.Prelude.{ℕ}
use Rattle.net_lists.specs.declared.parts.NetHead.{NetHead}
use Rattle.net_lists.specs.declared.parts.PartHead.{PartHead}

abbrev pub part_count : NetHead → ℕ
part_count h = h.parts

abbrev pub shape_count : PartHead → ℕ
shape_count p = p.shapes
