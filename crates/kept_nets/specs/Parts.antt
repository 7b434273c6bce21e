-- Parts that are kept.
use Rattle.std.specs.Prelude.{List, flat_map, map}
use Rattle.lef_grammar.specs.Measures.{Shape}
use Rattle.connection_rules.specs.NetParts.{Part}
use Rattle.net_lists.specs.PartCuts.{shape_view}
use Rattle.kept_nets.specs.declared.part.KeptPart.{KeptPart}

abbrev pub part_view : {A : Type 0} → KeptPart A → Part
part_view p = record { is_pin = p.is_pin; shapes = map shape_view p.shapes.items }

-- the shapes of parts, one after the other
abbrev pub shapes_in : List Part → List Shape
shapes_in ps = flat_map (λ (p : Part). p.shapes) ps
