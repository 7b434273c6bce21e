-- Where ports are placed and vias of pins, as the definitions have them.
use Rattle.std.specs.Prelude.{ℕ, List}
use Rattle.design_model.specs.declared.geometry.Orient.{Orient}
use Rattle.design_model.specs.declared.geometry.Point.{Point}
use Rattle.wire_rules.specs.ViaShapes.{NamedShape}
use Rattle.net_rules.specs.ViaRectangles.{via_shapes}
use Rattle.design_wires.specs.Scales.{units_of}
use Rattle.net_pins.specs.declared.port_place.PortPlace.{PortPlace}
use Rattle.net_pins.specs.declared.sources.Sources.{Sources}

abbrev pub port_place_view : PortPlace → Point × Orient
port_place_view p = (p.at, p.orient)

-- the vias of a library and a design
abbrev pub vias_in : {A : Type 0} → Sources A → List ℕ → List NamedShape
vias_in s name = via_shapes s.library.now s.names.now (units_of s.scale) name
