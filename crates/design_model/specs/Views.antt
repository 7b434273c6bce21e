-- Values of the program as values of the definitions.
use Rattle.design_model.specs.declared.geometry.Rect.{Rect}
use Rattle.design_model.specs.Geometry.{Rectangle}

-- a rectangle without the proofs that its corners are in order
abbrev pub rectangle_of : Rect → Rectangle
rectangle_of r = record { x1 = r.x1; y1 = r.y1; x2 = r.x2; y2 = r.y2 }
