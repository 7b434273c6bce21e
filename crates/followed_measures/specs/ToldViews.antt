-- What is measured before an edit in the program as in the definitions.
use Rattle.std.specs.Prelude.{List, [], Option, Some, None, map}
use Rattle.std.specs.Option.{option_map}
use Rattle.design_model.specs.Geometry.{Rectangle}
use Rattle.design_model.specs.Views.{rectangle_of}
use Rattle.net_lists.specs.PartCuts.{shape_view}
use Rattle.followed_nets.specs.StarHeads.{PinShapes}
use Rattle.followed_nets.specs.StarHeadViews.{pins_view}
use Rattle.followed_measures.specs.Told as specs
use Rattle.followed_measures.specs.Told.{Told}
use Rattle.followed_measures.specs.declared.told.ToldNet.{ToldNet}
use Rattle.followed_measures.specs.declared.told_edit.ToldComponent.{ToldComponent}
use Rattle.followed_measures.specs.declared.told_edit.ToldMeasures.{ToldMeasures}

abbrev pub net_view : {A : Type 0} → ToldNet A → specs.ToldNet
net_view t = record { name = t.name; net_length = t.length; shapes = map shape_view t.shapes.items; bounds = option_map rectangle_of t.bounds }

-- of a component, if there is one
abbrev pub bounds_of : {A : Type 0} → Option (ToldComponent A) → Option Rectangle
bounds_of None = None
bounds_of (Some c) = option_map rectangle_of c.bounds

abbrev pub pins_of : {A : Type 0} → Option (ToldComponent A) → List PinShapes
pins_of None = []
pins_of (Some c) = map pins_view c.stars.items

abbrev pub told_view : {A : Type 0} → ToldMeasures A → Told
told_view t = record { nets = map net_view t.nets.items; component = option_map (λ c. c.name) t.component; bounds = bounds_of t.component; stars = pins_of t.component }
