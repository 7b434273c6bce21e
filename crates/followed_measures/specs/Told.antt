-- What is measured of the nets of a design that an edit is about to change, each by few of its statements, and of a component.
use Rattle.std.specs.Prelude.{◌≡◌, ℕ, List, [], ◌++◌, Option, Some, None, map}
use Rattle.std.specs.List.{AllByRecursion}
use Rattle.design_model.specs.Geometry.{Rectangle}
use Rattle.def_grammar.specs.Records.{Record}
use Rattle.lef_grammar.specs.Library.{Library}
use Rattle.lef_grammar.specs.Measures.{Shape}
use Rattle.connection_rules.specs.NetLines.{NetShape, shapes_of_net}
use Rattle.connection_rules.specs.NetParts.{net_named}
use Rattle.design_rules.specs.Boxes.{scale}
use Rattle.measure_rules.specs.Lengths.{length_of}
use Rattle.measure_rules.specs.NetBoxes.{box_round, rectangles_of}
use Rattle.measuring_laws.specs.Measuring.{own_boxes}
use Rattle.net_laws.specs.OneNet.{TellNet}
use Rattle.net_laws.specs.Within.{NoOtherLists}
use Rattle.reports.specs.Densities.{box_shape, box_shapes}
use Rattle.followed_nets.specs.Listed.{AreApart}
use Rattle.followed_nets.specs.StarHeads.{ArePinShapes, PinShapes, pin_names}
use Rattle.followed_nets.specs.Touched.{subject_by}

-- a net: its name, the length of its wires, its shapes, and the box round these
pub record ToldNet : Type 0 where
  pub name : List ℕ
  pub net_length : ℕ
  pub shapes : List Shape
  pub bounds : Option Rectangle

-- those of a net of a design, which some of its statements tell
pub record IsNetIn (library : Library) (design : List Record) (t : ToldNet) : Type 0 where
  pub some : List Record
  pub tell : TellNet some design t.name
  pub length_is : t.net_length ≡ length_of library design (scale design) t.name
  pub shapes_are : t.shapes ≡ map (λ (s : NetShape). s.shape) (shapes_of_net (net_named library design (scale design) t.name))
  pub bounds_are : t.bounds ≡ box_round (rectangles_of (net_named library design (scale design) t.name))

-- some nets; the component that the edit is of, if it is of one; its box, where it takes part; and its pins of the nets that list a pin
-- of all components
pub record Told : Type 0 where
  pub nets : List ToldNet
  pub component : Option (List ℕ)
  pub bounds : Option Rectangle
  pub stars : List PinShapes

abbrev pub told_names : List ToldNet → List (List ℕ)
told_names ts = map (λ (t : ToldNet). t.name) ts

abbrev pub ArePinsOf : Library → List Record → Option (List ℕ) → List PinShapes → Type 0
ArePinsOf library design None stars = stars ≡ []
ArePinsOf library design (Some component) stars = ArePinShapes library design component stars

-- so it is in a design where no other net lists that component
pub record IsToldIn (library : Library) (design : List Record) (t : Told) : Type 0 where
  pub nets_are : AllByRecursion (IsNetIn library design) t.nets
  pub apart : AreApart (told_names t.nets ++ pin_names t.stars)
  pub lists : NoOtherLists design (told_names t.nets ++ pin_names t.stars) (subject_by t.component None)
  pub box_is : box_shapes t.bounds ≡ map box_shape (own_boxes library design t.component)
  pub pins_are : ArePinsOf library design t.component t.stars
