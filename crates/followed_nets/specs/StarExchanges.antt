-- Nets that are kept with their parts, in which the pins of one component are exchanged.
use Rattle.std.specs.Prelude.{◌≡◌, ℕ, List, ◌++◌, Option, Some, map}
use Rattle.std.specs.List.{AllByRecursion}
use Rattle.def_grammar.specs.Records.{Record}
use Rattle.lef_grammar.specs.Library.{Library}
use Rattle.connection_rules.specs.NetLines.{class_lines}
use Rattle.connection_rules.specs.NetParts.{Net, Part, net_named}
use Rattle.design_rules.specs.Boxes.{scale}
use Rattle.kept_nets.specs.Parts.{shapes_in}
use Rattle.line_laws.specs.Lines.{SameThings}
use Rattle.net_laws.specs.StarNets.{AgreeBut, pins_by_one}
use Rattle.followed_nets.specs.Exchanging.{name_of}
use Rattle.followed_nets.specs.Stars.{IsStar, names_of}
use Rattle.followed_nets.specs.Told.{Told}
use Rattle.followed_nets.specs.Touched.{ArePinsBy, StarPins, star_names}

-- the nets of these names in a design
abbrev pub nets_of : Library → List Record → List (List ℕ) → List Net
nets_of library design names = map (net_named library design (scale design)) names

-- what is told are some pins of a net, with how the net hangs together
pub record ArePinsOfNet (net : Net) (pins : List Part) (t : Told) : Type 0 where
  pub name_is : t.name ≡ net.name
  pub lines_are : t.lines ≡ class_lines net
  pub shapes_are : t.shapes ≡ shapes_in pins

-- those of one component, net by net
abbrev pub AreItsPins : Library → List Record → List ℕ → List Told → Type 0
AreItsPins library design component ts =
    AllByRecursion (λ (t : Told). ArePinsOfNet (net_named library design (scale design) t.name) (pins_by_one library design (scale design) t.name component) t) ts

-- The pins of one component are to be exchanged in nets that are kept, between two designs that agree on all but that.
pub record AwaitsStars (library : Library) (old new : List Record) (component : List ℕ) (stars : List Net) (before after : List StarPins) : Type 0 where
  pub agree : (net : List ℕ) → AgreeBut old new net component
  pub scales : scale old ≡ scale new
  pub kept : AllByRecursion (IsStar library old) stars
  pub before_names : star_names before ≡ names_of stars
  pub after_names : star_names after ≡ names_of stars
  pub before_pins : ArePinsBy library old component before
  pub after_pins : ArePinsBy library new component after

-- so whatever pins of it they have in the new design
abbrev pub AwaitsOwn : Library → List Record → List Record → List ℕ → List Net → List StarPins → Type 0
AwaitsOwn library old new component stars before =
    (after : List StarPins) → star_names after ≡ names_of stars → ArePinsBy library new component after → AwaitsStars library old new component stars before after

-- In the end these nets are kept, as they are in the new design, and the pins that went and those that came are told, in whatever order.
pub record AreStarsThen (library : Library) (old new : List Record) (component : List ℕ) (names : List (List ℕ)) (stars : List Net) (gone come : List Told) : Type 0 where
  pub kept : AllByRecursion (IsStar library new) stars
  pub same_names : names_of stars ≡ names
  pub gone_names : SameThings (map name_of gone) names
  pub come_names : SameThings (map name_of come) names
  pub gone_are : AreItsPins library old component gone
  pub come_are : AreItsPins library new component come

-- The pins of a component are told behind other nets, and the nets that are kept with their parts have those that came.
pub record HaveComponent (library : Library) (old new : List Record) (component : List ℕ) (names : List (List ℕ)) (before after : List Told) (kept : Option (List Net)) (gone come : List Told) : Type 0 where
  pub stars : List Net
  pub out : List Told
  pub put : List Told
  pub kept_are : kept ≡ Some stars
  pub gone_are : gone ≡ before ++ out
  pub come_are : come ≡ after ++ put
  pub own : AreStarsThen library old new component names stars out put
