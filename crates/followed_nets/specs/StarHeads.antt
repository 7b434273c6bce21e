-- Heads of the nets of a design that list a pin of all components, and what such nets have of one component.
use Rattle.std.specs.Prelude.{◌≡◌, ℕ, List, [], ◌∷◌, ◌++◌, filter, map}
use Rattle.std.specs.List.{AllByRecursion}
use Rattle.def_grammar.specs.Records.{Record}
use Rattle.design_rules.specs.Boxes.{scale}
use Rattle.lef_grammar.specs.Library.{Library}
use Rattle.lef_grammar.specs.Measures.{Shape}
use Rattle.kept_nets.specs.Parts.{shapes_in}
use Rattle.net_laws.specs.NetsTold.{is_of_net}
use Rattle.net_laws.specs.StarNets.{pins_by_one}
use Rattle.net_laws.specs.Within.{NoOtherLists, a_component}
use Rattle.followed_nets.specs.Heads.{Head, IsHead}
use Rattle.followed_nets.specs.Listed.{AreApart}
use Rattle.followed_nets.specs.Stars.{AreStarNames}

abbrev pub head_names : List Head → List (List ℕ)
head_names hs = map (λ (h : Head). h.name) hs

-- the head of a net that has an entry
pub record IsStarHead (design : List Record) (h : Head) : Type 0 where
  pub head : IsHead design h
  pub entry : Record
  pub others : List Record
  pub entries : filter (is_of_net h.name) design ≡ entry ∷ others

-- the nets that list a pin of all components are those of these heads
pub record AreStarHeads (design : List Record) (hs : List Head) : Type 0 where
  pub names : AreStarNames design (head_names hs)
  pub each : AllByRecursion (IsStarHead design) hs

-- the shapes of some pins of a net
pub record PinShapes : Type 0 where
  pub name : List ℕ
  pub shapes : List Shape

abbrev pub pin_names : List PinShapes → List (List ℕ)
pin_names ps = map (λ (p : PinShapes). p.name) ps

-- those of the pins by one component of a net that has an entry
pub record IsPinsBy (library : Library) (design : List Record) (component : List ℕ) (p : PinShapes) : Type 0 where
  pub shapes_are : p.shapes ≡ shapes_in (pins_by_one library design (scale design) p.name component)
  pub entry : Record
  pub others : List Record
  pub entries : filter (is_of_net p.name) design ≡ entry ∷ others

-- so net by net
abbrev pub ArePinShapes : Library → List Record → List ℕ → List PinShapes → Type 0
ArePinShapes library design component ps = AllByRecursion (IsPinsBy library design component) ps

-- some nets, and those that list a pin of all components, are all that list a component, and none of them twice
pub record AreAllListing (design : List Record) (component : List ℕ) (nets stars : List (List ℕ)) : Type 0 where
  pub apart : AreApart (nets ++ stars)
  pub lists : NoOtherLists design (nets ++ stars) (a_component component)
