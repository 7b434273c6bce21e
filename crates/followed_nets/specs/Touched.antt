-- Nets that an edit is about to change, and what follows of the others.
use Rattle.std.specs.Prelude.{◌≡◌, ◌≤◌, ℕ, List, [], ◌++◌, Option, Some, None, map}
use Rattle.std.specs.List.{AllByRecursion}
use Rattle.design_model.specs.declared.identifier.StmtId.{StmtId}
use Rattle.design_model.specs.Order.{sorted_by_bytes}
use Rattle.def_grammar.specs.Records.{Record}
use Rattle.lef_grammar.specs.Library.{Library}
use Rattle.connection_rules.specs.NetLines.{Barrier, barriers, layer_name}
use Rattle.connection_rules.specs.NetParts.{Part, all_nets}
use Rattle.design_rules.specs.Boxes.{scale}
use Rattle.following_laws.specs.DesignLaws.{lines_on_nets}
use Rattle.kept_lines.specs.Kept.{Kept}
use Rattle.net_laws.specs.StarNets.{pins_by_one}
use Rattle.net_laws.specs.Within.{Listed, NoOtherLists, a_component, a_pin, neither}
use Rattle.followed_nets.specs.Exchanging.{AreToldIn, name_of}
use Rattle.followed_nets.specs.FollowedNets.{HasNetsBarred, Nets}
use Rattle.followed_nets.specs.Listed.{AreApart}
use Rattle.followed_nets.specs.Noted.{said}
use Rattle.followed_nets.specs.Tests.{near_own}
use Rattle.followed_nets.specs.Told.{Told}

-- the pins of a net by one component
pub record StarPins : Type 0 where
  pub name : List ℕ
  pub pins : List Part

-- the names of nets; the component that the edit is of, if it is of one, and else the pin of the design; what is told of each of the nets, and
-- how many pairs of shapes were compared to tell it; and what that component is to the nets that list a pin of all
pub record Touched : Type 0 where
  pub names : List (List ℕ)
  pub component : Option (List ℕ)
  pub pin : Option (List ℕ)
  pub before : List Told
  pub tests : ℕ
  pub stars : List StarPins

-- what an edit is of, by the component and the pin that it may be of
abbrev pub subject_by : Option (List ℕ) → Option (List ℕ) → Listed
subject_by (Some component) pin = a_component component
subject_by None (Some pin) = a_pin pin
subject_by None None = neither

abbrev pub star_names : List StarPins → List (List ℕ)
star_names stars = map (λ (s : StarPins). s.name) stars

abbrev pub ArePinsBy : Library → List Record → List ℕ → List StarPins → Type 0
ArePinsBy library design component stars = AllByRecursion (λ (s : StarPins). s.pins ≡ pins_by_one library design (scale design) s.name component) stars

abbrev pub ArePinsOf : Library → List Record → Option (List ℕ) → List StarPins → Type 0
ArePinsOf library design None stars = stars ≡ []
ArePinsOf library design (Some component) stars = ArePinsBy library design component stars

-- no name stands twice, no other net lists the component or the pin, and what is told is of these nets of a design, by comparing no more than
-- shapes of one net that are near each other
pub record AreTouched (library : Library) (design : List Record) (t : Touched) : Type 0 where
  pub apart : AreApart (t.names ++ star_names t.stars)
  pub lists : NoOtherLists design (t.names ++ star_names t.stars) (subject_by t.component t.pin)
  pub told : AreToldIn library (barriers library design (scale design)) design t.before
  pub named : map name_of t.before ≡ t.names
  pub few : t.tests ≤ near_own t.before
  pub pins : ArePinsOf library design t.component t.stars

-- nets are those of numbered statements, and kept lines are those on them, where these rectangles block routing
pub record AreBarred (library : Library) (records : List (StmtId × Record)) (bars : List Barrier) (n : Nets) (kept : Kept) : Type 0 where
  pub nets : HasNetsBarred library records bars n
  pub lines : kept.lines ≡ sorted_by_bytes (lines_on_nets (layer_name library.layers) (all_nets library (said records) (scale (said records))) bars)

-- where those of the statements do: the lines are `net_lines` then
abbrev pub AreFollowed : Library → List (StmtId × Record) → Nets → Kept → Type 0
AreFollowed library records n kept = AreBarred library records (barriers library (said records) (scale (said records))) n kept
