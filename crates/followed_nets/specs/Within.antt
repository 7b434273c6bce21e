-- What an edit leaves whose statements are all of some nets, and of a component or a pin of the design.
use Rattle.std.specs.Prelude.{◌≡◌, ◌++◌, ℕ, true, false, List, [], Option, Some, None}
use Rattle.std.specs.List.{AllByRecursion, list_any}
use Rattle.def_grammar.specs.Records.{Record}
use Rattle.def_grammar.specs.Terminals.{is_of_all}
use Rattle.connection_rules.specs.NetParts.{Net}
use Rattle.net_laws.specs.NetChanges.{AgreeApart, is_one_of}
use Rattle.net_laws.specs.NetsTold.{terminals_in}
use Rattle.net_laws.specs.StarNets.{AgreeBut}
use Rattle.net_laws.specs.Within.{Listed, NoOtherLists, a_component}
use Rattle.followed_nets.specs.Heads.{Head}
use Rattle.followed_nets.specs.Stars.{names_of}
use Rattle.followed_nets.specs.Touched.{Touched, star_names}

-- all nets are among others
abbrev pub Cover : List (List ℕ) → List (List ℕ) → Type 0
Cover more nets = (net : List ℕ) → is_one_of nets net ≡ true → is_one_of more net ≡ true

-- it leaves nets that are none of those and don't list what it is of; where it is of no net but of a component, each net but for that; and no net
-- comes to list a pin of all components
pub record Leaves (old new : List Record) (nets : List (List ℕ)) (subject : Listed) : Type 0 where
  pub apart : (more : List (List ℕ)) → Cover more nets → NoOtherLists old more subject → AgreeApart old new (is_one_of more) × NoOtherLists new more subject
  pub but : (name net : List ℕ) → nets ≡ [] → subject ≡ a_component name → AgreeBut old new net name
  pub no_stars : (net : List ℕ) → list_any is_of_all (terminals_in old net) ≡ false → list_any is_of_all (terminals_in new net) ≡ false

-- an edit leaves all nets but those that it touches; one of a component, also these but for that component
pub record LeavesOthers (old new : List Record) (t : Touched) : Type 0 where
  pub apart : AgreeApart old new (is_one_of (t.names ++ star_names t.stars))
  pub but : (name net : List ℕ) → t.component ≡ Some name → AgreeBut old new net name
  pub no_stars : (net : List ℕ) → list_any is_of_all (terminals_in old net) ≡ false → list_any is_of_all (terminals_in new net) ≡ false

-- nets that are kept with their parts are those that an edit of a component touches, and others than those that another edit touches; so are
-- those of which there are heads
pub record Fits (kept : Option (List Net)) (hs : List Head) (t : Touched) : Type 0 where
  pub own : (name : List ℕ) → t.component ≡ Some name → (stars : List Net) × (kept ≡ Some stars) × (star_names t.stars ≡ names_of stars)
  pub others : t.component ≡ None → (stars : List Net) → kept ≡ Some stars → AllByRecursion (λ (s : Net). is_one_of t.names s.name ≡ false) stars
  pub heads : t.component ≡ None → AllByRecursion (λ (h : Head). is_one_of t.names h.name ≡ false) hs
