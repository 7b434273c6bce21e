-- Nets that list a pin of all components, which are kept with their parts.
use Rattle.std.specs.Prelude.{◌≡◌, ℕ, false, true, List, [], ◌∷◌, filter, map}
use Rattle.std.specs.List.{AllByRecursion, list_any}
use Rattle.def_grammar.specs.Records.{Record}
use Rattle.def_grammar.specs.Terminals.{is_of_all}
use Rattle.lef_grammar.specs.Library.{Library}
use Rattle.connection_rules.specs.NetParts.{Net, net_named}
use Rattle.design_rules.specs.Boxes.{scale}
use Rattle.line_laws.specs.Lines.{SameThings}
use Rattle.net_laws.specs.NetChanges.{is_one_of}
use Rattle.net_laws.specs.NetsTold.{is_of_net, terminals_in}
use Rattle.followed_nets.specs.Listed.{AreApart}

abbrev pub names_of : List Net → List (List ℕ)
names_of stars = map (λ (n : Net). n.name) stars

-- a net is that of its name in a design, with its parts in some order
pub record IsNetOf (library : Library) (design : List Record) (n : Net) : Type 0 where
  pub same_power : n.is_power ≡ (net_named library design (scale design) n.name).is_power
  pub same_parts : SameThings n.parts (net_named library design (scale design) n.name).parts

-- and has an entry there, or one in each section
pub record IsStar (library : Library) (design : List Record) (n : Net) : Type 0 where
  pub net : IsNetOf library design n
  pub entry : Record
  pub others : List Record
  pub entries : filter (is_of_net n.name) design ≡ entry ∷ others

-- the nets of a design that list a pin of all components are those of some names
pub record AreStarNames (design : List Record) (names : List (List ℕ)) : Type 0 where
  pub apart : AreApart names
  pub all : (net : List ℕ) → is_one_of names net ≡ false → list_any is_of_all (terminals_in design net) ≡ false
  pub own : (net : List ℕ) → is_one_of names net ≡ true → list_any is_of_all (terminals_in design net) ≡ true

-- nets of such names are kept
pub record AreStars (library : Library) (design : List Record) (stars : List Net) : Type 0 where
  pub names : AreStarNames design (names_of stars)
  pub kept : AllByRecursion (IsStar library design) stars
