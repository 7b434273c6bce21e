-- Designs that agree on all nets but some, each of which few statements tell, in both.
use Rattle.std.specs.Prelude.{◌≡◌, ℕ, Bool, false, not, List, [], ◌∷◌, ◌++◌, filter, map}
use Rattle.std.specs.List.{filter_map, list_any}
use Rattle.std.specs.Str.{bytes_eq}
use Rattle.def_grammar.specs.Records.{Record}
use Rattle.lef_grammar.specs.Library.{Library}
use Rattle.connection_rules.specs.NetParts.{all_nets, net_named}
use Rattle.design_rules.specs.Boxes.{scale}
use Rattle.following_laws.specs.Following.{Exchange}
use Rattle.net_laws.specs.NetExchanges.{TouchOnly, nets_where}
use Rattle.net_laws.specs.NetsTold.{AgreeOnNet, is_common, net_of_record}
use Rattle.net_laws.specs.OneNet.{TellNet}

-- a name is one of some
abbrev pub is_one_of : List (List ℕ) → List ℕ → Bool
is_one_of names name = list_any (λ n. bytes_eq n name) names

-- two designs agree on all that any net may be made of, on which other nets there are, and on what tells each of these
pub record AgreeApart (a b : List Record) (test : List ℕ → Bool) : Type 0 where
  pub common : filter is_common a ≡ filter is_common b
  pub names : filter (λ n. not (test n)) (filter_map net_of_record a) ≡ filter (λ n. not (test n)) (filter_map net_of_record b)
  pub agree : (net : List ℕ) → test net ≡ false → AgreeOnNet a b net

-- Where statements are exchanged, designs agree apart from the nets that these touch,
abbrev pub TouchedApart : Type 0
TouchedApart = (front out put behind : List Record) (test : List ℕ → Bool) → let old = front ++ (out ++ behind) in let new = front ++ (put ++ behind) in
    TouchOnly old out test → TouchOnly old put test → AgreeApart old new test

-- and a design agrees with what follows on one that it agrees with.
abbrev pub ApartOnAndOn : Type 0
ApartOnAndOn = (a b c : List Record) (test : List ℕ → Bool) → AgreeApart a b test → AgreeApart b c test → AgreeApart a c test

-- nets of a design, none of them twice, of which each is told by some statements
abbrev pub AreToldIn : List Record → List (List ℕ) → Type 0
AreToldIn design [] = Unit {0}
AreToldIn design (n ∷ ns) = (is_one_of ns n ≡ false) × ((some : List Record) × TellNet some design n) × AreToldIn design ns

-- Then these nets are exchanged, the others stay, and so does the scale.
pub record ToldExchange (library : Library) (old new : List Record) (nets : List (List ℕ)) : Type 0 where
  pub exchange : Exchange (all_nets library old (scale old)) (all_nets library new (scale new)) (map (net_named library old (scale old)) nets) (map (net_named library new (scale new)) nets)
      (nets_where library old (scale old) (λ net. not (is_one_of nets net)))
  pub scales : scale old ≡ scale new

abbrev pub ToldNetsAreExchanged : Type 0
ToldNetsAreExchanged = (library : Library) (old new : List Record) (nets : List (List ℕ)) → AgreeApart old new (is_one_of nets) → AreToldIn old nets → AreToldIn new nets
    → ToldExchange library old new nets
