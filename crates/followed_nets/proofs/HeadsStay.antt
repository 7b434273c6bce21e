-- Heads of nets stay so in a design that an edit leaves.
use Rattle.std.proofs.Common.{◌≡◌, ◌∙◌, ◌++◌, ℕ, Bool, true, false, List, [], ◌∷◌, filter, flat_map, Option, Some, None, refl, sym, ap, subst, append-nil}
use Rattle.std.specs.List.{AllByRecursion}
use Rattle.def_grammar.specs.Records.{Record}
use Rattle.lef_grammar.specs.Library.{Library}
use Rattle.connection_rules.specs.NetParts.{Net}
use Rattle.net_laws.specs.NetChanges.{is_one_of}
use Rattle.net_laws.specs.NetsTold.{is_of_net, terminals_of}
use Rattle.followed_nets.specs.Heads.{Head, IsHead}
use Rattle.followed_nets.specs.Touched.{ArePinsOf, StarPins, Touched, star_names}
use Rattle.followed_nets.specs.Within.{Fits, LeavesOthers}

module _ (library : Library) (old new : List Record) (t : Touched) (leaves : LeavesOthers old new t) (pins : ArePinsOf library old t.component t.stars) where
  still_head : (h : Head) → filter (is_of_net h.name) old ≡ filter (is_of_net h.name) new → IsHead old h → IsHead new h
  still_head h same head = record { entry = head.entry; reads = head.reads; of_net = head.of_net; lists = head.lists ∙ ap (flat_map terminals_of) same }

  -- after an edit of a component, all of them do
  by_component : (name : List ℕ) → t.component ≡ Some name → (hs : List Head) → AllByRecursion (IsHead old) hs → AllByRecursion (IsHead new) hs
  by_component name is [] are = tt
  by_component name is (h ∷ hs) are = (still_head h (leaves.but name h.name is).entries are.0, by_component name is hs are.1)

  -- after an edit of a net, those of others
  outside : t.component ≡ None → (net : List ℕ) → is_one_of t.names net ≡ false → is_one_of (t.names ++ star_names t.stars) net ≡ false
  outside none net other =
      let no_stars : t.stars ≡ [] = subst (λ (c : Option (List ℕ)). ArePinsOf library old c t.stars) none pins in
      ap (λ (ss : List StarPins). is_one_of (t.names ++ star_names ss) net) no_stars ∙ ap (λ (ns : List (List ℕ)). is_one_of ns net) (append-nil t.names) ∙ other

  by_net : t.component ≡ None → (hs : List Head) → AllByRecursion (λ (h : Head). is_one_of t.names h.name ≡ false) hs → AllByRecursion (IsHead old) hs → AllByRecursion (IsHead new) hs
  by_net none [] others are = tt
  by_net none (h ∷ hs) others are = (still_head h (leaves.apart.agree h.name (outside none h.name others.0)).entries are.0, by_net none hs others.1 are.1)

  either : (c : Option (List ℕ)) → t.component ≡ c → (hs : List Head) → (t.component ≡ None → AllByRecursion (λ (h : Head). is_one_of t.names h.name ≡ false) hs) → AllByRecursion (IsHead old) hs
      → AllByRecursion (IsHead new) hs
  either None is hs others are = by_net is hs (others is) are
  either (Some name) is hs others are = by_component name is hs are

  pub heads_stay : (hs : List Head) → (t.component ≡ None → AllByRecursion (λ (h : Head). is_one_of t.names h.name ≡ false) hs) → AllByRecursion (IsHead old) hs → AllByRecursion (IsHead new) hs
  heads_stay hs others are = either t.component refl hs others are

-- what is looked at where an edit is of nets
one_of_both : {A : Type 0} (a b : A) → Some a ≡ Some b → a ≡ b
one_of_both a b is = cc

differ : {A : Type 0} (a : A) (o : Option A) → o ≡ None → o ≡ Some a → ⊥
differ a None h g = cc
differ a (Some b) h g = cc

module _ (kept : Option (List Net)) (hs : List Head) (t : Touched) where
  pub fits_stars : (stars : List Net) → kept ≡ Some stars → t.component ≡ None → AllByRecursion (λ (s : Net). is_one_of t.names s.name ≡ false) stars
      → AllByRecursion (λ (h : Head). is_one_of t.names h.name ≡ false) hs → Fits kept hs t
  fits_stars stars are none others heads = record {
    own = λ name is. absurd (differ name t.component none is);
    others = λ n ss is. subst (AllByRecursion (λ (s : Net). is_one_of t.names s.name ≡ false)) (one_of_both stars ss (sym are ∙ is)) others;
    heads = λ n. heads;
  }

  pub fits_none : kept ≡ None → t.component ≡ None → AllByRecursion (λ (h : Head). is_one_of t.names h.name ≡ false) hs → Fits kept hs t
  fits_none are none heads = record {
    own = λ name is. absurd (differ name t.component none is);
    others = λ n ss is. absurd (differ ss kept are is);
    heads = λ n. heads;
  }
