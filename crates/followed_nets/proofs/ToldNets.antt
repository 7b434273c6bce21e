-- What is told of nets, one after the other; and which nets list a component.
use Rattle.std.proofs.Common.{◌≡◌, ◌∙◌, ◌<◌, ◌≤◌, ◌+◌, ◌||◌, ◌&&◌, ℕ, Bool, true, false, not, List, [], ◌∷◌, ◌++◌, drop, get_or, length, map, append-nil, append_assoc, Some, None, refl, sym, ap, ap₂, arith, subst, sum_by}
use Rattle.std.specs.List.{AllByRecursion, list_any}
use Rattle.std.specs.Str.{bytes_eq}
use Rattle.std.proofs.lemmas.List.{drop_more, map-append}
use Rattle.std.proofs.lemmas.List.Folds.{list_any-append}
use Rattle.std.proofs.lemmas.List.Sums.{sum_by-append, sum_by-cons}
use Rattle.std.proofs.lemmas.Slice.Eq.{bytes_eq-Decides}
use Rattle.def_grammar.specs.Records.{Record}
use Rattle.def_grammar.specs.Terminals.{Terminal, is_of_all, is_of_design, is_virtual}
use Rattle.lef_grammar.specs.Library.{Library}
use Rattle.connection_rules.specs.NetLines.{Barrier}
use Rattle.connection_rules.specs.NetParts.{Net}
use Rattle.design_rules.specs.Boxes.{scale}
use Rattle.net_checks.specs.NearWithin.{near_themselves}
use Rattle.net_laws.specs.NetChanges.{is_one_of}
use Rattle.net_laws.specs.NetExchanges.{finds}
use Rattle.net_laws.specs.NetsTold.{terminals_in}
use Rattle.net_laws.specs.StarNets.{pins_by_one}
use Rattle.net_laws.specs.Within.{NoOtherLists, a_component, a_pin, finds_it, neither}
use Rattle.followed_nets.specs.Exchanging.{AreToldIn, name_of}
use Rattle.followed_nets.specs.Listed.{AreListing, AreListingPin, is_pin_of}
use Rattle.followed_nets.specs.Stars.{AreStarNames, names_of}
use Rattle.followed_nets.specs.Tests.{near_own}
use Rattle.followed_nets.specs.Told.{IsToldIn, Told}
use Rattle.followed_nets.specs.ToldViews.{tests_of, told_view}
use Rattle.followed_nets.specs.Touched.{ArePinsBy, AreTouched, StarPins, star_names}
use Rattle.followed_nets.specs.declared.told.ToldNet.{ToldNet}

-- neither the first nor a later one passes a test
none_of_both : (b c : Bool) → (b || c) ≡ false → (b ≡ false) × (c ≡ false)
none_of_both true c h = absurd (cc)
none_of_both false c h = (refl, h)

all_and_one : {A : Type 0} (P : A → Type 0) (xs : List A) (x : A) → AllByRecursion P xs → P x → AllByRecursion P (xs ++ x ∷ [])
all_and_one P [] x h p = (p, tt)
all_and_one P (y ∷ xs) x h p = (h.0, all_and_one P xs x h.1 p)

module _ (library : Library) (bars : List Barrier) (design : List Record) where
  -- what is told has the net's name
  pub named_so : (n : List ℕ) (t : Told) → IsToldIn library bars design n t → t.name ≡ n
  named_so n t is = is.told.name_is

  pub one_more_told : (ts : List Told) (n : List ℕ) (t : Told) → AreToldIn library bars design ts → IsToldIn library bars design n t → AreToldIn library bars design (ts ++ t ∷ [])
  one_more_told ts n t told is =
      all_and_one (λ (x : Told). IsToldIn library bars design x.name x) ts t told (subst (λ (name : List ℕ). IsToldIn library bars design name t) (sym (named_so n t is)) is)

  pub one_more_named : (ts : List Told) (names : List (List ℕ)) (i : ℕ) (n : List ℕ) (t : Told) → i < length names → n ≡ get_or names i n → IsToldIn library bars design n t
      → map name_of ts ++ drop i names ≡ names → map name_of (ts ++ t ∷ []) ++ drop (i + 1) names ≡ names
  one_more_named ts names i n t below at is named =
      ap (λ (l : List (List ℕ)). l ++ drop (i + 1) names) (map-append name_of ts (t ∷ []))
      ∙ append_assoc (map name_of ts) (t.name ∷ []) (drop (i + 1) names)
      ∙ ap (λ (l : List (List ℕ)). map name_of ts ++ l) (ap (λ (name : List ℕ). name ∷ drop (i + 1) names) (named_so n t is ∙ at) ∙ sym (drop_more names i n below))
      ∙ named

-- one more net is told by comparing no more than its own shapes that are near each other
pub one_more_own : {A : Type 0} (ts : List (ToldNet A)) (t : ToldNet A) → t.tests ≤ near_themselves (told_view t).shapes → tests_of ts ≤ near_own (map told_view ts) → tests_of (ts ++ t ∷ []) ≤ near_own (map told_view (ts ++ t ∷ []))
one_more_own {A = A} ts t few all =
    let seen = ap near_own (map-append told_view ts (t ∷ [])) in
    let w = λ (u : Told). near_themselves u.shapes in
    omega (
      arith,
      few,
      all,
      seen,
      sum_by-append (λ (u : ToldNet A). u.tests) ts (t ∷ []),
      sum_by-cons (λ (u : ToldNet A). u.tests) t [],
      sum_by-append w (map told_view ts) (told_view t ∷ []),
      sum_by-cons w (told_view t) [],
    )

-- the pins of nets by one component
module _ (library : Library) (design : List Record) (component : List ℕ) where
  abbrev IsPinsBy : StarPins → Type 0
  IsPinsBy p = p.pins ≡ pins_by_one library design (scale design) p.name component

  pub one_more_star : (ps : List StarPins) (n : List ℕ) (p : StarPins) → ArePinsBy library design component ps → p.name ≡ n → p.pins ≡ pins_by_one library design (scale design) n component
      → ArePinsBy library design component (ps ++ p ∷ [])
  one_more_star ps n p are named is = all_and_one IsPinsBy ps p are (is ∙ ap (λ (name : List ℕ). pins_by_one library design (scale design) name component) (sym named))

pub one_more_star_named : (ps : List StarPins) (stars : List Net) (i : ℕ) (s : Net) (p : StarPins) → i < length stars → s ≡ get_or stars i s → p.name ≡ s.name
    → star_names ps ++ names_of (drop i stars) ≡ names_of stars → star_names (ps ++ p ∷ []) ++ names_of (drop (i + 1) stars) ≡ names_of stars
one_more_star_named ps stars i s p below at is named =
    ap (λ (l : List (List ℕ)). l ++ names_of (drop (i + 1) stars)) (map-append (λ (q : StarPins). q.name) ps (p ∷ []))
    ∙ append_assoc (star_names ps) (p.name ∷ []) (names_of (drop (i + 1) stars))
    ∙ ap (λ (l : List (List ℕ)). star_names ps ++ l) (ap (λ (name : List ℕ). name ∷ names_of (drop (i + 1) stars)) (is ∙ ap (λ (n : Net). n.name) at) ∙ ap names_of (sym (drop_more stars i s below)))
    ∙ named

-- the first of two tests is found where the second is not
of_first : (a b : Bool) → a ≡ b → (b ≡ true → ⊥) → a ≡ false
of_first a true is other = absurd (other refl)
of_first a false is other = is

-- without pins of all components, a net that lists a component does so by its name
module _ (name : List ℕ) (no_pin : is_of_design (record { owner = name; pin = []; is_synthesized = false }) ≡ false) (no_virtual : is_virtual (record { owner = name; pin = []; is_synthesized = false }) ≡ false) where
  none_and : (a b : Bool) → b ≡ false → false ≡ (a && b)
  none_and true true h = sym h
  none_and true false h = refl
  none_and false b h = refl

  same_test : (t : Terminal) (e : Bool) → is_of_all t ≡ false → bytes_eq t.owner name ≡ e → finds name t ≡ is_pin_of name t
  same_test t true star is =
      let same : t.owner ≡ name = (bytes_eq-Decides t.owner name).0 is in
      let v : is_virtual t ≡ false = ap (λ (n : List ℕ). is_virtual (record { owner = n; pin = []; is_synthesized = false })) same ∙ no_virtual in
      let d : is_of_design t ≡ false = ap (λ (n : List ℕ). is_of_design (record { owner = n; pin = []; is_synthesized = false })) same ∙ no_pin in
      rw (star, v, d, is) refl
  same_test t false star is =
      ap₂ (λ (a b : Bool). a || b) star is ∙ none_and (not (is_of_all t || is_virtual t || is_of_design t)) (bytes_eq t.owner name) is

  same_tests : (ts : List Terminal) → list_any is_of_all ts ≡ false → list_any (finds name) ts ≡ list_any (is_pin_of name) ts
  same_tests [] h = refl
  same_tests (t ∷ ts) h =
      let both = none_of_both (is_of_all t) (list_any is_of_all ts) h in
      ap₂ (λ (a b : Bool). a || b) (same_test t (bytes_eq t.owner name) both.0 refl) (same_tests ts both.1)

  pub no_other_lists : (design : List Record) (nets stars listing : List (List ℕ)) → AreStarNames design stars → AreListing design name listing
      → ((net : List ℕ) → is_one_of listing net ≡ true → is_one_of (nets ++ stars) net ≡ true) → NoOtherLists design (nets ++ stars) (a_component name)
  no_other_lists design nets stars listing names listed cover net out =
      let apart = none_of_both (is_one_of nets net) (is_one_of stars net) (sym (list_any-append (λ n. bytes_eq n net) nets stars) ∙ out) in
      same_tests (terminals_in design net) (names.all net apart.1)
      ∙ listed net (of_first (is_one_of listing net) (is_one_of listing net) refl (λ there. differ (is_one_of (nets ++ stars) net) (cover net there) out))
    where
      differ : (b : Bool) → b ≡ true → b ≡ false → ⊥
      differ true h g = cc
      differ false h g = cc

-- nets that list a pin of the design are all
pub no_other_lists_pin : (design : List Record) (pin : List ℕ) (nets : List (List ℕ)) → AreListingPin design pin nets → NoOtherLists design (nets ++ []) (a_pin pin)
no_other_lists_pin design pin nets listed net out = listed net (ap (λ (ns : List (List ℕ)). is_one_of ns net) (sym (append-nil nets)) ∙ out)

-- no component is listed by no net
pub none_lists : (design : List Record) (nets : List (List ℕ)) → NoOtherLists design nets neither
none_lists design nets net out = none (terminals_in design net)
  where
    none : (ts : List Terminal) → list_any (finds_it neither) ts ≡ false
    none [] = refl
    none (t ∷ ts) = none ts

-- an edit that changes no net touches none
pub none_touched : (library : Library) (design : List Record) (names : List (List ℕ)) (before : List Told) (tests : ℕ) → names ≡ [] → before ≡ [] → tests ≡ 0 → AreTouched library design (record { names = names; component = None; pin = None; before = before; tests = tests; stars = [] })
none_touched library design names before tests n b none =
    subst (λ (ns : List (List ℕ)). AreTouched library design (record { names = ns; component = None; pin = None; before = before; tests = tests; stars = [] })) (sym n)
    (subst (λ (bs : List Told). AreTouched library design (record { names = []; component = None; pin = None; before = bs; tests = tests; stars = [] })) (sym b)
    (record { apart = tt; lists = none_lists design []; told = tt; named = refl; few = omega (arith, none); pins = refl }))
