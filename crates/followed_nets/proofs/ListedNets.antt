-- The names of nets whose entries list a component, or a pin of the design.
use Rattle.std.proofs.Common.{◌≡◌, ◌&&◌, ◌||◌, ℕ, Bool, true, false, not, Option, Some, None, List, [], ◌∷◌, ◌++◌, refl, sym, ap, ap₂, ◌∙◌, inl, inr, if◌then◌else◌}
use Rattle.std.specs.Prelude.{IfSome, codes, filter, flat_map}
use Rattle.std.specs.Option.{option_map}
use Rattle.std.specs.List.{list_any}
use Rattle.std.specs.Str.{bytes_eq}
use Rattle.std.proofs.lemmas.Bool.{cases_Bool}
use Rattle.std.proofs.lemmas.List.Folds.{list_any-append}
use Rattle.std.proofs.lemmas.Slice.Eq.{bytes_eq-Decides}
use Rattle.design_model.specs.EnumWords.{section_word}
use Rattle.design_model.specs.declared.mode.Section.TheVariants.{Pins}
use Rattle.form_meanings.specs.Firsts.{first_of}
use Rattle.def_grammar.specs.Nets.{is_net, must_join}
use Rattle.def_grammar.specs.Pins.{Pin, net_of_clause}
use Rattle.def_grammar.specs.Points.{is_star}
use Rattle.def_grammar.specs.Records as records
use Rattle.def_grammar.specs.Terminals.{Terminal, is_of_all, is_of_design, is_virtual}
use Rattle.def_grammar.specs.Records.{Record, end_section, entry, in_properties, top}
use Rattle.entry_rules.specs.Unknown.{is_same}
use Rattle.design_tables.specs.Lookups.{is_design_pin, is_named_entry, lists}
use Rattle.design_text.specs.Listings.{HasListing, HasPinListing}
use Rattle.net_laws.specs.NetChanges.{is_one_of}
use Rattle.net_laws.specs.NetExchanges.{finds}
use Rattle.net_laws.specs.NetsTold.{is_of_net, lists_pin, terminals_in, terminals_of}
use Rattle.followed_nets.specs.Listed.{AllList, AllOfPin, AreApart, AreListing, AreListingPin, is_of_pin, is_pin_naming, is_pin_of, net_named_by}

or_none : (a : Bool) → (a || false) ≡ a
or_none true = refl
or_none false = refl

swap : (a b : Bool) → (a && b) ≡ (b && a)
swap true true = refl
swap true false = refl
swap false true = refl
swap false false = refl

or_true : (a : Bool) → (a || true) ≡ true
or_true true = refl
or_true false = refl

or_parts : (a b : Bool) → (a || b) ≡ false → (a ≡ false) × (b ≡ false)
or_parts true b h = absurd (cc)
or_parts false b h = (refl, h)

any_filter : {X : Type 0} (p q : X → Bool) (xs : List X) → list_any q (filter p xs) ≡ list_any (λ x. p x && q x) xs
any_filter p q [] = refl
any_filter p q (x ∷ xs) = elim (cases_Bool (p x)) [ inl is ↦ rw is (ap (λ (b : Bool). q x || b) (any_filter p q xs)) | inr other ↦ rw other (any_filter p q xs) ]

any_flat : {X Y : Type 0} (p : Y → Bool) (f : X → List Y) (xs : List X) → list_any p (flat_map f xs) ≡ list_any (λ x. list_any p (f x)) xs
any_flat p f [] = refl
any_flat p f (x ∷ xs) = list_any-append p (f x) (flat_map f xs) ∙ ap (λ (b : Bool). list_any p (f x) || b) (any_flat p f xs)

any_same : {X : Type 0} (f g : X → Bool) → ((x : X) → f x ≡ g x) → (xs : List X) → list_any f xs ≡ list_any g xs
any_same f g each [] = refl
any_same f g each (x ∷ xs) = ap₂ (λ (a b : Bool). a || b) (each x) (any_same f g each xs)

module _ (test : Terminal → Bool) (net : List ℕ) where
  -- an entry of a net with a terminal that passes a test
  each_entry : (r : Record) → (is_of_net net r && list_any test (terminals_of r)) ≡ (lists test r && is_of_net net r)
  each_entry (top t) = refl
  each_entry (in_properties p) = refl
  each_entry (end_section s) = refl
  each_entry (entry (records.component c)) = refl
  each_entry (entry (records.pin p)) = refl
  each_entry (entry (records.region r)) = refl
  each_entry (entry (records.group g)) = refl
  each_entry (entry (records.blockage b)) = refl
  each_entry (entry (records.net (must_join tokens))) = refl
  each_entry (entry (records.net (is_net n))) = swap (bytes_eq n.name net) (list_any test n.terminals)
  each_entry (entry (records.special_net n)) = swap (bytes_eq n.name net) (list_any test n.terminals)
  each_entry (entry (records.via v)) = refl
  each_entry (entry (records.rule r)) = refl
  each_entry (entry (records.skipped s tokens)) = refl

  -- a net of one of the entries that list such a terminal lists one, and no other
  one_listed : (design found : List Record) → ((t : Record → Bool) → list_any t (filter (lists test) design) ≡ list_any t found) → list_any test (terminals_in design net) ≡ list_any (is_of_net net) found
  one_listed design found same =
      any_flat test terminals_of (filter (is_of_net net) design)
      ∙ any_filter (is_of_net net) (λ r. list_any test (terminals_of r)) design
      ∙ any_same (λ r. is_of_net net r && list_any test (terminals_of r)) (λ r. lists test r && is_of_net net r) each_entry design
      ∙ sym (any_filter (lists test) (is_of_net net) design)
      ∙ same (is_of_net net)

pub are_listing : (component : List ℕ) (design found : List Record) (nets : List (List ℕ)) → HasListing component design found → ((net : List ℕ) → is_one_of nets net ≡ list_any (is_of_net net) found)
    → AreListing design component nets
are_listing component design found nets same names net other = one_listed (is_pin_of component) net design found same ∙ sym (names net) ∙ other

-- what passes a test passes another one
pub any_so : {X : Type 0} (p q : X → Bool) → ((x : X) → p x ≡ true → q x ≡ true) → (xs : List X) → list_any p xs ≡ true → list_any q xs ≡ true
any_so p q so [] h = h
any_so p q so (x ∷ xs) h = one (p x) refl h (any_so p q so xs)
  where
    one : (b : Bool) → p x ≡ b → (b || list_any p xs) ≡ true → (list_any p xs ≡ true → list_any q xs ≡ true) → (q x || list_any q xs) ≡ true
    one true is h later = ap (λ (c : Bool). c || list_any q xs) (so x is)
    one false is h later = ap (λ (c : Bool). q x || c) (later h) ∙ or_true (q x)

second_so : (a b : Bool) → (a && b) ≡ true → b ≡ true
second_so true b h = h
second_so false b h = absurd (cc)

pub all_list : (component : List ℕ) (design found : List Record) (nets : List (List ℕ)) → HasListing component design found → ((net : List ℕ) → is_one_of nets net ≡ list_any (is_of_net net) found)
    → AllList design component nets
all_list component design found nets same names net is =
    any_so (is_pin_of component) (finds component)
    (λ t pin. ap (λ (b : Bool). is_of_all t || b) (second_so (not (is_of_all t || is_virtual t || is_of_design t)) (bytes_eq t.owner component) pin) ∙ or_true (is_of_all t))
    (terminals_in design net) (one_listed (is_pin_of component) net design found same ∙ sym (names net) ∙ is)

-- so of a pin of the design
of_design : (t : Terminal) → is_of_design t ≡ true → is_of_all t ≡ false
of_design t is = ap (λ (o : List ℕ). is_star o) ((bytes_eq-Decides t.owner (codes "PIN")).0 is)

pin_test : (a d b : Bool) → (d ≡ true → a ≡ false) → (d && b) ≡ (not a && d && b)
pin_test a true b not_all = rw (not_all refl) refl
pin_test true false b not_all = refl
pin_test false false b not_all = refl

pin_listed : (pin net : List ℕ) (design found : List Record) → HasPinListing pin design found → list_any (lists_pin pin) (terminals_in design net) ≡ list_any (is_of_net net) found
pin_listed pin net design found same =
    any_same (lists_pin pin) (is_design_pin pin) (λ t. pin_test (is_of_all t) (is_of_design t) (bytes_eq t.pin pin) (of_design t)) (terminals_in design net)
    ∙ one_listed (is_design_pin pin) net design found same

pub are_listing_pin : (pin : List ℕ) (design found : List Record) (nets : List (List ℕ)) → HasPinListing pin design found → ((net : List ℕ) → is_one_of nets net ≡ list_any (is_of_net net) found)
    → AreListingPin design pin nets
are_listing_pin pin design found nets same names net other = pin_listed pin net design found same ∙ sym (names net) ∙ other

pub all_of_pin : (pin : List ℕ) (design found : List Record) (nets : List (List ℕ)) → HasPinListing pin design found → ((net : List ℕ) → is_one_of nets net ≡ list_any (is_of_net net) found)
    → AllOfPin design pin nets
all_of_pin pin design found nets same names net is =
    ap (λ (b : Bool). b || list_any (is_pin_naming pin net) design) (pin_listed pin net design found same ∙ sym (names net) ∙ is)

-- with one more, that the pin names
pub more_listing_pin : (pin : List ℕ) (design : List Record) (nets more : List (List ℕ)) (named : Option (List ℕ)) → ((net : List ℕ) → is_one_of more net ≡ (is_one_of nets net || is_same net named)) → AreListingPin design pin nets
    → AreListingPin design pin more
more_listing_pin own design nets more named are listed net other = listed net (or_parts (is_one_of nets net) (is_same net named) (sym (are net) ∙ other)).0

pub more_of_pin : (pin : List ℕ) (design : List Record) (nets more : List (List ℕ)) (named : Option (List ℕ)) → ((net : List ℕ) → is_one_of more net ≡ (is_one_of nets net || is_same net named)) → AllOfPin design pin nets
    → IfSome named (λ name. list_any (is_pin_naming pin name) design ≡ true) → AllOfPin design pin more
more_of_pin pin design nets more named are all names net is = one (is_one_of nets net) named refl (sym (are net) ∙ is) names
  where
    one : (b : Bool) (found : Option (List ℕ)) → is_one_of nets net ≡ b → (b || is_same net found) ≡ true → IfSome found (λ name. list_any (is_pin_naming pin name) design ≡ true) → is_of_pin design pin net ≡ true
    one true found this h there = all net this
    one false None this h there = absurd (cc)
    one false (Some name) this h there =
        ap (λ (b : Bool). list_any (lists_pin pin) (terminals_in design net) || b) (ap (λ (n : List ℕ). list_any (is_pin_naming pin n) design) (sym ((bytes_eq-Decides name net).0 h)) ∙ there)
        ∙ or_true (list_any (lists_pin pin) (terminals_in design net))

pub if_seen : {X : Type 0} (view : X → List ℕ) (P : List ℕ → Type 0) (found : Option X) → IfSome found (λ x. P (view x)) → IfSome (option_map view found) P
if_seen view P None h = tt
if_seen view P (Some x) h = h

-- a pin of the design that names a net
named_so : (p : Pin) (net pin : List ℕ) → first_of net_of_clause p.clauses ≡ Some net → is_named_entry Pins pin (entry (records.pin p)) ≡ true → is_pin_naming pin net (entry (records.pin p)) ≡ true
named_so p net pin names is =
    ap₂ (λ (a b : Bool). a && b) (second_so (bytes_eq (section_word Pins) (section_word Pins)) (bytes_eq p.name pin) is) (ap (is_same net) names ∙ (bytes_eq-Decides net net).1 refl)

names_so : (r : Record) (net pin : List ℕ) → net_named_by r ≡ Some net → is_named_entry Pins pin r ≡ true → is_pin_naming pin net r ≡ true
names_so (entry (records.pin p)) net pin names is = named_so p net pin names is
names_so (top t) net pin names is = absurd (cc)
names_so (in_properties p) net pin names is = absurd (cc)
names_so (end_section s) net pin names is = absurd (cc)
names_so (entry (records.component c)) net pin names is = absurd (cc)
names_so (entry (records.region x)) net pin names is = absurd (cc)
names_so (entry (records.group x)) net pin names is = absurd (cc)
names_so (entry (records.blockage x)) net pin names is = absurd (cc)
names_so (entry (records.net x)) net pin names is = absurd (cc)
names_so (entry (records.special_net x)) net pin names is = absurd (cc)
names_so (entry (records.via x)) net pin names is = absurd (cc)
names_so (entry (records.rule x)) net pin names is = absurd (cc)
names_so (entry (records.skipped s x)) net pin names is = absurd (cc)

-- what is found by a section and a name is one of the design's statements
pub found_there : (test of : Record → Bool) (design : List Record) (r : Record) → (of r ≡ true → test r ≡ true) → filter of design ≡ r ∷ [] → list_any test design ≡ true
found_there test of [] r so is = absurd (cc)
found_there test of (x ∷ xs) r so is = one (of x) refl is (found_there test of xs r so)
  where
    one : (b : Bool) → of x ≡ b → (if b then x ∷ filter of xs else filter of xs) ≡ r ∷ [] → (filter of xs ≡ r ∷ [] → list_any test xs ≡ true) → list_any test (x ∷ xs) ≡ true
    one true passes h later = let same : x ≡ r = cc in ap (λ (b : Bool). b || list_any test xs) (ap test same ∙ so (ap of (sym same) ∙ passes))
    one false passes h later = ap (λ (b : Bool). test x || b) (later h) ∙ or_true (test x)

-- where it is found so, some pin of that name names that net
pub if_named : {X : Type 0} (view : X → List ℕ) (pin : List ℕ) (design : List Record) (r : Record) (found : Option X) → filter (is_named_entry Pins pin) design ≡ r ∷ [] → option_map view found ≡ net_named_by r
    → IfSome found (λ net. list_any (is_pin_naming pin (view net)) design ≡ true)
if_named view own design r None there is = tt
if_named view own design r (Some net) there is = found_there (is_pin_naming own (view net)) (is_named_entry Pins own) design r (names_so r (view net) own (sym is)) there

-- nets that list it by its name, and those that list a pin of all
pub both_list : (component : List ℕ) (design : List Record) (nets stars : List (List ℕ)) → AllList design component nets
    → ((net : List ℕ) → is_one_of stars net ≡ true → list_any is_of_all (terminals_in design net) ≡ true) → AllList design component (nets ++ stars)
both_list component design nets stars by_name by_star net is = one (is_one_of nets net) refl (sym (list_any-append (λ n. bytes_eq n net) nets stars) ∙ is)
  where
    one : (b : Bool) → is_one_of nets net ≡ b → (b || is_one_of stars net) ≡ true → list_any (finds component) (terminals_in design net) ≡ true
    one true first h = by_name net first
    one false first h =
        any_so is_of_all (finds component) (λ t all. ap (λ (b : Bool). b || bytes_eq t.owner component) all) (terminals_in design net) (by_star net h)

-- one more name
one_more : (nets : List (List ℕ)) (name net : List ℕ) → is_one_of (nets ++ name ∷ []) net ≡ (is_one_of nets net || bytes_eq name net)
one_more nets name net = list_any-append (λ n. bytes_eq n net) nets (name ∷ []) ∙ ap (λ (b : Bool). is_one_of nets net || b) (or_none (bytes_eq name net))

other_name : (a b : List ℕ) → bytes_eq a b ≡ false → bytes_eq b a ≡ false
other_name a b other = elim (cases_Bool (bytes_eq b a)) [
  | inl is ↦
      let e = (bytes_eq-Decides b a).0 is in
      let same : bytes_eq a b ≡ true = ap (bytes_eq a) e ∙ (bytes_eq-Decides a a).1 refl in
      let both = sym same ∙ other in
      absurd (cc)
  | inr is_other ↦ is_other
]

pub still_apart : (nets : List (List ℕ)) (name : List ℕ) → is_one_of nets name ≡ false → AreApart nets → AreApart (nets ++ name ∷ [])
still_apart [] name new apart = (refl, tt)
still_apart (n ∷ ns) name new apart =
    let both = or_parts (bytes_eq n name) (is_one_of ns name) new in
    let e = one_more ns name n in
    (e ∙ ap₂ (λ (a b : Bool). a || b) apart.0 (other_name n name both.0), still_apart ns name both.1 apart.1)

-- the names of the nets of some entries, each once
pub record AreNamed (nets : List (List ℕ)) (entries : List Record) : Type 0 where
  pub all : (net : List ℕ) → is_one_of nets net ≡ list_any (is_of_net net) entries
  pub apart : AreApart nets
