-- The nets that statements touch which go out of a design or come in, and the others.
use Rattle.std.proofs.Common.{arith, ◌≡◌, ◌∙◌, ℕ, Bool, true, false, not, ◌||◌, List, [], ◌∷◌, ◌++◌, filter, Option, Some, None, refl, sym, ap, if◌then◌else◌}
use Rattle.std.specs.List.{AllByRecursion, cons_option, filter_map, list_any}
use Rattle.std.specs.Str.{bytes_eq}
use Rattle.std.proofs.lemmas.List.Elements.{filter-append, filter_map-append}
use Rattle.std.proofs.lemmas.Slice.Eq.{bytes_eq-Decides}
use Rattle.form_meanings.specs.Firsts.{find_named, has_name}
use Rattle.def_grammar.specs.Components.{Component}
use Rattle.def_grammar.specs.Nets.{is_net, must_join}
use Rattle.def_grammar.specs.Records as records
use Rattle.def_grammar.specs.Records.{Record, component_of, end_section, entry, in_properties, top}
use Rattle.def_grammar.specs.Terminals.{Terminal, is_of_all}
use Rattle.net_laws.specs.NetExchanges.{TouchOnly, finds, touches}
use Rattle.net_laws.specs.NetsTold.{AgreeOnNet, FindsAlike, is_common, is_of_net, is_pin_of_net, net_of_record, terminals_in}
use Rattle.net_laws.proofs.NetPins.{pins_exchanged}
use Rattle.net_laws.proofs.Selecting.{exchanged_alike, none_of_both}

-- a component among some statements that a terminal finds, or one of some terminals
abbrev found_by : Terminal → Record → Bool
found_by t (entry (records.component c)) = finds c.name t
found_by t _ = false

abbrev listed_by : List Terminal → Record → Bool
listed_by ts (entry (records.component c)) = list_any (finds c.name) ts
listed_by ts _ = false

-- of what isn't touched, nothing is an entry of the net, no component is listed, and no pin is of the net
untouched : (design : List Record) (net : List ℕ) (r : Record) → touches design net r ≡ false → (is_of_net net r ≡ false) × (listed_by (terminals_in design net) r ≡ false)
untouched design net (top t) h = (refl, refl)
untouched design net (entry (records.component x)) h = (refl, h)
untouched design net (entry (records.pin x)) h = (refl, refl)
untouched design net (entry (records.region x)) h = (refl, refl)
untouched design net (entry (records.group x)) h = (refl, refl)
untouched design net (entry (records.blockage x)) h = (refl, refl)
untouched design net (entry (records.net x)) h = (h, refl)
untouched design net (entry (records.special_net x)) h = (h, refl)
untouched design net (entry (records.via x)) h = (refl, refl)
untouched design net (entry (records.rule x)) h = (refl, refl)
untouched design net (entry (records.skipped s x)) h = (refl, refl)
untouched design net (in_properties p) h = (refl, refl)
untouched design net (end_section s) h = (refl, refl)

no_pin : (design : List Record) (net : List ℕ) (r : Record) → touches design net r ≡ false → (is_of_net net r ≡ false) × (is_pin_of_net net (terminals_in design net) r ≡ false)
no_pin design net (entry (records.pin x)) h = (refl, h)
no_pin design net (entry (records.net x)) h = (h, refl)
no_pin design net (entry (records.special_net x)) h = (h, refl)
no_pin design net _ h = (refl, refl)

neither : (b c : Bool) → b ≡ false → c ≡ false → (b || c) ≡ false
neither true c h g = absurd (cc)
neither false c h g = g

-- a statement touches the net that it is an entry of
own_net : (design : List Record) (r : Record) (net : List ℕ) → net_of_record r ≡ Some net → touches design net r ≡ true
own_net design (entry (records.net (is_net n))) net is = let same : n.name ≡ net = cc in (bytes_eq-Decides n.name net).1 same
own_net design (entry (records.special_net n)) net is = let same : n.name ≡ net = cc in (bytes_eq-Decides n.name net).1 same
own_net design (top t) net is = absurd (cc)
own_net design (entry (records.component x)) net is = absurd (cc)
own_net design (entry (records.pin x)) net is = absurd (cc)
own_net design (entry (records.region x)) net is = absurd (cc)
own_net design (entry (records.group x)) net is = absurd (cc)
own_net design (entry (records.blockage x)) net is = absurd (cc)
own_net design (entry (records.net (must_join x))) net is = absurd (cc)
own_net design (entry (records.via x)) net is = absurd (cc)
own_net design (entry (records.rule x)) net is = absurd (cc)
own_net design (entry (records.skipped s x)) net is = absurd (cc)
own_net design (in_properties p) net is = absurd (cc)
own_net design (end_section s) net is = absurd (cc)

pub bytes_eq_sym : (a b : List ℕ) → bytes_eq a b ≡ bytes_eq b a
bytes_eq_sym a b = grind (arith, bytes_eq-Decides)

-- where one test fails, so do two others
module _ {A : Type 0} (f g h : A → Bool) (both : (a : A) → f a ≡ false → (g a ≡ false) × (h a ≡ false)) where
  fail_both : (all : List A) → list_any f all ≡ false → (list_any g all ≡ false) × (list_any h all ≡ false)
  fail_both [] none = (refl, refl)
  fail_both (a ∷ all) none =
      let parts = none_of_both (f a) (list_any f all) none in
      let here = both a parts.0 in
      let later = fail_both all parts.1 in
      (neither (g a) (list_any g all) here.0 later.0, neither (h a) (list_any h all) here.1 later.1)

-- by the first of some terminals, or by the others
first_or_others : (t : Terminal) (ts : List Terminal) (r : Record) → listed_by (t ∷ ts) r ≡ false → (found_by t r ≡ false) × (listed_by ts r ≡ false)
first_or_others t ts (entry (records.component c)) h = none_of_both (finds c.name t) (list_any (finds c.name) ts) h
first_or_others t ts (top x) h = (refl, refl)
first_or_others t ts (entry (records.pin x)) h = (refl, refl)
first_or_others t ts (entry (records.region x)) h = (refl, refl)
first_or_others t ts (entry (records.group x)) h = (refl, refl)
first_or_others t ts (entry (records.blockage x)) h = (refl, refl)
first_or_others t ts (entry (records.net x)) h = (refl, refl)
first_or_others t ts (entry (records.special_net x)) h = (refl, refl)
first_or_others t ts (entry (records.via x)) h = (refl, refl)
first_or_others t ts (entry (records.rule x)) h = (refl, refl)
first_or_others t ts (entry (records.skipped s x)) h = (refl, refl)
first_or_others t ts (in_properties x) h = (refl, refl)
first_or_others t ts (end_section s) h = (refl, refl)

module _ (t : Terminal) where
  -- a component that a terminal finds neither by its name nor as one of all
  not_named : (c : Component) → finds c.name t ≡ false → (is_of_all t ≡ false) × (has_name (λ (d : Component). d.name) t.owner c ≡ false)
  not_named c h =
      let parts = none_of_both (is_of_all t) (bytes_eq t.owner c.name) h in
      (parts.0, bytes_eq_sym c.name t.owner ∙ parts.1)

  -- among statements of which it finds none there is none with its name, and none at all where it means all
  no_name : (some : List Record) → list_any (found_by t) some ≡ false → (more : List Component) → find_named (λ (d : Component). d.name) (filter_map component_of some ++ more) t.owner ≡ find_named (λ (d : Component). d.name) more t.owner
  no_name [] h more = refl
  no_name (entry (records.component c) ∷ some) h more =
      let parts = none_of_both (finds c.name t) (list_any (found_by t) some) h in
      ap (λ (b : Bool). if b then Some c else find_named (λ (d : Component). d.name) (filter_map component_of some ++ more) t.owner) (not_named c parts.0).1 ∙ no_name some parts.1 more
  no_name (top x ∷ some) h more = no_name some h more
  no_name (entry (records.pin x) ∷ some) h more = no_name some h more
  no_name (entry (records.region x) ∷ some) h more = no_name some h more
  no_name (entry (records.group x) ∷ some) h more = no_name some h more
  no_name (entry (records.blockage x) ∷ some) h more = no_name some h more
  no_name (entry (records.net x) ∷ some) h more = no_name some h more
  no_name (entry (records.special_net x) ∷ some) h more = no_name some h more
  no_name (entry (records.via x) ∷ some) h more = no_name some h more
  no_name (entry (records.rule x) ∷ some) h more = no_name some h more
  no_name (entry (records.skipped s x) ∷ some) h more = no_name some h more
  no_name (in_properties x ∷ some) h more = no_name some h more
  no_name (end_section s ∷ some) h more = no_name some h more

  none_at_all : is_of_all t ≡ true → (some : List Record) → list_any (found_by t) some ≡ false → filter_map component_of some ≡ []
  none_at_all star [] h = refl
  none_at_all star (entry (records.component c) ∷ some) h =
      let parts = none_of_both (finds c.name t) (list_any (found_by t) some) h in
      absurd (let no = (not_named c parts.0).0 in cc)
  none_at_all star (top x ∷ some) h = none_at_all star some h
  none_at_all star (entry (records.pin x) ∷ some) h = none_at_all star some h
  none_at_all star (entry (records.region x) ∷ some) h = none_at_all star some h
  none_at_all star (entry (records.group x) ∷ some) h = none_at_all star some h
  none_at_all star (entry (records.blockage x) ∷ some) h = none_at_all star some h
  none_at_all star (entry (records.net x) ∷ some) h = none_at_all star some h
  none_at_all star (entry (records.special_net x) ∷ some) h = none_at_all star some h
  none_at_all star (entry (records.via x) ∷ some) h = none_at_all star some h
  none_at_all star (entry (records.rule x) ∷ some) h = none_at_all star some h
  none_at_all star (entry (records.skipped s x) ∷ some) h = none_at_all star some h
  none_at_all star (in_properties x ∷ some) h = none_at_all star some h
  none_at_all star (end_section s ∷ some) h = none_at_all star some h

  -- the first of a name behind others
  behind : (front : List Component) (xs ys : List Component) → find_named (λ (d : Component). d.name) xs t.owner ≡ find_named (λ (d : Component). d.name) ys t.owner
      → find_named (λ (d : Component). d.name) (front ++ xs) t.owner ≡ find_named (λ (d : Component). d.name) (front ++ ys) t.owner
  behind [] xs ys same = same
  behind (c ∷ front) xs ys same = ap (λ (found : Option Component). if has_name (λ (d : Component). d.name) t.owner c then Some c else found) (behind front xs ys same)

  module _ (front out put rest : List Record) (no_out : list_any (found_by t) out ≡ false) (no_put : list_any (found_by t) put ≡ false) where
    abbrev components : List Record → List Component
    components all = filter_map component_of all

    around : (some : List Record) → components (front ++ (some ++ rest)) ≡ components front ++ (components some ++ components rest)
    around some = filter_map-append component_of front (some ++ rest) ∙ ap (λ (cs : List Component). components front ++ cs) (filter_map-append component_of some rest)

    abbrev found_in : List Component → Option Component
    found_in cs = find_named (λ (d : Component). d.name) cs t.owner

    pub finds_alike : FindsAlike (front ++ (out ++ rest)) (front ++ (put ++ rest)) t
    finds_alike = record {
      named =
          ap found_in (around out)
          ∙ behind (components front) (components out ++ components rest) (components put ++ components rest) (no_name out no_out (components rest) ∙ sym (no_name put no_put (components rest)))
          ∙ sym (ap found_in (around put));
      all = λ star.
          around out
          ∙ ap (λ (cs : List Component). components front ++ (cs ++ components rest)) (none_at_all star out no_out ∙ sym (none_at_all star put no_put))
          ∙ sym (around put);
    }

module _ (front out put rest : List Record) where
  all_find_alike : (ts : List Terminal) → list_any (listed_by ts) out ≡ false → list_any (listed_by ts) put ≡ false
      → AllByRecursion (FindsAlike (front ++ (out ++ rest)) (front ++ (put ++ rest))) ts
  all_find_alike [] g h = tt
  all_find_alike (t ∷ ts) g h =
      let gs = fail_both (listed_by (t ∷ ts)) (found_by t) (listed_by ts) (first_or_others t ts) out g in
      let hs = fail_both (listed_by (t ∷ ts)) (found_by t) (listed_by ts) (first_or_others t ts) put h in
      (finds_alike t front out put rest gs.0 hs.0, all_find_alike ts gs.1 hs.1)

  abbrev old : List Record
  old = front ++ (out ++ rest)

  abbrev new : List Record
  new = front ++ (put ++ rest)

  module _ (test : List ℕ → Bool) (goes : TouchOnly old out test) (comes : TouchOnly old put test) where
    pub agree : (net : List ℕ) → test net ≡ false → AgreeOnNet old new net
    agree net fails =
        let outs = fail_both (touches old net) (is_of_net net) (listed_by (terminals_in old net)) (untouched old net) out (goes.passes net fails) in
        let puts = fail_both (touches old net) (is_of_net net) (listed_by (terminals_in old net)) (untouched old net) put (comes.passes net fails) in
        let pins_out = fail_both (touches old net) (is_of_net net) (is_pin_of_net net (terminals_in old net)) (no_pin old net) out (goes.passes net fails) in
        let pins_put = fail_both (touches old net) (is_of_net net) (is_pin_of_net net (terminals_in old net)) (no_pin old net) put (comes.passes net fails) in
        let entries = exchanged_alike (is_of_net net) front out put rest outs.0 puts.0 in
        record {
          common = exchanged_alike is_common front out put rest goes.none_common comes.none_common;
          entries = entries;
          pins = pins_exchanged front out put rest net entries pins_out.1 pins_put.1;
          components = all_find_alike (terminals_in old net) outs.1 puts.1;
        }

    -- no name of a net that doesn't pass stands among what goes or comes
    abbrev stays : List ℕ → Bool
    stays net = not (test net)

    selected : (o : Option (List ℕ)) (left : List (List ℕ)) → ((net : List ℕ) → o ≡ Some net → test net ≡ true) → filter stays left ≡ [] → filter stays (cons_option o left) ≡ []
    selected None left passes none = none
    selected (Some net) left passes none = ap (λ (b : Bool). if not b then net ∷ filter stays left else filter stays left) (passes net refl) ∙ none

    -- a statement of which a net is touched passes
    passed : (net : List ℕ) (b : Bool) (touched : Bool) → test net ≡ b → touched ≡ true → (test net ≡ false → touched ≡ false) → test net ≡ true
    passed net true touched is t h = is
    passed net false true is t h = absurd (let f = h is in cc)
    passed net false false is t h = absurd (cc)

    no_passing : (some : List Record) → ((net : List ℕ) → test net ≡ false → list_any (touches old net) some ≡ false) → filter stays (filter_map net_of_record some) ≡ []
    no_passing [] h = refl
    no_passing (r ∷ some) h =
        selected (net_of_record r) (filter_map net_of_record some)
        (λ net is. passed net (test net) (touches old net r) refl (own_net old r net is) (λ fails. (none_of_both (touches old net r) (list_any (touches old net) some) (h net fails)).0))
        (no_passing some (λ net fails. (none_of_both (touches old net r) (list_any (touches old net) some) (h net fails)).1))

    pub same_stay : filter stays (filter_map net_of_record old) ≡ filter stays (filter_map net_of_record new)
    same_stay = parts out goes.passes ∙ sym (parts put comes.passes)
      where
        parts : (some : List Record) → ((net : List ℕ) → test net ≡ false → list_any (touches old net) some ≡ false)
            → filter stays (filter_map net_of_record (front ++ (some ++ rest))) ≡ filter stays (filter_map net_of_record front) ++ filter stays (filter_map net_of_record rest)
        parts some h =
            ap (filter stays) (filter_map-append net_of_record front (some ++ rest) ∙ ap (λ (ns : List (List ℕ)). filter_map net_of_record front ++ ns) (filter_map-append net_of_record some rest))
            ∙ filter-append stays (filter_map net_of_record front) (filter_map net_of_record some ++ filter_map net_of_record rest)
            ∙ ap (λ (ns : List (List ℕ)). filter stays (filter_map net_of_record front) ++ ns)
            (filter-append stays (filter_map net_of_record some) (filter_map net_of_record rest) ∙ ap (λ (ns : List (List ℕ)). ns ++ filter stays (filter_map net_of_record rest)) (no_passing some h))
