-- Statements of some nets, and of a component or a pin of the design that no other net lists, touch no other net.
use Rattle.std.proofs.Common.{◌≡◌, ◌∙◌, ℕ, Bool, true, false, not, ◌||◌, ◌&&◌, List, [], ◌∷◌, ◌++◌, Option, Some, None, refl, sym, ap}
use Rattle.std.specs.Prelude.{flat_map}
use Rattle.std.specs.List.{list_any}
use Rattle.std.specs.Str.{bytes_eq}
use Rattle.std.proofs.lemmas.Slice.Eq.{bytes_eq-Decides}
use Rattle.form_meanings.specs.Firsts.{first_of}
use Rattle.def_grammar.specs.Nets.{is_net, must_join}
use Rattle.def_grammar.specs.Pins.{net_of_clause}
use Rattle.def_grammar.specs.Records as records
use Rattle.def_grammar.specs.Records.{Record, end_section, entry, in_properties, top}
use Rattle.def_grammar.specs.Terminals.{Terminal}
use Rattle.def_grammar.specs.Top.{end_design, extension, floor, header, kept, properties, units}
use Rattle.entry_rules.specs.Unknown.{is_same}
use Rattle.net_laws.specs.NetChanges.{is_one_of}
use Rattle.net_laws.specs.NetExchanges.{TouchOnly, finds, touches}
use Rattle.net_laws.specs.NetsTold.{is_common, lists_pin, terminals_in, terminals_of}
use Rattle.net_laws.specs.Within.{AreWithin, NoOtherLists, Listed, WithinApart, component_in, finds_it, is_component, is_none_or_one_of, is_within, a_component, neither, a_pin, pin_in}
use Rattle.net_laws.proofs.NetChanges.{touched_apart}
use Rattle.net_laws.proofs.Selecting.{none_of_both}

both_are : (b c : Bool) → (b && c) ≡ true → (b ≡ true) × (c ≡ true)
both_are true c h = (refl, h)
both_are false c h = absurd (cc)

neither_is : (b c : Bool) → b ≡ false → c ≡ false → (b || c) ≡ false
neither_is true c h g = absurd (cc)
neither_is false c h g = g

module _ (nets : List (List ℕ)) (listed : Listed) where
  abbrev within : Record → Bool
  within r = is_within nets listed r

  opposite : (b : Bool) → not b ≡ true → b ≡ false
  opposite true h = absurd (cc)
  opposite false h = refl

  -- it isn't common to all nets
  no_common : (r : Record) → within r ≡ true → is_common r ≡ false
  no_common (entry (records.component c)) h = refl
  no_common (entry (records.net (is_net n))) h = refl
  no_common (entry (records.special_net n)) h = refl
  no_common (entry (records.net (must_join x))) h = refl
  no_common (entry (records.pin x)) h = refl
  no_common (entry (records.region x)) h = refl
  no_common (entry (records.group x)) h = refl
  no_common (entry (records.blockage x)) h = refl
  no_common (entry (records.via x)) h = absurd (cc)
  no_common (entry (records.rule x)) h = absurd (cc)
  no_common (entry (records.skipped s x)) h = refl
  no_common (top (units n)) h = absurd (cc)
  no_common (top end_design) h = refl
  no_common (top properties) h = refl
  no_common (top (extension ws)) h = refl
  no_common (top (floor f)) h = refl
  no_common (top (header s n)) h = refl
  no_common (top (kept w ws)) h = refl
  no_common (in_properties x) h = refl
  no_common (end_section s) h = refl

  -- that component is found as it is by its name
  found_as : (s : Listed) (name : List ℕ) (ts : List Terminal) → is_component (component_in s) name ≡ true → list_any (finds_it s) ts ≡ list_any (finds name) ts
  found_as (a_component c) name ts h = let same : c ≡ name = (bytes_eq-Decides c name).0 h in ap (λ (n : List ℕ). list_any (finds n) ts) same
  found_as (a_pin p) name ts h = absurd (cc)
  found_as neither name ts h = absurd (cc)

  -- so is that pin
  listed_as : (s : Listed) (name : List ℕ) (ts : List Terminal) → is_same name (pin_in s) ≡ true → list_any (finds_it s) ts ≡ list_any (lists_pin name) ts
  listed_as (a_pin p) name ts h = let same : p ≡ name = (bytes_eq-Decides p name).0 h in ap (λ (n : List ℕ). list_any (lists_pin n) ts) same
  listed_as (a_component c) name ts h = absurd (cc)
  listed_as neither name ts h = absurd (cc)

  -- an entry of one of the nets is one of no other
  of_no_other : (name net : List ℕ) (b : Bool) → is_one_of nets name ≡ true → is_one_of nets net ≡ false → bytes_eq name net ≡ b → b ≡ false
  of_no_other name net true h g is = absurd (let same : name ≡ net = (bytes_eq-Decides name net).0 is in let yes : is_one_of nets net ≡ true = ap (is_one_of nets) (sym same) ∙ h in cc)
  of_no_other name net false h g is = refl

  -- a pin that names one of the nets, or none, names no other
  names_no_other : (named : Option (List ℕ)) (net : List ℕ) → is_none_or_one_of nets named ≡ true → is_one_of nets net ≡ false → is_same net named ≡ false
  names_no_other None net h g = refl
  names_no_other (Some name) net h g = of_no_other name net (bytes_eq name net) h g refl

  within_or_not : (b : Bool) → not b ≡ false → b ≡ true
  within_or_not true h = refl
  within_or_not false h = absurd (cc)

  none_of : (test : Record → Bool) → ((r : Record) → within r ≡ true → test r ≡ false) → (some : List Record) → AreWithin nets listed some → list_any test some ≡ false
  none_of test h [] all = refl
  none_of test h (r ∷ some) all =
      let both = none_of_both (not (within r)) (list_any (λ (x : Record). not (within x)) some) all in
      ap (λ (b : Bool). b || list_any test some) (h r (within_or_not (within r) both.0)) ∙ none_of test h some both.1

  pub none_common : (some : List Record) → AreWithin nets listed some → list_any is_common some ≡ false
  none_common some all = none_of is_common no_common some all

  module _ (design : List Record) (lists : NoOtherLists design nets listed) where
    untouched : (net : List ℕ) → is_one_of nets net ≡ false → (r : Record) → within r ≡ true → touches design net r ≡ false
    untouched net out (entry (records.component c)) h = sym (found_as listed c.name (terminals_in design net) h) ∙ lists net out
    untouched net out (entry (records.net (is_net n))) h = of_no_other n.name net (bytes_eq n.name net) h out refl
    untouched net out (entry (records.special_net n)) h = of_no_other n.name net (bytes_eq n.name net) h out refl
    untouched net out (entry (records.net (must_join x))) h = refl
    untouched net out (entry (records.pin p)) h =
        let both = both_are (is_same p.name (pin_in listed)) (is_none_or_one_of nets (first_of net_of_clause p.clauses)) h in
        neither_is (is_same net (first_of net_of_clause p.clauses)) (list_any (lists_pin p.name) (terminals_in design net))
        (names_no_other (first_of net_of_clause p.clauses) net both.1 out)
        (sym (listed_as listed p.name (terminals_in design net) both.0) ∙ lists net out)
    untouched net out (entry (records.region x)) h = refl
    untouched net out (entry (records.group x)) h = refl
    untouched net out (entry (records.blockage x)) h = refl
    untouched net out (entry (records.via x)) h = refl
    untouched net out (entry (records.rule x)) h = refl
    untouched net out (entry (records.skipped s x)) h = refl
    untouched net out (top x) h = refl
    untouched net out (in_properties x) h = refl
    untouched net out (end_section s) h = refl

    touch_only : (some : List Record) → AreWithin nets listed some → TouchOnly design some (is_one_of nets)
    touch_only some all = record {
      none_common = none_common some all;
      passes = λ net out. none_of (touches design net) (untouched net out) some all;
    }

pub within_apart : WithinApart
within_apart front out put behind nets listed lists goes comes =
    let old = front ++ (out ++ behind) in
    let new = front ++ (put ++ behind) in
    let apart = touched_apart front out put behind (is_one_of nets) (touch_only nets listed old lists out goes) (touch_only nets listed old lists put comes) in
    (apart, λ net no. ap (λ (es : List Record). list_any (finds_it listed) (flat_map terminals_of es)) (sym (apart.agree net no).entries) ∙ lists net no)
