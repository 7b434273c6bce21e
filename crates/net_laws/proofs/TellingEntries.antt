-- A net is told by its entries, by all components, by all pins of the design, and by what any net may be made of.
use Rattle.std.proofs.Common.{◌≡◌, ◌∙◌, ℕ, Bool, true, false, ◌||◌, List, [], ◌∷◌, filter, Option, Some, None, refl, sym, ap, if◌then◌else◌}
use Rattle.std.specs.List.{AllByRecursion, cons_option, filter_map}
use Rattle.std.specs.Str.{bytes_eq}
use Rattle.std.proofs.lemmas.Slice.Eq.{bytes_eq-Decides}
use Rattle.form_meanings.specs.Firsts.{find_named, with_all}
use Rattle.def_grammar.specs.Components.{Component}
use Rattle.def_grammar.specs.Nets.{is_net, must_join}
use Rattle.def_grammar.specs.Records as records
use Rattle.def_grammar.specs.Records.{Record, component_of, end_section, entry, in_properties, top}
use Rattle.def_grammar.specs.Terminals.{Terminal}
use Rattle.net_laws.specs.NetsTold.{FindsAlike, is_common, is_of_net, is_pin_of_net, net_of_record, terminals_in}
use Rattle.net_laws.specs.OneNet.{EntriesNameOneNet, names_in}
use Rattle.net_laws.specs.StarNets.{EntriesTell}
use Rattle.net_laws.proofs.NetPins.{pins_within}
use Rattle.net_laws.proofs.Selecting.{selected_of_those, within}

module _ (net : List ℕ) where
  tells_all : Record → Bool
  tells_all (entry (records.component c)) = true
  tells_all (entry (records.pin p)) = true
  tells_all r = is_common r || is_of_net net r

  or_true : (b : Bool) → (b || true) ≡ true
  or_true true = refl
  or_true false = refl

  common_told : (r : Record) → is_common r ≡ true → tells_all r ≡ true
  unfolding tells_all
  common_told (top t) h = ap (λ (b : Bool). b || is_of_net net (top t)) h
  common_told (in_properties p) h = absurd (cc)
  common_told (end_section s) h = absurd (cc)
  common_told (entry (records.component x)) h = refl
  common_told (entry (records.pin x)) h = refl
  common_told (entry (records.region x)) h = absurd (cc)
  common_told (entry (records.group x)) h = absurd (cc)
  common_told (entry (records.blockage x)) h = absurd (cc)
  common_told (entry (records.net x)) h = absurd (cc)
  common_told (entry (records.special_net x)) h = absurd (cc)
  common_told (entry (records.via x)) h = refl
  common_told (entry (records.rule x)) h = refl
  common_told (entry (records.skipped s x)) h = absurd (cc)

  net_told : (r : Record) → is_of_net net r ≡ true → tells_all r ≡ true
  unfolding tells_all
  net_told (top t) h = absurd (cc)
  net_told (in_properties p) h = absurd (cc)
  net_told (end_section s) h = absurd (cc)
  net_told (entry (records.component x)) h = refl
  net_told (entry (records.pin x)) h = refl
  net_told (entry (records.region x)) h = absurd (cc)
  net_told (entry (records.group x)) h = absurd (cc)
  net_told (entry (records.blockage x)) h = absurd (cc)
  net_told (entry (records.net x)) h = h
  net_told (entry (records.special_net x)) h = h
  net_told (entry (records.via x)) h = refl
  net_told (entry (records.rule x)) h = refl
  net_told (entry (records.skipped s x)) h = absurd (cc)

  pin_told : (ts : List Terminal) (r : Record) → is_pin_of_net net ts r ≡ true → tells_all r ≡ true
  unfolding tells_all
  pin_told ts (entry (records.pin p)) h = refl
  pin_told ts _ h = absurd (cc)

  no_component : (r : Record) → tells_all r ≡ false → component_of r ≡ None
  unfolding tells_all
  no_component (top t) h = refl
  no_component (in_properties p) h = refl
  no_component (end_section s) h = refl
  no_component (entry (records.component x)) h = absurd (cc)
  no_component (entry (records.pin x)) h = refl
  no_component (entry (records.region x)) h = refl
  no_component (entry (records.group x)) h = refl
  no_component (entry (records.blockage x)) h = refl
  no_component (entry (records.net x)) h = refl
  no_component (entry (records.special_net x)) h = refl
  no_component (entry (records.via x)) h = refl
  no_component (entry (records.rule x)) h = refl
  no_component (entry (records.skipped s x)) h = refl

  -- the nets among them are that one
  kept_so : (t p : Bool) (r : Record) (left those : List Record) → (t ≡ true → p ≡ false → net_of_record r ≡ None) → (p ≡ true → t ≡ true)
      → filter_map net_of_record left ≡ filter_map net_of_record those
      → filter_map net_of_record (if t then r ∷ left else left) ≡ filter_map net_of_record (if p then r ∷ those else those)
  kept_so true true r left those none follows later = ap (cons_option (net_of_record r)) later
  kept_so true false r left those none follows later = ap (λ (n : Option (List ℕ)). cons_option n (filter_map net_of_record left)) (none refl refl) ∙ later
  kept_so false true r left those none follows later = absurd (let no = follows refl in cc)
  kept_so false false r left those none follows later = later

  no_other_net : (r : Record) → tells_all r ≡ true → is_of_net net r ≡ false → net_of_record r ≡ None
  unfolding tells_all
  no_other_net (top t) h g = refl
  no_other_net (in_properties p) h g = refl
  no_other_net (end_section s) h g = refl
  no_other_net (entry (records.component x)) h g = refl
  no_other_net (entry (records.pin x)) h g = refl
  no_other_net (entry (records.region x)) h g = refl
  no_other_net (entry (records.group x)) h g = refl
  no_other_net (entry (records.blockage x)) h g = refl
  no_other_net (entry (records.net (is_net n))) h g = absurd (cc)
  no_other_net (entry (records.net (must_join x))) h g = refl
  no_other_net (entry (records.special_net n)) h g = absurd (cc)
  no_other_net (entry (records.via x)) h g = refl
  no_other_net (entry (records.rule x)) h g = refl
  no_other_net (entry (records.skipped s x)) h g = refl

  its_names : (all : List Record) → filter_map net_of_record (filter tells_all all) ≡ filter_map net_of_record (filter (is_of_net net) all)
  its_names [] = refl
  its_names (r ∷ all) = kept_so (tells_all r) (is_of_net net r) r (filter tells_all all) (filter (is_of_net net) all) (no_other_net r) (net_told r) (its_names all)

  named_so : (r : Record) → is_of_net net r ≡ true → net_of_record r ≡ Some net
  named_so (entry (records.net (is_net n))) h = ap Some ((bytes_eq-Decides n.name net).0 h)
  named_so (entry (records.special_net n)) h = ap Some ((bytes_eq-Decides n.name net).0 h)
  named_so (top t) h = absurd (cc)
  named_so (in_properties p) h = absurd (cc)
  named_so (end_section s) h = absurd (cc)
  named_so (entry (records.component x)) h = absurd (cc)
  named_so (entry (records.pin x)) h = absurd (cc)
  named_so (entry (records.region x)) h = absurd (cc)
  named_so (entry (records.group x)) h = absurd (cc)
  named_so (entry (records.blockage x)) h = absurd (cc)
  named_so (entry (records.net (must_join x))) h = absurd (cc)
  named_so (entry (records.via x)) h = absurd (cc)
  named_so (entry (records.rule x)) h = absurd (cc)
  named_so (entry (records.skipped s x)) h = absurd (cc)

  -- further entries add no name, and the first one adds it
  abbrev self : List ℕ → List ℕ
  self name = name

  abbrev named : List Record → List (List ℕ)
  named rs = filter_map net_of_record rs

  known : (bytes_eq net net || false) ≡ true
  known = ap (λ (b : Bool). b || false) ((bytes_eq-Decides net net).1 refl)

  none_added : (all : List Record) → with_all self (net ∷ []) (named (filter (is_of_net net) all)) ≡ net ∷ []
  unfolding Rattle.form_meanings.specs.Firsts.with_all
  none_added [] = refl
  none_added (r ∷ all) = one (is_of_net net r) refl (none_added all)
    where
      one : (b : Bool) → is_of_net net r ≡ b → with_all self (net ∷ []) (named (filter (is_of_net net) all)) ≡ net ∷ []
          → with_all self (net ∷ []) (named (if b then r ∷ filter (is_of_net net) all else filter (is_of_net net) all)) ≡ net ∷ []
      one true is later =
          ap (λ (n : Option (List ℕ)). with_all self (net ∷ []) (cons_option n (named (filter (is_of_net net) all)))) (named_so r is)
          ∙ ap (λ (b : Bool). with_all self (if b then net ∷ [] else net ∷ net ∷ []) (named (filter (is_of_net net) all))) known
          ∙ later
      one false is later = later

  one_added : (all : List Record) (e : Record) (es : List Record) → filter (is_of_net net) all ≡ e ∷ es → with_all self [] (named (filter (is_of_net net) all)) ≡ net ∷ []
  unfolding Rattle.form_meanings.specs.Firsts.with_all
  one_added [] e es h = absurd (cc)
  one_added (r ∷ all) e es h = one (is_of_net net r) refl h (one_added all e es)
    where
      one : (b : Bool) → is_of_net net r ≡ b → (if b then r ∷ filter (is_of_net net) all else filter (is_of_net net) all) ≡ e ∷ es
          → (filter (is_of_net net) all ≡ e ∷ es → with_all self [] (named (filter (is_of_net net) all)) ≡ net ∷ [])
          → with_all self [] (named (if b then r ∷ filter (is_of_net net) all else filter (is_of_net net) all)) ≡ net ∷ []
      one true is g later = ap (λ (n : Option (List ℕ)). with_all self [] (cons_option n (named (filter (is_of_net net) all)))) (named_so r is) ∙ none_added all
      one false is g later = later g

  found_alike : (some design : List Record) → filter_map component_of some ≡ filter_map component_of design → (ts : List Terminal) → AllByRecursion (FindsAlike some design) ts
  found_alike some design same [] = tt
  found_alike some design same (t ∷ ts) =
      (record { named = ap (λ (cs : List Component). find_named (λ (c : Component). c.name) cs t.owner) same; all = λ star. same }, found_alike some design same ts)

pub entries_name_one_net : EntriesNameOneNet
entries_name_one_net design net e es entries = one_added net design e es entries

pub entries_tell : EntriesTell
entries_tell design net e es entries =
    let some = filter (tells_all net) design in
    let components = selected_of_those (tells_all net) component_of (no_component net) design in (
      some,
      record {
        agree = record {
          common = within is_common (tells_all net) (common_told net) design;
          entries = within (is_of_net net) (tells_all net) (net_told net) design;
          pins = pins_within net (tells_all net) design (net_told net) (pin_told net (terminals_in design net));
          components = found_alike net some design components (terminals_in some net);
        };
        only = ap (with_all (self net) []) (its_names net design) ∙ one_added net design e es entries;
      },
    )
