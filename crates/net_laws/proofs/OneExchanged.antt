-- Statements of one component are exchanged.
use Rattle.std.proofs.Common.{◌≡◌, ◌∙◌, ℕ, Bool, true, false, ◌||◌, not, List, [], ◌∷◌, ◌++◌, filter, refl, sym, ap, if◌then◌else◌}
use Rattle.std.specs.List.{cons_option, filter_map, list_any}
use Rattle.std.specs.Str.{bytes_eq}
use Rattle.std.proofs.lemmas.List.Elements.{filter-append, filter_map-append}
use Rattle.std.proofs.lemmas.Slice.Eq.{bytes_eq-Decides}
use Rattle.def_grammar.specs.Components.{Component}
use Rattle.def_grammar.specs.Nets.{is_net, must_join}
use Rattle.def_grammar.specs.Records as records
use Rattle.def_grammar.specs.Records.{Record, component_of, end_section, entry, in_properties, top}
use Rattle.def_grammar.specs.Terminals.{Terminal}
use Rattle.net_laws.specs.NetsTold.{is_common, is_of_net, is_pin_of_net, terminals_in}
use Rattle.net_laws.specs.StarNets.{AgreeOnAndOn, OneExchangedAgree, all_but}
use Rattle.net_laws.specs.Within.{AreWithin, is_within, a_component}
use Rattle.net_laws.proofs.NetPins.{pins_exchanged}
use Rattle.net_laws.proofs.Selecting.{exchanged_alike, none_of_both}
use Rattle.net_laws.proofs.Within.{none_common}

turned : (x y : List ℕ) → bytes_eq y x ≡ bytes_eq x y
turned x y = one (bytes_eq x y) (bytes_eq y x) refl refl
  where
    one : (b e : Bool) → bytes_eq x y ≡ b → bytes_eq y x ≡ e → e ≡ b
    one true true g h = refl
    one false false g h = refl
    one true false g h = absurd (let same = (bytes_eq-Decides x y).0 g in let yes : bytes_eq y x ≡ true = ap (λ (z : List ℕ). bytes_eq z x) (sym same) ∙ ap (bytes_eq x) same ∙ g in cc)
    one false true g h = absurd (let same = (bytes_eq-Decides y x).0 h in let yes : bytes_eq x y ≡ true = ap (λ (z : List ℕ). bytes_eq z y) (sym same) ∙ ap (bytes_eq y) same ∙ h in cc)

module _ (name : List ℕ) where
  abbrev inside : Record → Bool
  inside r = is_within [] (a_component name) r

  -- no entry of a net is among them
  no_net : (net : List ℕ) (r : Record) → not (inside r) ≡ false → is_of_net net r ≡ false
  no_net net (top t) h = refl
  no_net net (in_properties p) h = refl
  no_net net (end_section s) h = refl
  no_net net (entry (records.component c)) h = refl
  no_net net (entry (records.pin x)) h = refl
  no_net net (entry (records.region x)) h = refl
  no_net net (entry (records.group x)) h = refl
  no_net net (entry (records.blockage x)) h = refl
  no_net net (entry (records.net (is_net n))) h = absurd (cc)
  no_net net (entry (records.net (must_join x))) h = refl
  no_net net (entry (records.special_net n)) h = absurd (cc)
  no_net net (entry (records.via x)) h = refl
  no_net net (entry (records.rule x)) h = refl
  no_net net (entry (records.skipped s x)) h = refl

  no_nets : (net : List ℕ) (some : List Record) → AreWithin [] (a_component name) some → list_any (is_of_net net) some ≡ false
  no_nets net [] all = refl
  no_nets net (r ∷ some) all =
      let both = none_of_both (not (inside r)) (list_any (λ (x : Record). not (inside x)) some) all in
      ap (λ (b : Bool). b || list_any (is_of_net net) some) (no_net net r both.0) ∙ no_nets net some both.1

  -- nor is a pin of the design
  no_pin : (net : List ℕ) (ts : List Terminal) (r : Record) → not (inside r) ≡ false → is_pin_of_net net ts r ≡ false
  no_pin net ts (entry (records.pin p)) h = absurd (cc)
  no_pin net ts _ h = refl

  no_pins : (net : List ℕ) (ts : List Terminal) (some : List Record) → AreWithin [] (a_component name) some → list_any (is_pin_of_net net ts) some ≡ false
  no_pins net ts [] all = refl
  no_pins net ts (r ∷ some) all =
      let both = none_of_both (not (inside r)) (list_any (λ (x : Record). not (inside x)) some) all in
      ap (λ (b : Bool). b || list_any (is_pin_of_net net ts) some) (no_pin net ts r both.0) ∙ no_pins net ts some both.1

  -- nor is another component
  its_own : (b : Bool) (c : Component) (left : List Component) → not b ≡ false → left ≡ [] → (if not b then c ∷ left else left) ≡ []
  its_own true c left h none = none
  its_own false c left h none = absurd (cc)

  abbrev another : Component → Bool
  another c = not (bytes_eq c.name name)

  one_more : (r : Record) (left : List Component) → not (inside r) ≡ false → filter another left ≡ [] → filter another (cons_option (component_of r) left) ≡ []
  one_more (top t) left h none = none
  one_more (in_properties p) left h none = none
  one_more (end_section s) left h none = none
  one_more (entry (records.component c)) left h none = its_own (bytes_eq c.name name) c (filter another left) (ap not (sym (turned c.name name)) ∙ h) none
  one_more (entry (records.pin x)) left h none = none
  one_more (entry (records.region x)) left h none = none
  one_more (entry (records.group x)) left h none = none
  one_more (entry (records.blockage x)) left h none = none
  one_more (entry (records.net x)) left h none = none
  one_more (entry (records.special_net x)) left h none = none
  one_more (entry (records.via x)) left h none = none
  one_more (entry (records.rule x)) left h none = none
  one_more (entry (records.skipped s x)) left h none = none

  none_but : (some : List Record) → AreWithin [] (a_component name) some → all_but name some ≡ []
  none_but [] all = refl
  none_but (r ∷ some) all =
      let both = none_of_both (not (inside r)) (list_any (λ (x : Record). not (inside x)) some) all in
      one_more r (filter_map component_of some) both.0 (none_but some both.1)

  others-append : (xs ys : List Record) → all_but name (xs ++ ys) ≡ all_but name xs ++ all_but name ys
  others-append xs ys = ap (filter another) (filter_map-append component_of xs ys) ∙ filter-append another (filter_map component_of xs) (filter_map component_of ys)

  others_around : (front some behind : List Record) → AreWithin [] (a_component name) some → all_but name (front ++ (some ++ behind)) ≡ all_but name front ++ all_but name behind
  others_around front some behind all =
      others-append front (some ++ behind)
      ∙ ap (λ (l : List Component). all_but name front ++ l) (others-append some behind ∙ ap (λ (l : List Component). l ++ all_but name behind) (none_but some all))

pub one_exchanged_agree : OneExchangedAgree
one_exchanged_agree front out put behind name goes comes net =
    let ts = terminals_in (front ++ (out ++ behind)) net in
    let entries = exchanged_alike (is_of_net net) front out put behind (no_nets name net out goes) (no_nets name net put comes) in
    record {
      common = exchanged_alike is_common front out put behind (none_common [] (a_component name) out goes) (none_common [] (a_component name) put comes);
      entries = entries;
      pins = pins_exchanged front out put behind net entries (no_pins name net ts out goes) (no_pins name net ts put comes);
      components = others_around name front out behind goes ∙ sym (others_around name front put behind comes);
    }

pub agree_on_and_on : AgreeOnAndOn
agree_on_and_on a b c net name f g = record { common = f.common ∙ g.common; entries = f.entries ∙ g.entries; pins = f.pins ∙ g.pins; components = f.components ∙ g.components }
