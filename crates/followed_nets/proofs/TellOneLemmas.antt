-- An entry of a net with a component, behind the statements that are read whichever net is told, tells what that component is to the net.
use Rattle.std.proofs.Common.{◌≡◌, ◌∙◌, ℕ, Bool, true, false, ◌&&◌, List, [], ◌∷◌, ◌++◌, filter, flat_map, Option, Some, None, refl, sym, ap, ap₂, append-nil, if◌then◌else◌}
use Rattle.std.specs.List.{filter_map}
use Rattle.std.specs.Str.{bytes_eq}
use Rattle.std.proofs.lemmas.List.Elements.{filter-append, filter_map-append}
use Rattle.form_meanings.specs.Firsts.{with_all}
use Rattle.design_model.specs.declared.mode.Section.TheVariants.{Components}
use Rattle.design_model.specs.EnumWords.{section_word}
use Rattle.def_grammar.specs.Components.{Component}
use Rattle.def_grammar.specs.Nets.{is_net, must_join}
use Rattle.def_grammar.specs.Records as records
use Rattle.def_grammar.specs.Records.{Record, component_of, end_section, entry, in_properties, top}
use Rattle.net_laws.specs.NetsTold.{is_common, is_of_net, net_of_record, terminals_in, terminals_of}
use Rattle.net_laws.specs.OneNet.{AllPinsTell, is_of_pins}
use Rattle.net_laws.specs.StarNets.{TellOne, those_named}
use Rattle.followed_nets.specs.Noted.{tells_any}
use Rattle.followed_nets.proofs.OneEntry.{is_in}
use Rattle.followed_nets.proofs.TellLemmas.{IsEntryOf, commons_in, is_entry_of, no_component, no_net, no_net_entry, none_of_others, none_selected, pins_in}

module _ (name : List ℕ) where
  abbrev owns : Record → Bool
  owns r = is_in Components name r

  abbrev has : Component → Bool
  has c = bytes_eq c.name name

  -- the entries of the section with that name are the components with it, and statements that aren't read
  passes_or_not : (b : Bool) (r : Record) (left : List Record) (cs : List Component) → component_of r ≡ None → filter_map component_of left ≡ cs
      → filter_map component_of (if b then r ∷ left else left) ≡ cs
  passes_or_not true r left cs none later = rw none later
  passes_or_not false r left cs none later = later

  component_or_not : (b : Bool) (c : Component) (left : List Record) (cs : List Component) → filter_map component_of left ≡ cs
      → filter_map component_of (if b then entry (records.component c) ∷ left else left) ≡ (if b then c ∷ cs else cs)
  component_or_not true c left cs later = ap (λ (l : List Component). c ∷ l) later
  component_or_not false c left cs later = later

  by_record : (r : Record) (rs : List Record) → filter_map component_of (filter owns rs) ≡ filter has (filter_map component_of rs)
      → filter_map component_of (filter owns (r ∷ rs)) ≡ filter has (filter_map component_of (r ∷ rs))
  unfolding Rattle.design_model.specs.EnumWords.section_word
  by_record (top t) rs later = passes_or_not (owns (top t)) (top t) (filter owns rs) (filter has (filter_map component_of rs)) refl later
  by_record (in_properties p) rs later = passes_or_not (owns (in_properties p)) (in_properties p) (filter owns rs) (filter has (filter_map component_of rs)) refl later
  by_record (end_section s) rs later = passes_or_not (owns (end_section s)) (end_section s) (filter owns rs) (filter has (filter_map component_of rs)) refl later
  by_record (entry (records.component x)) rs later = component_or_not (bytes_eq x.name name) x (filter owns rs) (filter has (filter_map component_of rs)) later
  by_record (entry (records.pin x)) rs later = later
  by_record (entry (records.region x)) rs later = later
  by_record (entry (records.group x)) rs later = later
  by_record (entry (records.blockage x)) rs later = later
  by_record (entry (records.net (must_join x))) rs later = later
  by_record (entry (records.net (is_net x))) rs later = later
  by_record (entry (records.special_net x)) rs later = later
  by_record (entry (records.via x)) rs later = later
  by_record (entry (records.rule x)) rs later = later
  by_record (entry (records.skipped s x)) rs later = passes_or_not (owns (entry (records.skipped s x))) (entry (records.skipped s x)) (filter owns rs) (filter has (filter_map component_of rs)) refl later

  pub theirs : (design : List Record) → filter_map component_of (filter owns design) ≡ those_named name design
  theirs [] = refl
  theirs (r ∷ rs) = by_record r rs (theirs rs)

  -- they are nothing else
  not_common : (r : Record) → owns r ≡ true → is_common r ≡ false
  unfolding Rattle.design_model.specs.EnumWords.section_word
  not_common (top t) h = absurd (cc)
  not_common (in_properties p) h = refl
  not_common (end_section s) h = refl
  not_common (entry (records.component x)) h = refl
  not_common (entry (records.pin x)) h = absurd (cc)
  not_common (entry (records.region x)) h = refl
  not_common (entry (records.group x)) h = refl
  not_common (entry (records.blockage x)) h = absurd (cc)
  not_common (entry (records.net x)) h = refl
  not_common (entry (records.special_net x)) h = refl
  not_common (entry (records.via x)) h = absurd (cc)
  not_common (entry (records.rule x)) h = absurd (cc)
  not_common (entry (records.skipped s x)) h = refl

  no_pin : (r : Record) → owns r ≡ true → is_of_pins r ≡ false
  unfolding Rattle.design_model.specs.EnumWords.section_word
  no_pin (top t) h = refl
  no_pin (in_properties p) h = refl
  no_pin (end_section s) h = refl
  no_pin (entry (records.component x)) h = refl
  no_pin (entry (records.pin x)) h = absurd (cc)
  no_pin (entry (records.region x)) h = refl
  no_pin (entry (records.group x)) h = refl
  no_pin (entry (records.blockage x)) h = refl
  no_pin (entry (records.net x)) h = refl
  no_pin (entry (records.special_net x)) h = refl
  no_pin (entry (records.via x)) h = refl
  no_pin (entry (records.rule x)) h = refl
  no_pin (entry (records.skipped s x)) h = refl

  no_entry : (net : List ℕ) (r : Record) → owns r ≡ true → is_of_net net r ≡ false
  unfolding Rattle.design_model.specs.EnumWords.section_word
  no_entry net (top t) h = refl
  no_entry net (in_properties p) h = refl
  no_entry net (end_section s) h = refl
  no_entry net (entry (records.component x)) h = refl
  no_entry net (entry (records.pin x)) h = refl
  no_entry net (entry (records.region x)) h = refl
  no_entry net (entry (records.group x)) h = refl
  no_entry net (entry (records.blockage x)) h = refl
  no_entry net (entry (records.net (must_join x))) h = refl
  no_entry net (entry (records.net (is_net x))) h = absurd (cc)
  no_entry net (entry (records.special_net x)) h = absurd (cc)
  no_entry net (entry (records.via x)) h = refl
  no_entry net (entry (records.rule x)) h = refl
  no_entry net (entry (records.skipped s x)) h = refl

  no_name : (r : Record) → owns r ≡ true → net_of_record r ≡ None
  unfolding Rattle.design_model.specs.EnumWords.section_word
  no_name (top t) h = refl
  no_name (in_properties p) h = refl
  no_name (end_section s) h = refl
  no_name (entry (records.component x)) h = refl
  no_name (entry (records.pin x)) h = refl
  no_name (entry (records.region x)) h = refl
  no_name (entry (records.group x)) h = refl
  no_name (entry (records.blockage x)) h = refl
  no_name (entry (records.net (must_join x))) h = refl
  no_name (entry (records.net (is_net x))) h = absurd (cc)
  no_name (entry (records.special_net x)) h = absurd (cc)
  no_name (entry (records.via x)) h = refl
  no_name (entry (records.rule x)) h = refl
  no_name (entry (records.skipped s x)) h = refl

module _ (law : AllPinsTell) (design : List Record) (net component : List ℕ) (e : Record) (of_net : is_of_net net e ≡ true) (lists : terminals_of e ≡ terminals_in design net) where
  own : IsEntryOf net e
  own = is_entry_of net e of_net

  abbrev commons : List Record
  commons = filter tells_any design

  abbrev ours : List Record
  ours = filter (owns component) design

  -- these statements
  abbrev these : List Record
  these = (commons ++ ours) ++ e ∷ []

  those : (test : Record → Bool) → filter test these ≡ (filter test commons ++ filter test ours) ++ filter test (e ∷ [])
  those test = filter-append test (commons ++ ours) (e ∷ []) ∙ ap (λ (l : List Record). l ++ filter test (e ∷ [])) (filter-append test commons ours)

  selected : {B : Type 0} (select : Record → Option B) → filter_map select these ≡ (filter_map select commons ++ filter_map select ours) ++ filter_map select (e ∷ [])
  selected {B = B} select = filter_map-append select (commons ++ ours) (e ∷ []) ∙ ap (λ (l : List B). l ++ filter_map select (e ∷ [])) (filter_map-append select commons ours)

  same_terminals : terminals_in these net ≡ terminals_in design net
  same_terminals =
      ap (flat_map terminals_of) (
      those (is_of_net net)
      ∙ ap₂ (λ (a b : List Record). a ++ b)
      (ap₂ (λ (a b : List Record). a ++ b) (none_of_others tells_any (is_of_net net) (no_net_entry net) design) (none_of_others (owns component) (is_of_net net) (no_entry component net) design))
      (ap (λ (b : Bool). if b then e ∷ [] else []) of_net))
      ∙ append-nil (terminals_of e)
      ∙ lists

  same_pins : filter is_of_pins these ≡ filter is_of_pins design
  same_pins =
      those is_of_pins
      ∙ ap₂ (λ (a b : List Record). a ++ b)
      (ap₂ (λ (a b : List Record). a ++ b) (pins_in design) (none_of_others (owns component) is_of_pins (no_pin component) design) ∙ append-nil (filter is_of_pins design))
      (ap (λ (b : Bool). if b then e ∷ [] else []) own.no_pin)
      ∙ append-nil (filter is_of_pins design)

  these_are : TellOne these design net component
  unfolding Rattle.form_meanings.specs.Firsts.with_all
  these_are = record {
    common =
        those is_common
        ∙ ap₂ (λ (a b : List Record). a ++ b)
        (ap₂ (λ (a b : List Record). a ++ b) (commons_in design) (none_of_others (owns component) is_common (not_common component) design) ∙ append-nil (filter is_common design))
        (ap (λ (b : Bool). if b then e ∷ [] else []) own.not_common)
        ∙ append-nil (filter is_common design);
    terminals = same_terminals;
    pins = law these design net same_terminals same_pins;
    components =
        selected component_of
        ∙ ap₂ (λ (a b : List Component). a ++ b)
        (ap₂ (λ (a b : List Component). a ++ b) (none_selected tells_any component_of no_component design) (theirs component design))
        (ap (λ (c : Option Component). filter_map (λ (o : Option Component). o) (c ∷ [])) own.no_component)
        ∙ append-nil (those_named component design);
    only =
        ap (with_all (λ (n : List ℕ). n) [])
        (selected net_of_record
        ∙ ap₂ (λ (a b : List (List ℕ)). a ++ b)
        (ap₂ (λ (a b : List (List ℕ)). a ++ b) (none_selected tells_any net_of_record no_net design) (none_selected (owns component) net_of_record (no_name component) design))
        (ap (λ (n : Option (List ℕ)). filter_map (λ (o : Option (List ℕ)). o) (n ∷ [])) own.net_is));
  }

-- so they do once they were put one behind the other
pub these_tell_one : AllPinsTell → (design : List Record) (net component : List ℕ) (e : Record) (commons with_own some : List Record) → is_of_net net e ≡ true → terminals_of e ≡ terminals_in design net → commons ≡ filter tells_any design
    → with_own ≡ commons ++ filter (is_in Components component) design → some ≡ with_own ++ e ∷ [] → TellOne some design net component
these_tell_one law design net component e commons with_own some of_net lists commons_are own_is some_is =
    let is : some ≡ (filter tells_any design ++ filter (is_in Components component) design) ++ e ∷ [] =
    some_is ∙ ap (λ (l : List Record). l ++ e ∷ []) (own_is ∙ ap (λ (l : List Record). l ++ filter (is_in Components component) design) commons_are) in
    rw is (these_are law design net component e of_net lists)
