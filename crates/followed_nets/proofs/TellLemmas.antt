-- A net's entries with the components that they list, behind the statements that are read whichever net is told, tell the net.
use Rattle.std.proofs.Common.{◌≡◌, ◌∙◌, ℕ, Bool, true, false, ◌||◌, List, [], ◌∷◌, ◌++◌, filter, flat_map, Option, Some, None, refl, sym, ap, ap₂, append-nil, append_assoc, option_to_list, if◌then◌else◌}
use Rattle.std.specs.List.{AllByRecursion, filter_map, list_any}
use Rattle.std.specs.Option.{option_map}
use Rattle.std.specs.Str.{bytes_eq}
use Rattle.std.proofs.lemmas.List.Elements.{filter-append, filter_map-append}
use Rattle.std.proofs.lemmas.Slice.Eq.{bytes_eq-Decides}
use Rattle.form_meanings.specs.Firsts.{find_named, with_all}
use Rattle.def_grammar.specs.Components.{Component}
use Rattle.def_grammar.specs.Nets.{is_net, must_join}
use Rattle.def_grammar.specs.Records as records
use Rattle.def_grammar.specs.Records.{Record, component_of, end_section, entry, in_properties, top}
use Rattle.def_grammar.specs.Terminals.{Terminal, is_of_all}
use Rattle.entry_rules.specs.Unknown.{component_named}
use Rattle.net_laws.specs.NetsTold.{FindsAlike, is_common, is_of_net, net_of_record, terminals_in, terminals_of}
use Rattle.net_laws.specs.OneNet.{AllPinsTell, EntriesNameOneNet, TellNet, is_of_pins}
use Rattle.followed_nets.specs.Noted.{tells_any}
use Rattle.followed_nets.specs.Owners.{HasEntries, as_record, owners_in}

abbrev name_of : Component → List ℕ
name_of c = c.name

-- a test lets through what another one lets through that says less
module _ {A : Type 0} (wide test : A → Bool) (so : (a : A) → test a ≡ true → wide a ≡ true) where
  within_both : (b c : Bool) (a : A) (left all : List A) → wide a ≡ b → test a ≡ c → filter test left ≡ all → filter test (if b then a ∷ left else left) ≡ (if c then a ∷ all else all)
  within_both true true a left all w t later = rw t (ap (λ (l : List A). a ∷ l) later)
  within_both true false a left all w t later = rw t later
  within_both false true a left all w t later = let both = sym w ∙ so a t in absurd (cc)
  within_both false false a left all w t later = later

  pub filtered_within : (xs : List A) → filter test (filter wide xs) ≡ filter test xs
  filtered_within [] = refl
  filtered_within (a ∷ xs) = within_both (wide a) (test a) a (filter wide xs) (filter test xs) refl refl (filtered_within xs)

module _ {A : Type 0} (test : A → Bool) where
  one_passes : (b : Bool) (x a : A) (left rest : List A) → test x ≡ b → (if b then x ∷ left else left) ≡ a ∷ rest → (left ≡ a ∷ rest → test a ≡ true) → test a ≡ true
  one_passes true x a left rest h is later = let same : x ≡ a = cc in ap test (sym same) ∙ h
  one_passes false x a left rest h is later = later is

  pub first_passes : (xs : List A) (a : A) (rest : List A) → filter test xs ≡ a ∷ rest → test a ≡ true
  first_passes [] a rest is = absurd (cc)
  first_passes (x ∷ xs) a rest is = one_passes (test x) x a (filter test xs) rest refl is (first_passes xs a rest)

-- and none of it passes a test that is apart from that one
module _ {A : Type 0} (test other : A → Bool) (apart : (a : A) → test a ≡ true → other a ≡ false) where
  none_kept : (b : Bool) (a : A) (left : List A) → test a ≡ b → filter other left ≡ [] → filter other (if b then a ∷ left else left) ≡ []
  none_kept true a left is later = rw (apart a is) later
  none_kept false a left is later = later

  pub none_of_others : (xs : List A) → filter other (filter test xs) ≡ []
  none_of_others [] = refl
  none_of_others (a ∷ xs) = none_kept (test a) a (filter test xs) refl (none_of_others xs)

module _ {A B : Type 0} (test : A → Bool) (select : A → Option B) (nothing : (a : A) → test a ≡ true → select a ≡ None) where
  none_more : (b : Bool) (a : A) (left : List A) → test a ≡ b → filter_map select left ≡ [] → filter_map select (if b then a ∷ left else left) ≡ []
  none_more true a left is later = rw (nothing a is) later
  none_more false a left is later = later

  pub none_selected : (xs : List A) → filter_map select (filter test xs) ≡ []
  none_selected [] = refl
  none_selected (a ∷ xs) = none_more (test a) a (filter test xs) refl (none_selected xs)

-- what any net may be made of is read whichever net is told, and so is a pin of the design
or_true : (b : Bool) → (b || true) ≡ true
or_true true = refl
or_true false = refl

pub common_tells : (r : Record) → is_common r ≡ true → tells_any r ≡ true
common_tells r is = ap (λ (b : Bool). b || is_of_pins r) is

pub pin_tells : (r : Record) → is_of_pins r ≡ true → tells_any r ≡ true
pin_tells r is = ap (λ (b : Bool). is_common r || b) is ∙ or_true (is_common r)

pub commons_in : (design : List Record) → filter is_common (filter tells_any design) ≡ filter is_common design
commons_in design = filtered_within tells_any is_common common_tells design

pub pins_in : (design : List Record) → filter is_of_pins (filter tells_any design) ≡ filter is_of_pins design
pins_in design = filtered_within tells_any is_of_pins pin_tells design

-- such a statement is no entry of a net, and no component
pub no_net_entry : (name : List ℕ) (r : Record) → tells_any r ≡ true → is_of_net name r ≡ false
no_net_entry name (top t) h = refl
no_net_entry name (in_properties p) h = refl
no_net_entry name (end_section s) h = refl
no_net_entry name (entry (records.component x)) h = refl
no_net_entry name (entry (records.pin x)) h = refl
no_net_entry name (entry (records.region x)) h = refl
no_net_entry name (entry (records.group x)) h = refl
no_net_entry name (entry (records.blockage x)) h = refl
no_net_entry name (entry (records.net x)) h = absurd (cc)
no_net_entry name (entry (records.special_net x)) h = absurd (cc)
no_net_entry name (entry (records.via x)) h = refl
no_net_entry name (entry (records.rule x)) h = refl
no_net_entry name (entry (records.skipped s x)) h = refl

pub no_net : (r : Record) → tells_any r ≡ true → net_of_record r ≡ None
no_net (top t) h = refl
no_net (in_properties p) h = refl
no_net (end_section s) h = refl
no_net (entry (records.component x)) h = refl
no_net (entry (records.pin x)) h = refl
no_net (entry (records.region x)) h = refl
no_net (entry (records.group x)) h = refl
no_net (entry (records.blockage x)) h = refl
no_net (entry (records.net x)) h = absurd (cc)
no_net (entry (records.special_net x)) h = absurd (cc)
no_net (entry (records.via x)) h = refl
no_net (entry (records.rule x)) h = refl
no_net (entry (records.skipped s x)) h = refl

pub no_component : (r : Record) → tells_any r ≡ true → component_of r ≡ None
no_component (top t) h = refl
no_component (in_properties p) h = refl
no_component (end_section s) h = refl
no_component (entry (records.component x)) h = absurd (cc)
no_component (entry (records.pin x)) h = refl
no_component (entry (records.region x)) h = refl
no_component (entry (records.group x)) h = refl
no_component (entry (records.blockage x)) h = refl
no_component (entry (records.net x)) h = refl
no_component (entry (records.special_net x)) h = refl
no_component (entry (records.via x)) h = refl
no_component (entry (records.rule x)) h = refl
no_component (entry (records.skipped s x)) h = refl

-- an entry of a net is nothing else, and has the net's name
pub record IsEntryOf (name : List ℕ) (r : Record) : Type 0 where
  pub not_common : is_common r ≡ false
  pub no_pin : is_of_pins r ≡ false
  pub no_component : component_of r ≡ None
  pub net_is : net_of_record r ≡ Some name

pub is_entry_of : (name : List ℕ) (r : Record) → is_of_net name r ≡ true → IsEntryOf name r
is_entry_of name (top t) h = absurd (cc)
is_entry_of name (in_properties p) h = absurd (cc)
is_entry_of name (end_section s) h = absurd (cc)
is_entry_of name (entry (records.component x)) h = absurd (cc)
is_entry_of name (entry (records.pin x)) h = absurd (cc)
is_entry_of name (entry (records.region x)) h = absurd (cc)
is_entry_of name (entry (records.group x)) h = absurd (cc)
is_entry_of name (entry (records.blockage x)) h = absurd (cc)
is_entry_of name (entry (records.net (must_join x))) h = absurd (cc)
is_entry_of name (entry (records.net (is_net n))) h = record { not_common = refl; no_pin = refl; no_component = refl; net_is = ap (λ (own : List ℕ). Some own) ((bytes_eq-Decides n.name name).0 h) }
is_entry_of name (entry (records.special_net n)) h = record { not_common = refl; no_pin = refl; no_component = refl; net_is = ap (λ (own : List ℕ). Some own) ((bytes_eq-Decides n.name name).0 h) }
is_entry_of name (entry (records.via x)) h = absurd (cc)
is_entry_of name (entry (records.rule x)) h = absurd (cc)
is_entry_of name (entry (records.skipped s x)) h = absurd (cc)

-- the component that is found by a name has it
one_has : (b : Bool) (x : Component) (cs : List Component) (name : List ℕ) (c : Component) → bytes_eq x.name name ≡ b → (if b then Some x else find_named name_of cs name) ≡ Some c
    → (find_named name_of cs name ≡ Some c → c.name ≡ name) → c.name ≡ name
one_has true x cs name c h found later = let same : x ≡ c = cc in ap name_of (sym same) ∙ (bytes_eq-Decides x.name name).0 h
one_has false x cs name c h found later = later found

found_has : (cs : List Component) (name : List ℕ) (c : Component) → find_named name_of cs name ≡ Some c → c.name ≡ name
found_has [] name c is = absurd (cc)
found_has (x ∷ cs) name c is = one_has (bytes_eq x.name name) x cs name c refl is (found_has cs name c)

module _ (design : List Record) where
  abbrev named : List ℕ → Option Component
  named = component_named design

  abbrev owned : Terminal → List Component
  owned t = option_to_list (named t.owner)

  -- the owners are the components that are found by their names
  owned_by_one : (found : Option Component) (rest : List Record) (cs : List Component) → filter_map component_of rest ≡ cs
      → filter_map component_of (option_to_list (option_map as_record found) ++ rest) ≡ option_to_list found ++ cs
  owned_by_one None rest cs later = later
  owned_by_one (Some c) rest cs later = ap (λ (l : List Component). c ∷ l) later

  owners_are : (ts : List Terminal) → filter_map component_of (owners_in design ts) ≡ flat_map owned ts
  owners_are [] = refl
  owners_are (t ∷ ts) = owned_by_one (named t.owner) (owners_in design ts) (flat_map owned ts) (owners_are ts)

  -- they are no other statements
  none_by_one : (test : Record → Bool) → ((c : Component) → test (as_record c) ≡ false) → (found : Option Component) (rest : List Record) → filter test rest ≡ []
      → filter test (option_to_list (option_map as_record found) ++ rest) ≡ []
  none_by_one test fails None rest later = later
  none_by_one test fails (Some c) rest later = rw (fails c) later

  owners_fail : (test : Record → Bool) → ((c : Component) → test (as_record c) ≡ false) → (ts : List Terminal) → filter test (owners_in design ts) ≡ []
  owners_fail test fails [] = refl
  owners_fail test fails (t ∷ ts) = none_by_one test fails (named t.owner) (owners_in design ts) (owners_fail test fails ts)

  no_net_by_one : (found : Option Component) (rest : List Record) → filter_map net_of_record rest ≡ [] → filter_map net_of_record (option_to_list (option_map as_record found) ++ rest) ≡ []
  no_net_by_one None rest later = later
  no_net_by_one (Some c) rest later = later

  owners_no_nets : (ts : List Terminal) → filter_map net_of_record (owners_in design ts) ≡ []
  owners_no_nets [] = refl
  owners_no_nets (t ∷ ts) = no_net_by_one (named t.owner) (owners_in design ts) (owners_no_nets ts)

  -- among them, the one of a name is that of the design where it is an owner's name
  abbrev is_owner : List ℕ → Terminal → Bool
  is_owner o t = bytes_eq t.owner o

  found_or : (o own : List ℕ) (found : Option Component) (b any : Bool) (rest : List Component) → named own ≡ found → bytes_eq own o ≡ b
      → find_named name_of rest o ≡ (if any then named o else None)
      → find_named name_of (option_to_list found ++ rest) o ≡ (if b || any then named o else None)
  found_or o own None true true rest is same later = later
  found_or o own None true false rest is same later = later ∙ sym is ∙ ap named ((bytes_eq-Decides own o).0 same)
  found_or o own None false any rest is same later = later
  found_or o own (Some c) true any rest is same later =
      let there : named o ≡ Some c = sym (ap named ((bytes_eq-Decides own o).0 same)) ∙ is in
      let has : c.name ≡ o = found_has (filter_map component_of design) o c there in
      rw ((bytes_eq-Decides c.name o).1 has) (sym there)
  found_or o own (Some c) false any rest is same later =
      let has : c.name ≡ own = found_has (filter_map component_of design) own c is in
      let other : bytes_eq c.name o ≡ false = ap (λ (n : List ℕ). bytes_eq n o) has ∙ same in
      rw other later

  found_among : (o : List ℕ) (ts : List Terminal) → find_named name_of (flat_map owned ts) o ≡ (if list_any (is_owner o) ts then named o else None)
  found_among o [] = refl
  found_among o (t ∷ ts) = found_or o t.owner (named t.owner) (bytes_eq t.owner o) (list_any (is_owner o) ts) (flat_map owned ts) refl refl (found_among o ts)

  -- each owner's name is one
  any_there : (o : List ℕ) (front rest : List Terminal) (t : Terminal) → bytes_eq t.owner o ≡ true → list_any (is_owner o) (front ++ t ∷ rest) ≡ true
  any_there o [] rest t same = rw same refl
  any_there o (x ∷ front) rest t same = rw (any_there o front rest t same) (or_true (bytes_eq x.owner o))
    where
      or_true : (b : Bool) → (b || true) ≡ true
      or_true true = refl
      or_true false = refl

  -- the terminals of an entry find the same in the few statements
  module _ (some : List Record) (all : List Terminal) (owners : filter_map component_of some ≡ flat_map owned all) where
    alike : (t : Terminal) → list_any (is_owner t.owner) all ≡ true → component_named some t.owner ≡ named t.owner
    alike t there =
        ap (λ (cs : List Component). find_named name_of cs t.owner) owners
        ∙ found_among t.owner all
        ∙ ap (λ (b : Bool). if b then named t.owner else None) there

    none_left : (b c : Bool) → (b || c) ≡ false → (b ≡ false) × (c ≡ false)
    none_left true c h = absurd (cc)
    none_left false c h = (refl, h)

    not_of_all : (t : Terminal) → is_of_all t ≡ false → is_of_all t ≡ true → filter_map component_of some ≡ filter_map component_of design
    not_of_all t not_all is_all = absurd (cc)

    all_alike : (front ts : List Terminal) → all ≡ front ++ ts → list_any is_of_all ts ≡ false → AllByRecursion (FindsAlike some design) ts
    all_alike front [] is none = tt
    all_alike front (t ∷ ts) is none =
        let both = none_left (is_of_all t) (list_any is_of_all ts) none in
        let there : list_any (is_owner t.owner) all ≡ true = ap (list_any (is_owner t.owner)) is ∙ any_there t.owner front ts t ((bytes_eq-Decides t.owner t.owner).1 refl) in
        (record { named = alike t there; all = not_of_all t both.0 }, all_alike (front ++ t ∷ []) ts (is ∙ sym (append_assoc front (t ∷ []) ts)) both.1)

-- The components that the entries of a net list, and the entries, behind these statements of a design, tell the net.
module _ (law : AllPinsTell) (named : EntriesNameOneNet) (design : List Record) (name : List ℕ) (e : Record) (es : List Record) (all : filter (is_of_net name) design ≡ e ∷ es)
    (none : list_any is_of_all (terminals_in design name) ≡ false) where
  abbrev entries : List Record
  entries = filter (is_of_net name) design

  abbrev terminals : List Terminal
  terminals = terminals_in design name

  abbrev commons : List Record
  commons = filter tells_any design

  abbrev owners : List Record
  owners = owners_in design terminals

  -- these statements
  abbrev these : List Record
  these = (commons ++ owners) ++ entries

  -- what passes a test that no component passes
  those : (test : Record → Bool) → ((c : Component) → test (as_record c) ≡ false) → filter test these ≡ filter test commons ++ filter test entries
  those test fails =
      filter-append test (commons ++ owners) entries
      ∙ ap (λ (l : List Record). l ++ filter test entries)
      (filter-append test commons owners ∙ ap (λ (l : List Record). filter test commons ++ l) (owners_fail design test fails terminals) ∙ append-nil (filter test commons))

  common : filter is_common these ≡ filter is_common design
  common =
      those is_common (λ c. refl)
      ∙ ap₂ (λ (a b : List Record). a ++ b) (commons_in design) (none_of_others (is_of_net name) is_common (λ r is. (is_entry_of name r is).not_common) design)
      ∙ append-nil (filter is_common design)

  same_pins : filter is_of_pins these ≡ filter is_of_pins design
  same_pins =
      those is_of_pins (λ c. refl)
      ∙ ap₂ (λ (a b : List Record). a ++ b) (pins_in design) (none_of_others (is_of_net name) is_of_pins (λ r is. (is_entry_of name r is).no_pin) design)
      ∙ append-nil (filter is_of_pins design)

  same_entries : filter (is_of_net name) these ≡ entries
  same_entries =
      those (is_of_net name) (λ c. refl)
      ∙ ap₂ (λ (a b : List Record). a ++ b) (none_of_others tells_any (is_of_net name) (no_net_entry name) design) (filtered_within (is_of_net name) (is_of_net name) (λ r is. is) design)

  components_are : filter_map component_of these ≡ flat_map (owned design) terminals
  components_are =
      filter_map-append component_of (commons ++ owners) entries
      ∙ ap₂ (λ (a b : List Component). a ++ b) (filter_map-append component_of commons owners) (none_selected (is_of_net name) component_of (λ r is. (is_entry_of name r is).no_component) design)
      ∙ append-nil (filter_map component_of commons ++ filter_map component_of owners)
      ∙ ap₂ (λ (a b : List Component). a ++ b) (none_selected tells_any component_of no_component design) (owners_are design terminals)

  their_names : filter_map net_of_record these ≡ filter_map net_of_record entries
  their_names =
      filter_map-append net_of_record (commons ++ owners) entries
      ∙ ap (λ (l : List (List ℕ)). l ++ filter_map net_of_record entries)
      (filter_map-append net_of_record commons owners
      ∙ ap₂ (λ (a b : List (List ℕ)). a ++ b) (none_selected tells_any net_of_record no_net design) (owners_no_nets design terminals))

  listed : terminals_in these name ≡ terminals
  listed = ap (flat_map terminals_of) same_entries

  these_are : TellNet these design name
  these_are = record {
    agree = record { common = common; entries = same_entries; pins = law these design name listed same_pins; components = rw listed (all_alike design these terminals components_are [] terminals refl none) };
    only = ap (with_all (λ (n : List ℕ). n) []) their_names ∙ named design name e es all;
  }

-- so they do once they were put one behind the other
pub these_tell : AllPinsTell → EntriesNameOneNet → (design : List Record) (name : List ℕ) (e : Record) (es : List Record) (commons some : List Record) → filter (is_of_net name) design ≡ e ∷ es → commons ≡ filter tells_any design
    → HasEntries design (e ∷ es) commons some → TellNet some design name
these_tell law named design name e es commons some all commons_are has =
    let none : list_any is_of_all (terminals_in design name) ≡ false = ap (λ (rs : List Record). list_any is_of_all (flat_map terminals_of rs)) all ∙ has.named in
    let is : some ≡ (filter tells_any design ++ owners_in design (terminals_in design name)) ++ filter (is_of_net name) design =
    has.new_is
    ∙ ap₂ (λ (l rs : List Record). (l ++ owners_in design (flat_map terminals_of rs)) ++ rs) commons_are (sym all) in
    rw is (these_are law named design name e es all none)
