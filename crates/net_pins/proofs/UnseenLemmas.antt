-- Pins of components of different names.
use Rattle.std.proofs.Common.{◌≡◌, ℕ, Bool, true, false, not, ◌&&◌, ◌||◌, List, [], ◌∷◌, ◌++◌, refl, sym, ap, ◌∙◌, subst, Option, Some, None, if◌then◌else◌, arith}
use Rattle.std.specs.List.{cons_option, filter_map, list_any}
use Rattle.std.specs.Option.{option_map, option_to_list}
use Rattle.std.specs.Prelude.{MatchOption}
use Rattle.std.specs.Str.{bytes_eq}
use Rattle.std.proofs.lemmas.Slice.Eq.{bytes_eq-Decides}
use Rattle.form_meanings.specs.Firsts.{find_named, has_name}
use Rattle.form_meanings.specs.Words.{◌>>=◌}
use Rattle.statement_model.specs.Grammar.{Key}
use Rattle.statement_model.specs.Reading.{is_among, same_words}
use Rattle.design_model.specs.declared.mode.Section.TheVariants.{Components}
use Rattle.design_model.specs.EnumWords.{section_word}
use Rattle.def_grammar.specs.Components.{Component}
use Rattle.def_grammar.specs.Records.{Entry, Record, top, in_properties, end_section, entry, component, pin, region, group, blockage, net, special_net, via, rule, skipped, component_of, entry_of, name_of, section_of}
use Rattle.entry_rules.specs.Unknown.{is_in}
use Rattle.lef_grammar.specs.Definitions.{Pin}
use Rattle.lef_grammar.specs.Library.{Library, Macro, macro_named, pin_named}
use Rattle.connection_rules.specs.NetParts.{Net}
use Rattle.connection_rules.specs.Terminals.{NetPin, component_pin, pin_of_component}
use Rattle.design_names.specs.Apart.{are_apart, stands_among}
use Rattle.net_lists.specs.Building.{with_parts}
use Rattle.net_pins.specs.Counting.{State, counted, with_pin, with_pins}
use Rattle.net_pins.specs.EntryPins.{pin_of_record}
use Rattle.net_pins.specs.Unseen.{AreUnseen, IsUnseen}
use Rattle.net_pins.specs.Walking.{PutsPins, Walk}
use Rattle.net_pins.proofs.PutLemmas.{any_append}

or_left : (a b : Bool) → (a || b) ≡ false → a ≡ false
or_left true b h = h
or_left false b h = refl

or_right : (a b : Bool) → (a || b) ≡ false → b ≡ false
or_right true b h = cc
or_right false b h = h

and_left : (a b : Bool) → (a && b) ≡ true → a ≡ true
and_left true b h = refl
and_left false b h = h

and_right : (a b : Bool) → (a && b) ≡ true → b ≡ true
and_right true b h = h
and_right false b h = cc

not_so : (b : Bool) → not b ≡ true → b ≡ false
not_so true h = cc
not_so false h = refl

same_bytes : (a b : List ℕ) → bytes_eq a b ≡ true → a ≡ b
same_bytes a b t = grind (arith, bytes_eq-Decides)

-- where nothing was seen
pub all_unseen : (the_pin : List ℕ) (records : List Record) → AreUnseen the_pin [] records
all_unseen the_pin [] = tt
all_unseen the_pin (r ∷ rs) = (first (component_of r), all_unseen the_pin rs)
  where
    first : (o : Option Component) → IsUnseen the_pin [] o
    first None = tt
    first (Some c) = refl

one_of : {A : Type 0} (b : Bool) (x a : A) {later : Option A} (C : Type 0) → (if b then Some x else later) ≡ Some a → (b ≡ true → x ≡ a → C) → (later ≡ Some a → C) → C
one_of true x a C h here there = let same : x ≡ a = cc in here refl same
one_of false x a C h here there = there h

pub not_both : (b : Bool) → b ≡ false → b ≡ true → ⊥
not_both true f t = cc
not_both false f t = cc

-- what is said of something that was found
pub of_found : {A : Type 0} (P : Type 0) (Q : A → Type 0) (o : Option A) (a : A) → o ≡ Some a → MatchOption o P Q → Q a
of_found P Q None a is said = let not_so : ⊥ = cc in absurd not_so
of_found P Q (Some b) a is said = let same : b ≡ a = cc in subst Q same said

-- what was found by a name has that name
pub named : {A : Type 0} (name_in : A → List ℕ) (xs : List A) (name : List ℕ) (a : A) → find_named name_in xs name ≡ Some a → name_in a ≡ name
named name_in [] name a h = cc
named name_in (x ∷ xs) name a h = one_of (has_name name_in name x) x a (name_in a ≡ name) h (λ is same. ap name_in (sym same) ∙ same_bytes (name_in x) name is) (named name_in xs name a)

-- a pin has the words of a component's name and its own, where there is one
abbrev HasWords : List ℕ → List ℕ → Option NetPin → Type 0
HasWords name the_pin None = Unit {0}
HasWords name the_pin (Some p) = p.words ≡ name ∷ the_pin ∷ []

has_words : (library : Library) (u : ℕ) (the_pin : List ℕ) (c : Component) → HasWords c.name the_pin (pin_of_component library u the_pin c)
has_words library u the_pin c = of_macro (macro_named library c.cell)
  where
    of_pin : (m : Macro) (o : Option Pin) → pin_named m the_pin ≡ o → HasWords c.name the_pin (option_map (component_pin library u c m) o)
    of_pin m None is = tt
    of_pin m (Some p) is = ap (λ (n : List ℕ). c.name ∷ n ∷ []) (named (λ (q : Pin). q.name) m.pins the_pin p is)

    of_macro : (o : Option Macro) → HasWords c.name the_pin (o >>= λ (m : Macro). option_map (component_pin library u c m) (pin_named m the_pin))
    of_macro None = tt
    of_macro (Some m) = of_pin m (pin_named m the_pin) refl

either_unseen : (b : Bool) (s t : State) (key : Key) → is_among s.0 key ≡ false → is_among t.0 key ≡ false → is_among ((if b then s else t).0) key ≡ false
either_unseen true s t key h i = h
either_unseen false s t key h i = i

-- a pin of another component stays unseen
behind_pin : (name other the_pin : List ℕ) (p : NetPin) (seen : List Key) (nets : List Net) → p.words ≡ name ∷ the_pin ∷ [] → bytes_eq other name ≡ false → is_among seen (other ∷ the_pin ∷ []) ≡ false
    → is_among ((with_pin p (seen, nets)).0) (other ∷ the_pin ∷ []) ≡ false
behind_pin name other the_pin p seen nets words apart unseen =
    either_unseen (is_among seen p.words) (seen, nets) (seen ++ p.words ∷ [], with_parts (counted p) nets) (other ∷ the_pin ∷ []) unseen behind
  where
    behind : is_among (seen ++ p.words ∷ []) (other ∷ the_pin ∷ []) ≡ false
    behind =
        ap (λ (w : Key). is_among (seen ++ w ∷ []) (other ∷ the_pin ∷ [])) words
        ∙ any_append (same_words (other ∷ the_pin ∷ [])) seen ((name ∷ the_pin ∷ []) ∷ [])
        ∙ ap (λ (b : Bool). b || (same_words (other ∷ the_pin ∷ []) (name ∷ the_pin ∷ []) || false)) unseen
        ∙ ap (λ (b : Bool). (b && same_words (the_pin ∷ []) (the_pin ∷ [])) || false) apart

module _ (name : List ℕ) (the_pin : List ℕ) (q : Option NetPin) (words : HasWords name the_pin q) (seen : List Key) (nets : List Net) where
  abbrev now : List Key
  now = (with_pins (option_to_list q) (seen, nets)).0

  other_unseen : (other : List ℕ) (o : Option NetPin) → HasWords name the_pin o → bytes_eq other name ≡ false → is_among seen (other ∷ the_pin ∷ []) ≡ false
      → is_among ((with_pins (option_to_list o) (seen, nets)).0) (other ∷ the_pin ∷ []) ≡ false
  other_unseen other None words apart unseen = unseen
  other_unseen other (Some p) words apart unseen = behind_pin name other the_pin p seen nets words apart unseen

  -- those of a component that has another name than all behind it
  rest_unseen : (rest : List Record) → list_any (is_in Components name) (filter_map entry_of rest) ≡ false → AreUnseen the_pin seen rest → AreUnseen the_pin now rest
  unfolding section_word
  rest_unseen [] none are = tt
  rest_unseen (top t ∷ rest) none are = (tt, rest_unseen rest none are.1)
  rest_unseen (in_properties p ∷ rest) none are = (tt, rest_unseen rest none are.1)
  rest_unseen (end_section s ∷ rest) none are = (tt, rest_unseen rest none are.1)
  rest_unseen (entry (component c) ∷ rest) none are = (
    other_unseen c.name q words (or_left (bytes_eq c.name name) (list_any (is_in Components name) (filter_map entry_of rest)) none) are.0,
    rest_unseen rest (or_right (bytes_eq c.name name) (list_any (is_in Components name) (filter_map entry_of rest)) none) are.1,
  )
  rest_unseen (entry (pin e) ∷ rest) none are = (tt, rest_unseen rest none are.1)
  rest_unseen (entry (region e) ∷ rest) none are = (tt, rest_unseen rest none are.1)
  rest_unseen (entry (group e) ∷ rest) none are = (tt, rest_unseen rest none are.1)
  rest_unseen (entry (blockage e) ∷ rest) none are = (tt, rest_unseen rest none are.1)
  rest_unseen (entry (net e) ∷ rest) none are = (tt, rest_unseen rest none are.1)
  rest_unseen (entry (special_net e) ∷ rest) none are = (tt, rest_unseen rest none are.1)
  rest_unseen (entry (via e) ∷ rest) none are = (tt, rest_unseen rest none are.1)
  rest_unseen (entry (rule e) ∷ rest) none are = (tt, rest_unseen rest none are.1)
  rest_unseen (entry (skipped s tokens) ∷ rest) none are =
      (tt, rest_unseen rest (or_right (is_in Components name (skipped s tokens)) (list_any (is_in Components name) (filter_map entry_of rest)) none) are.1)

rest_apart : (e : Entry) (rest : List Record) → are_apart (e ∷ filter_map entry_of rest) ≡ true → are_apart (filter_map entry_of rest) ≡ true
rest_apart e rest apart = and_right (not (stands_among (filter_map entry_of rest) (section_of e) (name_of e))) (are_apart (filter_map entry_of rest)) apart

pub one_fewer_apart : (r : Record) (rest : List Record) → are_apart (filter_map entry_of (r ∷ rest)) ≡ true → are_apart (filter_map entry_of rest) ≡ true
one_fewer_apart (top t) rest apart = apart
one_fewer_apart (in_properties p) rest apart = apart
one_fewer_apart (end_section s) rest apart = apart
one_fewer_apart (entry e) rest apart = rest_apart e rest apart

-- one statement more, whose pin was put
module _ (library : Library) (u : ℕ) (the_pin : List ℕ) (seen now : List Key) (nets nets_now : List Net) where
  abbrev WasPut : Record → Type 0
  WasPut r = ◌≡◌ {A = State} (now, nets_now) (with_pins (option_to_list (pin_of_record library u the_pin r)) (seen, nets))

  as_before : (rest : List Record) → ◌≡◌ {A = State} (now, nets_now) (seen, nets) → AreUnseen the_pin seen rest → AreUnseen the_pin now rest
  as_before rest put are = subst (λ (s : List Key). AreUnseen the_pin s rest) (sym (ap (λ (s : State). s.0) put)) are

  pub one_fewer_unseen : (r : Record) (rest : List Record) → are_apart (filter_map entry_of (r ∷ rest)) ≡ true → WasPut r → AreUnseen the_pin seen (r ∷ rest) → AreUnseen the_pin now rest
  one_fewer_unseen (top t) rest apart put are = as_before rest put are.1
  one_fewer_unseen (in_properties p) rest apart put are = as_before rest put are.1
  one_fewer_unseen (end_section s) rest apart put are = as_before rest put are.1
  one_fewer_unseen (entry (component c)) rest apart put are =
      let q = pin_of_component library u the_pin c in
      let none = not_so (list_any (is_in Components c.name) (filter_map entry_of rest)) (and_left (not (list_any (is_in Components c.name) (filter_map entry_of rest))) (are_apart (filter_map entry_of rest)) apart) in
      subst (λ (s : List Key). AreUnseen the_pin s rest) (sym (ap (λ (s : State). s.0) put)) (rest_unseen c.name the_pin q (has_words library u the_pin c) seen nets rest none are.1)
  one_fewer_unseen (entry (pin e)) rest apart put are = as_before rest put are.1
  one_fewer_unseen (entry (region e)) rest apart put are = as_before rest put are.1
  one_fewer_unseen (entry (group e)) rest apart put are = as_before rest put are.1
  one_fewer_unseen (entry (blockage e)) rest apart put are = as_before rest put are.1
  one_fewer_unseen (entry (net e)) rest apart put are = as_before rest put are.1
  one_fewer_unseen (entry (special_net e)) rest apart put are = as_before rest put are.1
  one_fewer_unseen (entry (via e)) rest apart put are = as_before rest put are.1
  one_fewer_unseen (entry (rule e)) rest apart put are = as_before rest put are.1
  one_fewer_unseen (entry (skipped s tokens)) rest apart put are = as_before rest put are.1

-- pins that are put one after the other; where none of them is looked for, none of those that are left was seen
pub record PutsNew (library : Library) (u : ℕ) (the_pin : List ℕ) (all : List NetPin) (seen : List Key) (nets : List Net) (are_new : Bool) (left : List Record) (walk : Walk) (nets_now : List Net) : Type 0 where
  pub puts : PutsPins all seen nets (filter_map (pin_of_component library u the_pin) (filter_map component_of left)) library walk nets_now
  pub unseen : are_new ≡ true → AreUnseen the_pin walk.seen left
  pub apart : are_new ≡ true → are_apart (filter_map entry_of left) ≡ true
