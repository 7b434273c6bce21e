-- The entries of a net in the two sections, among all statements of a design.
use Rattle.std.proofs.Common.{◌≡◌, ◌∙◌, ℕ, Bool, true, false, ◌&&◌, ◌||◌, List, [], ◌∷◌, filter, Option, Some, None, refl, sym, ap, if◌then◌else◌}
use Rattle.std.specs.Prelude.{Ok}
use Rattle.std.specs.Option.{option_map, option_to_list}
use Rattle.std.specs.Str.{bytes_eq}
use Rattle.design_model.specs.declared.mode.Section.{Section}
use Rattle.design_model.specs.declared.mode.Section.TheVariants.{Nets, SpecialNets}
use Rattle.design_model.specs.EnumWords.{section_word}
use Rattle.statement_model.specs.Tokens.{Token}
use Rattle.def_grammar.specs.Located.{entry_at, is_entry, located}
use Rattle.def_grammar.specs.Nets.{is_net, must_join}
use Rattle.def_grammar.specs.Records as records
use Rattle.def_grammar.specs.Records.{Record, end_section, entry, entry_of, in_properties, read_def, section_of, top}
use Rattle.net_laws.specs.NetsTold.{is_of_net}
use Rattle.design_text.specs.NamedEntries.{NamedOnce}

abbrev pub is_in : Section → List ℕ → Record → Bool
is_in s name r = is_entry s name (entry_of r)

or_none : (b : Bool) → b ≡ (b || false)
or_none true = refl
or_none false = refl

and_none : (a b : Bool) → false ≡ ((a && false) || (b && false))
and_none true true = refl
and_none true false = refl
and_none false true = refl
and_none false false = refl

-- it is an entry of NETS or of SPECIALNETS with that name
pub of_either : (name : List ℕ) (r : Record) → is_of_net name r ≡ (is_in Nets name r || is_in SpecialNets name r)
unfolding Rattle.design_model.specs.EnumWords.section_word
of_either name (top t) = refl
of_either name (in_properties p) = refl
of_either name (end_section s) = refl
of_either name (entry (records.component x)) = refl
of_either name (entry (records.pin x)) = refl
of_either name (entry (records.region x)) = refl
of_either name (entry (records.group x)) = refl
of_either name (entry (records.blockage x)) = refl
of_either name (entry (records.net (must_join x))) = refl
of_either name (entry (records.net (is_net n))) = or_none (bytes_eq n.name name)
of_either name (entry (records.special_net n)) = refl
of_either name (entry (records.via x)) = refl
of_either name (entry (records.rule x)) = refl
of_either name (entry (records.skipped s x)) = and_none (bytes_eq (section_word s) (section_word Nets)) (bytes_eq (section_word s) (section_word SpecialNets))

-- where none passes one of two tests, those that pass either are those that pass the other
module _ {A : Type 0} (p q r : A → Bool) (either : (a : A) → r a ≡ (p a || q a)) where
  by_first : (b c d : Bool) (a : A) (ps qs rs : List A) → d ≡ (b || c) → (if c then a ∷ qs else qs) ≡ [] → (qs ≡ [] → rs ≡ ps) → (if d then a ∷ rs else rs) ≡ (if b then a ∷ ps else ps)
  by_first b true d a ps qs rs is none later = absurd (cc)
  by_first true false d a ps qs rs is none later = rw is (ap (λ (l : List A). a ∷ l) (later none))
  by_first false false d a ps qs rs is none later = rw is (later none)

  pub first_alone : (xs : List A) → filter q xs ≡ [] → filter r xs ≡ filter p xs
  first_alone [] none = refl
  first_alone (a ∷ xs) none = by_first (p a) (q a) (r a) a (filter p xs) (filter q xs) (filter r xs) (either a) none (first_alone xs)

  by_second : (b c d : Bool) (a : A) (ps qs rs : List A) → d ≡ (b || c) → (if b then a ∷ ps else ps) ≡ [] → (ps ≡ [] → rs ≡ qs) → (if d then a ∷ rs else rs) ≡ (if c then a ∷ qs else qs)
  by_second true c d a ps qs rs is none later = absurd (cc)
  by_second false true d a ps qs rs is none later = rw is (ap (λ (l : List A). a ∷ l) (later none))
  by_second false false d a ps qs rs is none later = rw is (later none)

  pub second_alone : (xs : List A) → filter p xs ≡ [] → filter r xs ≡ filter q xs
  second_alone [] none = refl
  second_alone (a ∷ xs) none = by_second (p a) (q a) (r a) a (filter p xs) (filter q xs) (filter r xs) (either a) none (second_alone xs)

-- the entry that is found by a section and a name is the only one
pub found_alone : NamedOnce → (text : List ℕ) (design : List Record) → read_def text ≡ Ok design → (s : Section) (name : List ℕ) (found : Option (List Token × Record)) → found ≡ entry_at s name (located text design)
    → option_to_list (option_map (λ x. x.1) found) ≡ filter (is_in s name) design
found_alone once text design reads s name found is = ap (λ (x : Option (List Token × Record)). option_to_list (option_map (λ y. y.1) x)) is ∙ sym (once text design reads s name)
