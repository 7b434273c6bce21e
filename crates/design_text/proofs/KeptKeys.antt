-- An entry of a name, and a header of a section, stand once.
use Rattle.std.proofs.Common.{◌≡◌, ◌≤◌, ◌+◌, ◌&&◌, ℕ, Bool, true, false, cond, List, [], ◌∷◌, map, Option, Some, None, refl, sym, ap, ap₂, ◌∙◌, inl, inr, arith}
use Rattle.std.specs.Prelude.{count_by}
use Rattle.std.specs.Option.{option_map}
use Rattle.std.specs.Str.{bytes_eq}
use Rattle.std.proofs.lemmas.Bool.{cases_Bool, and_parts}
use Rattle.std.proofs.lemmas.List.Sums.{sum_by-cons}
use Rattle.std.proofs.lemmas.Slice.Eq.{bytes_eq-Decides}
use Rattle.design_model.specs.declared.mode.Section.{Section}
use Rattle.design_model.specs.declared.mode.Section.TheVariants.{Components}
use Rattle.design_model.specs.EnumWords.{section_word}
use Rattle.statement_model.specs.Grammar.{Key}
use Rattle.statement_model.specs.Reading.{same_words}
use Rattle.statement_model.specs.Tokens.{Token}
use Rattle.def_grammar.specs.Components.{Component}
use Rattle.def_grammar.specs.Located.{component_at, entry_at, is_named}
use Rattle.def_grammar.specs.Records.{Record, blockage, component, component_of, end_section, entry, entry_key, group, in_properties, key_of, name_of, net, pin, region, rule, section_of, skipped, special_net, top, via}
use Rattle.def_grammar.specs.Top.{header, plain}
use Rattle.piece_laws.specs.KeyLaws.{StandOnce}
use Rattle.design_tables.specs.Lookups.{is_named_entry}
use Rattle.edit_laws.proofs.Keys.{key_itself}
use Rattle.edit_rules.specs.SectionEdits.{is_header}
use Rattle.def_splice.specs.LookupViews.{first_where}
use Rattle.design_text.proofs.FoundStatements.{count_none, count_one}

-- a test that only statements with one key pass
module _ (test : Record → Bool) (w : List ℕ) (ws : Key) (keyed : (r : Record) → test r ≡ true → key_of r ≡ w ∷ ws) where
  abbrev has_key : Key → Bool
  has_key = same_words (w ∷ ws)

  key_more : (r : Record) (rs : List Record) → count_by has_key (map key_of (r ∷ rs)) ≡ cond (has_key (key_of r)) 1 0 + count_by has_key (map key_of rs)
  key_more r rs = sum_by-cons (λ k. cond (has_key k) 1 0) (key_of r) (map key_of rs)

  few : (rs : List Record) → count_by test rs ≤ count_by has_key (map key_of rs)
  few [] = omega arith
  few (r ∷ rs) =
      let k = key_more r rs in
      let later = few rs in
      elim (cases_Bool (test r)) [
        | inl so ↦
            let own : has_key (key_of r) ≡ true = ap has_key (keyed r so) ∙ key_itself (w ∷ ws) in
            let one_key : count_by has_key (map key_of (r ∷ rs)) ≡ 1 + count_by has_key (map key_of rs) = k ∙ ap (λ (b : Bool). cond b 1 0 + count_by has_key (map key_of rs)) own in
            omega (arith, count_one test r rs so, one_key, later)
        | inr not_so ↦ omega (arith, count_none test r rs not_so, k, later)
      ]

  pub at_most_one : (rs : List Record) → StandOnce (map key_of rs) → count_by test rs ≤ 1
  at_most_one rs once = omega (arith, few rs, once (w ∷ ws) (λ e. absurd (cc)))

-- the key of an entry is its section and its name
named_key : (s t : Section) (name : List ℕ) (o : Option (List ℕ)) → section_word t ≡ section_word s → is_named name o ≡ true → entry_key t o ≡ section_word s ∷ name ∷ []
named_key s t name None word named = absurd (cc)
named_key s t name (Some own) word named = ap₂ (λ (v w : List ℕ). v ∷ w ∷ []) word ((bytes_eq-Decides own name).0 named)

entry_has_key : (s : Section) (name : List ℕ) (r : Record) → is_named_entry s name r ≡ true → key_of r ≡ section_word s ∷ name ∷ []
entry_has_key s name (top t) is = absurd (cc)
entry_has_key s name (in_properties p) is = absurd (cc)
entry_has_key s name (end_section t) is = absurd (cc)
entry_has_key s name (entry e) is =
    let both = and_parts (bytes_eq (section_word (section_of e)) (section_word s)) (is_named name (name_of e)) is in
    named_key s (section_of e) name (name_of e) ((bytes_eq-Decides (section_word (section_of e)) (section_word s)).0 both.0) both.1

pub entries_once : (s : Section) (name : List ℕ) (rs : List Record) → StandOnce (map key_of rs) → count_by (is_named_entry s name) rs ≤ 1
entries_once s name rs once = at_most_one (is_named_entry s name) (section_word s) (name ∷ []) (entry_has_key s name) rs once

-- that of a header is its section
header_has_key : (s : Section) (r : Record) → is_header s r ≡ true → key_of r ≡ section_word s ∷ []
header_has_key s (top (header t n)) is = ap (λ (w : List ℕ). w ∷ []) (sym ((bytes_eq-Decides (section_word s) (section_word t)).0 is))
header_has_key s (top (plain p)) is = absurd (cc)
header_has_key s (in_properties p) is = absurd (cc)
header_has_key s (end_section t) is = absurd (cc)
header_has_key s (entry e) is = absurd (cc)

pub headers_once : (s : Section) (rs : List Record) → StandOnce (map key_of rs) → count_by (is_header s) rs ≤ 1
headers_once s rs once = at_most_one (is_header s) (section_word s) [] (header_has_key s) rs once

-- the first entry of a name
pub entry_first : (s : Section) (name : List ℕ) (xs : List (List Token × Record)) → first_where (is_named_entry s name) xs ≡ entry_at s name xs
entry_first s name [] = refl
entry_first s name (x ∷ xs) = elim (cases_Bool (is_named_entry s name x.1)) [ inl is ↦ rw is refl | inr other ↦ rw other (entry_first s name xs) ]

-- the component of a statement that is found
abbrev pub component_in : Option (List Token × Record) → Option (List Token × Component)
component_in None = None
component_in (Some x) = option_map (λ (c : Component). (x.0, c)) (component_of x.1)

never : (b : Bool) → (b && false) ≡ false
never true = refl
never false = refl

module _ (name : List ℕ) where
  abbrev is_it : Record → Bool
  is_it = is_named_entry Components name

  -- a component has the name, or isn't the entry
  with_name : (ps : List Token) (c : Component) (xs : List (List Token × Record)) → component_in (first_where is_it xs) ≡ component_at name xs
      → component_in (first_where is_it ((ps, entry (component c)) ∷ xs)) ≡ component_at name ((ps, entry (component c)) ∷ xs)
  unfolding section_word
  with_name ps c xs later = elim (cases_Bool (bytes_eq c.name name)) [ inl is ↦ rw is refl | inr other ↦ rw other later ]

  pub component_first : (xs : List (List Token × Record)) → component_in (first_where is_it xs) ≡ component_at name xs
  unfolding section_word
  component_first [] = refl
  component_first ((ps, top t) ∷ xs) = component_first xs
  component_first ((ps, in_properties p) ∷ xs) = component_first xs
  component_first ((ps, end_section s) ∷ xs) = component_first xs
  component_first ((ps, entry (component c)) ∷ xs) = with_name ps c xs (component_first xs)
  component_first ((ps, entry (pin p)) ∷ xs) = component_first xs
  component_first ((ps, entry (region r)) ∷ xs) = component_first xs
  component_first ((ps, entry (group g)) ∷ xs) = component_first xs
  component_first ((ps, entry (blockage b)) ∷ xs) = component_first xs
  component_first ((ps, entry (net n)) ∷ xs) = component_first xs
  component_first ((ps, entry (special_net n)) ∷ xs) = component_first xs
  component_first ((ps, entry (via v)) ∷ xs) = component_first xs
  component_first ((ps, entry (rule r)) ∷ xs) = component_first xs
  component_first ((ps, entry (skipped s tokens)) ∷ xs) = rw (never (bytes_eq (section_word s) (section_word Components))) (component_first xs)

  -- the component of a name is that of the entry of the name
  pub component_at_is : (xs : List (List Token × Record)) → component_in (entry_at Components name xs) ≡ component_at name xs
  component_at_is xs = sym (ap component_in (entry_first Components name xs)) ∙ component_first xs
