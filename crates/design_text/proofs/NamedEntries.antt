-- Entries of a section by their names, among records and by what is found of them.
use Rattle.std.proofs.Common.{◌≡◌, ◌≤◌, ◌&&◌, ◌||◌, ℕ, Bool, true, false, cond, List, [], ◌∷◌, Option, Some, None, refl, sym, ap, ap₂, subst, ◌∙◌, inl, inr, arith, if◌then◌else◌}
use Rattle.std.specs.Prelude.{count_by, is_some}
use Rattle.std.specs.List.{cons_option, filter, filter_map, find, list_any, zip}
use Rattle.std.specs.Option.{option_map, option_to_list}
use Rattle.std.specs.Str.{bytes_eq}
use Rattle.std.proofs.lemmas.Bool.{cases_Bool}
use Rattle.form_meanings.specs.Words.{◌>>=◌}
use Rattle.design_model.specs.declared.identifier.StmtId.{StmtId}
use Rattle.design_model.specs.declared.mode.Mode.TheVariants.{Top}
use Rattle.design_model.specs.declared.mode.Section.{Section}
use Rattle.design_model.specs.declared.mode.Section.TheVariants.{Components}
use Rattle.design_model.specs.EnumWords.{section_word}
use Rattle.statement_model.specs.Tokens.{Token, tokens}
use Rattle.statement_reader.specs.ReadingLaws.{RecordsAreLocated}
use Rattle.def_grammar.specs.Components.{Component}
use Rattle.def_grammar.specs.Located.{entry_at, is_entry, is_named, located}
use Rattle.def_grammar.specs.Records.{Entry, Record, def, entry_of, name_of, section_of}
use Rattle.entry_rules.specs.EntryNames.{entry_named}
use Rattle.entry_rules.specs.Unknown.{component_named, is_in, is_same, stands_in}
use Rattle.piece_laws.specs.KeyLaws.{FreshIsOnce, KeysAreApart}
use Rattle.text_pieces.specs.Statements.{statements_of}
use Rattle.design_tables.specs.Lookups.{Finds, is_named_entry}
use Rattle.design_names.proofs.NameLemmas.{component_stands}
use Rattle.edit_laws.proofs.PlanTexts.{tokens_read}
use Rattle.def_splice.specs.LookupViews.{of_entry}
use Rattle.def_splice.proofs.SearchSteps.{all_said, any_entry, said}
use Rattle.design_text.specs.DesignTexts.{Content, IsNumbered, design_of, numbers_of, text_of}
use Rattle.design_text.specs.NamedEntries.{NamedOnce}
use Rattle.design_text.proofs.FoundStatements.{any_numbered, any_zip, count_none, count_one, many_are}
use Rattle.design_text.proofs.KeptKeys.{entries_once}

abbrev Located : Type 0
Located = List (List Token × Record)

abbrev pub entry_said : List Token × Record → Option Entry
entry_said x = entry_of x.1

module _ (s : Section) (name : List ℕ) where
  abbrev is_it : Record → Bool
  is_it = is_named_entry s name

  none_left : (rs : List Record) → count_by is_it rs ≤ 0 → filter is_it rs ≡ []
  none_left [] few = refl
  none_left (r ∷ rs) few = elim (cases_Bool (is_it r)) [
    | inl so ↦ absurd (omega (arith, few, count_one is_it r rs so))
    | inr not_so ↦ rw not_so (none_left rs (omega (arith, few, count_none is_it r rs not_so)))
  ]

  -- where there is one at most, all are the first
  only_first : (xs : Located) → count_by is_it (said xs) ≤ 1 → filter is_it (said xs) ≡ option_to_list (option_map (λ x. x.1) (entry_at s name xs))
  only_first [] few = refl
  only_first (x ∷ xs) few = elim (cases_Bool (is_it x.1)) [
    | inl so ↦ rw so (ap (λ (rs : List Record). x.1 ∷ rs) (none_left (said xs) (omega (arith, few, count_one is_it x.1 (said xs) so))))
    | inr not_so ↦ rw not_so (only_first xs (omega (arith, few, count_none is_it x.1 (said xs) not_so)))
  ]

  -- a name is looked up by two tests, which are one
  same_test : (o : Option (List ℕ)) → is_same name o ≡ is_named name o
  same_test None = refl
  same_test (Some own) = refl

  same_entry : (o : Option Entry) → of_entry (is_in s name) o ≡ is_entry s name o
  same_entry None = refl
  same_entry (Some e) = ap (λ (b : Bool). bytes_eq (section_word (section_of e)) (section_word s) && b) (same_test (name_of e))

  stands_where : (rs : List Record) → stands_in rs s name ≡ list_any is_it rs
  stands_where [] = refl
  stands_where (r ∷ rs) = any_entry (is_in s name) r (entry_of r) rs refl ∙ ap₂ (λ (a b : Bool). a || b) (same_entry (entry_of r)) (stands_where rs)

  -- the first entry of a name by the records, and with its tokens
  picked : (a b : Bool) (x : List Token × Record) (e : Entry) (later : Option Entry) (found : Option (List Token × Record)) → a ≡ b → entry_said x ≡ Some e → later ≡ (found >>= entry_said)
      → cond a (Some e) later ≡ ((if b then Some x else found) >>= entry_said)
  picked true true x e later found same is h = sym is
  picked true false x e later found same is h = absurd (cc)
  picked false true x e later found same is h = absurd (cc)
  picked false false x e later found same is h = h

  one_more : (x : List Token × Record) (o : Option Entry) (xs : Located) → entry_said x ≡ o → entry_named (said xs) s name ≡ (entry_at s name xs >>= entry_said)
      → find (is_in s name) (cons_option o (filter_map entry_of (said xs))) ≡ ((if is_entry s name o then Some x else entry_at s name xs) >>= entry_said)
  one_more x None xs is later = later
  one_more x (Some e) xs is later = picked (is_in s name e) (is_entry s name (Some e)) x e (entry_named (said xs) s name) (entry_at s name xs) (same_entry (Some e)) is later

  first_named : (xs : Located) → entry_named (said xs) s name ≡ (entry_at s name xs >>= entry_said)
  first_named [] = refl
  first_named (x ∷ xs) = one_more x (entry_said x) xs refl (first_named xs)

  -- a number that is found is that of one that passes
  found_any : (xs : List (StmtId × Record)) (o : Option StmtId) → Finds is_it xs o → is_some o ≡ list_any (λ (x : StmtId × Record). is_it x.1) xs
  found_any xs None none = sym none
  found_any xs (Some id) is = sym (any_numbered is_it id xs is)

  module _ (c : Content) (design : List Record) (k : IsNumbered c design) where
    pub named_is : entry_named (design_of c) s name ≡ (entry_at s name (located (text_of c) design) >>= entry_said)
    named_is = first_named (statements_of (text_of c)) ∙ ap (λ (xs : Located). entry_at s name xs >>= entry_said) (sym k.located)

    pub has_is : (o : Option StmtId) → Finds is_it (zip (numbers_of c) design) o → is_some o ≡ stands_in (design_of c) s name
    has_is o finds =
        found_any (zip (numbers_of c) design) o finds
        ∙ any_zip is_it (numbers_of c) design (many_are c design k)
        ∙ sym (stands_where design)
        ∙ ap (λ (rs : List Record). stands_in rs s name) (sym k.said)

pub named_once : RecordsAreLocated def → KeysAreApart def → FreshIsOnce → NamedOnce
named_once law apart_so once_so text design reads s name =
    let once = (once_so _).0 (apart_so Top [] (tokens text) design (tokens_read text design reads)).1 in
    let all = all_said law text design reads in
    let few = subst (λ (rs : List Record). count_by (is_named_entry s name) rs ≤ 1) (sym all) (entries_once s name design once) in
    ap (filter (is_named_entry s name)) (sym all) ∙ only_first s name (located text design) few

-- a component is there where it is found
seen_or_not : {A B : Type 0} (view : A → B) (o : Option A) → is_some o ≡ is_some (option_map view o)
seen_or_not view None = refl
seen_or_not view (Some a) = refl

pub component_there : {A : Type 0} (view : A → Component) (design : List Record) (name : List ℕ) (found : Option A) → option_map view found ≡ component_named design name → is_some found ≡ stands_in design Components name
component_there view design name found is = seen_or_not view found ∙ ap (λ (o : Option Component). is_some o) is ∙ component_stands design name
