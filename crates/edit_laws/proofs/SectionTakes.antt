-- A component that is taken out, and its section's number, are two changes, which make the edited design.
use Rattle.std.proofs.Common.{codes, ◌≡◌, ◌<◌, ℕ, ◌-◌, true, false, ◌&&◌, List, [], ◌∷◌, ◌++◌, length, map, decimal, Option, Some, None, Ok, arith, refl, sym, ap, ap₂, subst, ◌∙◌, ⊎_elim, append_assoc}
use Rattle.std.specs.Str.{bytes_eq}
use Rattle.std.proofs.lemmas.Bool.{cases_Bool as cases, and_parts, and_from, and_right}
use Rattle.std.proofs.lemmas.List.{length-map}
use Rattle.std.proofs.lemmas.List.Elements.{All-head, All-tail}
use Rattle.std.proofs.lemmas.Slice.Eq.{bytes_eq-Decides}
use Rattle.design_model.specs.declared.mode.Mode.TheVariants.{In}
use Rattle.design_model.specs.declared.mode.Section.{Section}
use Rattle.design_model.specs.declared.mode.Section.TheVariants.{Components}
use Rattle.design_model.specs.EnumWords.{section_word}
use Rattle.statement_model.specs.Tokens.{Token, tokens}
use Rattle.statement_model.specs.Boundaries.{words}
use Rattle.statement_model.specs.Grammar.{Key}
use Rattle.statement_model.specs.Reading.{same_words}
use Rattle.def_grammar.specs.Components.{Component}
use Rattle.def_grammar.specs.Located.{is_named, located}
use Rattle.def_grammar.specs.Records.{component, section_of, name_of, Record, top, in_properties, end_section, entry, entry_key, key_of, def, read_def}
use Rattle.def_grammar.specs.Top.{header}
use Rattle.edit_rules.specs.Plans.{StatementChange}
use Rattle.edit_rules.specs.SectionEdits.{is_section, is_header, tokens_where, entries_in, recounted, without, count_change, take_change, two_changes, taking}
use Rattle.splicing_laws.specs.WordLaws.{SpacedAreTokens, PrintedNumbersAreWords, PrintedNumbersAreRead}
use Rattle.edit_laws.specs.EntryLaws.{IsWritten}
use Rattle.edit_laws.specs.StatementLaws.{records, StandsAmong, Make, AreOnce}
use Rattle.edit_laws.proofs.EditedSections.{recounted_keys, recounted_stays, recounted_parts, has_name, without_parts}
use Rattle.edit_laws.proofs.EntryCounts.{few_in_section}
use Rattle.edit_laws.proofs.Keys.{Apart, key_itself}
use Rattle.edit_laws.proofs.PlacedWords.{said}
use Rattle.edit_laws.proofs.RemasteredWords.{behind_macro, spelled_is}
use Rattle.edit_laws.proofs.SaidStatements.{same_keys_once}
use Rattle.edit_laws.proofs.SectionChanges.{counts_are_changes, takes_are_changes}
use Rattle.edit_laws.proofs.SectionKeys.{without_one}
use Rattle.edit_laws.proofs.SectionModes.{Located, NoneOf, none_append, section_itself}
use Rattle.edit_laws.proofs.SectionParts.{first_where, stood, Entered, entered}
use Rattle.edit_laws.proofs.Stands.{seconds}
use Rattle.edit_laws.proofs.TwoChanges.{records_append, once, stands_second, design_parts, two_make}
use Rattle.statement_model.specs.Form.{spell}
use Rattle.def_grammar.specs.Components.{component_form}

-- no record of these is the entry of a section and a name
module _ (s : Section) (name : List ℕ) where
  abbrev key : Key
  key = section_word s ∷ name ∷ []

  other_entry : (t : Section) (own : Option (List ℕ)) → same_words key (entry_key t own) ≡ false → (bytes_eq (section_word t) (section_word s) && is_named name own) ≡ false
  other_entry t None differs = and_right (bytes_eq (section_word t) (section_word s)) false refl
  other_entry t (Some own) differs = ⊎_elim
      (λ (is : (bytes_eq (section_word t) (section_word s) && bytes_eq own name) ≡ true).
      let both = and_parts (bytes_eq (section_word t) (section_word s)) (bytes_eq own name) is in
      let section = (bytes_eq-Decides (section_word t) (section_word s)).0 both.0 in
      let named = (bytes_eq-Decides own name).0 both.1 in
      let same : same_words key (section_word t ∷ own ∷ []) ≡ true = ap₂ (λ (u v : List ℕ). same_words key (u ∷ v ∷ [])) section named ∙ key_itself key in
      absurd (cc))
      (λ (none : (bytes_eq (section_word t) (section_word s) && bytes_eq own name) ≡ false). none)
      (cases (bytes_eq (section_word t) (section_word s) && bytes_eq own name))

  other_record : (r : Record) → same_words key (key_of r) ≡ false → has_name s name r ≡ false
  other_record (top t) differs = refl
  other_record (in_properties p) differs = refl
  other_record (end_section t) differs = refl
  other_record (entry e) differs = other_entry (section_of e) (name_of e) differs

  no_others : (xs : Located) → Apart def (section_word s) (name ∷ []) (seconds xs) → NoneOf (has_name s name) xs
  no_others [] apart = tt
  no_others (x ∷ xs) apart =
      let Differs = λ (r : Record). same_words key (key_of r) ≡ false in
      (other_record x.1 (All-head Differs x.1 (seconds xs) apart), no_others xs (All-tail Differs x.1 (seconds xs) apart))

-- the tokens of a component's entry are some
some_tokens : (ps : List Token) (c : Component) → IsWritten (words ps) (component c) → 0 < length ps
some_tokens ps c is =
    let long : length (words ps) ≡ length ps = length-map ps (λ (p : Token). p.bytes) in
    let some : length (words ps) ≡ length (spell component_form c) = ap length (said ps c is) in
    let more : length (spell component_form c) ≡ length (codes "-" ∷ c.name ∷ c.cell ∷ behind_macro c) = ap length (spelled_is c) in
    omega arith

module _ (spaced_so : SpacedAreTokens) (words_so : PrintedNumbersAreWords) (read_so : PrintedNumbersAreRead) (text : List ℕ) (design : List Record) (reads : read_def text ≡ Ok design) where
  -- a component taken out
  module _ (ps : List Token) (c : Component) (st : StandsAmong (located text design) ps (entry (component c))) (written : IsWritten (words ps) (component c)) where
    abbrev number : ℕ
    number = length (entries_in Components design) - 1

    abbrev new : List Record
    new = recounted Components number (without Components c.name design)

    parts : Entered Components text design reads ps (entry (component c)) st.others
    parts = entered Components text design reads ps (component c) st refl

    take_changes_are : taking Components ps (located text design) design ≡ (parts.head, count_change Components number) ∷ (ps, take_change ps) ∷ []
    take_changes_are =
        let p = parts in
        let head : tokens_where (is_header Components) (located text design) ≡ Some p.head
        = ap (tokens_where (is_header Components)) p.is
        ∙ first_where (is_header Components) p.before (p.inside ++ (ps, entry (component c)) ∷ st.others) p.head (top (header Components p.number)) p.no_heads.0 (section_itself Components) in
        ap (λ (x : Option (List Token)). two_changes x (count_change Components number) (Some ps) (take_change ps)) head

    -- the design without it, by its parts
    abbrev before : Located
    before = parts.before ++ (parts.head, top (header Components parts.number)) ∷ parts.inside

    whole : records before ++ entry (component c) ∷ records st.others ≡ design
    whole = let p = parts in design_parts text design reads p.before p.head (top (header Components p.number)) p.inside ps (entry (component c)) st.others p.is

    left : without Components c.name design ≡ records before ++ records st.others
    left =
        let p = parts in
        let there = stood text design reads ps (entry (component c)) (stands_second text design reads p.before p.head (top (header Components p.number)) p.inside ps (entry (component c)) st.others p.is) in
        let apart = there.apart (section_word Components) (c.name ∷ []) refl in
        let itself = and_from (is_section Components Components) (bytes_eq c.name c.name) (section_itself Components) ((bytes_eq-Decides c.name c.name).1 refl) in
        ap (without Components c.name) (sym whole)
        ∙ without_parts Components c.name before st.others (component c) (no_others Components c.name before apart.0) (no_others Components c.name st.others apart.1) itself

    without_it : new ≡ records parts.before ++ (top (header Components (decimal number)) ∷ (records parts.inside ++ records st.others))
    without_it =
        let p = parts in
        let h = top (header Components p.number) in
        let grouped : records before ++ records st.others ≡ records p.before ++ h ∷ (records p.inside ++ records st.others)
        = ap (λ (rs : List Record). rs ++ records st.others) (records_append p.before ((p.head, h) ∷ p.inside)) ∙ append_assoc (records p.before) (h ∷ records p.inside) (records st.others) in
        let stays = subst (λ (rs : List Record). recounted Components number rs ≡ rs) (records_append p.inside st.others)
        (recounted_stays Components number (p.inside ++ st.others) (none_append (is_header Components) p.inside st.others p.no_heads.1 p.no_heads.2)) in
        ap (recounted Components number) (left ∙ grouped) ∙ recounted_parts Components number p.number p.before (records p.inside ++ records st.others) p.no_heads.0 stays

    pub take_makes : Make (located text design) (taking Components ps (located text design) design) new
    take_makes =
        let p = parts in
        let h = top (header Components p.number) in
        let few = few_in_section text design reads Components in
        let count = counts_are_changes words_so read_so number (omega (arith, few)) spaced_so p.head Components p.number p.mode (In Components) p.read in
        let taken = takes_are_changes ps (component c) (some_tokens ps c written) in
        let made = two_make text design reads p.before p.head h p.inside ps (entry (component c)) st.others p.is (count_change Components number) (take_change ps) count taken in
        subst (λ (xs : List (List Token × StatementChange)). Make (located text design) xs new) (sym take_changes_are)
        (subst (λ (rs : List Record). Make (located text design) ((p.head, count_change Components number) ∷ (ps, take_change ps) ∷ []) rs) (sym without_it) made)

    pub take_once : AreOnce [] new
    take_once =
        let all = subst (λ (rs : List Record). AreOnce [] rs) (sym whole) (once text design reads) in
        let fewer = without_one (section_word Components) c.name (records before) (records st.others) (entry (component c)) [] refl all in
        let are = subst (λ (rs : List Record). AreOnce [] rs) (sym left) fewer in
        same_keys_once [] (without Components c.name design) new (recounted_keys Components number (without Components c.name design)) are
