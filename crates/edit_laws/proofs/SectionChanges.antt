-- Changes of a section's statements: the number in its header, an entry put before its END, and one taken out.
use Rattle.std.proofs.Common.{◌≡◌, ◌≤◌, ◌<◌, inl, inr, ℕ, ◌+◌, Bool, true, false, ℤ, pos, List, [], ◌∷◌, ◌++◌, length, drop, Option, Some, None, Ok, decimal, arith, refl, sym, ap, ap₂, subst, ◌∙◌, ⊎_elim, codes, append-nil}
use Rattle.std.specs.Prelude.{nat_abs}
use Rattle.std.specs.Fmt.{signed_decimal}
use Rattle.std.specs.Int.Signed.{le_z}
use Rattle.std.specs.List.{All}
use Rattle.std.proofs.lemmas.Int.{ints}
use Rattle.std.proofs.lemmas.List.{length-map, drop_all}
use Rattle.design_model.specs.Units.{whole as whole_number}
use Rattle.design_model.specs.declared.mode.Mode.{Mode}
use Rattle.design_model.specs.declared.mode.Mode.TheVariants.{Top, In, Props, After}
use Rattle.design_model.specs.declared.mode.Section.{Section}
use Rattle.design_model.specs.declared.mode.Section.TheVariants.{Components}
use Rattle.design_model.specs.EnumWords.{section_word, sections}
use Rattle.form_meanings.specs.Meaning.{find}
use Rattle.form_meanings.specs.Words.{is_place}
use Rattle.statement_model.specs.Tokens.{Token, lex}
use Rattle.statement_model.specs.Boundaries.{words, statements, last_of, up_to, is_last, is_alone}
use Rattle.statement_model.specs.Folds.{all_from}
use Rattle.statement_model.specs.Form.{spell, Fits, whole}
use Rattle.statement_model.specs.Reading.{read_form, read_one}
use Rattle.def_grammar.specs.Numbers.{passes, is_count}
use Rattle.def_grammar.specs.Records.{Entry, section_of, Record, top, end_section, entry, def_ending, mode_after, statement, def}
use Rattle.def_grammar.specs.Top.{header, header_statement, top_statement}
use Rattle.statement_laws.specs.ReadingLaws.{read_statements}
use Rattle.statement_laws.proofs.Whole.{reads_as_spelled}
use Rattle.edit_rules.specs.Plans.{StatementChange}
use Rattle.edit_rules.specs.SectionEdits.{count_change, put_change, take_change}
use Rattle.lefdef_tokens.specs.Laws.{state_after}
use Rattle.splicing_laws.specs.SplicingLaws.{AreTokens}
use Rattle.splicing_laws.specs.WordLaws.{is_one_word, SpacedAreTokens, PrintedNumbersAreWords, PrintedNumbersAreRead}
use Rattle.edit_laws.specs.EntryLaws.{IsWritten}
use Rattle.edit_laws.specs.StatementLaws.{changed_words, forms, AreSaid, IsChange}
use Rattle.edit_laws.proofs.EntryForms.{entry_read}
use Rattle.edit_laws.proofs.FoundEntries.{found_by_word}
use Rattle.edit_laws.proofs.Plain.{GoesOn, number_plain}
use Rattle.edit_laws.proofs.SaidStatements.{to_reading, said_append}
use Rattle.edit_laws.proofs.SameWords.{HasForm, one_reads, no_words}
use Rattle.edit_laws.proofs.SectionModes.{MayStand, statement_is}
use Rattle.edit_laws.proofs.WholeEntries.{statement_to_end}
use Rattle.edit_laws.proofs.WrittenEntries.{one_is_said, written_is_said}

-- the header of a section ends with its first ;
header_ends : (s : Section) → def_ending (section_word s) ≡ up_to (codes ";")
unfolding section_word
header_ends Components = refl
header_ends _ = refl

-- the mode in which a header stands, and that of an END
header_mode : (m : Mode) (s : Section) (n : List ℕ) → MayStand m (top (header s n)) → m ≡ Top
header_mode Top s n may = refl
header_mode (In t) s n may = absurd may
header_mode Props s n may = absurd may
header_mode After s n may = absurd may

end_mode : (m : Mode) (s : Section) → MayStand m (end_section s) → m ≡ In s
end_mode Top s may = absurd may
end_mode (In t) s may = ap (λ (u : Section). In u) (sym may)
end_mode Props s may = absurd may
end_mode After s may = absurd may

-- their words
header_words : (s : Section) (n : List ℕ) → spell (statement Top) (top (header s n)) ≡ section_word s ∷ n ∷ codes ";" ∷ []
unfolding statement top_statement header_statement
header_words s n = refl

end_words : (s : Section) → spell (statement (In s)) (end_section s) ≡ codes "END" ∷ section_word s ∷ []
unfolding statement
end_words s = refl

-- a number of entries
module _ (words_so : PrintedNumbersAreWords) (read_so : PrintedNumbersAreRead) (n : ℕ) (few : n ≤ 2147483647) where
  count_is_good : is_count (decimal n) ≡ true
  unfolding is_count
  count_is_good =
      let counts : le_z (pos 0) (pos n) ≡ true = grind (arith, ints) in
      ap (passes (λ n. le_z (pos 0) n)) (read_so (pos n) few) ∙ counts

  header_fits : (s : Section) → Fits (statement Top) (top (header s (decimal n))) []
  unfolding statement top_statement header_statement
  header_fits s = (rw (found_by_word s) refl, (found_by_word s, (words_so (pos n)).1))

  header_good : (s : Section) → (statement Top).of.bad (top (header s (decimal n))) [] ≡ None
  unfolding statement top_statement header_statement
  header_good s = rw count_is_good refl

  header_form : (s : Section) → whole (statement Top) (section_word s ∷ decimal n ∷ codes ";" ∷ []) ≡ Some (top (header s (decimal n)), None)
  header_form s =
      let rec = top (header s (decimal n)) in
      ap (whole (statement Top)) (sym (header_words s (decimal n)))
      ∙ ((reads_as_spelled (statement Top)).1 rec (header_fits s) ∙ ap (λ (bad : Option ℕ). Some (rec, bad)) (header_good s))

  header_cut : (s : Section) (qs : List Token) → words qs ≡ section_word s ∷ decimal n ∷ codes ";" ∷ [] → statements def_ending [] qs ≡ (qs ∷ [], [])
  header_cut s qs e = statement_to_end qs (section_word s) (decimal n ∷ []) (header_ends s) e ((number_plain is_count).plain (decimal n) [] (words_so (pos n)).1)

  header_said : (s : Section) → AreSaid Top (section_word s ∷ decimal n ∷ codes ";" ∷ []) (top (header s (decimal n)) ∷ []) (In s)
  header_said s = one_is_said Top (section_word s ∷ decimal n ∷ codes ";" ∷ []) (top (header s (decimal n))) (header_cut s) (header_form s)

  -- another number in a header that reads is a change of it
  pub counts_are_changes : SpacedAreTokens → (ps : List Token) (s : Section) (old : List ℕ) (m after : Mode) → read_form def m ps ≡ Ok (top (header s old), after) → IsChange ps (top (header s old)) (count_change s n)
  counts_are_changes spaced_so ps s old mode next reads =
      let is = statement_is mode ps (top (header s old)) next reads in
      let spelled : words ps ≡ section_word s ∷ old ∷ codes ";" ∷ []
      = is.spelled ∙ (ap (λ (m : Mode). spell (statement m) (top (header s old))) (header_mode mode s old is.may) ∙ header_words s old) in
      let long : length (words ps) ≡ length ps = length-map ps (λ (p : Token). p.bytes) in
      let three : length (words ps) ≡ 3 = ap length spelled in
      let put = spaced_so [] (decimal n ∷ []) refl (rw (words_so (pos n)).0 refl) in
      let ws : changed_words (count_change s n) (words put.0) (words ps) ≡ section_word s ∷ decimal n ∷ codes ";" ∷ []
      = ap₂ (λ (vs us : List (List ℕ)). changed_words (count_change s n) vs us) put.2 spelled in
      record {
        put = put.0;
        tokens = put.1;
        some = omega arith;
        within = omega arith;
        apart = λ none some. absurd (omega (arith, none));
        says = λ m after read.
            let now = statement_is m ps (top (header s old)) after read in
            subst (λ (vs : List (List ℕ)). AreSaid m vs (top (header s (decimal n)) ∷ []) after) (sym ws)
            (subst (λ (k : Mode). AreSaid k (section_word s ∷ decimal n ∷ codes ";" ∷ []) (top (header s (decimal n)) ∷ []) after) (sym (header_mode m s old now.may))
            (subst (λ (k : Mode). AreSaid Top (section_word s ∷ decimal n ∷ codes ";" ∷ []) (top (header s (decimal n)) ∷ []) k) now.next (header_said s)));
      }

-- the END of a section is one statement
end_cut : (s : Section) (qs : List Token) → words qs ≡ codes "END" ∷ section_word s ∷ [] → statements def_ending [] qs ≡ (qs ∷ [], [])
unfolding statements last_of
end_cut s [] e = absurd (cc)
end_cut s (p ∷ []) e = absurd (cc)
end_cut s (p ∷ q ∷ []) e =
    let same : p.bytes ≡ codes "END" = cc in
    rw (ap (λ (w : List ℕ). is_alone (def_ending w)) same, ap (λ (w : List ℕ). is_last (def_ending w) q.bytes) same) refl
end_cut s (p ∷ q ∷ r ∷ qs) e = absurd (cc)

-- an entry put before the END of its section
pub puts_are_changes : (ps : List Token) (s : Section) (put : List ℕ) (qs : List Token) (e : Entry) (m after : Mode) → read_form def m ps ≡ Ok (end_section s, after) → AreTokens put qs → IsWritten (words qs) e → section_of e ≡ s
    → IsChange ps (end_section s) (put_change s put e)
puts_are_changes ps s put qs e mode next reads tokens written section =
    let is = statement_is mode ps (end_section s) next reads in
    let spelled : words ps ≡ codes "END" ∷ section_word s ∷ [] = is.spelled ∙ (ap (λ (m : Mode). spell (statement m) (end_section s)) (end_mode mode s is.may) ∙ end_words s) in
    let long : length (words ps) ≡ length ps = length-map ps (λ (p : Token). p.bytes) in
    let two : length (words ps) ≡ 2 = ap length spelled in
    let here : AreSaid (In s) (words qs) (entry e ∷ []) (In s) = subst (λ (t : Section). AreSaid (In t) (words qs) (entry e ∷ []) (In t)) section (written_is_said (words qs) e written) in
    record {
      put = qs;
      tokens = tokens;
      some = omega arith;
      within = omega arith;
      apart = λ none some. absurd (omega (arith, some));
      says = λ m after read.
          let now = statement_is m ps (end_section s) after read in
          let at = end_mode m s now.may in
          let cut = λ (vs : List Token) (e : words vs ≡ words ps). end_cut s vs (e ∙ spelled) in
          let end : AreSaid m (words ps) (end_section s ∷ []) after = subst (λ (k : Mode). AreSaid m (words ps) (end_section s ∷ []) k) now.next (one_is_said m (words ps) (end_section s) cut now.form) in
          let first : AreSaid m (words qs) (entry e ∷ []) m = subst (λ (k : Mode). AreSaid k (words qs) (entry e ∷ []) k) (sym at) here in
          said_append m m after (words qs) (words ps) (entry e ∷ []) (end_section s ∷ []) first end;
    }

-- no tokens say nothing
none_said : (m : Mode) → AreSaid m [] [] m
unfolding read_statements
none_said m qs e = rw (no_words qs e) refl

no_bytes : AreTokens [] []
unfolding lex state_after
no_bytes = record { pieces = refl; end = refl; closed = tt }

-- an entry taken out
pub takes_are_changes : (ps : List Token) (e : Entry) → 0 < length ps → IsChange ps (entry e) (take_change ps)
takes_are_changes ps e some =
    let long : length (words ps) ≡ length ps = length-map ps (λ (p : Token). p.bytes) in
    record {
      put = [];
      tokens = no_bytes;
      some = some;
      within = omega arith;
      apart = λ none some. absurd (omega (arith, some));
      says = λ m after read.
          let is = entry_read ps e m after read in
          let none : changed_words (take_change ps) [] (words ps) ≡ [] = drop_all (0 + length ps) (words ps) (omega arith) in
          subst (λ (vs : List (List ℕ)). AreSaid m vs [] after) (sym none) (subst (λ (k : Mode). AreSaid m [] [] k) (sym is.same) (none_said m));
    }
