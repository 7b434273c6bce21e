-- The bytes of an entry are one statement, which reads as the entry does in its text.
use Rattle.std.proofs.Common.{◌≡◌, ◌≤◌, ◌<◌, ℕ, ◌+◌, ◌-◌, List, [], ◌∷◌, ◌++◌, length, map, drop, Result, Ok, Option, Some, arith, refl, sym, ap, ap₂, subst, ◌∙◌, ⊎_elim, slice_range, append-nil}
use Rattle.std.proofs.lemmas.Bool.{cases_Bool as cases}
use Rattle.std.proofs.lemmas.List.{length-take, length-drop, length-map}
use Rattle.design_model.specs.declared.fault.Fault.{Fault}
use Rattle.design_model.specs.declared.mode.Mode.TheVariants.{Top, In}
use Rattle.design_model.specs.declared.mode.Section.{Section}
use Rattle.statement_model.specs.Tokens.{Token, Lexed, tokens, left_from}
use Rattle.statement_model.specs.Boundaries.{Ending, words, is_whole, cut, statements, statement_from, statement_at}
use Rattle.statement_model.specs.Cuts.{end_of_all}
use Rattle.statement_model.specs.Reading.{pos_of, with_left, read_found, read_at}
use Rattle.def_grammar.specs.Records.{Entry, section_of, Record, entry, def_ending, def}
use Rattle.def_grammar.specs.Located.{located, bytes_of}
use Rattle.lefdef_tokens.specs.Laws.{moved_token}
use Rattle.splicing_laws.specs.SliceLaws.{RunsAreTexts}
use Rattle.edit_laws.specs.AloneLaws.{EntriesStandAlone}
use Rattle.edit_laws.specs.EntryLaws.{IsWritten}
use Rattle.edit_laws.proofs.CutStatements.{joined, all_kept}
use Rattle.edit_laws.proofs.EntryForms.{entry_reads}
use Rattle.edit_laws.proofs.FoundEntries.{entry_found}
use Rattle.edit_laws.proofs.PlanTexts.{tokens_read}
use Rattle.edit_laws.proofs.StandingStatements.{stands}
use Rattle.edit_laws.proofs.WrittenEntries.{entries_are_written, tokens_need_text}

-- tokens that are one statement are the first, and nothing is left
one_is_cut : (ending : List ℕ → Ending) (before ps s : List Token) → statements ending before ps ≡ (s ∷ [], []) → cut ending before ps ≡ Some (s, [])
unfolding statements cut
one_is_cut ending before [] s e = let none : [] ≡ s ∷ [] = ap (λ (x : List (List Token) × List Token). x.0) e in absurd (cc)
one_is_cut ending before (p ∷ ps) s e = ⊎_elim
    (λ whole.
    let later = statements ending [] ps in
    let h = rw whole at e in
    let all : (before ++ p ∷ []) ∷ later.0 ≡ s ∷ [] = ap (λ (x : List (List Token) × List Token). x.0) h in
    let left : later.1 ≡ [] = ap (λ (x : List (List Token) × List Token). x.1) h in
    let first : before ++ p ∷ [] ≡ s = cc in
    let none : later.0 ≡ [] = cc in
    let empty : ps ≡ [] = sym (all_kept ending [] ps) ∙ ap₂ (λ (ss : List (List Token)) (rest : List Token). joined ss ++ rest) none left in
    rw whole (ap₂ (λ (t rest : List Token). Some (t, rest)) first empty))
    (λ more. let h = rw more at e in rw more (one_is_cut ending (before ++ p ∷ []) ps s h))
    (cases (is_whole ending (before ++ p ∷ [])))

-- tokens that are an entry's words are read as it, and nothing is left
entry_is_next : (ps : List Token) (end : Result ℕ Fault) (e : Entry) → IsWritten (words ps) e
    → read_at def (In (section_of e)) (record { pieces = ps; end = end }) ≡ Ok (Some (entry e, In (section_of e), record { pieces = []; end = end }))
unfolding read_at statement_at
entry_is_next ps end e is =
    let m = In (section_of e) in
    let l : Lexed = record { pieces = ps; end = end } in
    let left : Lexed = record { pieces = []; end = end } in
    let reads = entry_reads ps e is in
    let first = one_is_cut def_ending [] ps ps reads.0 in
    ap (λ (o : Option (List Token × List Token)). read_found def m l (statement_from o l)) first
    ∙ ap (with_left def left) reads.1

-- one statement has tokens
some_tokens : (ps : List Token) → statements def_ending [] ps ≡ (ps ∷ [], []) → 0 < length ps
unfolding statements
some_tokens [] e = let none : [] ≡ [] ∷ [] = ap (λ (x : List (List Token) × List Token). x.0) e in absurd (cc)
some_tokens (p ∷ ps) e = omega arith

-- words are the same wherever they stand
words_later : (k : ℕ) (ps : List Token) → words (map (moved_token k) ps) ≡ words ps
words_later k [] = refl
words_later k (p ∷ ps) = ap (λ (ws : List (List ℕ)). p.bytes ∷ ws) (words_later k ps)

same_length : (ps qs : List Token) → words ps ≡ words qs → length ps ≡ length qs
same_length ps qs e = sym (length-map ps _) ∙ (ap (λ (ws : List (List ℕ)). length ws) e ∙ length-map qs _)

-- bytes that are there end within the text
ends_within : (text : List ℕ) (from to : ℕ) → from + length (slice_range text from to) ≡ to → 0 < length (slice_range text from to) → to ≤ length text
ends_within text from to long some = omega (arith, long, some, length-take (to - from) (drop from text), length-drop from text)

-- the tokens of an entry's own bytes
record OwnTokens (text : List ℕ) (ps : List Token) : Type 0 where
  own : List Token
  end : Result ℕ Fault
  read : left_from (bytes_of text ps) 0 ≡ record { pieces = own; end = end }
  same : words own ≡ words ps
  forward : pos_of ps ≤ end_of_all ps
  within : end_of_all ps ≤ length text

-- so an entry with these words is read from them alone
reads_alone : (text : List ℕ) (ps : List Token) (e : Entry) (s : Section) (own : OwnTokens text ps) → section_of e ≡ s → IsWritten (words ps) e
    → read_at def (In s) (left_from (bytes_of text ps) 0) ≡ Ok (Some (entry e, In s, record { pieces = []; end = own.end }))
reads_alone text ps e s own section says =
    let left : Lexed = record { pieces = []; end = own.end } in
    let written : IsWritten (words own.own) e = subst (λ (ws : List (List ℕ)). IsWritten ws e) (sym own.same) says in
    let here = entry_is_next own.own own.end e written in
    let there = subst (λ (t : Section). read_at def (In t) (record { pieces = own.own; end = own.end }) ≡ Ok (Some (entry e, In t, left))) section here in
    ap (read_at def (In s)) own.read ∙ there

module _ (runs_so : RunsAreTexts) where
  own_tokens : (text : List ℕ) (front ps behind : List Token) → (tokens text).pieces ≡ front ++ (ps ++ behind) → 0 < length ps → OwnTokens text ps
  own_tokens text front [] behind pieces some = absurd (omega arith)
  own_tokens text front (p ∷ run) behind pieces some =
      let bytes = bytes_of text (p ∷ run) in
      let has = runs_so text front run behind p pieces in
      let same : words has.0 ≡ words (p ∷ run) = sym (words_later p.pos has.0) ∙ ap words has.2 in
      let whole : (tokens bytes).pieces ≡ has.0 ++ [] = ap (λ (l : Lexed). l.pieces) has.1 ∙ sym (append-nil has.0) in
      let few = tokens_need_text bytes [] has.0 [] whole (omega (arith, same_length has.0 (p ∷ run) same)) in
      record {
        own = has.0;
        end = Ok (length bytes);
        read = has.1;
        same = same;
        forward = omega (arith, has.3);
        within = ends_within text p.pos (end_of_all (p ∷ run)) has.3 few;
      }

  pub entries_stand_alone : EntriesStandAlone
  entries_stand_alone text design s name ps rec reads found =
      let x : List Token × Record = (ps, rec) in
      let is = entry_found s name (located text design) x found in
      let st = is.stands in
      let whole = tokens_read text design reads in
      let says : IsWritten (words ps) is.e = entries_are_written text 0 (Top, []) design ps is.e whole st in
      let at = stands def def_ending (λ m. refl) (Top, []) (tokens text) design st.first ps (entry is.e) st.others whole st.all_are in
      let own = own_tokens text at.front ps at.behind at.pieces (some_tokens ps (entry_reads ps is.e says).0) in
      let left : Lexed = record { pieces = []; end = own.end } in
      let alone = reads_alone text ps is.e s own is.section says in
      (left, is.e, is.says, alone ∙ ap (λ (r : Record). Ok (Some (r, In s, left))) (sym is.says), own.forward, own.within)
