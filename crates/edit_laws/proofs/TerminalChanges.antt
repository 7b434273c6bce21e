-- Connecting a terminal and disconnecting one are changes of the entry of a net.
use Rattle.std.proofs.Common.{◌≡◌, ◌<◌, ℕ, true, not, List, [], ◌∷◌, ◌++◌, length, arith, refl, sym, ap, subst, ◌∙◌, append_assoc, append-nil, codes}
use Rattle.std.specs.List.{list_any}
use Rattle.std.proofs.lemmas.Bool.{and_parts}
use Rattle.form_meanings.specs.Words.{is_word, is_place, is_name}
use Rattle.form_meanings.specs.Meaning.{spell_all}
use Rattle.statement_model.specs.Tokens.{Token, lex}
use Rattle.statement_model.specs.Boundaries.{words}
use Rattle.statement_model.specs.Form.{Form, spell, Fits}
use Rattle.def_grammar.specs.Records.{Entry, entry}
use Rattle.def_grammar.specs.Terminals.{Terminal, synthesized, terminal}
use Rattle.lefdef_tokens.specs.Laws.{state_after}
use Rattle.edit_rules.specs.NameTexts.{is_name_text}
use Rattle.edit_rules.specs.NetEdits.{is_terminal, before_terminal, behind_terminal, new_terminal, terminal_text, tokens_of_first, front_of, connect_change, disconnect_change}
use Rattle.splicing_laws.specs.SplicingLaws.{AreTokens}
use Rattle.splicing_laws.specs.WordLaws.{is_one_word, spaced, SpacedAreTokens}
use Rattle.edit_laws.specs.StatementLaws.{IsChange}
use Rattle.edit_laws.proofs.NameTokens.{name_is_one_word}
use Rattle.edit_laws.proofs.NetClauses.{end}
use Rattle.edit_laws.proofs.NetEntries.{IsNetText, MakesEntries, terminals_anywhere, terminal_words}
use Rattle.edit_laws.proofs.NetParts.{InParts, changes_entry}
use Rattle.edit_laws.proofs.NetRuns.{AllFit, has_first, two_parts, spelled_before, fit_parts, fit_from}

-- the words of a terminal that is put
abbrev new_words : List ℕ → List ℕ → List (List ℕ)
new_words c p = codes "(" ∷ c ∷ p ∷ codes ")" ∷ []

new_spelled : (c p : List ℕ) → spell terminal (new_terminal c p) ≡ new_words c p
unfolding terminal synthesized
new_spelled c p = refl

new_fits : (c p : List ℕ) → is_name c ≡ true → is_name p ≡ true → (ws : List (List ℕ)) → Fits terminal (new_terminal c p) ws
unfolding terminal synthesized
new_fits c p owner pin ws = ((and_parts (is_place c) (not (is_word (codes "*") c)) owner).0, (pin, refl))

text_in_parts : (a c b p d : List ℕ) → (((a ++ c) ++ b) ++ p) ++ d ≡ a ++ (c ++ (b ++ (p ++ d)))
text_in_parts a c b p d = simp append_assoc refl

text_is : (c p : List ℕ) → terminal_text c p ≡ 32 ∷ spaced (new_words c p)
text_is c p = text_in_parts (codes " ( ") c (32 ∷ []) p (codes " )")

pub no_tokens : AreTokens [] []
unfolding lex state_after
no_tokens = record { pieces = refl; end = refl; closed = tt }

module _ (spaced_so : SpacedAreTokens) where
  terminal_tokens : (c p : List ℕ) → is_name_text c ≡ true → is_name_text p ≡ true → (ps : List Token) × AreTokens (terminal_text c p) ps × (words ps ≡ spell terminal (new_terminal c p))
  terminal_tokens c p owner pin =
      let one : is_one_word c ≡ true = (name_is_one_word c owner).0 in
      let other : is_one_word p ≡ true = (name_is_one_word p pin).0 in
      let all = spaced_so (32 ∷ []) (new_words c p) refl (rw (one, other) refl) in
      (all.0, subst (λ (bytes : List ℕ). AreTokens bytes all.0) (sym (text_is c p)) all.1, all.2 ∙ sym (new_spelled c p))

module _ {C : Type 0} (form : Form C) (name : List ℕ) (make : List Terminal → List C → Entry) (makes : MakesEntries form name make) (ps : List Token) (ts : List Terminal) (cs : List C) (text : IsNetText form name (words ps) ts cs) where
  abbrev spelled_with : List Terminal → List (List ℕ)
  spelled_with us = spell_all (spell terminal) us

  abbrev clauses_and_end : List (List ℕ)
  clauses_and_end = spell_all (spell form) cs ++ end

  abbrev front_words : List Terminal → List (List ℕ)
  front_words us = codes "-" ∷ name ∷ spelled_with us

  module _ (spaced_so : SpacedAreTokens) (c p : List ℕ) (owner : is_name_text c ≡ true) (pin : is_name_text p ≡ true) where
    abbrev with_new : List Terminal
    with_new = ts ++ new_terminal c p ∷ []

    pub connect_is : IsChange ps (entry (make ts cs)) (connect_change c p ts (entry (make with_new cs) ∷ []))
    connect_is =
        let put = terminal_tokens spaced_so c p owner pin in
        let new = new_terminal c p in
        let parts : InParts (words ps) (front_of ts) 0 = record { front = front_words ts; middle = []; behind = clauses_and_end; all_are = text.spelled; front_long = omega arith; middle_long = refl } in
        let behind : spelled_with with_new ++ clauses_and_end ≡ spelled_with ts ++ (words put.0 ++ clauses_and_end) =
        spelled_before terminal.of ts (new ∷ []) clauses_and_end ∙ ap (λ (ws : List (List ℕ)). spelled_with ts ++ (ws ++ clauses_and_end)) (append-nil (spell terminal new) ∙ sym put.2) in
        let fits = new_fits c p (name_is_one_word c owner).1 (name_is_one_word p pin).1 ([] ++ []) in
        let first = terminals_anywhere ts [] (spelled_with (new ∷ []) ++ []) text.terminals in
        changes_entry form name make makes ps ts with_new cs cs text (connect_change c p ts (entry (make with_new cs) ∷ [])) put.0 parts put.1 (λ none. refl) refl (record {
          spelled = ap (λ (ws : List (List ℕ)). codes "-" ∷ name ∷ ws) (sym behind);
          terminals = fit_from terminal.of ts (new ∷ []) [] first (fits, tt);
          clauses = text.clauses;
          good = text.good;
        })

  module _ (c p : List ℕ) (listed : list_any (is_terminal c p) ts ≡ true) where
    abbrev without : List Terminal
    without = before_terminal c p ts ++ behind_terminal c p ts

    pub disconnect_is : IsChange ps (entry (make ts cs)) (disconnect_change c p ts (entry (make without cs) ∷ []))
    disconnect_is =
        let first = before_terminal c p ts in
        let later = behind_terminal c p ts in
        let has = has_first (is_terminal c p) ts listed in
        let t = has.at in
        let all : ts ≡ first ++ t ∷ later = sym (two_parts (λ u. not (is_terminal c p u)) ts) ∙ ap (λ (us : List Terminal). first ++ us) has.from in
        let change = disconnect_change c p ts (entry (make without cs) ∷ []) in
        let rest = spelled_with later ++ clauses_and_end in
        let words_are : spelled_with ts ++ clauses_and_end ≡ spelled_with first ++ (spell terminal t ++ rest) =
        ap (λ (us : List Terminal). spelled_with us ++ clauses_and_end) all
        ∙ (spelled_before terminal.of first (t ∷ later) clauses_and_end ∙ ap (λ (ws : List (List ℕ)). spelled_with first ++ ws) (append_assoc (spell terminal t) (spelled_with later) clauses_and_end)) in
        let parts : InParts (words ps) change.before change.taken = record {
          front = front_words first;
          middle = spell terminal t;
          behind = rest;
          all_are = text.spelled ∙ ap (λ (ws : List (List ℕ)). codes "-" ∷ name ∷ ws) words_are;
          front_long = omega arith;
          middle_long = sym (ap tokens_of_first has.from);
        } in
        let some : 0 < length (spell terminal t) = terminal_words t in
        let fits = fit_parts terminal.of first (t ∷ later) [] (subst (λ (us : List Terminal). AllFit terminal.of us []) all text.terminals) in
        changes_entry form name make makes ps ts without cs cs text change [] parts no_tokens (λ none. absurd (omega (arith, some, none, parts.middle_long))) refl (record {
          spelled = ap (λ (ws : List (List ℕ)). codes "-" ∷ name ∷ ws) (sym (spelled_before terminal.of first later clauses_and_end));
          terminals = fit_from terminal.of first later [] (terminals_anywhere first (spelled_with (t ∷ later) ++ []) (spelled_with later ++ []) fits.0) fits.1.1;
          clauses = text.clauses;
          good = text.good;
        })
