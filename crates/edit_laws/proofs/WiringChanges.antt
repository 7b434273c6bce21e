-- Routing a net and unrouting it are changes of its entry.
use Rattle.std.proofs.Common.{◌≡◌, ◌<◌, ℕ, suc, ◌+◌, ◌==◌, Bool, true, false, not, List, [], ◌∷◌, ◌++◌, length, Some, arith, refl, sym, ap, subst, ◌∙◌, append_assoc, codes, length-append, if◌then◌else◌}
use Rattle.std.specs.List.{list_any}
use Rattle.std.proofs.lemmas.Bool.{or_parts}
use Rattle.std.proofs.lemmas.Bool.Decides.{nat_tests}
use Rattle.form_meanings.specs.Meaning.{spell_all}
use Rattle.statement_model.specs.Tokens.{Token, tokens}
use Rattle.statement_model.specs.Boundaries.{words}
use Rattle.statement_model.specs.Form.{Form, spell}
use Rattle.def_grammar.specs.Records.{Entry, entry}
use Rattle.def_grammar.specs.Terminals.{Terminal, terminal}
use Rattle.edit_rules.specs.NetEdits.{Role, apart, wiring, barring, is_wiring, is_barring, is_of_wiring, before_wiring, from_wiring, wiring_of, behind_wiring, is_barred, tokens_of, wiring_said, unrouted_clauses, route_change, unroute_change, front_of}
use Rattle.splicing_laws.specs.SplicingLaws.{AreTokens, TokensArePut}
use Rattle.edit_laws.specs.StatementLaws.{BeginsWhite, IsChange}
use Rattle.edit_laws.proofs.NetClauses.{AreClauses, NoneBars, end, clause_words, alike_ends, clauses_move, clauses_good}
use Rattle.edit_laws.proofs.NetEntries.{IsNetText, MakesEntries}
use Rattle.edit_laws.proofs.NetParts.{InParts, changes_entry}
use Rattle.edit_laws.proofs.NetRuns.{AllFit, AllGood, two_parts, spelled_before, fit_parts, fit_from, good_parts, good_from, none_in, none_passes}
use Rattle.edit_laws.proofs.TerminalChanges.{no_tokens}
use Rattle.edit_laws.proofs.WiringTexts.{SaysWiring, says_wiring, whole_tokens, spaced_tokens}

wiring_is_free : (r : Role) → is_wiring r ≡ true → is_barring r ≡ false
wiring_is_free apart is = refl
wiring_is_free (wiring held) is = refl
wiring_is_free barring is = absurd (cc)

never_none : (n : ℕ) → (suc n == 0) ≡ false
never_none n = grind (arith, nat_tests)

module _ {C : Type 0} (form : Form C) (role : C → Role) (are : AreClauses form role) where
  abbrev spelled_of : List C → List (List ℕ)
  spelled_of cs = spell_all (spell form) cs

  -- clauses are those before the wiring, the wiring, and those behind it
  in_three : (cs : List C) → cs ≡ before_wiring form role cs ++ (wiring_of form role cs ++ behind_wiring form role cs)
  in_three cs =
      sym (two_parts (λ c. not (is_of_wiring form role c)) cs)
      ∙ ap (λ (later : List C). before_wiring form role cs ++ later) (sym (two_parts (is_of_wiring form role) (from_wiring form role cs)))

  -- other clauses in the place of some fit and have no invalid number
  record Replaced (cs : List C) : Type 0 where
    fits : AllFit form.of cs end
    good : AllGood form.of cs end

  replaced : (first old new later : List C) → NoneBars form role are first → NoneBars form role are new → AllFit form.of (first ++ (old ++ later)) end → AllGood form.of (first ++ (old ++ later)) end → AllFit form.of new end → AllGood form.of new end
      → Replaced (first ++ (new ++ later))
  replaced first old new later first_free new_free fits good new_fits new_good =
      let was = spelled_of (old ++ later) ++ end in
      let now = spelled_of (new ++ later) ++ end in
      let behind = spelled_of later ++ end in
      let fit = fit_parts form.of first (old ++ later) end fits in
      let fit_later = fit_parts form.of old later end fit.1 in
      let none = good_parts form.of first (old ++ later) end good in
      let none_later = good_parts form.of old later end none.1 in
      record {
        fits = fit_from form.of first (new ++ later) end (clauses_move form role are first was now first_free (alike_ends form role are (old ++ later) (new ++ later)) fit.0)
            (fit_from form.of new later end (clauses_move form role are new end behind new_free (alike_ends form role are [] later) new_fits) fit_later.1);
        good = good_from form.of first (new ++ later) end (clauses_good form role are first was now first_free none.0)
            (good_from form.of new later end (clauses_good form role are new end behind new_free new_good) none_later.1);
      }

  -- some wiring has words
  has_words : (c : C) (cs : List C) → 0 < length (spelled_of (c ∷ cs))
  has_words c cs = omega (arith, clause_words form role are c, length-append (spell form c) (spelled_of cs))

  white_where_none : (text : List ℕ) (old : List C) → tokens_of form role old ≡ 0 → BeginsWhite (if length old == 0 then 32 ∷ text else text)
  white_where_none text [] none = refl
  white_where_none text (c ∷ cs) none = absurd (omega (arith, has_words c cs, none))

  -- what is put in the place of wiring
  abbrev IsPut : List ℕ → List C → Type 0
  IsPut bytes said = (put : List Token) × AreTokens bytes put × (words put ≡ spelled_of said)

  put_tokens : TokensArePut → (text : List ℕ) (old said : List C) → SaysWiring form role text said → IsPut (if length old == 0 then 32 ∷ text else text) said
  put_tokens put_so text [] said is = let all = spaced_tokens put_so text is.n is.end_is is.plain in ((tokens (32 ∷ text)).pieces, all.0, all.1 ∙ is.spelled)
  put_tokens put_so text (c ∷ cs) said is = rw (never_none (length cs)) ((tokens text).pieces, whole_tokens text is.n is.end_is is.plain, is.spelled)

  module _ (name : List ℕ) (make : List Terminal → List C → Entry) (makes : MakesEntries form name make) (ps : List Token) (ts : List Terminal) (cs : List C) (text : IsNetText form name (words ps) ts cs) (free : is_barred form role cs ≡ false) where
    abbrev first : List C
    first = before_wiring form role cs

    abbrev old : List C
    old = wiring_of form role cs

    abbrev later : List C
    later = behind_wiring form role cs

    abbrev front : List (List ℕ)
    front = codes "-" ∷ name ∷ (spell_all (spell terminal) ts ++ spelled_of first)

    spelled_in : (new : List C) → spell_all (spell terminal) ts ++ (spelled_of (first ++ (new ++ later)) ++ end) ≡ (spell_all (spell terminal) ts ++ spelled_of first) ++ (spelled_of new ++ (spelled_of later ++ end))
    spelled_in new =
        ap (λ (ws : List (List ℕ)). spell_all (spell terminal) ts ++ ws) (spelled_before form.of first (new ++ later) end ∙ ap (λ (ws : List (List ℕ)). spelled_of first ++ ws) (spelled_before form.of new later end))
        ∙ sym (append_assoc (spell_all (spell terminal) ts) (spelled_of first) (spelled_of new ++ (spelled_of later ++ end)))

    parts : InParts (words ps) (front_of ts + tokens_of form role first) (tokens_of form role old)
    parts = record {
      front = front;
      middle = spelled_of old;
      behind = spelled_of later ++ end;
      all_are = text.spelled ∙ ap (λ (ws : List (List ℕ)). codes "-" ∷ name ∷ ws) (ap (λ (ds : List C). spell_all (spell terminal) ts ++ (spelled_of ds ++ end)) (in_three cs) ∙ spelled_in old);
      front_long = omega (arith, length-append (spell_all (spell terminal) ts) (spelled_of first));
      middle_long = refl;
    }

    first_free : NoneBars form role are first
    first_free =
        let none = (or_parts (list_any (is_of_wiring form role) later) (list_any (λ c. is_barring (role c)) cs) free).1 in
        let all = subst (λ (ds : List C). NoneBars form role are ds) (in_three cs) none in
        (none_in (λ c. is_barring (role c)) first (old ++ later) all).0

    new_text : (new : List C) → NoneBars form role are new → AllFit form.of new end → AllGood form.of new end → (ws : List (List ℕ)) → ws ≡ spelled_of new → IsNetText form name (front ++ (ws ++ (spelled_of later ++ end))) ts (first ++ (new ++ later))
    new_text new new_free fits good ws same =
        let fits_all = subst (λ (ds : List C). AllFit form.of ds end) (in_three cs) text.clauses in
        let good_all = subst (λ (ds : List C). AllGood form.of ds end) (in_three cs) text.good in
        let r = replaced first old new later first_free new_free fits_all good_all fits good in
        record {
          spelled = ap (λ (us : List (List ℕ)). front ++ (us ++ (spelled_of later ++ end))) same ∙ ap (λ (us : List (List ℕ)). codes "-" ∷ name ∷ us) (sym (spelled_in new));
          terminals = text.terminals;
          clauses = r.fits;
          good = r.good;
        }

    module _ (put_so : TokensArePut) (bytes : List ℕ) (said : List C) (is : wiring_said form role bytes ≡ Some said) where
      abbrev with_said : List C
      with_said = first ++ (said ++ later)

      pub route_is : IsChange ps (entry (make ts cs)) (route_change form role (front_of ts) bytes cs (entry (make ts with_said) ∷ []))
      unfolding parts
      route_is =
          let says = says_wiring form role bytes said is in
          let put = put_tokens put_so bytes old said says in
          let said_free = none_passes (is_of_wiring form role) (λ c. is_barring (role c)) (λ c. wiring_is_free (role c)) said says.wires in
          changes_entry form name make makes ps ts ts cs with_said text (route_change form role (front_of ts) bytes cs (entry (make ts with_said) ∷ [])) put.0 parts put.1 (white_where_none bytes old) refl
          (new_text said said_free says.fits says.good (words put.0) put.2)

    some_taken : (ds : List C) → (length ds == 0) ≡ false → tokens_of form role ds ≡ 0 → BeginsWhite []
    some_taken [] some none = absurd (cc)
    some_taken (c ∷ ds) some none = absurd (omega (arith, has_words c ds, none))

    pub unroute_is : (length old == 0) ≡ false → IsChange ps (entry (make ts cs)) (unroute_change form role (front_of ts) cs (entry (make ts (unrouted_clauses form role cs)) ∷ []))
    unfolding parts
    unroute_is some =
        changes_entry form name make makes ps ts ts cs (unrouted_clauses form role cs) text (unroute_change form role (front_of ts) cs (entry (make ts (unrouted_clauses form role cs)) ∷ [])) [] parts no_tokens (some_taken old some) refl
        (new_text [] refl tt refl [] refl)

  true_only : (b : Bool) → b ≡ true → b ≡ false → ⊥
  true_only b e f = cc

  -- where no wiring stands, unrouting leaves the clauses as they are
  nothing_between : (before middle behind cs : List C) → cs ≡ before ++ (middle ++ behind) → (length middle == 0) ≡ true → before ++ behind ≡ cs
  nothing_between before [] behind cs e none = sym e
  nothing_between before (c ∷ middle) behind cs e none = let some = never_none (length middle) in absurd (true_only (length (c ∷ middle) == 0) none some)

  pub nothing_unrouted : (cs : List C) → (length (wiring_of form role cs) == 0) ≡ true → unrouted_clauses form role cs ≡ cs
  nothing_unrouted cs none = nothing_between (before_wiring form role cs) (wiring_of form role cs) (behind_wiring form role cs) cs (in_three cs) none
