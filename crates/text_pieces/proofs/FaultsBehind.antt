-- A fault of bytes behind pieces is one of the text.
use Rattle.std.proofs.Common.{◌≡◌, ℕ, ◌+◌, true, false, List, [], ◌∷◌, ◌++◌, length, map, None, Result, Ok, Err, refl, sym, ap, ◌∙◌, ⊎_elim, arith}
use Rattle.std.specs.List.{concat}
use Rattle.std.proofs.lemmas.Bool.{cases_Bool as cases}
use Rattle.design_model.specs.declared.fault.Fault.{Fault}
use Rattle.design_model.specs.declared.mode.Mode.{Mode}
use Rattle.design_model.specs.declared.mode.Mode.TheVariants.{Top}
use Rattle.statement_model.specs.Tokens.{Token, lex, tokens}
use Rattle.statement_model.specs.Tokens.Open.{between}
use Rattle.statement_model.specs.Boundaries.{is_whole, words}
use Rattle.statement_model.specs.Folds.{◌>>◌}
use Rattle.statement_model.specs.Form.{whole}
use Rattle.statement_model.specs.Grammar.{Grammar}
use Rattle.statement_model.specs.Reading.{at_last, read_form, read_from, read_on, read_one, unless_repeated}
use Rattle.lefdef_tokens.specs.Laws.{moved, moved_end, moved_token, TokensMove}
use Rattle.def_grammar.specs.Records.{Record, def}
use Rattle.piece_laws.specs.PieceLaws.{PiecesAreRead}
use Rattle.piece_laws.specs.Pieces.{keyless, AreApart, AreChained}
use Rattle.piece_laws.proofs.MovedTokens.{moved_words, one_longer, whole_moved}
use Rattle.piece_laws.proofs.Reading.{read_formed}

module _ {M R : Type 0} (g : Grammar M R) (k : ℕ) where
  -- what is read of tokens that stand later is read of them where they stand
  at_last_back : (m : M) (begun : List Token) (end : Result ℕ Fault) (recs : List R) → at_last (keyless g) (m, []) (map (moved_token k) begun) (moved_end k end) ≡ Ok recs
      → at_last (keyless g) (m, []) begun end ≡ Ok recs
  at_last_back m begun (Err f) recs h = absurd (cc)
  at_last_back m (p ∷ ps) (Ok n) recs h = absurd (cc)
  at_last_back m [] (Ok n) recs h = ⊎_elim (λ may. rw may (rw may at h)) (λ no. let e = rw no at h in absurd (cc)) (cases (g.may_end m))

  form_back : (m : M) (ps : List Token) (x : R × M) → read_form (keyless g) m (map (moved_token k) ps) ≡ Ok x → read_form (keyless g) m ps ≡ Ok x
  form_back m ps x h = let e = rw (moved_words k ps) at h in read_formed (keyless g) m (map (moved_token k) ps) ps (whole (g.form m) (words ps)) x e

  -- the records after one, and all
  all_back : (rec : R) (r s : Result (List R) Fault) (recs : List R) → ((later : List R) → r ≡ Ok later → s ≡ Ok later) → (r >> λ later. Ok (rec ∷ later)) ≡ Ok recs → (s >> λ later. Ok (rec ∷ later)) ≡ Ok recs
  all_back rec (Ok later) s recs f h = rw (f later refl) h
  all_back rec (Err e) s recs f h = absurd (cc)

  one_back : (m : M) (one ps : List Token) (end : Result ℕ Fault) (recs : List R) (r : Result (R × M) Fault) → read_form (keyless g) m (map (moved_token k) one) ≡ r
      → ((n : M) (later : List R) → read_on (keyless g) (n, []) [] (map (moved_token k) ps) (moved_end k end) ≡ Ok later → read_on (keyless g) (n, []) [] ps end ≡ Ok later)
      → ((r >> λ x. unless_repeated (keyless g) (map (moved_token k) one) None x.0 x.1 []) >> λ y. (read_on (keyless g) y.1 [] (map (moved_token k) ps) (moved_end k end) >> λ later. Ok (y.0 ∷ later))) ≡ Ok recs
      → (read_one (keyless g) (m, []) one >> λ y. (read_on (keyless g) y.1 [] ps end >> λ later. Ok (y.0 ∷ later))) ≡ Ok recs
  one_back m one ps end recs (Err e) is f h = absurd (cc)
  one_back m one ps end recs (Ok x) is f h =
      rw (form_back m one x is) (all_back x.0 (read_on (keyless g) (x.1, []) [] (map (moved_token k) ps) (moved_end k end)) (read_on (keyless g) (x.1, []) [] ps end) recs (f x.1) h)

  read_back : (m : M) (begun ps : List Token) (end : Result ℕ Fault) (recs : List R) → read_on (keyless g) (m, []) (map (moved_token k) begun) (map (moved_token k) ps) (moved_end k end) ≡ Ok recs
      → read_on (keyless g) (m, []) begun ps end ≡ Ok recs
  unfolding read_on
  read_back m begun [] end recs h = at_last_back m begun end recs h
  read_back m begun (p ∷ ps) end recs h =
      let one = begun ++ p ∷ [] in
      let longer : map (moved_token k) begun ++ moved_token k p ∷ [] ≡ map (moved_token k) one = sym (one_longer k begun p) in
      ⊎_elim
      (λ is.
      let here : is_whole (g.ending m) (map (moved_token k) one) ≡ true = whole_moved (g.ending m) k one ∙ is in
      let there = rw (longer, here) at h in
      rw is (one_back m one ps end recs (read_form (keyless g) m (map (moved_token k) one)) refl (λ n later. read_back n [] ps end later) there))
      (λ no.
      let here : is_whole (g.ending m) (map (moved_token k) one) ≡ false = whole_moved (g.ending m) k one ∙ no in
      let there = rw (longer, here) at h in
      rw no (read_back m one ps end recs there))
      (cases (is_whole (g.ending m) one))

  -- so a fault of bytes is one of them where they stand later, if another
  faulty : (m : M) (rest : List ℕ) (f : Fault) (r : Result (List R) Fault) → TokensMove → read_from (keyless g) (m, []) (tokens rest) ≡ Err f → read_from (keyless g) (m, []) (lex (k + 0) between rest) ≡ r → (e : Fault) × (r ≡ Err e)
  faulty m rest f (Err e) law h is = (e, refl)
  faulty m rest f (Ok recs) law h is =
      let there : read_from (keyless g) (m, []) (moved k (tokens rest)) ≡ Ok recs = sym (ap (read_from (keyless g) (m, [])) (law rest k 0)) ∙ is in
      let back = read_back m [] (tokens rest).pieces (tokens rest).end recs there in
      absurd (cc)

-- a fault of bytes behind pieces is one of the text, if another
pub fault_behind : TokensMove → PiecesAreRead def → (mid : Mode) (ps : List (List ℕ)) (recs : List Record) (rest : List ℕ) (f : Fault) → AreChained def Top ps recs mid → AreApart ps rest
    → read_from (keyless def) (mid, []) (tokens rest) ≡ Err f → (e : Fault) × (read_from (keyless def) (Top, []) (tokens (concat ps ++ rest)) ≡ Err e)
fault_behind moves reads mid ps recs rest f chain apart h =
    let n = length (concat ps) in
    let place : n + 0 ≡ 0 + n = omega arith in
    let there = faulty def n mid rest f (read_from (keyless def) (mid, []) (lex (n + 0) between rest)) moves h refl in
    let at : read_from (keyless def) (mid, []) (lex (0 + n) between rest) ≡ Err there.0 = ap (λ (j : ℕ). read_from (keyless def) (mid, []) (lex j between rest)) (sym place) ∙ there.1 in
    (there.0, reads 0 Top mid ps recs rest chain apart ∙ ap (λ (r : Result (List Record) Fault). r >> λ later. Ok (recs ++ later)) at)
