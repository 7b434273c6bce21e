-- Bytes in which no statement is left.
use Rattle.std.proofs.Common.{◌≡◌, ℕ, ◌+◌, true, List, [], ◌∷◌, ◌++◌, length, Option, Some, None, Result, Ok, Err, refl, sym, ap, ◌∙◌, add-zero, append-nil, inl, inr}
use Rattle.std.specs.List.{concat}
use Rattle.std.proofs.lemmas.Bool.{cases_Bool}
use Rattle.design_model.specs.declared.fault.Fault.{Fault}
use Rattle.statement_model.specs.Tokens.{Token, Lexed, lex, tokens}
use Rattle.statement_model.specs.Tokens.Open.{between}
use Rattle.statement_model.specs.Boundaries.{cut, statement_at, statement_from, unfinished}
use Rattle.statement_model.specs.Folds.{◌>>◌}
use Rattle.statement_model.specs.Grammar.{Key, Grammar}
use Rattle.statement_model.specs.Reading.{read_form, read_found, read_at, read_from, nothing_left, with_left}
use Rattle.statement_reader.proofs.LocatedSteps.{located_ends}
use Rattle.statement_reader.proofs.Steps.{reading_ends}
use Rattle.lefdef_tokens.specs.Laws.{moved}
use Rattle.lefdef_tokens.proofs.Moving.{tokens_move}
use Rattle.piece_laws.specs.Pieces.{keyless, IsTail}
use Rattle.piece_laws.specs.PieceLaws.{TailsAreFound, TailsMayEnd}
use Rattle.piece_laws.specs.PlaceLaws.{placed_pieces, TextsAreRead}
use Rattle.piece_laws.proofs.Places.{pieces_are_located}
use Rattle.piece_laws.proofs.Reading.{pieces_are_read}

-- nothing, and then the end of the text
abbrev pub EndsAt : Lexed → ℕ → Type 0
EndsAt l n = l ≡ record { pieces = []; end = Ok n }

moved_place : (k : ℕ) (bytes : List ℕ) → lex k between bytes ≡ moved k (tokens bytes)
moved_place k bytes = ap (λ (j : ℕ). lex j between bytes) (sym (add-zero k)) ∙ tokens_move bytes k 0

-- what ends after it was moved
ends_back : (k n : ℕ) (ps : List Token) (end : Result ℕ Fault) → EndsAt (moved k (record { pieces = ps; end = end })) n → (m : ℕ) × EndsAt (record { pieces = ps; end = end }) m
ends_back k n [] (Ok m) e = (m, refl)
ends_back k n [] (Err f) e = let same = ap (λ (l : Lexed). l.end) e in absurd (cc)
ends_back k n (p ∷ ps) end e = let same = ap (λ (l : Lexed). l.pieces) e in absurd (cc)

ends_later : (k m : ℕ) (l : Lexed) → EndsAt l m → EndsAt (moved k l) (k + m)
ends_later k m l e = ap (moved k) e

module _ {M R : Type 0} (g : Grammar M R) where
  form_is_some : (left : Lexed) (x : Result (R × M) Fault) → with_left g left x ≡ Ok None → ⊥
  form_is_some left (Ok y) h = cc
  form_is_some left (Err f) h = cc

  -- where no statement is left, no token is, and the text may end
  abbrev NothingLeft : M → Lexed → Type 0
  NothingLeft m l = (n : ℕ) × EndsAt l n × (g.may_end m ≡ true)

  may_end_there : (m : M) (n : ℕ) → nothing_left g m (Ok n) ≡ Ok None → g.may_end m ≡ true
  may_end_there m n h = elim (cases_Bool (g.may_end m)) [ inl may ↦ may | inr others ↦ let k = rw others at h in absurd (cc) ]

  last_none : (m : M) (ps : List Token) (end : Result ℕ Fault) → read_found g m (record { pieces = ps; end = end }) (unfinished ps end) ≡ Ok None → NothingLeft m (record { pieces = ps; end = end })
  last_none m ps (Err f) h = absurd (cc)
  last_none m (p ∷ ps) (Ok n) h = absurd (cc)
  last_none m [] (Ok n) h = (n, refl, may_end_there m n h)

  cut_none : (m : M) (l : Lexed) (found : Option (List Token × List Token)) → read_found g m l (statement_from found l) ≡ Ok None → NothingLeft m l
  cut_none m l None h = last_none m l.pieces l.end h
  cut_none m l (Some x) h = absurd (form_is_some (record { pieces = x.1; end = l.end }) (read_form g m x.0) h)

  pub none_left : (m : M) (l : Lexed) → read_at g m l ≡ Ok None → NothingLeft m l
  unfolding read_at statement_at
  none_left m l h = cut_none m l (cut (g.ending m) [] l.pieces) h

  reads_none : (m : M) (l : Lexed) (n : ℕ) → EndsAt l n → g.may_end m ≡ true → read_at g m l ≡ Ok None
  unfolding read_at statement_at cut
  reads_none m l n e may = rw (e, may) refl

  pub tails_are_found : TailsAreFound g
  tails_are_found pos m bytes h =
      let none = none_left m (lex pos between bytes) h in
      let l = tokens bytes in
      let own = ends_back pos none.0 l.pieces l.end (sym (moved_place pos bytes) ∙ none.1) in
      reads_none m l own.0 own.1 none.2

  pub tails_may_end : TailsMayEnd g
  tails_may_end m bytes tail = (none_left m (tokens bytes) tail).2

  -- a tail wherever it stands
  tail_at : (pos : ℕ) (m : M) (bytes : List ℕ) → IsTail g m bytes → (n : ℕ) × EndsAt (lex pos between bytes) n × (g.may_end m ≡ true)
  tail_at pos m bytes tail =
      let none = none_left m (tokens bytes) tail in
      (pos + none.0, moved_place pos bytes ∙ ends_later pos none.0 (tokens bytes) none.1, none.2)

module _ {M R : Type 0} (g : Grammar M R) where
  tail_is_read : (pos : ℕ) (m : M) (bytes : List ℕ) → IsTail g m bytes → read_from (keyless g) (m, []) (lex pos between bytes) ≡ Ok []
  tail_is_read pos m bytes tail =
      let l = lex pos between bytes in
      let none = tail_at g pos m bytes tail in
      reading_ends (keyless g) m [] l none.0 (ap (λ (k : Lexed). k.end) none.1) (reads_none (keyless g) m l none.0 none.1 none.2)

  then_nothing : (recs : List R) (r : Result (List R) Fault) → r ≡ Ok [] → (r >> λ later. Ok (recs ++ later)) ≡ Ok recs
  then_nothing recs r none = rw none (ap (λ (rs : List R). Ok rs) (append-nil recs))

  pub texts_are_read : TextsAreRead g
  texts_are_read first last ps recs tail chain apart ends =
      let at = 0 + length (concat ps) in
      let left = lex at between tail in
      let none = tail_at g at last tail ends in
      let state : M × List Key = (last, []) in (
        pieces_are_read g 0 first last ps recs tail chain apart ∙ then_nothing recs (read_from (keyless g) state left) (tail_is_read at last tail ends),
        pieces_are_located g 0 first last ps recs tail chain apart
            ∙ ap (λ (ss : List (List Token × R)). placed_pieces 0 ps recs ++ ss) (located_ends g last left none.0 none.1)
            ∙ append-nil (placed_pieces 0 ps recs),
      )
