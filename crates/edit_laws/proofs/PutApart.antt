-- Bytes that are put before what is left of a text, with a space between where they would be glued to it.
use Rattle.std.proofs.Common.{◌≡◌, inl, inr, ℕ, ◌+◌, true, false, ◌==◌, List, [], ◌∷◌, ◌++◌, refl, sym, subst, ⊎_elim, append_assoc, append-nil}
use Rattle.std.proofs.lemmas.Bool.{cases_Bool as cases, not-false}
use Rattle.statement_model.specs.Tokens.{Open, Token, next_open, is_white, closes}
use Rattle.statement_model.specs.Tokens.Open.{between, comment, word, string}
use Rattle.statement_model.specs.Boundaries.{words}
use Rattle.statement_model.specs.Cuts.{space_before}
use Rattle.edit_rules.specs.Plans.{ends_open, space_between}
use Rattle.lefdef_tokens.specs.Laws.{state_after, IsClosed, BeginsApart}
use Rattle.splicing_laws.specs.SplicingLaws.{AreTokens, HasWords, TokensArePut}
use Rattle.splicing_laws.proofs.SplicingWords.{space_first}
use Rattle.edit_laws.specs.StatementLaws.{BeginsWhite}

-- white space that leaves no comment and no string open leaves nothing open
white_closes : (pos b : ℕ) (state : Open) → is_white b ≡ true → IsClosed (next_open pos state b) → next_open pos state b ≡ between
white_closes pos b between white closed = rw white refl
white_closes pos b comment white closed = ⊎_elim
    (λ (over : (b == 10) ≡ true). rw over refl)
    (λ (more : (b == 10) ≡ false). let h = rw more at closed in absurd h)
    (cases (b == 10))
white_closes pos b (word start bytes) white closed = rw white refl
white_closes pos b (string start bytes last) white closed = ⊎_elim
    (λ (quote : closes last b ≡ true). rw quote refl)
    (λ (more : closes last b ≡ false). let h = rw more at closed in absurd h)
    (cases (closes last b))

some_close : (b : ℕ) (bs : List ℕ) (pos : ℕ) (state : Open) → ends_open (b ∷ bs) ≡ false → IsClosed (state_after pos state (b ∷ bs)) → state_after pos state (b ∷ bs) ≡ between
unfolding state_after
some_close b [] pos state e closed = white_closes pos b state (not-false (is_white b) e) closed
some_close b (c ∷ cs) pos state e closed = some_close c cs (pos + 1) (next_open pos state b) e closed

all_close : (put : List ℕ) → ends_open put ≡ false → IsClosed (state_after 0 between put) → state_after 0 between put ≡ between
unfolding state_after
all_close [] e closed = refl
all_close (b ∷ bs) e closed = some_close b bs 0 between e closed

-- a text that takes a space where another would
record IsSpaced (left rest : List ℕ) (ws : List (List ℕ)) : Type 0 where
  apart : BeginsApart (space_before left ++ rest)
  has : HasWords (space_before left ++ rest) ws

spaced : (left rest : List ℕ) (ws : List (List ℕ)) → (BeginsApart left → BeginsApart rest) → HasWords rest ws → IsSpaced left rest ws
spaced [] rest ws alike has = record { apart = alike tt; has = has }
spaced (b ∷ bs) rest ws alike has = ⊎_elim
    (λ (white : is_white b ≡ true). record { apart = rw white (alike white); has = rw white has })
    (λ (no_white : is_white b ≡ false). record { apart = rw no_white refl; has = rw no_white (space_first rest ws has) })
    (cases (is_white b))

module _ (put_so : TokensArePut) where
  -- bytes that are whole tokens before a text that begins apart where what was left does
  pub put_before : (put left rest : List ℕ) (ps : List Token) (ws : List (List ℕ)) → AreTokens put ps → (BeginsApart left → BeginsApart rest) → HasWords rest ws
      → HasWords ((put ++ space_between put left) ++ rest) (words ps ++ ws)
  put_before put left rest ps ws are alike has = ⊎_elim
      (λ (open_end : ends_open put ≡ true).
      let s = spaced left rest ws alike has in
      rw open_end (subst (λ (text : List ℕ). HasWords text (words ps ++ ws)) (sym (append_assoc put (space_before left) rest)) (put_so put (space_before left ++ rest) ps ws are (inr s.apart) s.has)))
      (λ (closed_end : ends_open put ≡ false).
      let closed = all_close put closed_end are.closed in
      rw closed_end (subst (λ (bytes : List ℕ). HasWords (bytes ++ rest) (words ps ++ ws)) (sym (append-nil put)) (put_so put rest ps ws are (inl closed) has)))
      (cases (ends_open put))

-- bytes that begin with white space still do with more behind them
pub white_first : (put more rest : List ℕ) → BeginsWhite put → BeginsApart ((put ++ more) ++ rest)
white_first [] more rest white = absurd white
white_first (b ∷ bs) more rest white = white
