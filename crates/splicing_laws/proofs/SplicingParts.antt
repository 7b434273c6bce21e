-- The first bytes of a text that is read from a place on.
use Rattle.std.proofs.Common.{◌≡◌, ℕ, ◌+◌, false, List, [], ◌∷◌, ◌++◌, length, Ok, ap, ap₂, arith, Result}
use Rattle.statement_model.specs.Tokens.{Open, Token, Lexed, lex, before, next_open, ended_by, is_refused}
use Rattle.design_model.specs.declared.fault.Fault.{Fault}
use Rattle.lefdef_tokens.specs.Laws.{state_after}

-- the bytes up to a place, their tokens, and what is left after them
pub record Part (Left : Open → List ℕ → Type 0) (pos : ℕ) (state : Open) (bytes : List ℕ) (ps : List Token) (to : ℕ) : Type 0 where
  pub front : List ℕ
  pub rest : List ℕ
  pub whole : bytes ≡ front ++ rest
  pub place : pos + length front ≡ to
  pub read : lex pos state front ≡ record { pieces = ps; end = Ok to }
  pub left : Left (state_after pos state front) rest

-- with one byte more before it
pub longer : (Left : Open → List ℕ → Type 0) (pos to b : ℕ) (state next : Open) (bytes : List ℕ) (ended ps : List Token) → is_refused b ≡ false → ended_by state b ≡ ended → next_open pos state b ≡ next
    → Part Left (pos + 1) next bytes ps to → Part Left pos state (b ∷ bytes) (ended ++ ps) to
unfolding lex state_after
longer Left pos to b state next bytes ended ps good ends opens part =
    let step = part.place in
    record {
      front = b ∷ part.front;
      rest = part.rest;
      whole = ap (λ (bs : List ℕ). b ∷ bs) part.whole;
      place = omega arith;
      read = rw (good, ends, opens) (ap (before ended) part.read);
      left = rw opens part.left;
    }

-- a first token, and what is read after it
pub first_is : (p q : Token) (l : Lexed) (qs : List Token) (end : Result ℕ Fault) → before (p ∷ []) l ≡ record { pieces = q ∷ qs; end = end } → (p ≡ q) × (l ≡ record { pieces = qs; end = end })
first_is p q l qs end e =
    let pieces : p ∷ l.pieces ≡ q ∷ qs = ap (λ (k : Lexed). k.pieces) e in
    let ends : l.end ≡ end = ap (λ (k : Lexed). k.end) e in
    let later : l.pieces ≡ qs = cc in
    (cc, ap₂ (λ (ps : List Token) (r : Result ℕ Fault). record { pieces = ps; end = r }) later ends)

-- where some tokens are all, none of them is missing
pub none_is_one : (first after : List Token) (p : Token) → [] ≡ first ++ p ∷ after → ⊥
none_is_one [] after p e = cc
none_is_one (q ∷ qs) after p e = cc
