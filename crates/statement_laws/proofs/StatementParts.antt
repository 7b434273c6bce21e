-- What is true of each statement of some tokens.
use Rattle.std.proofs.Common.{◌≡◌, ℕ, true, false, List, [], ◌∷◌, ◌++◌, ⊎_elim}
use Rattle.std.specs.List.{All}
use Rattle.std.proofs.lemmas.List.Elements.{All-nil, All-cons, All-append, All-head, All-tail}
use Rattle.statement_model.specs.Tokens.{Token}
use Rattle.statement_model.specs.Boundaries.{Ending, is_alone, is_last, last_of, is_whole, statements}
use Rattle.std.proofs.lemmas.Bool.{cases_Bool as cases}

module _ (ending : List ℕ → Ending) where
  -- after the first token and a second, either none are left or the second didn't end the statement
  abbrev pub GoesPast : Token → Token → List Token → Type 0
  GoesPast p q [] = Unit {0}
  GoesPast p q (r ∷ rs) = is_last (ending p.bytes) q.bytes ≡ false

  -- tokens of which the last ends them, and the first two don't before it
  abbrev pub IsStatement : List Token → Type 0
  IsStatement [] = ⊥
  IsStatement (p ∷ []) = is_alone (ending p.bytes) ≡ true
  IsStatement (p ∷ q ∷ qs) = (is_alone (ending p.bytes) ≡ false) × (is_last (ending p.bytes) (last_of q qs).bytes ≡ true) × GoesPast p q qs

  -- tokens that do not end a statement
  abbrev IsBegun : List Token → Type 0
  IsBegun [] = Unit {0}
  IsBegun (p ∷ []) = is_alone (ending p.bytes) ≡ false
  IsBegun (p ∷ q ∷ qs) = (is_alone (ending p.bytes) ≡ false) × (is_last (ending p.bytes) q.bytes ≡ false)

  still_begun : (before : List Token) (p : Token) → IsBegun before → is_whole ending (before ++ p ∷ []) ≡ false → IsBegun (before ++ p ∷ [])
  unfolding last_of
  still_begun [] p begun more = more
  still_begun (q ∷ []) p begun more = (begun, more)
  still_begun (q ∷ r ∷ rs) p begun more = begun

  is_statement : (before : List Token) (p : Token) → IsBegun before → is_whole ending (before ++ p ∷ []) ≡ true → IsStatement (before ++ p ∷ [])
  is_statement [] p begun whole = whole
  is_statement (q ∷ []) p begun whole = (begun, whole, tt)
  is_statement (q ∷ r ∷ []) p begun whole = (begun.0, whole, begun.1)
  is_statement (q ∷ r ∷ s ∷ ss) p begun whole = (begun.0, whole, begun.1)

  parts : (P : Token → Type 0) (before ps : List Token) → IsBegun before → All P before → All P ps → All (λ s. IsStatement s × All P s) (statements ending before ps).0
  unfolding statements
  parts P before [] begun first rest = All-nil (λ s. IsStatement s × All P s)
  parts P before (p ∷ ps) begun first rest =
      let more = All-append P before (p ∷ []) first (All-cons P p [] (All-head P p ps rest) (All-nil P)) in
      let rest2 = All-tail P p ps rest in
      ⊎_elim
      (λ whole. rw whole (All-cons (λ s. IsStatement s × All P s) (before ++ p ∷ []) _ (is_statement before p begun whole, more) (parts P [] ps tt (All-nil P) rest2)))
      (λ no. rw no (parts P (before ++ p ∷ []) ps (still_begun before p begun no) more rest2))
      (cases (is_whole ending (before ++ p ∷ [])))

  -- the statements of tokens of which something is true
  pub statement_parts : (P : Token → Type 0) (ps : List Token) → All P ps → All (λ s. IsStatement s × All P s) (statements ending [] ps).0
  statement_parts P ps all = parts P [] ps tt (All-nil P) all
