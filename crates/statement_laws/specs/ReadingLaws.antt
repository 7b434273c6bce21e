-- Laws of reading.
use Rattle.std.specs.Prelude.{◌≡◌, ℕ, List, [], ◌∷◌, ◌++◌, Result, Ok, if◌then◌else◌}
use Rattle.design_model.specs.declared.fault.Fault.{Fault}
use Rattle.statement_model.specs.Tokens.{Token, Lexed, before}
use Rattle.statement_model.specs.Boundaries.{Ending, is_whole, statements}
use Rattle.statement_model.specs.Folds.{◌>>◌, all_from, FoldsJoin}
use Rattle.statement_model.specs.Grammar.{Key, Grammar}
use Rattle.statement_model.specs.Reading.{read_one, at_last, read_on, read_from}

module _ {M R : Type 0} (g : Grammar M R) where
  -- the records of the whole statements of tokens, the state after them, and the tokens of a last one that isn't whole,
  -- where some tokens of the first were read before; or the first fault
  unfoldable pub read_statements : M × List Key → List Token → List Token → Result (List R × (M × List Key) × List Token) Fault
  read_statements state begun [] = Ok ([], state, begun)
  read_statements state begun (p ∷ ps) =
      if is_whole (g.ending state.0) (begun ++ p ∷ []) then (read_one g state (begun ++ p ∷ []) >> λ x. (read_statements x.1 [] ps >> λ y. Ok (x.0 ∷ y.0, y.1, y.2)))
      else read_statements state (begun ++ p ∷ []) ps

  -- these tokens are whole statements that read: their records, and the state after them
  abbrev pub ReadsAs : M × List Key → List Token → List R → M × List Key → Type 0
  ReadsAs state ps recs after = read_statements state [] ps ≡ Ok (recs, after, [])

  -- The records of tokens and then more are those of the first tokens' statements, and then those of the rest, from the
  -- state after them and with what they leave over before it.
  abbrev pub ReadingGoesOn : Type 0
  ReadingGoesOn = (state : M × List Key) (begun ps qs : List Token) (end : Result ℕ Fault)
      → read_on g state begun (ps ++ qs) end ≡ (read_statements state begun ps >> λ x. (read_on g x.1 x.2 qs end >> λ later. Ok (x.0 ++ later)))

  -- Where tokens are whole statements that read, the records of them and then more are theirs, and then those of the
  -- rest, read from the state after them.
  abbrev pub ReadingJoins : Type 0
  ReadingJoins = (state after : M × List Key) (ps : List Token) (recs : List R) (l : Lexed) → ReadsAs state ps recs after
      → read_from g state (before ps l) ≡ (read_from g after l >> λ later. Ok (recs ++ later))

  -- The records of lists of statements, one after the other, are those of the first, and then those of the rest.
  abbrev pub RecordsJoin : Type 0
  RecordsJoin = FoldsJoin (read_one g)

  -- Where a statement ends the same wherever it stands, whole statements are read one by one.
  abbrev pub StatementsBySteps : Type 0
  StatementsBySteps = (ending : List ℕ → Ending) → ((m : M) → g.ending m ≡ ending)
      → (state : M × List Key) (begun ps : List Token)
      → let s = statements ending begun ps in
      read_statements state begun ps ≡ (all_from (read_one g) state s.0 >> λ x. Ok (x.0, x.1, s.1))

  -- So are the records of tokens: those of their statements one by one, and then the end, after what is left over.
  abbrev pub ReadingBySteps : Type 0
  ReadingBySteps = (ending : List ℕ → Ending) → ((m : M) → g.ending m ≡ ending)
      → (state : M × List Key) (begun ps : List Token) (end : Result ℕ Fault)
      → let s = statements ending begun ps in
      read_on g state begun ps end ≡ (all_from (read_one g) state s.0 >> λ x. (at_last g x.1 s.1 end >> λ later. Ok (x.0 ++ later)))
