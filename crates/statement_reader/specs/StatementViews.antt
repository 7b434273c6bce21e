-- What reading a statement says, for each kind of text.
use Rattle.std.specs.Prelude.{◌≡◌, ◌≤◌, ◌<◌, ℕ, List, [], ◌∷◌, length, Option, Some, None, Result, Ok, Err, IfOk, MatchResult, MatchOption}
use Rattle.design_model.specs.declared.fault.Fault.{Fault}
use Rattle.statement_model.specs.Tokens.{left_from}
use Rattle.statement_model.specs.Boundaries.{statement_at}
use Rattle.statement_model.specs.Grammar.{Grammar}
use Rattle.statement_model.specs.Reading.{read_at}
use Rattle.lefdef_tokens.specs.Views.{pieces_of}
use Rattle.statement_reader.specs.Located.{located_at}
use Rattle.statement_reader.specs.declared.grammar.Read.{Read}

module _ {M R S P : Type 0} (g : Grammar M R) (where_is : P → M) (says : S → R) where
  -- from a place and a position on, the first statement says this and ends there, or there is none, or it has a fault
  abbrev pub ReadsStatement : P → List ℕ → ℕ → Result (Option (Read S P)) Fault → Type 0
  ReadsStatement place text pos r =
      MatchResult r
      (λ found. MatchOption found (read_at g (where_is place) (left_from text pos) ≡ Ok None)
      (λ x. (pos < x.end) × (x.end ≤ length text) × (read_at g (where_is place) (left_from text pos) ≡ Ok (Some (says x.statement, where_is x.place, left_from text x.end)))))
      (λ f. read_at g (where_is place) (left_from text pos) ≡ Err f)

-- its tokens are those of the first statement, or none is left
abbrev pub CutsStatement : {M R S P : Type 0} → Grammar M R → (P → M) → P → List ℕ → ℕ → Result (Option (Read S P)) Fault → Type 0
CutsStatement g where_is place text pos r =
    IfOk r
    (λ found. MatchOption found (left_from text pos ≡ record { pieces = []; end = Ok (length text) })
    (λ x. statement_at (g.ending (where_is place)) (left_from text pos) ≡ Ok (Some (pieces_of x.tokens, left_from text x.end))))

-- from a place and a position on comes this statement first, and then those from the place and the position after it; or none
abbrev pub GivesNext : {M R S P : Type 0} → Grammar M R → (P → M) → (S → R) → P → List ℕ → ℕ → Option (Read S P) → P → ℕ → Type 0
GivesNext g where_is says place text pos found after end =
    MatchOption found (located_at g (where_is place) text pos ≡ [])
    (λ x. located_at g (where_is place) text pos ≡ (pieces_of x.tokens, says x.statement) ∷ located_at g (where_is after) text end)
