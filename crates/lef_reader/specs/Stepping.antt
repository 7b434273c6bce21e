-- One statement of a text after another.
use Rattle.std.specs.Prelude.{◌≡◌, ℕ, List, [], Option, Some, None, Result, Ok, Err, MatchOption, MatchResult}
use Rattle.design_model.specs.declared.fault.Fault.{Fault}
use Rattle.form_meanings.specs.Words.{ends}
use Rattle.statement_model.specs.Grammar.{Grammar}
use Rattle.statement_model.specs.Tokens.{Lexed, Token, left_from}
use Rattle.statement_model.specs.Boundaries.{statement_at}
use Rattle.statement_model.specs.Reading.{read_at}
use Rattle.lefdef_tokens.specs.Views.{rest_of}
use Rattle.lefdef_tokens.specs.declared.cursor.Cursor.{Cursor}

-- the tokens of a statement, where there is one
abbrev pub first_tokens : Result (Option (List Token × Lexed)) Fault → List Token
first_tokens (Ok (Some x)) = x.0
first_tokens _ = []

-- the tokens of the statement that stands next
abbrev pub tokens_from : {M R P : Type 0} → Grammar M R → (P → M) → List ℕ → P → ℕ → List Token
tokens_from g where_is text place pos = first_tokens (statement_at (g.ending (where_is place)) (left_from text pos))

module _ {M R S P : Type 0} (g : Grammar M R) (where_is : P → M) (says : S → R) (text : List ℕ) where
  -- what stands next
  abbrev pub next_from : P → ℕ → Result (Option (R × M × Lexed)) Fault
  next_from place pos = read_at g (where_is place) (left_from text pos)

  -- a statement was read, and the next one stands there; at the end and at a fault nothing moves
  abbrev pub Steps : P → ℕ → Result (Option S) Fault → P → ℕ → Type 0
  Steps place pos r after end =
      MatchResult r
      (λ found. MatchOption found ((next_from place pos ≡ Ok None) × (after ≡ place) × (end ≡ pos))
      (λ s. next_from place pos ≡ Ok (Some (says s, where_is after, left_from text end))))
      (λ f. (next_from place pos ≡ Err f) × (after ≡ place) × (end ≡ pos))

-- what was read, where no token is left behind it
abbrev pub ended : {S : Type 0} → Option (S × Cursor) → Option (S × Option ℕ)
ended (Some x) = ends x.0 (rest_of x.1)
ended None = None
