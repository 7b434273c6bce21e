-- Tokens that are passed over on the way to the end of a statement.
use Rattle.std.specs.Prelude.{◌≡◌, ℕ, true, false, List, length}
use Rattle.std.specs.List.{All}
use Rattle.statement_model.specs.Tokens.{Token, before, left_from}
use Rattle.statement_model.specs.Boundaries.{Ending, is_alone, is_last}

-- From one place between two tokens to another stand n tokens, none of which is the last of a statement that ends so. Where
-- the statement's first token is its last, there are none.
pub record PassesOver (text : List ℕ) (from : ℕ) (ending : Ending) (to n : ℕ) : Type 0 where
  pub passed : List Token
  pub many : length passed ≡ n
  pub goes : left_from text from ≡ before passed (left_from text to)
  pub more : All (λ p. is_last ending p.bytes ≡ false) passed
  pub none : is_alone ending ≡ true → (to ≡ from) × (n ≡ 0)
