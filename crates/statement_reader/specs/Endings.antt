-- Endings of the program as endings of the definitions, and runs of tokens as statements.
use Rattle.std.specs.Prelude.{◌≡◌, ℕ, List, Some, Result, Ok, Err, MatchResult}
use Rattle.design_model.specs.declared.fault.Fault.{Fault}
use Rattle.statement_model.specs.Tokens.{left_from}
use Rattle.statement_model.specs.Boundaries.{Ending, alone, with_next, up_to, statement_at}
use Rattle.lefdef_tokens.specs.Views.{pieces_of}
use Rattle.lefdef_tokens.specs.declared.token_run.TokenRun.{TokenRun}
use Rattle.statement_reader.specs.declared.boundary.Ending as code
use Rattle.statement_reader.specs.declared.boundary.Ending.TheVariants as variants

abbrev pub ending_view : code.Ending → Ending
ending_view variants.Alone = alone
ending_view variants.WithNext = with_next
ending_view (variants.UpTo word) = up_to word.now

-- the first statement from a place on has these tokens, and ends at a place; or it has a fault
abbrev pub RunsTo : (List ℕ → Ending) → List ℕ → ℕ → Result (TokenRun × ℕ) Fault → Type 0
RunsTo e text pos r =
    MatchResult r (λ x. statement_at e (left_from text pos) ≡ Ok (Some (pieces_of x.0, left_from text x.1))) (λ f. statement_at e (left_from text pos) ≡ Err f)

-- so it is for every rule of endings that ends a statement with this first token so
abbrev pub Runs : List ℕ → ℕ → List ℕ → Ending → Result (TokenRun × ℕ) Fault → Type 0
Runs text pos first ending r = (e : List ℕ → Ending) → e first ≡ ending → RunsTo e text pos r
