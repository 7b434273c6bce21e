-- The statements of a text with what they say.
use Rattle.std.specs.Prelude.{ℕ, List, [], ◌∷◌, ◌++◌, Result, Ok, Err, if◌then◌else◌}
use Rattle.design_model.specs.declared.fault.Fault.{Fault}
use Rattle.statement_model.specs.Tokens.{Token, Lexed, left_from}
use Rattle.statement_model.specs.Boundaries.{is_whole}
use Rattle.statement_model.specs.Grammar.{Grammar}
use Rattle.statement_model.specs.Reading.{read_form}

module _ {M R : Type 0} (g : Grammar M R) where
  -- a statement that has its form, and then those after it
  abbrev pub in_front : List Token → Result (R × M) Fault → (M → List (List Token × R)) → List (List Token × R)
  in_front ps (Ok x) later = (ps, x.0) ∷ later x.1
  in_front ps (Err f) later = []

  -- statements and what they say, from a place on, up to the first that has no form or an invalid number, where some
  -- tokens of the first statement were read before
  unfoldable pub located_on : M → List Token → List Token → List (List Token × R)
  located_on m before [] = []
  located_on m before (p ∷ ps) =
      if is_whole (g.ending m) (before ++ p ∷ []) then in_front (before ++ p ∷ []) (read_form g m (before ++ p ∷ [])) (λ after. located_on after [] ps)
      else located_on m (before ++ p ∷ []) ps

  abbrev pub located_from : M → Lexed → List (List Token × R)
  located_from m l = located_on m [] l.pieces

  -- those of a text, from a position between two statements on
  abbrev pub located_at : M → List ℕ → ℕ → List (List Token × R)
  located_at m text pos = located_from m (left_from text pos)
