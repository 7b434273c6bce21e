-- Laws of statements.
use Rattle.std.specs.Prelude.{◌≡◌, ℕ, List, [], ◌∷◌, ◌++◌, Some}
use Rattle.statement_model.specs.Tokens.{Token}
use Rattle.statement_model.specs.Boundaries.{Ending, cut, statements}

-- The statements of tokens and then more are those of the first, and then those of the rest with what was left over.
abbrev pub StatementsJoin : Type 0
StatementsJoin = (ending : List ℕ → Ending) (ps qs before : List Token)
    → let s = statements ending before ps in
    let t = statements ending s.1 qs in
    statements ending before (ps ++ qs) ≡ (s.0 ++ t.0, t.1)

-- The first statement is the first of all.
abbrev pub FirstOfAll : Type 0
FirstOfAll = (ending : List ℕ → Ending) (ps before first rest : List Token) → cut ending before ps ≡ Some (first, rest)
    → let later = statements ending [] rest in statements ending before ps ≡ (first ∷ later.0, later.1)
