-- How a component is placed: by the first of its clauses PLACED, FIXED, COVER and UNPLACED.
use Rattle.std.specs.Prelude.{ℕ, ◌+◌, Bool, true, false, not, List, [], ◌∷◌, ◌++◌, length, take_while, drop, filter, Option, Some, None}
use Rattle.design_model.specs.declared.geometry.Status.{Status}
use Rattle.design_model.specs.declared.geometry.Status.TheVariants.{Placed, Fixed, Cover}
use Rattle.form_meanings.specs.Words.{first}
use Rattle.def_grammar.specs.Components.{Clause, placed, is_placing}

-- the clause that places a component
abbrev pub placing : List Clause → Option Clause
placing clauses = first (filter is_placing clauses)

-- the clauses before it, and those after it
abbrev pub before_placing : List Clause → List Clause
before_placing clauses = take_while (λ c. not (is_placing c)) clauses

abbrev pub after_placing : List Clause → List Clause
after_placing clauses = drop (length (before_placing clauses) + 1) clauses

-- the clauses with another in its place, or with that last
abbrev pub with_placing : Clause → List Clause → List Clause
with_placing new clauses = before_placing clauses ++ new ∷ after_placing clauses

-- no edit moves the component
abbrev pub is_held : Option Clause → Bool
is_held (Some (placed Fixed _ _)) = true
is_held (Some (placed Cover _ _)) = true
is_held _ = false
