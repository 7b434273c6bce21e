-- The laws of statements.
use Rattle.std.proofs.Common.{List, [], ◌∷◌, ◌++◌, refl, ap, ⊎_elim}
use Rattle.statement_model.specs.Tokens.{Token}
use Rattle.statement_model.specs.Boundaries.{statements, cut, is_whole}
use Rattle.statement_laws.specs.StatementLaws.{StatementsJoin, FirstOfAll}
use Rattle.std.proofs.lemmas.Bool.{cases_Bool as cases}
use Rattle.form_meanings.proofs.Steps.{some_same}

pub statements_join : StatementsJoin
unfolding statements
statements_join ending [] qs before = refl
statements_join ending (p ∷ ps) qs before = ⊎_elim
    (λ whole. rw whole (ap (λ (x : List (List Token) × List Token). ((before ++ p ∷ []) ∷ x.0, x.1)) (statements_join ending ps qs [])))
    (λ more. rw more (statements_join ending ps qs (before ++ p ∷ [])))
    (cases (is_whole ending (before ++ p ∷ [])))

pub first_of_all : FirstOfAll
unfolding statements cut
first_of_all ending [] before first rest e = cc
first_of_all ending (p ∷ ps) before first rest e = ⊎_elim
    (λ whole.
    let h = rw whole at e in
    let x : List Token × List Token = (before ++ p ∷ [], ps) in
    let y : List Token × List Token = (first, rest) in
    let same = some_same x y h in
    rw whole (ap (λ (z : List Token × List Token). (z.0 ∷ (statements ending [] z.1).0, (statements ending [] z.1).1)) same))
    (λ more. let h = rw more at e in rw more (first_of_all ending ps (before ++ p ∷ []) first rest h))
    (cases (is_whole ending (before ++ p ∷ [])))
