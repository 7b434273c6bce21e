-- Worked examples of edits of one component, by computing.
use Rattle.std.specs.Prelude.{ℕ, List, [], ◌++◌, codes}
use Rattle.std.proofs.Common.{refl}
use Rattle.edit_model.specs.declared.edit.EditCode.TheVariants.{Fixed, UnknownName}
use Rattle.edit_rules.specs.ComponentEdits.{remaster_as, unplace_it}
use Rattle.edit_rules.specs.Edits.{of_component}
use Rattle.edit_examples.proofs.EditedTexts.{Makes, Refuses, edit_words}

abbrev with_clauses : List ℕ → List ℕ
with_clauses clauses = codes "COMPONENTS 2 ;\n- u1 INV" ++ clauses ++ codes ";\n- u2 INV ;\nEND COMPONENTS\n"

-- a placement becomes UNPLACED from its word on; where there is none, or it is so already, nothing changes
unplaced : Makes (with_clauses (codes " + SOURCE DIST + PLACED ( 1 2 ) N # x\n + WEIGHT 1")) (of_component (codes "u1") unplace_it) (with_clauses (codes " + SOURCE DIST + UNPLACED # x\n + WEIGHT 1"))
    × Makes (with_clauses (codes " + PLACED ( 1 2 ) N + COVER ( 3 4 ) S ")) (of_component (codes "u1") unplace_it) (with_clauses (codes " + UNPLACED + COVER ( 3 4 ) S "))
    × Makes (with_clauses (codes " + UNPLACED 1 2")) (of_component (codes "u1") unplace_it) (with_clauses (codes " + UNPLACED 1 2"))
    × Makes (with_clauses (codes " ")) (of_component (codes "u1") unplace_it) (with_clauses (codes " "))
unfolding edit_words
unplaced = (refl, refl, refl, refl)

held : Refuses (with_clauses (codes " + FIXED ( 1 2 ) N ")) (of_component (codes "u1") unplace_it) Fixed
    × Refuses (with_clauses (codes " + COVER ( 1 2 ) N + PLACED ( 1 2 ) N ")) (of_component (codes "u1") unplace_it) Fixed
    × Refuses (with_clauses (codes " + FIXED ( 1 2 ) N ")) (of_component (codes "u3") unplace_it) UnknownName
unfolding edit_words
held = (refl, refl, refl)

-- another macro, which must be known, also of a component that is held, and also the same
remastered : Makes (with_clauses (codes " + FIXED ( 1 2 ) N ")) (of_component (codes "u1") (remaster_as (codes "INV"))) (with_clauses (codes " + FIXED ( 1 2 ) N "))
    × Makes (codes "COMPONENTS 1 ;\n- u\tNAND # x\n a b + PLACED ( 0 0 ) N ;\nEND COMPONENTS\n") (of_component (codes "u") (remaster_as (codes "INV"))) (codes "COMPONENTS 1 ;\n- u\tINV # x\n a b + PLACED ( 0 0 ) N ;\nEND COMPONENTS\n")
    × Refuses (with_clauses (codes " ")) (of_component (codes "u1") (remaster_as (codes "NAND"))) UnknownName
    × Refuses (with_clauses (codes " ")) (of_component (codes "u3") (remaster_as (codes "INV"))) UnknownName
    × Refuses (with_clauses (codes " ")) (of_component (codes "u1") (remaster_as [])) UnknownName
unfolding edit_words
remastered = (refl, refl, refl, refl, refl)
