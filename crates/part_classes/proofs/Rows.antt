-- Worked rows of labels, of which some parts are joined, and of counts of classes.
use Rattle.std.proofs.Common.{◌≡◌, [], ◌∷◌, true, false, refl}
use Rattle.shape_rules.specs.Classes.{all_joined, numbers, labels, distinct, holding, bare}
use Rattle.part_classes.specs.Forest.{end_of, labels_of}

no_parts : labels 0 [] ≡ []
unfolding all_joined numbers
no_parts = refl

no_classes : distinct [] ≡ 0
unfolding distinct
no_classes = refl

each_alone : labels 3 [] ≡ 0 ∷ 1 ∷ 2 ∷ []
unfolding all_joined numbers
each_alone = refl

-- of five parts 3 and 4 are joined, then 0 and 3
two_joins : labels 5 ((0, 3) ∷ (3, 4) ∷ []) ≡ 0 ∷ 1 ∷ 2 ∷ 0 ∷ 0 ∷ []
unfolding all_joined numbers
two_joins = refl

two_joins_classes : distinct (labels 5 ((0, 3) ∷ (3, 4) ∷ [])) ≡ 3
unfolding all_joined numbers distinct
two_joins_classes = refl

-- in the other order
two_joins_turned : labels 5 ((3, 4) ∷ (0, 3) ∷ []) ≡ 0 ∷ 1 ∷ 2 ∷ 0 ∷ 0 ∷ []
unfolding all_joined numbers
two_joins_turned = refl

-- the class of 1 and 2 goes over to the label of 0, by the part with the greater number
by_a_greater_part : labels 4 ((2, 0) ∷ (1, 2) ∷ []) ≡ 0 ∷ 0 ∷ 0 ∷ 3 ∷ []
unfolding all_joined numbers
by_a_greater_part = refl

chain : labels 5 ((0, 1) ∷ (1, 2) ∷ (2, 3) ∷ (3, 4) ∷ []) ≡ 0 ∷ 0 ∷ 0 ∷ 0 ∷ 0 ∷ []
unfolding all_joined numbers
chain = refl

chain_classes : distinct (labels 5 ((0, 1) ∷ (1, 2) ∷ (2, 3) ∷ (3, 4) ∷ [])) ≡ 1
unfolding all_joined numbers distinct
chain_classes = refl

repeated : labels 4 ((1, 3) ∷ (3, 1) ∷ (1, 3) ∷ []) ≡ 0 ∷ 1 ∷ 2 ∷ 1 ∷ []
unfolding all_joined numbers
repeated = refl

with_itself : labels 3 ((1, 1) ∷ []) ≡ 0 ∷ 1 ∷ 2 ∷ []
unfolding all_joined numbers
with_itself = refl

-- six parts in three classes, of which two hold a marked part, one of them two
marked_holding : holding (true ∷ false ∷ true ∷ false ∷ true ∷ false ∷ []) (labels 6 ((0, 2) ∷ (3, 5) ∷ (1, 4) ∷ [])) ≡ 2
unfolding all_joined numbers distinct
marked_holding = refl

marked_bare : bare (true ∷ false ∷ true ∷ false ∷ true ∷ false ∷ []) (labels 6 ((0, 2) ∷ (3, 5) ∷ (1, 4) ∷ [])) ≡ 1
unfolding all_joined numbers distinct
marked_bare = refl

none_marked_holding : holding (false ∷ false ∷ []) (labels 2 []) ≡ 0
unfolding all_joined numbers distinct
none_marked_holding = refl

none_marked_bare : bare (false ∷ false ∷ []) (labels 2 []) ≡ 2
unfolding all_joined numbers distinct
none_marked_bare = refl

none_bare : bare (true ∷ false ∷ []) (labels 2 ((0, 1) ∷ [])) ≡ 0
unfolding all_joined numbers distinct
none_bare = refl

-- 4 stands over 3, 3 over 1, and 2 over itself
forest : labels_of (0 ∷ 1 ∷ 2 ∷ 1 ∷ 3 ∷ []) ≡ 0 ∷ 1 ∷ 2 ∷ 1 ∷ 1 ∷ []
unfolding numbers end_of
forest = refl
