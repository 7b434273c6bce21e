-- Worked examples of the density of cells, by computing.
use Rattle.std.specs.Prelude.{ℕ, List, [], ◌∷◌, ◌++◌, Some, None, codes, pos, neg_ℤ}
use Rattle.std.proofs.Common.{◌≡◌, refl}
use Rattle.measure_examples.proofs.Measuring.{cell_in, measure_words, of_text, place_cell_in}
use Rattle.measure_rules.specs.GridCells.{columns, rows}

-- a grid of two by two cells, a hundred wide and high
abbrev grid : List ℕ
grid = codes "GCELLGRID X 0 DO 3 STEP 100 ;\nGCELLGRID Y 0 DO 3 STEP 100 ;\n"

abbrev strap : List ℕ
strap = grid ++ codes "SPECIALNETS 1 ;\n- P + ROUTED met1 10 ( 50 55 ) ( 150 * ) ;\nEND SPECIALNETS\n"

-- a strap over two cells; no cell is past the last line, and no layer past the last of the library
on_a_strap : (cell_in strap 0 0 1 ≡ Some (Some 500)) × (cell_in strap 1 0 1 ≡ Some (Some 500)) × (cell_in strap 0 1 1 ≡ Some (Some 0)) × (cell_in strap 0 0 3 ≡ Some (Some 0))
    × (cell_in strap 2 0 1 ≡ Some None) × (cell_in strap 0 2 1 ≡ Some None) × (cell_in strap 0 0 4 ≡ Some None) × (place_cell_in strap 0 0 ≡ Some (Some 0))
unfolding measure_words
on_a_strap = (refl, refl, refl, refl, refl, refl, refl, refl)

-- what overlaps counts each time: a pin of two nets, a wire over it, and the three layers of a via each by themselves
abbrev crowded : List ℕ
crowded = codes "GCELLGRID X 0 DO 2 STEP 1000 ;\nGCELLGRID Y 1000 DO 2 STEP 200 ;\nCOMPONENTS 1 ;\n- u INV + PLACED ( 0 0 ) N ;\nEND COMPONENTS\nNETS 2 ;\n- a ( u A ) ( u A ) + ROUTED met1 ( 200 1100 ) M1M2 ;\n- b ( u A ) + ROUTED met1 ( 100 1100 0 ) ( 300 * 0 ) ;\nEND NETS\n"

in_a_crowd : (cell_in crowded 0 0 1 ≡ Some (Some 148000)) × (cell_in crowded 0 0 2 ≡ Some (Some 10000)) × (cell_in crowded 0 0 3 ≡ Some (Some 40000)) × (cell_in crowded 0 0 0 ≡ Some (Some 0))
unfolding measure_words
in_a_crowd = (refl, refl, refl, refl)

-- the lines of all statements of an axis in order, each once; one line, or none across the other axis, makes no cell
abbrev mixed : List ℕ
mixed = codes "GCELLGRID X 50 DO 2 STEP 100 ;\nGCELLGRID X -100 DO 4 STEP 50 ;\nGCELLGRID X 7 DO 3 STEP 0 ;\nGCELLGRID Y 5 DO 1 STEP 9 ;\n"

grid_of_several : (of_text (λ design. columns design) mixed ≡ Some (neg_ℤ (pos 100) ∷ neg_ℤ (pos 50) ∷ pos 0 ∷ pos 7 ∷ pos 50 ∷ pos 150 ∷ []))
    × (of_text (λ design. rows design) mixed ≡ Some (pos 5 ∷ [])) × (cell_in mixed 0 0 1 ≡ Some None) × (place_cell_in mixed 0 0 ≡ Some None) × (place_cell_in [] 0 0 ≡ Some None)
unfolding measure_words
grid_of_several = (refl, refl, refl, refl, refl)

-- components that take part alone: placed or fixed, of a macro that is known, wherever they stand
abbrev components : List ℕ
components = codes "GCELLGRID X 0 DO 3 STEP 460 ;\nGCELLGRID Y -2720 DO 3 STEP 2720 ;\nCOMPONENTS 5 ;\n- a INV + PLACED ( 0 -1360 ) N ;\n- b INV + FIXED ( 460 0 ) FS ;\n- c INV + COVER ( 0 0 ) N ;\n- d INV ;\n- e NAND + PLACED ( 0 0 ) N ;\nEND COMPONENTS\n"

components_in_cells : (place_cell_in components 0 0 ≡ Some (Some 625600)) × (place_cell_in components 1 0 ≡ Some (Some 625600)) × (place_cell_in components 0 1 ≡ Some (Some 625600))
    × (place_cell_in components 1 1 ≡ Some (Some 1876800)) × (place_cell_in components 2 0 ≡ Some None)
unfolding measure_words
components_in_cells = (refl, refl, refl, refl, refl)
