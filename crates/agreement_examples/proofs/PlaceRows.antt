-- Worked rows of what stands round components, and of the lines that an exchange of components takes and brings, by computing.
use Rattle.std.proofs.Common.{◌≡◌, ℕ, true, false, List, [], ◌∷◌, map, refl, codes, pos}
use Rattle.def_grammar.specs.Records.{Record, read_def}
use Rattle.design_rules.specs.Surroundings.{keep_outs, surroundings}
use Rattle.following_laws.specs.DesignLaws.{lines_of_components}
use Rattle.place_rules.specs.Covering.{is_covered}
use Rattle.place_rules.specs.Patterns.{matches}
use Rattle.entry_examples.proofs.Computing.{def_lines}
use Rattle.staying_laws.specs.PlaceStatements.{boxes_among, is_surrounding, surrounds_or_blocks}
use Rattle.agreement_examples.proofs.PartRows.{records_of, square_library}

-- a statement of each kind, and components with a header and an end
abbrev floor : List Record
floor =
    records_of (read_def (codes "VERSION 5.8 ;\nUNITS DISTANCE MICRONS 1 ;\nDIEAREA ( 0 0 ) ( 9 9 ) ;\nROW r s 0 0 N ;\nTRACKS X 0 DO 2 STEP 1 LAYER m ;\nREGIONS 1 ;\n- f ( 0 0 ) ( 2 2 ) + TYPE FENCE ;\nEND REGIONS\nCOMPONENTS 1 ;\n- c M + PLACED ( 8 8 ) N ;\nEND COMPONENTS\nPINS 1 ;\n- p + NET n ;\nEND PINS\nBLOCKAGES 1 ;\n- PLACEMENT RECT ( 4 4 ) ( 9 9 ) ;\nEND BLOCKAGES\nNETS 1 ;\n- n ( c A ) ;\nEND NETS\nGROUPS 1 ;\n- g c + REGION f ;\nEND GROUPS\nEND DESIGN\n"))

-- UNITS, the die, the row, the tracks, the region and the group; no header, no end and no blockage
of_each_kind : map is_surrounding floor
    ≡ false ∷ true ∷ true ∷ true ∷ true ∷ false ∷ true ∷ false ∷ false ∷ false ∷ false ∷ false ∷ false ∷ false ∷ false ∷ false ∷ false ∷ false ∷ false ∷ false ∷ false ∷ true ∷ false ∷ false ∷ []
unfolding def_lines
of_each_kind = refl

-- the blockage with these
with_blockages : map surrounds_or_blocks floor
    ≡ false ∷ true ∷ true ∷ true ∷ true ∷ false ∷ true ∷ false ∷ false ∷ false ∷ false ∷ false ∷ false ∷ false ∷ false ∷ true ∷ false ∷ false ∷ false ∷ false ∷ false ∷ true ∷ false ∷ false ∷ []
unfolding def_lines
with_blockages = refl

-- blockages of a layer, of placement, and of placement that are soft, and a group
abbrev blocked : List Record
blocked =
    records_of (read_def (codes "UNITS DISTANCE MICRONS 1 ;\nBLOCKAGES 3 ;\n- LAYER m RECT ( 0 0 ) ( 1 1 ) ;\n- PLACEMENT RECT ( 4 4 ) ( 9 9 ) ;\n- PLACEMENT + SOFT RECT ( 2 2 ) ( 3 3 ) ;\nEND BLOCKAGES\nGROUPS 1 ;\n- g c ;\nEND GROUPS\nEND DESIGN\n"))

of_blockages : map is_surrounding blocked ≡ true ∷ false ∷ false ∷ false ∷ false ∷ false ∷ false ∷ true ∷ false ∷ false ∷ []
unfolding def_lines
of_blockages = refl

-- one of them keeps components out
one_keeps_out : keep_outs blocked ≡ record { x1 = pos 4; y1 = pos 4; x2 = pos 9; y2 = pos 9 } ∷ []
unfolding def_lines
one_keeps_out = refl

-- components under other UNITS, of which one isn't placed
abbrev others : List Record
others = records_of (read_def (codes "UNITS DISTANCE MICRONS 2 ;\nCOMPONENTS 4 ;\n- d M + PLACED ( 2 2 ) N ;\n- e M ;\n- c M + PLACED ( 0 0 ) N ;\n- a M + PLACED ( 8 0 ) N ;\nEND COMPONENTS\nEND DESIGN\n"))

abbrev lines_among : List Record → List Record → List (List ℕ)
lines_among some rest = lines_of_components (surroundings square_library floor) (boxes_among square_library floor some) (boxes_among square_library floor rest) (keep_outs floor) []

-- the component that stands at 8, 8 lies out of the die and on the blockage
one_of_them : lines_among floor [] ≡ codes "outside c" ∷ codes "fence c f" ∷ codes "blocked c 4 4 9 9" ∷ []
unfolding def_lines is_covered matches
one_of_them = refl

-- they are measured by the UNITS of the design that they are exchanged in: by their own, two would overlap and leave the fence
some_of_others : lines_among others [] ≡ codes "outside a" ∷ []
unfolding def_lines is_covered matches
some_of_others = refl

-- one with others that stay: each pair once, and no line on those that stay by themselves
with_others : lines_among floor others ≡ codes "outside c" ∷ codes "fence c f" ∷ codes "blocked c 4 4 9 9" ∷ []
unfolding def_lines is_covered matches
with_others = refl

on_another : lines_among others others ≡ codes "overlap d d" ∷ codes "overlap c c" ∷ codes "overlap a a" ∷ codes "outside a" ∷ []
unfolding def_lines is_covered matches
on_another = refl

-- a blockage that goes or comes, where no component does: the lines of those that stay which lie on it
by_a_blockage : lines_of_components (surroundings square_library floor) [] (boxes_among square_library floor floor) [] (keep_outs floor) ≡ codes "blocked c 4 4 9 9" ∷ []
unfolding def_lines is_covered matches
by_a_blockage = refl
