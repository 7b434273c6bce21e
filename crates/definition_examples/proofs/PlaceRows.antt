-- Rows of components in their surroundings: a die of 8 by 4, two rows of four sites of 2 by 2, a fence of two rectangles beside
-- each other, and placement blocked on one rectangle, and softly on another.
use Rattle.std.specs.Prelude.{◌≡◌, ℕ, List, [], ◌∷◌, ◌++◌, Option, Some, None, Result, Ok, Err, pos, codes, refl}
use Rattle.design_model.specs.declared.fault.Fault.{Fault}
use Rattle.design_model.specs.Units.{Distance}
use Rattle.def_grammar.specs.Records.{Record, read_def}
use Rattle.lef_grammar.specs.Library.{Library, empty_library}
use Rattle.place_rules.specs.Covering.{is_covered}
use Rattle.place_rules.specs.Patterns.{matches}
use Rattle.place_rules.specs.Sites.{holds, is_on_sites, spans}
use Rattle.report_rules.specs.Diagnostics.{diagnostics}
use Rattle.connection_examples.proofs.NetTexts.{net_words}

abbrev two_microns : Distance
two_microns = record { value = pos 2; places = 0 }

-- a site, and a macro of that size
abbrev square_library : Library
square_library = record empty_library {
  sites = record { name = codes "s"; size = Some (two_microns, two_microns) } ∷ [];
  macros = record { name = codes "M"; class = Some (codes "CORE"); size = Some (two_microns, two_microns); origin = None; sites = codes "s" ∷ []; pins = [] } ∷ [];
}

-- a component that stands so, with these sections before it
abbrev standing : List ℕ → List ℕ → List ℕ
standing sections so =
    codes "UNITS DISTANCE MICRONS 1 ;\nDIEAREA ( 0 0 ) ( 8 4 ) ;\nROW r s 0 0 N DO 4 BY 1 STEP 2 0 ;\nROW q s 0 2 S DO 4 BY 1 ;\n"
    ++ (sections ++ (codes "COMPONENTS 1 ;\n- c M + PLACED " ++ (so ++ codes " ;\nEND COMPONENTS\nEND DESIGN\n")))

abbrev fenced : List ℕ
fenced = codes "REGIONS 1 ;\n- F ( 0 0 ) ( 3 2 ) ( * 0 ) ( 5 2 ) + TYPE FENCE ;\nEND REGIONS\n"

abbrev grouped : List ℕ
grouped = fenced ++ codes "GROUPS 1 ;\n- g b* *c + REGION F ;\nEND GROUPS\n"

abbrev guided : List ℕ
guided = codes "REGIONS 1 ;\n- F ( 0 0 ) ( 3 2 ) + TYPE GUIDE ;\nEND REGIONS\n"

abbrev kept_free : List ℕ
kept_free = codes "BLOCKAGES 3 ;\n- PLACEMENT RECT ( 7 1 ) ( 6 0 ) ;\n- PLACEMENT + SOFT RECT ( 0 2 ) ( 8 4 ) ;\n- LAYER l RECT ( 0 2 ) ( 8 4 ) ;\nEND BLOCKAGES\n"

abbrev lines_if : Result (List Record) Fault → Option (List (List ℕ))
lines_if (Ok design) = Some (diagnostics square_library design)
lines_if (Err fault) = None

abbrev lines_of : List ℕ → List ℕ → Option (List (List ℕ))
lines_of sections so = lines_if (read_def (standing sections so))

-- on a site, flipped too; turned as the row there isn't; between two sites; and between two rows
in_rows : (lines_of [] (codes "( 4 0 ) N") ≡ Some []) × (lines_of [] (codes "( 4 0 ) FN") ≡ Some []) × (lines_of [] (codes "( 4 2 ) FS") ≡ Some [])
    × (lines_of [] (codes "( 4 0 ) S") ≡ Some (codes "flip c" ∷ [])) × (lines_of [] (codes "( 3 0 ) S") ≡ Some (codes "offsite c" ∷ []))
    × (lines_of [] (codes "( 4 1 ) N") ≡ Some (codes "offrow c" ∷ []))
unfolding net_words is_covered holds spans is_on_sites
in_rows = (refl, refl, refl, refl, refl, refl)

-- past the last site, which is the edge of the die
out_of_the_die : lines_of [] (codes "( 7 0 ) N") ≡ Some (codes "offrow c" ∷ codes "outside c" ∷ [])
unfolding net_words is_covered holds spans is_on_sites
out_of_the_die = refl

-- a component of a fence that both its rectangles cover, and one that they don't; by a group; and one that isn't the fence's
in_fences : (lines_of fenced (codes "( 2 0 ) N + REGION F") ≡ Some []) × (lines_of fenced (codes "( 4 0 ) N + REGION F") ≡ Some (codes "fence c F" ∷ []))
    × (lines_of grouped (codes "( 4 0 ) N") ≡ Some (codes "fence c F" ∷ [])) × (lines_of fenced (codes "( 4 0 ) N") ≡ Some (codes "intruder c F" ∷ []))
    × (lines_of fenced (codes "( 6 0 ) N") ≡ Some []) × (lines_of guided (codes "( 6 0 ) N + REGION F") ≡ Some [])
unfolding net_words is_covered holds spans is_on_sites matches
in_fences = (refl, refl, refl, refl, refl, refl)

-- a rectangle with its corners in order; a soft one and one of a layer keep nothing out
kept_out : (lines_of kept_free (codes "( 6 0 ) N") ≡ Some (codes "blocked c 6 0 7 1" ∷ codes "unknown LAYER l BLOCKAGES -" ∷ []))
    × (lines_of kept_free (codes "( 6 2 ) S") ≡ Some (codes "unknown LAYER l BLOCKAGES -" ∷ []))
unfolding net_words is_covered holds spans is_on_sites
kept_out = (refl, refl)

-- of two regions that a component names, its box is of the first; of two rows that lie over one another, one that is right is enough;
-- and a row of any of a macro's sites holds it
abbrev two_fences : List ℕ
two_fences = codes "REGIONS 2 ;\n- F ( 0 0 ) ( 2 2 ) + TYPE FENCE ;\n- G ( 4 0 ) ( 6 2 ) + TYPE FENCE ;\nEND REGIONS\n"

first_region : (lines_of two_fences (codes "( 0 0 ) N + REGION F + REGION G") ≡ Some [])
    × (lines_of two_fences (codes "( 4 0 ) N + REGION F + REGION G") ≡ Some (codes "fence c F" ∷ codes "intruder c G" ∷ []))
unfolding net_words is_covered holds spans is_on_sites
first_region = (refl, refl)

abbrev row_over : List ℕ → List ℕ
row_over row = codes "ROW o s " ++ (row ++ codes " ;\n")

in_two_rows : (lines_of (row_over (codes "1 0 S DO 3 BY 1 STEP 2 0")) (codes "( 3 0 ) S") ≡ Some [])
    × (lines_of (row_over (codes "1 0 N DO 3 BY 1 STEP 2 0")) (codes "( 3 0 ) S") ≡ Some (codes "flip c" ∷ []))
    × (lines_of (row_over (codes "0 0 S DO 4 BY 1 STEP 2 0")) (codes "( 4 0 ) S") ≡ Some [])
    × (lines_of (row_over (codes "0 0 S DO 4 BY 1 STEP 2 0")) (codes "( 4 0 ) N") ≡ Some [])
    × (lines_of (row_over (codes "0 0 S DO 4 BY 1 STEP 2 0")) (codes "( 3 0 ) S") ≡ Some (codes "offsite c" ∷ []))
unfolding net_words is_covered holds spans is_on_sites
in_two_rows = (refl, refl, refl, refl, refl)

-- the same library, whose macro stands in rows of another site too, which comes first
abbrev library_of_two_sites : Library
library_of_two_sites = record square_library {
  macros = record { name = codes "M"; class = Some (codes "CORE"); size = Some (two_microns, two_microns); origin = None; sites = codes "t" ∷ codes "s" ∷ []; pins = [] } ∷ [];
}

abbrev two_site_lines_if : Result (List Record) Fault → Option (List (List ℕ))
two_site_lines_if (Ok design) = Some (diagnostics library_of_two_sites design)
two_site_lines_if (Err fault) = None

second_site : (two_site_lines_if (read_def (standing [] (codes "( 4 0 ) N"))) ≡ Some []) × (two_site_lines_if (read_def (standing [] (codes "( 4 1 ) N"))) ≡ Some (codes "offrow c" ∷ []))
unfolding net_words is_covered holds spans is_on_sites
second_site = (refl, refl)
