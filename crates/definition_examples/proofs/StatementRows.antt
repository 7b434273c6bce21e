-- Worked rows of the statements outside of sections, by computing.
use Rattle.std.proofs.Common.{◌≡◌, [], ◌∷◌, Some, None, refl, codes}
use Rattle.design_model.specs.declared.geometry.Orient.TheVariants.{N}
use Rattle.def_grammar.specs.Rows.{row_statement}
use Rattle.def_grammar.specs.Grids.{along_x, along_y, tracks_statement, gcell_grid_statement}
use Rattle.def_grammar.specs.DieArea.{die_area_points, die_area_statement}
use Rattle.def_grammar.specs.Properties.{end_properties, property, property_statement}
use Rattle.def_grammar.specs.Extensions.{extension_statement}
use Rattle.definition_examples.proofs.Computing.{outside}
use Rattle.definition_examples.proofs.FormTexts.{tokens_of, Says, HasNoForm, IsBadAt, pt, kept}

-- a row with all its parts
full_row : Says row_statement (codes "r0 core 0 -10 N DO 20 BY 1 STEP 460 0 + PROPERTY k \"a ; b\" + X ;") (record {
  name = codes "r0";
  site = codes "core";
  origin = pt (codes "0") (codes "-10");
  orient = N;
  sites = Some (record { columns = codes "20"; rows = codes "1"; step = Some (pt (codes "460") (codes "0")) });
  clauses = kept (codes "PROPERTY") (codes "k \"a ; b\"") ∷ kept (codes "X") [] ∷ [];
})
unfolding outside
full_row = refl

-- a row without STEP, and one without DO
short_rows : Says row_statement (codes "r s 0 0 N DO 0 BY 1 ;") (record {
  name = codes "r";
  site = codes "s";
  origin = pt (codes "0") (codes "0");
  orient = N;
  sites = Some (record { columns = codes "0"; rows = codes "1"; step = None });
  clauses = [];
})
    × Says row_statement (codes "r s 0 0 N ;") (record { name = codes "r"; site = codes "s"; origin = pt (codes "0") (codes "0"); orient = N; sites = None; clauses = [] })
unfolding outside
short_rows = (refl, refl)

-- no orientation; DO without BY; STEP without DO; something before the ;; and a + without a word
no_rows : HasNoForm row_statement (codes "r core 0 0 Q ;") × HasNoForm row_statement (codes "r s 0 0 N DO 1 ;") × HasNoForm row_statement (codes "r s 0 0 N STEP 1 1 ;")
    × HasNoForm row_statement (codes "r s 0 0 N DO 1 BY 1 x ;") × HasNoForm row_statement (codes "r s 0 0 N + ;") × HasNoForm row_statement (codes "r s ( 0 0 ) N ;")
unfolding outside
no_rows = (refl, refl, refl, refl, refl, refl)

-- a number that is none, and a negative number of sites
bad_rows : IsBadAt row_statement (codes "r s x 0 N ;") 4 × IsBadAt row_statement (codes "r s 0 0 N DO -1 BY 1 ;") 13 × IsBadAt row_statement (codes "r s 0 0 N DO 1 BY -1 STEP x y ;") 18
unfolding outside
bad_rows = (refl, refl, refl)

-- tracks, whose layers mean nothing
tracks_read : Says tracks_statement (codes "X 5 DO -3 STEP 2 LAYER met1 + \"s\" ;") (record {
  axis = along_x;
  start = codes "5";
  count = codes "-3";
  step = codes "2";
  rest = tokens_of (codes "LAYER met1 + \"s\"");
})
    × HasNoForm tracks_statement (codes "Z 5 DO 3 STEP 2 ;") × HasNoForm tracks_statement (codes "X 5 DO 3 ;") × IsBadAt tracks_statement (codes "Y 5 DO 3 STEP 2147483648 ;") 14
unfolding outside
tracks_read = (refl, refl, refl, refl)

-- a grid, and what has no form
grid_read : Says gcell_grid_statement (codes "Y -5 DO 3 STEP 0 ;") (record { axis = along_y; lines = record { start = codes "-5"; count = codes "3"; step = codes "0" } })
    × HasNoForm gcell_grid_statement (codes "X 0 DO 3 STEP 100 1 ;")
unfolding outside
grid_read = (refl, refl)

-- limits of a grid: 1 to 100000 lines, no space below 0, and a last line that is no number, which is told at the number of
-- lines; where one of the three numbers is invalid, the last line isn't looked at
bad_grids : IsBadAt gcell_grid_statement (codes "X 0 DO 0 STEP 1 ;") 7 × IsBadAt gcell_grid_statement (codes "X 0 DO 100001 STEP 1 ;") 7 × IsBadAt gcell_grid_statement (codes "X 0 DO 3 STEP -1 ;") 14
    × IsBadAt gcell_grid_statement (codes "X 2147483647 DO 2 STEP 1 ;") 16 × IsBadAt gcell_grid_statement (codes "X 2147483647 DO 2 STEP x ;") 23
unfolding outside
bad_grids = (refl, refl, refl, refl, refl)

-- the last line may be the last number
good_grids : (Says gcell_grid_statement (codes "X 2147483647 DO 1 STEP 1 ;") (record { axis = along_x; lines = record { start = codes "2147483647"; count = codes "1"; step = codes "1" } }))
    × Says gcell_grid_statement (codes "X -2147483647 DO 3 STEP 2147483647 ;") (record { axis = along_x; lines = record { start = codes "-2147483647"; count = codes "3"; step = codes "2147483647" } })
unfolding outside
good_grids = (refl, refl)

-- an area of three points, and its points without *; one point, and a * in the first
areas : Says die_area_statement (codes "( 0 5 ) ( * 9 ) ( 7 * ) ;") (record { first = pt (codes "0") (codes "5"); second = pt (codes "*") (codes "9"); others = pt (codes "7") (codes "*") ∷ [] })
    × (die_area_points (record { first = pt (codes "0") (codes "5"); second = pt (codes "*") (codes "9"); others = pt (codes "7") (codes "*") ∷ [] })
    ≡ pt (codes "0") (codes "5") ∷ pt (codes "0") (codes "9") ∷ pt (codes "7") (codes "9") ∷ [])
    × HasNoForm die_area_statement (codes "( 0 0 ) ;") × IsBadAt die_area_statement (codes "( * 0 ) ( 1 1 ) ;") 2 × IsBadAt die_area_statement (codes "( 0 0 ) ( x 1 ) ;") 10
unfolding outside
areas = (refl, refl, refl, refl, refl)

-- definitions of properties: any statement that ends in ;, END ; too
properties_read : Says property_statement (codes "COMPONENT k STRING \"x\" ;") (property (tokens_of (codes "COMPONENT k STRING \"x\""))) × Says property_statement (codes ";") (property [])
    × Says property_statement (codes "END ;") (property (codes "END" ∷ [])) × Says property_statement (codes "END PROPERTYDEFINITIONS") end_properties
    × HasNoForm property_statement (codes "END x") × HasNoForm property_statement (codes "BEGINEXT ; ENDEXT") × HasNoForm property_statement (codes "PROPERTYDEFINITIONS")
unfolding outside
properties_read = (refl, refl, refl, refl, refl, refl, refl)

-- an extension, with any tokens
extension_read : Says extension_statement (codes "\"tag\" END ; x ENDEXT") (tokens_of (codes "\"tag\" END ; x")) × Says extension_statement (codes "ENDEXT") [] × HasNoForm extension_statement (codes "x ;")
unfolding outside
extension_read = (refl, refl, refl)
