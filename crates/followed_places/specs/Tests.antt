-- How many boxes, and rectangles that keep components out, are compared, at most and at least, where components of a text, and such
-- rectangles, go out and come in.
use Rattle.std.specs.Prelude.{◌+◌, ◌++◌, ℕ, List, map, sum_by}
use Rattle.design_model.specs.declared.identifier.StmtId.{StmtId}
use Rattle.design_model.specs.Geometry.{Rectangle}
use Rattle.def_grammar.specs.Records.{Record}
use Rattle.lef_grammar.specs.Library.{Library}
use Rattle.design_rules.specs.Boxes.{scale}
use Rattle.statement_boxes.specs.Boxes.{met_count, near_count}
use Rattle.followed_places.specs.Places.{components_under, keep_outs_under, place_under, said}

-- how many of these boxes are near each of some boxes, in all
abbrev pub near_sum : List (StmtId × Rectangle) → List (StmtId × Rectangle) → ℕ
near_sum boxes some = sum_by (λ b. near_count b.1 boxes) some

-- and how many meet each of some boxes
abbrev pub met_sum : List (StmtId × Rectangle) → List (StmtId × Rectangle) → ℕ
met_sum boxes some = sum_by (λ b. met_count b.1 boxes) some

-- the boxes of the components among a design's statements that take part
abbrev pub places_in : Library → List (StmtId × Record) → List (StmtId × Rectangle)
places_in library records = map place_under (components_under library (scale (said records)) records)

-- what the box of a component is compared with: these, and the rectangles that keep components out
abbrev pub obstacles_in : Library → List (StmtId × Record) → List (StmtId × Rectangle)
obstacles_in library records = places_in library records ++ keep_outs_under records

-- each box of a component among some statements with each box of the design near it, itself too, and with each rectangle near it that keeps
-- components out; and each rectangle where they keep components out with each box of the design near it
abbrev pub near_pairs : Library → List (StmtId × Record) → List (StmtId × Record) → ℕ
near_pairs library records some =
    near_sum (obstacles_in library records) (map place_under (components_under library (scale (said records)) some)) + near_sum (places_in library records) (keep_outs_under some)

-- so with each box and each such rectangle of the design that meets it
abbrev pub met_pairs : Library → List (StmtId × Record) → List (StmtId × Record) → ℕ
met_pairs library records some =
    met_sum (obstacles_in library records) (map place_under (components_under library (scale (said records)) some)) + met_sum (places_in library records) (keep_outs_under some)

-- of these the boxes of components among some statements of a design with each other, and with the rectangles where these keep components out
abbrev pub met_among : Library → List (StmtId × Record) → List (StmtId × Record) → ℕ
met_among library records some = let own = map place_under (components_under library (scale (said records)) some) in met_sum own (own ++ keep_outs_under some)
