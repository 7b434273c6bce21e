-- Worked rows of wires and vias, by computing.
use Rattle.std.proofs.Common.{◌≡◌, ℕ, true, false, List, [], ◌∷◌, Option, Some, None, ℤ, pos, refl, codes, if◌then◌else◌}
use Rattle.std.specs.Prelude.{neg_ℤ}
use Rattle.std.specs.Str.{bytes_eq}
use Rattle.design_model.specs.declared.geometry.Orient.TheVariants.{N, W}
use Rattle.design_model.specs.declared.geometry.Point.{Point}
use Rattle.wire_rules.specs.Paths.{PathItem, to_point, jump_to, patch, use_via, WireMakings, PathPlace, segment, diagonal, rectangle, via_shape, unknown_via, via_off_layer, line_of, pieces_from}
use Rattle.wire_rules.specs.ViaShapes.{NamedShape, generated_shapes, half}

abbrev on : List ℕ → ℤ → ℤ → ℤ → ℤ → NamedShape
on layer x1 y1 x2 y2 = record { layer = layer; box = record { x1 = x1; y1 = y1; x2 = x2; y2 = y2 } }

abbrev shapes_of : List ℕ → List NamedShape
shapes_of name =
    if bytes_eq name (codes "M1M2") then
    on (codes "met1") (neg_ℤ (pos 100)) (neg_ℤ (pos 100)) (pos 100) (pos 100)
    ∷ on (codes "via1") (neg_ℤ (pos 50)) (neg_ℤ (pos 50)) (pos 50) (pos 50)
    ∷ on (codes "met2") (neg_ℤ (pos 100)) (neg_ℤ (pos 100)) (pos 100) (pos 100)
    ∷ []
    else []

abbrev layers_of : List ℕ → Option (List (List ℕ))
layers_of name = if bytes_eq name (codes "M1M2") then Some (codes "met1" ∷ codes "met2" ∷ []) else None

-- a net's wires 140 wide, and a special net's
abbrev net_rules : WireMakings
net_rules = record { width = λ l. pos 140; past_end = half; via_layers = layers_of; via_shapes = shapes_of }

abbrev special_makings : ℤ → WireMakings
special_makings width = record { width = λ l. width; past_end = λ w. pos 0; via_layers = layers_of; via_shapes = shapes_of }

abbrev from : List ℕ → ℤ → ℤ → PathPlace
from layer x y = record { layer = layer; at = record { x = x; y = y }; past = None }

abbrev point : ℤ → ℤ → Point
point x y = record { x = x; y = y }

abbrev m1m2 : ℕ → Point → PathItem
m1m2 columns step = use_via (record { name = codes "M1M2"; orient = N; columns = columns; rows = 1; step = step })

net_segment : pieces_from net_rules (from (codes "met1") (pos 0) (pos 0)) (to_point (point (pos 1000) (pos 0)) None ∷ [])
    ≡ segment (on (codes "met1") (neg_ℤ (pos 70)) (neg_ℤ (pos 70)) (pos 1070) (pos 70)) 1000 ∷ []
unfolding pieces_from
net_segment = refl

net_segment_that_ends_at_its_point : pieces_from net_rules (from (codes "met1") (pos 0) (pos 0)) (to_point (point (pos 1000) (pos 0)) (Some (pos 0)) ∷ [])
    ≡ segment (on (codes "met1") (neg_ℤ (pos 70)) (neg_ℤ (pos 70)) (pos 1000) (pos 70)) 1000 ∷ []
unfolding pieces_from
net_segment_that_ends_at_its_point = refl

-- up, down and to the left; no length; and a diagonal
special_segments : pieces_from (special_makings (pos 5)) (from (codes "met1") (pos 0) (pos 0))
    (to_point (point (pos 0) (pos 10)) None ∷ to_point (point (neg_ℤ (pos 4)) (pos 10)) (Some (pos 3)) ∷ to_point (point (neg_ℤ (pos 4)) (pos 10)) (Some (pos 1)) ∷ jump_to (point (pos 0) (pos 0)) ∷ to_point (point (pos 1) (pos 1)) None ∷ [])
    ≡ segment (on (codes "met1") (neg_ℤ (pos 2)) (pos 0) (pos 3) (pos 10)) 10
    ∷ segment (on (codes "met1") (neg_ℤ (pos 7)) (pos 8) (pos 0) (pos 13)) 4
    ∷ segment (on (codes "met1") (neg_ℤ (pos 7)) (pos 8) (neg_ℤ (pos 3)) (pos 13)) 0
    ∷ diagonal
    ∷ []
unfolding pieces_from
special_segments = refl

generated : generated_shapes (record {
  bottom = codes "met1";
  cut = codes "via1";
  top = codes "met2";
  cut_size = record { x = pos 150; y = pos 150 };
  cut_spacing = record { x = pos 170; y = pos 170 };
  rows = pos 2;
  columns = pos 3;
  bottom_enclosure = record { x = pos 85; y = pos 55 };
  top_enclosure = record { x = pos 55; y = pos 85 };
  bottom_offset = record { x = pos 0; y = pos 0 };
  top_offset = record { x = pos 0; y = pos 0 };
  origin = record { x = pos 0; y = pos 0 };
})
    ≡ on (codes "met1") (neg_ℤ (pos 480)) (neg_ℤ (pos 290)) (pos 480) (pos 290)
    ∷ on (codes "via1") (neg_ℤ (pos 395)) (neg_ℤ (pos 235)) (pos 395) (pos 235)
    ∷ on (codes "met2") (neg_ℤ (pos 450)) (neg_ℤ (pos 320)) (pos 450) (pos 320)
    ∷ []
generated = refl

-- a via leads to the other layer, and the wire goes on there
wire_over_a_via : pieces_from net_rules (from (codes "met1") (pos 0) (pos 0)) (to_point (point (pos 1000) (pos 0)) None ∷ m1m2 1 (point (pos 0) (pos 0)) ∷ to_point (point (pos 1000) (pos 500)) None ∷ [])
    ≡ segment (on (codes "met1") (neg_ℤ (pos 70)) (neg_ℤ (pos 70)) (pos 1070) (pos 70)) 1000
    ∷ via_shape (codes "M1M2") (point (pos 1000) (pos 0)) true (on (codes "met1") (pos 900) (neg_ℤ (pos 100)) (pos 1100) (pos 100))
    ∷ via_shape (codes "M1M2") (point (pos 1000) (pos 0)) false (on (codes "via1") (pos 950) (neg_ℤ (pos 50)) (pos 1050) (pos 50))
    ∷ via_shape (codes "M1M2") (point (pos 1000) (pos 0)) false (on (codes "met2") (pos 900) (neg_ℤ (pos 100)) (pos 1100) (pos 100))
    ∷ segment (on (codes "met2") (pos 930) (neg_ℤ (pos 70)) (pos 1070) (pos 570)) 500
    ∷ []
unfolding pieces_from line_of
wire_over_a_via = refl

-- an array of vias, one that isn't known, and one off its layers
vias_of_a_special_net : pieces_from (special_makings (pos 0)) (from (codes "via1") (pos 0) (pos 0)) (m1m2 2 (point (pos 300) (pos 0)) ∷ use_via (record { name = codes "none"; orient = W; columns = 1; rows = 1; step = point (pos 0) (pos 0) }) ∷ [])
    ≡ via_shape (codes "M1M2") (point (pos 0) (pos 0)) true (on (codes "met1") (neg_ℤ (pos 100)) (neg_ℤ (pos 100)) (pos 100) (pos 100))
    ∷ via_shape (codes "M1M2") (point (pos 0) (pos 0)) false (on (codes "via1") (neg_ℤ (pos 50)) (neg_ℤ (pos 50)) (pos 50) (pos 50))
    ∷ via_shape (codes "M1M2") (point (pos 0) (pos 0)) false (on (codes "met2") (neg_ℤ (pos 100)) (neg_ℤ (pos 100)) (pos 100) (pos 100))
    ∷ via_shape (codes "M1M2") (point (pos 300) (pos 0)) true (on (codes "met1") (pos 200) (neg_ℤ (pos 100)) (pos 400) (pos 100))
    ∷ via_shape (codes "M1M2") (point (pos 300) (pos 0)) false (on (codes "via1") (pos 250) (neg_ℤ (pos 50)) (pos 350) (pos 50))
    ∷ via_shape (codes "M1M2") (point (pos 300) (pos 0)) false (on (codes "met2") (pos 200) (neg_ℤ (pos 100)) (pos 400) (pos 100))
    ∷ via_off_layer (codes "M1M2")
    ∷ unknown_via (codes "none")
    ∷ []
unfolding pieces_from line_of
vias_of_a_special_net = refl

-- two columns and two rows of a turned via whose one shape is wider than high: row by row
abbrev lying : List ℕ → List NamedShape
lying name = on (codes "via1") (pos 0) (pos 0) (pos 30) (pos 10) ∷ []

abbrev lying_rules : WireMakings
lying_rules = record { width = λ l. pos 140; past_end = half; via_layers = layers_of; via_shapes = lying }

rows_of_vias : pieces_from lying_rules (from (codes "met2") (pos 0) (pos 0)) (use_via (record { name = codes "M1M2"; orient = W; columns = 2; rows = 2; step = point (pos 300) (pos 500) }) ∷ [])
    ≡ via_shape (codes "M1M2") (point (pos 0) (pos 0)) true (on (codes "via1") (neg_ℤ (pos 10)) (pos 0) (pos 0) (pos 30))
    ∷ via_shape (codes "M1M2") (point (pos 300) (pos 0)) true (on (codes "via1") (pos 290) (pos 0) (pos 300) (pos 30))
    ∷ via_shape (codes "M1M2") (point (pos 0) (pos 500)) true (on (codes "via1") (neg_ℤ (pos 10)) (pos 500) (pos 0) (pos 530))
    ∷ via_shape (codes "M1M2") (point (pos 300) (pos 500)) true (on (codes "via1") (pos 290) (pos 500) (pos 300) (pos 530))
    ∷ []
unfolding pieces_from line_of
rows_of_vias = refl

rectangle_about_the_last_point : pieces_from net_rules (from (codes "met1") (pos 10) (pos 20)) (patch (record { x1 = neg_ℤ (pos 5); y1 = pos 0; x2 = pos 5; y2 = pos 1 }) ∷ []) ≡ rectangle (on (codes "met1") (pos 5) (pos 20) (pos 15) (pos 21)) ∷ []
unfolding pieces_from
rectangle_about_the_last_point = refl
