-- The vias of a path that join its layer to no other are those that its pieces note, whatever else it has.
use Rattle.std.proofs.Common.{◌≡◌, Bool, true, false, ℤ, if◌then◌else◌, List, ℕ, [], ◌∷◌, ◌++◌, Option, Some, None, flat_map, refl, ap, sym, ◌∙◌}
use Rattle.std.specs.List.{filter_map}
use Rattle.design_model.specs.declared.geometry.Point.{Point}
use Rattle.def_grammar.specs.Points.{place_of}
use Rattle.def_grammar.specs.Wiring as wiring
use Rattle.def_grammar.specs.Wiring.{WireVia, SpecialVia, ViaArray, Wire, SpecialWire, path_mask, path_virtual, path_rectangle, path_point, path_via, via_of_item}
use Rattle.wire_rules.specs.Paths.{ViaUse, PathItem, to_point, jump_to, patch, use_via, WireMakings, PathPlace, Piece, segment, diagonal, rectangle, via_shape, unknown_via, via_off_layer, one_via, shapes_there, array_of, off_layer, known_via, other_layer, pieces_at, pieces_from, place_after, segment_to, same_z}
use Rattle.wire_rules.specs.Sizes.{is_array}
use Rattle.wire_rules.specs.ViaShapes.{NamedShape}
use Rattle.entry_rules.specs.WireItems.{count_of, net_via, special_via, via_in_array, items_after, point_after_item, items_of, start_of}
use Rattle.entry_rules.specs.OffLayer as lines
use Rattle.entry_rules.specs.OffLayer.{off_layer_vias, named_if, off_layer_in_wire, off_layer_in_special_wire}

-- the via that a piece notes
abbrev noted : Piece → Option (List ℕ)
noted (via_off_layer name) = Some name
noted _ = None

abbrev via_used : PathItem → Option (List ℕ)
via_used (use_via u) = Some u.name
via_used _ = None

joined_notes : (xs ys : List Piece) → filter_map noted (xs ++ ys) ≡ filter_map noted xs ++ filter_map noted ys
joined_notes [] ys = refl
joined_notes (segment s n ∷ xs) ys = joined_notes xs ys
joined_notes (diagonal ∷ xs) ys = joined_notes xs ys
joined_notes (rectangle s ∷ xs) ys = joined_notes xs ys
joined_notes (via_shape name at is_first s ∷ xs) ys = joined_notes xs ys
joined_notes (unknown_via name ∷ xs) ys = joined_notes xs ys
joined_notes (via_off_layer name ∷ xs) ys = ap (λ (z : List (List ℕ)). name ∷ z) (joined_notes xs ys)

no_note_of_a_segment : (in_x in_y : Bool) (s t : NamedShape) (n m : ℕ) → noted (if in_x then segment s n else (if in_y then segment t m else diagonal)) ≡ None
no_note_of_a_segment true in_y s t n m = refl
no_note_of_a_segment false true s t n m = refl
no_note_of_a_segment false false s t n m = refl

passed_over : (piece : Piece) (pieces : List Piece) → noted piece ≡ None → filter_map noted (piece ∷ pieces) ≡ filter_map noted pieces
passed_over piece pieces none = rw none refl

module _ (rules : WireMakings) where
  none_of_a_segment : (p : PathPlace) (b : Point) (past : Option ℤ) → noted (segment_to rules p b past) ≡ None
  none_of_a_segment p b past = no_note_of_a_segment (same_z p.at.y b.y) (same_z p.at.x b.x) _ _ _ _

  none_of_shapes : (u : ViaUse) (at : Point) (is_first : Bool) (shapes : List NamedShape) → filter_map noted (shapes_there u at is_first shapes) ≡ []
  none_of_shapes u at is_first [] = refl
  none_of_shapes u at is_first (s ∷ shapes) = none_of_shapes u at false shapes

  none_of_vias : (shapes : List NamedShape) (u : ViaUse) (places : List Point) → filter_map noted (flat_map (one_via shapes u) places) ≡ []
  none_of_vias shapes u [] = refl
  none_of_vias shapes u (at ∷ places) = joined_notes (one_via shapes u at) (flat_map (one_via shapes u) places) ∙ rw (none_of_shapes u at true shapes, none_of_vias shapes u places) refl

  note_off_layer : (name : List ℕ) (other : Option (List ℕ)) → filter_map noted (off_layer name other) ≡ named_if name other
  note_off_layer name None = refl
  note_off_layer name (Some other) = refl

  notes_of_via : (layer : List ℕ) (at : Point) (u : ViaUse) (layers : Option (List (List ℕ))) → filter_map noted (known_via rules layer at u layers) ≡ lines.off_layer layer u.name layers
  notes_of_via layer at u None = refl
  notes_of_via layer at u (Some layers) =
      let shapes = rules.via_shapes u.name in
      joined_notes (flat_map (one_via shapes u) (array_of u at)) (off_layer u.name (other_layer layer layers))
      ∙ rw (none_of_vias shapes u (array_of u at)) (note_off_layer u.name (other_layer layer layers))

  -- of a path from a place on
  notes_of_items : (p : PathPlace) (items : List PathItem) → off_layer_vias rules.via_layers p.layer (filter_map via_used items) ≡ filter_map noted (pieces_from rules p items)
  unfolding off_layer_vias pieces_from
  notes_of_items p [] = refl
  notes_of_items p (to_point b past ∷ items) =
      notes_of_items (place_after rules p (to_point b past)) items
      ∙ sym (passed_over (segment_to rules p b past) (pieces_from rules (place_after rules p (to_point b past)) items) (none_of_a_segment p b past))
  notes_of_items p (jump_to b ∷ items) = notes_of_items (place_after rules p (jump_to b)) items
  notes_of_items p (patch r ∷ items) = notes_of_items p items
  notes_of_items p (use_via u ∷ items) =
      ap (λ (z : List (List ℕ)). lines.off_layer p.layer u.name (rules.via_layers u.name) ++ z) (notes_of_items (place_after rules p (use_via u)) items)
      ∙ rw (joined_notes (pieces_at rules p (use_via u)) (pieces_from rules (place_after rules p (use_via u)) items), notes_of_via p.layer p.at u (rules.via_layers u.name)) refl

-- the vias of a path's items in numbers are those of the items
name_of_either : (is_many : Bool) (v w : ViaUse) → w.name ≡ v.name → (if is_many then w else v).name ≡ v.name
name_of_either true v w same = same
name_of_either false v w same = refl

named_in_an_array : (v : ViaUse) (array : Option ViaArray) → (via_in_array v array).name ≡ v.name
named_in_an_array v None = refl
named_in_an_array v (Some a) =
    name_of_either (is_array (count_of a.columns) (count_of a.rows)) v
    (record v { columns = count_of a.columns; rows = count_of a.rows; step = place_of a.step }) refl

vias_of_items : (at : Point) (items : List (wiring.PathItem WireVia)) → filter_map via_used (items_after net_via at items) ≡ filter_map (via_of_item (λ (v : WireVia). v)) items
unfolding items_after
vias_of_items at [] = refl
vias_of_items at (path_mask word ∷ items) = vias_of_items at items
vias_of_items at (path_virtual to ∷ items) = vias_of_items (point_after_item net_via at (path_virtual to)) items
vias_of_items at (path_rectangle corners ∷ items) = vias_of_items at items
vias_of_items at (path_point to ∷ items) = vias_of_items (point_after_item net_via at (path_point to)) items
vias_of_items at (path_via via ∷ items) = ap (λ (z : List (List ℕ)). via.name ∷ z) (vias_of_items at items)

vias_of_special_items : (at : Point) (items : List (wiring.PathItem SpecialVia)) → filter_map via_used (items_after special_via at items) ≡ filter_map (via_of_item (λ (v : SpecialVia). v.via)) items
unfolding items_after
vias_of_special_items at [] = refl
vias_of_special_items at (path_mask word ∷ items) = vias_of_special_items at items
vias_of_special_items at (path_virtual to ∷ items) = vias_of_special_items (point_after_item special_via at (path_virtual to)) items
vias_of_special_items at (path_rectangle corners ∷ items) = vias_of_special_items at items
vias_of_special_items at (path_point to ∷ items) = vias_of_special_items (point_after_item special_via at (path_point to)) items
vias_of_special_items at (path_via via ∷ items) = rw (named_in_an_array (net_via via.via) via.array) (ap (λ (z : List (List ℕ)). via.via.name ∷ z) (vias_of_special_items at items))

-- so the vias that are told of a wire are those that its pieces note, whatever its widths are and however it begins
module _ (rules : WireMakings) (past : Option ℤ) where
  notes_of_a_wire : (w : Wire) → off_layer_in_wire rules.via_layers w ≡ filter_map noted (pieces_from rules (record { layer = w.layer; at = start_of net_via w.path; past = past }) (items_of net_via w.path))
  notes_of_a_wire w =
      ap (λ (names : List (List ℕ)). off_layer_vias rules.via_layers w.layer names) (sym (vias_of_items (start_of net_via w.path) w.path.items))
      ∙ notes_of_items rules (record { layer = w.layer; at = start_of net_via w.path; past = past }) (items_of net_via w.path)

  notes_of_a_special_wire : (w : SpecialWire) → off_layer_in_special_wire rules.via_layers w ≡ filter_map noted (pieces_from rules (record { layer = w.layer; at = start_of special_via w.path; past = past }) (items_of special_via w.path))
  notes_of_a_special_wire w =
      ap (λ (names : List (List ℕ)). off_layer_vias rules.via_layers w.layer names) (sym (vias_of_special_items (start_of special_via w.path) w.path.items))
      ∙ notes_of_items rules (record { layer = w.layer; at = start_of special_via w.path; past = past }) (items_of special_via w.path)
