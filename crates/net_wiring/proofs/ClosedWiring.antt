-- The forms of wiring clauses read at the end of some words what they read before a ;
use Rattle.std.proofs.Common.{◌<◌, inl, inr, ℕ, List, [], ◌∷◌, length, arith, refl, codes}
use Rattle.design_model.specs.EnumWords.{orient_word, orients}
use Rattle.form_meanings.specs.Words.{is_plus}
use Rattle.form_meanings.specs.Meaning.{many_meaning}
use Rattle.statement_model.specs.Form.{Form}
use Rattle.def_grammar.specs.Clauses.{as_list, mask}
use Rattle.def_grammar.specs.Parts.{as_point, name, point, orient}
use Rattle.def_grammar.specs.Points.{is_open, two_numbers, later_point, as_corners, corners, as_polygon, polygon}
use Rattle.def_grammar.specs.SpecialNets.{as_placed_via, placed_via, special_shape}
use Rattle.def_grammar.specs.Wiring.{wiring_word, wiring_statuses, wiring_status, goes_on, extension, as_wire_point, wire_start, wire_point, wire_rectangle, as_wire_via, wire_via, WireVia, as_via_array, array_size, via_array, as_special_via, special_via, SpecialVia, path_item, as_path, net_item, special_item, net_path, special_path, taper, as_wire, wire, wire_mark, as_special_wire, special_wire, is_new, new_wire, new_special_wire, as_wiring, wiring, as_special_wiring, special_wires, special_wiring}
use Rattle.net_wiring.proofs.ClosedForms.{Closes, Shortens, alt_closes, before_closes, behind_closes, empty_closes, limited_closes, many_closes, number_closes, one_of_closes, opt_closes, seen_closes, seq_closes, shorter, word_closes}

one_word : (w : List ℕ) (ws : List (List ℕ)) → 0 < length (w ∷ ws)
one_word w ws = omega arith

-- points
pub name_closes : Closes name.of
name_closes = word_closes _ refl

mask_closes : Closes mask.of
mask_closes = opt_closes _ _ refl (behind_closes _ _ refl (word_closes _ refl))

point_closes : Closes point.of
unfolding point
point_closes = seen_closes as_point _ (behind_closes _ _ refl (seq_closes _ _ (number_closes _) (before_closes _ _ refl (number_closes _))))

two_numbers_close : Closes two_numbers.of
unfolding two_numbers
two_numbers_close = seen_closes as_point _ (seq_closes _ _ (number_closes _) (number_closes _))

later_point_closes : Closes later_point.of
unfolding later_point
later_point_closes = seen_closes as_point _ (behind_closes _ _ refl (seq_closes _ _ (number_closes _) (before_closes _ _ refl (number_closes _))))

later_point_shortens : Shortens later_point.of
unfolding later_point
later_point_shortens = shorter later_point (λ p. one_word (codes "(") (p.x ∷ p.y ∷ codes ")" ∷ []))

pub corners_close : Closes corners.of
unfolding corners
corners_close = seen_closes as_corners _ (seq_closes _ _ point_closes later_point_closes)

later_points_close : Closes (many_meaning is_open later_point.of)
later_points_close = many_closes is_open later_point.of later_point_shortens refl later_point_closes

pub polygon_closes : Closes polygon.of
unfolding polygon
polygon_closes = seen_closes as_polygon _ (seq_closes _ _ point_closes (seq_closes _ _ later_point_closes (seq_closes _ _ later_point_closes later_points_close)))

orient_closes : Closes orient.of
unfolding orient orient_word
orient_closes = one_of_closes orient_word orients refl

-- paths
extension_closes : Closes extension.of
extension_closes = opt_closes _ _ refl (number_closes _)

wire_start_closes : Closes wire_start.of
unfolding wire_start
wire_start_closes = seen_closes as_wire_point _ (behind_closes _ _ refl (seq_closes _ _ (number_closes _) (seq_closes _ _ (number_closes _) (before_closes _ _ refl extension_closes))))

wire_point_closes : Closes wire_point.of
unfolding wire_point
wire_point_closes = seen_closes as_wire_point _ (behind_closes _ _ refl (seq_closes _ _ (number_closes _) (seq_closes _ _ (number_closes _) (before_closes _ _ refl extension_closes))))

wire_rectangle_closes : Closes wire_rectangle.of
unfolding wire_rectangle
wire_rectangle_closes = seen_closes as_corners _ (behind_closes _ _ refl (seq_closes _ _ two_numbers_close (before_closes _ _ refl two_numbers_close)))

wire_via_closes : Closes wire_via.of
unfolding wire_via orient_word
wire_via_closes = seen_closes as_wire_via _ (seq_closes _ _ name_closes (opt_closes _ _ refl orient_closes))

via_array_closes : Closes via_array.of
unfolding via_array array_size
via_array_closes =
    seen_closes as_via_array _ (seq_closes _ _ (limited_closes _ _ _ (seq_closes _ _ (number_closes _) (behind_closes _ _ refl (number_closes _)))) (behind_closes _ _ refl two_numbers_close))

special_via_closes : Closes special_via.of
unfolding special_via
special_via_closes = seen_closes as_special_via _ (seq_closes _ _ wire_via_closes (opt_closes _ _ refl (behind_closes _ _ refl via_array_closes)))

path_item_closes : {Via : Type 0} (via : Form Via) → Closes via.of → Closes (path_item via).of
path_item_closes via c =
    alt_closes _ _ _ refl (behind_closes _ _ refl (word_closes _ refl)) (alt_closes _ _ _ refl (behind_closes _ _ refl later_point_closes) (
    alt_closes _ _ _ refl (behind_closes _ _ refl wire_rectangle_closes) (alt_closes _ _ _ refl wire_point_closes c)))

wire_via_words : (v : WireVia) → 0 < length (wire_via.of.spell v)
unfolding wire_via
wire_via_words v = omega arith

special_via_words : (v : SpecialVia) → 0 < length (special_via.of.spell v)
unfolding special_via wire_via
special_via_words v = omega arith

path_item_shortens : {Via : Type 0} (via : Form Via) → ((v : Via) → 0 < length (via.of.spell v)) → Shortens (path_item via).of
unfolding wire_rectangle wire_point later_point two_numbers
path_item_shortens via some = shorter (path_item via) (elim [
  | inl w ↦ omega arith
  | inr (inl at) ↦ omega arith
  | inr (inr (inl c)) ↦ omega arith
  | inr (inr (inr (inl w))) ↦ omega arith
  | inr (inr (inr (inr v))) ↦ some v
])

net_items_close : Closes (many_meaning goes_on net_item.of)
unfolding net_item
net_items_close = many_closes goes_on net_item.of (path_item_shortens wire_via wire_via_words) refl (path_item_closes wire_via wire_via_closes)

special_items_close : Closes (many_meaning goes_on special_item.of)
unfolding special_item
special_items_close = many_closes goes_on special_item.of (path_item_shortens special_via special_via_words) refl (path_item_closes special_via special_via_closes)

net_path_closes : Closes net_path.of
unfolding net_path
net_path_closes = seen_closes (as_path {Via = WireVia}) _ (seq_closes _ _ mask_closes (seq_closes _ _ wire_start_closes net_items_close))

special_path_closes : Closes special_path.of
unfolding special_path
special_path_closes = seen_closes (as_path {Via = SpecialVia}) _ (seq_closes _ _ mask_closes (seq_closes _ _ wire_start_closes special_items_close))

-- wires
taper_closes : Closes taper.of
unfolding taper
taper_closes = alt_closes _ _ _ refl (behind_closes _ _ refl empty_closes) (alt_closes _ _ _ refl (behind_closes _ _ refl name_closes) empty_closes)

wire_closes : Closes wire.of
unfolding wire
wire_closes = seen_closes as_wire _ (seq_closes _ _ name_closes (seq_closes _ _ taper_closes (seq_closes _ _ (opt_closes _ _ refl (behind_closes _ _ refl (number_closes _))) net_path_closes)))

wire_mark_closes : Closes wire_mark.of
unfolding wire_mark
wire_mark_closes =
    behind_closes _ _ refl (alt_closes _ _ _ refl (behind_closes _ _ refl (word_closes _ refl)) (
    alt_closes _ _ _ refl (behind_closes _ _ refl (number_closes _)) (behind_closes _ _ refl (word_closes _ refl))))

wire_mark_shortens : Shortens wire_mark.of
unfolding wire_mark
wire_mark_shortens = shorter wire_mark (λ m. one_word (codes "+") _)

special_wire_closes : Closes special_wire.of
unfolding special_wire
special_wire_closes = seen_closes as_special_wire _ (seq_closes _ _ name_closes (seq_closes _ _ (number_closes _) (seq_closes _ _ (many_closes is_plus wire_mark.of wire_mark_shortens refl wire_mark_closes) special_path_closes)))

new_wires_close : Closes (many_meaning is_new new_wire.of)
unfolding new_wire
new_wires_close = many_closes is_new new_wire.of (shorter new_wire (λ w. one_word (codes "NEW") _)) refl (behind_closes _ _ refl wire_closes)

new_special_wires_close : Closes (many_meaning is_new new_special_wire.of)
unfolding new_special_wire
new_special_wires_close = many_closes is_new new_special_wire.of (shorter new_special_wire (λ w. one_word (codes "NEW") _)) refl (behind_closes _ _ refl special_wire_closes)

wiring_status_closes : Closes wiring_status.of
unfolding wiring_status wiring_word
wiring_status_closes = one_of_closes wiring_word wiring_statuses refl

pub wiring_closes : Closes wiring.of
unfolding wiring
wiring_closes = seen_closes as_wiring _ (seq_closes _ _ (alt_closes _ _ _ refl (behind_closes _ _ refl empty_closes) wiring_status_closes) (seq_closes _ _ wire_closes new_wires_close))

special_wires_close : Closes special_wires.of
unfolding special_wires
special_wires_close = seen_closes as_list _ (opt_closes _ _ refl (seq_closes _ _ special_wire_closes new_special_wires_close))

special_wiring_closes : Closes special_wiring.of
unfolding special_wiring
special_wiring_closes = seen_closes as_special_wiring _ (seq_closes _ _ (alt_closes _ _ _ refl (behind_closes _ _ refl name_closes) wiring_status_closes) special_wires_close)

placed_via_closes : Closes placed_via.of
unfolding placed_via
placed_via_closes = seen_closes as_placed_via _ (seq_closes _ _ wire_via_closes (seq_closes _ _ point_closes later_points_close))

pub special_shape_closes : Closes special_shape.of
unfolding special_shape
special_shape_closes =
    alt_closes _ _ _ refl (behind_closes _ _ refl (seq_closes _ _ name_closes corners_close)) (alt_closes _ _ _ refl (behind_closes _ _ refl placed_via_closes) (
    alt_closes _ _ _ refl (behind_closes _ _ refl (seq_closes _ _ name_closes polygon_closes)) special_wiring_closes))
