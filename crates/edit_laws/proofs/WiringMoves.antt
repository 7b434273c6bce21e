-- What stands in the forms of the wiring of nets before one stop stands there before another.
use Rattle.std.proofs.Common.{◌<◌, inl, inr, ℕ, List, [], ◌∷◌, ◌++◌, length, Option, Some, None, arith, refl, codes}
use Rattle.design_model.specs.EnumWords.{orient_word, orients}
use Rattle.form_meanings.specs.Meaning.{many_meaning}
use Rattle.form_meanings.specs.Words.{is_plus}
use Rattle.statement_model.specs.Form.{Form}
use Rattle.def_grammar.specs.Clauses.{as_list, mask}
use Rattle.def_grammar.specs.Parts.{as_point, point, orient}
use Rattle.def_grammar.specs.Points.{is_open, two_numbers, later_point, as_corners, corners, as_polygon, polygon}
use Rattle.def_grammar.specs.SpecialNets.{as_placed_via, placed_via, special_shape, special_listed}
use Rattle.def_grammar.specs.Nets.{net_listed}
use Rattle.def_grammar.specs.Wiring.{wiring_word, wiring_statuses, wiring_status, goes_on, extension, as_wire_point, wire_start, wire_point, wire_rectangle, as_wire_via, wire_via, WireVia, as_via_array, array_size, via_array, as_special_via, special_via, SpecialVia, path_item, as_path, net_item, special_item, net_path, special_path, taper, as_wire, wire, wire_mark, as_special_wire, special_wire, is_new, new_wire, new_special_wire, as_wiring, wiring, as_special_wiring, special_wires, special_wiring}
use Rattle.edit_laws.proofs.Moves.{Moves, word_moves, number_moves, one_of_moves, behind_moves, before_moves, closed_moves, seq_moves, alt_moves, seen_moves}
use Rattle.edit_laws.proofs.NetMoves.{HasWords, empty_moves, opt_moves, limited_moves, many_moves, many_before}

one_word : (w : List ℕ) (ws : List (List ℕ)) → 0 < length (w ∷ ws)
one_word w ws = omega arith

-- points
mask_moves : Moves mask.of
mask_moves = opt_moves _ _ refl (behind_moves _ _ (word_moves _))

point_moves : Moves point.of
unfolding point
point_moves = seen_moves as_point _ (behind_moves _ _ (seq_moves _ _ (number_moves _) (before_moves _ _ (number_moves _))))

two_numbers_move : Moves two_numbers.of
unfolding two_numbers
two_numbers_move = seen_moves as_point _ (seq_moves _ _ (number_moves _) (number_moves _))

later_point_moves : Moves later_point.of
unfolding later_point
later_point_moves = seen_moves as_point _ (behind_moves _ _ (seq_moves _ _ (number_moves _) (before_moves _ _ (number_moves _))))

later_point_words : HasWords later_point.of
unfolding later_point
later_point_words = record { some = λ p. one_word (codes "(") (p.x ∷ p.y ∷ codes ")" ∷ []) }

corners_move : Moves corners.of
unfolding corners
corners_move = seen_moves as_corners _ (seq_moves _ _ point_moves later_point_moves)

later_points_move : Moves (many_meaning is_open later_point.of)
later_points_move = many_moves is_open later_point.of later_point_words later_point_moves refl

polygon_moves : Moves polygon.of
unfolding polygon
polygon_moves = seen_moves as_polygon _ (seq_moves _ _ point_moves (seq_moves _ _ later_point_moves (seq_moves _ _ later_point_moves later_points_move)))

orient_moves : Moves orient.of
unfolding orient
orient_moves = one_of_moves orient_word orients

-- paths
extension_moves : Moves extension.of
extension_moves = opt_moves _ _ refl (number_moves _)

wire_start_moves : Moves wire_start.of
unfolding wire_start
wire_start_moves = seen_moves as_wire_point _ (behind_moves _ _ (seq_moves _ _ (number_moves _) (seq_moves _ _ (number_moves _) (before_moves _ _ extension_moves))))

wire_point_moves : Moves wire_point.of
unfolding wire_point
wire_point_moves = seen_moves as_wire_point _ (behind_moves _ _ (seq_moves _ _ (number_moves _) (seq_moves _ _ (number_moves _) (before_moves _ _ extension_moves))))

wire_rectangle_moves : Moves wire_rectangle.of
unfolding wire_rectangle
wire_rectangle_moves = seen_moves as_corners _ (behind_moves _ _ (seq_moves _ _ two_numbers_move (before_moves _ _ two_numbers_move)))

wire_via_moves : Moves wire_via.of
unfolding wire_via orient_word
wire_via_moves = seen_moves as_wire_via _ (seq_moves _ _ (word_moves _) (opt_moves _ _ refl orient_moves))

via_array_moves : Moves via_array.of
unfolding via_array array_size
via_array_moves =
    seen_moves as_via_array _ (seq_moves _ _ (limited_moves _ _ _ (seq_moves _ _ (number_moves _) (behind_moves _ _ (number_moves _)))) (behind_moves _ _ two_numbers_move))

special_via_moves : Moves special_via.of
unfolding special_via
special_via_moves = seen_moves as_special_via _ (seq_moves _ _ wire_via_moves (opt_moves _ _ refl (behind_moves _ _ via_array_moves)))

path_item_moves : {Via : Type 0} (via : Form Via) → Moves via.of → Moves (path_item via).of
path_item_moves via m =
    alt_moves _ _ _ refl (behind_moves _ _ (word_moves _)) (alt_moves _ _ _ refl (behind_moves _ _ later_point_moves) (
    alt_moves _ _ _ refl (behind_moves _ _ wire_rectangle_moves) (alt_moves _ _ _ refl wire_point_moves m)))

-- what a path goes on with has words
path_item_words : {Via : Type 0} (via : Form Via) → HasWords via.of → HasWords (path_item via).of
unfolding wire_rectangle wire_point later_point two_numbers
path_item_words via has = record {
  some = elim [
    | inl w ↦ omega arith
    | inr (inl at) ↦ omega arith
    | inr (inr (inl c)) ↦ omega arith
    | inr (inr (inr (inl w))) ↦ omega arith
    | inr (inr (inr (inr v))) ↦ has.some v
  ];
}

wire_via_words : HasWords wire_via.of
unfolding wire_via
wire_via_words = record { some = λ v. omega arith }

special_via_words : HasWords special_via.of
unfolding special_via wire_via
special_via_words = record { some = λ v. omega arith }

net_item_moves : Moves (many_meaning goes_on net_item.of)
unfolding net_item
net_item_moves = many_moves goes_on net_item.of (path_item_words wire_via wire_via_words) (path_item_moves wire_via wire_via_moves) refl

special_item_moves : Moves (many_meaning goes_on special_item.of)
unfolding special_item
special_item_moves = many_moves goes_on special_item.of (path_item_words special_via special_via_words) (path_item_moves special_via special_via_moves) refl

net_path_moves : Moves net_path.of
unfolding net_path
net_path_moves = seen_moves (as_path {Via = WireVia}) _ (seq_moves _ _ mask_moves (seq_moves _ _ wire_start_moves net_item_moves))

special_path_moves : Moves special_path.of
unfolding special_path
special_path_moves = seen_moves (as_path {Via = SpecialVia}) _ (seq_moves _ _ mask_moves (seq_moves _ _ wire_start_moves special_item_moves))

behind_mask : (m : Option (List ℕ)) (ws : List (List ℕ)) → 0 < length ws → 0 < length (mask.of.spell m ++ ws)
behind_mask (Some w) ws some = omega arith
behind_mask None ws some = some

special_path_words : HasWords special_path.of
unfolding special_path wire_start
special_path_words = record { some = λ p. behind_mask p.mask _ (omega arith) }

-- wires
taper_moves : Moves taper.of
unfolding taper
taper_moves = alt_moves _ _ _ refl (behind_moves _ _ empty_moves) (alt_moves _ _ _ refl (behind_moves _ _ (word_moves _)) empty_moves)

wire_moves : Moves wire.of
unfolding wire
wire_moves = seen_moves as_wire _ (seq_moves _ _ (word_moves _) (seq_moves _ _ taper_moves (seq_moves _ _ (opt_moves _ _ refl (behind_moves _ _ (number_moves _))) net_path_moves)))

wire_mark_moves : Moves wire_mark.of
unfolding wire_mark
wire_mark_moves =
    behind_moves _ _ (alt_moves _ _ _ refl (behind_moves _ _ (word_moves _)) (alt_moves _ _ _ refl (behind_moves _ _ (number_moves _)) (behind_moves _ _ (word_moves _))))

wire_mark_words : HasWords wire_mark.of
unfolding wire_mark
wire_mark_words = record { some = λ m. omega arith }

special_wire_moves : Moves special_wire.of
unfolding special_wire
special_wire_moves =
    seen_moves as_special_wire _ (seq_moves _ _ (word_moves _) (seq_moves _ _ (number_moves _) (many_before is_plus wire_mark.of wire_mark_words wire_mark_moves special_path.of special_path_words special_path_moves)))

new_wire_moves : Moves (many_meaning is_new new_wire.of)
unfolding new_wire
new_wire_moves = many_moves is_new new_wire.of (record { some = λ w. omega arith }) (behind_moves _ _ wire_moves) refl

new_special_wire_moves : Moves (many_meaning is_new new_special_wire.of)
unfolding new_special_wire
new_special_wire_moves = many_moves is_new new_special_wire.of (record { some = λ w. omega arith }) (behind_moves _ _ special_wire_moves) refl

wiring_status_moves : Moves wiring_status.of
unfolding wiring_status
wiring_status_moves = one_of_moves wiring_word wiring_statuses

wiring_moves : Moves wiring.of
unfolding wiring
wiring_moves = seen_moves as_wiring _ (seq_moves _ _ (alt_moves _ _ _ refl (behind_moves _ _ empty_moves) wiring_status_moves) (seq_moves _ _ wire_moves new_wire_moves))

special_wires_move : Moves special_wires.of
unfolding special_wires
special_wires_move = seen_moves as_list _ (opt_moves _ _ refl (seq_moves _ _ special_wire_moves new_special_wire_moves))

special_wiring_moves : Moves special_wiring.of
unfolding special_wiring
special_wiring_moves = seen_moves as_special_wiring _ (seq_moves _ _ (alt_moves _ _ _ refl (behind_moves _ _ (word_moves _)) wiring_status_moves) special_wires_move)

-- clauses that have their forms
pub net_listed_moves : Moves net_listed.of
unfolding net_listed
net_listed_moves = closed_moves _ _ refl (alt_moves _ _ _ refl (behind_moves _ _ (word_moves _)) (alt_moves _ _ _ refl (behind_moves _ _ (word_moves _)) wiring_moves))

placed_via_moves : Moves placed_via.of
unfolding placed_via
placed_via_moves = seen_moves as_placed_via _ (seq_moves _ _ wire_via_moves (seq_moves _ _ point_moves later_points_move))

special_shape_moves : Moves special_shape.of
unfolding special_shape
special_shape_moves =
    alt_moves _ _ _ refl (behind_moves _ _ (seq_moves _ _ (word_moves _) corners_move)) (alt_moves _ _ _ refl (behind_moves _ _ placed_via_moves) (
    alt_moves _ _ _ refl (behind_moves _ _ (seq_moves _ _ (word_moves _) polygon_moves)) special_wiring_moves))

pub special_listed_moves : Moves special_listed.of
unfolding special_listed
special_listed_moves =
    closed_moves _ _ refl (alt_moves _ _ _ refl (behind_moves _ _ (word_moves _)) (alt_moves _ _ _ refl (behind_moves _ _ (word_moves _)) (
    alt_moves _ _ _ refl (behind_moves _ _ (word_moves _)) special_shape_moves)))
