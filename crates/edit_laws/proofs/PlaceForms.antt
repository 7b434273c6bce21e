-- The entries of the sections about places: - and words that are no ; before one.
use Rattle.std.proofs.Common.{refl}
use Rattle.def_grammar.specs.Blockages.{blockage_kind, as_blockage, blockage_clause, blockage_shape, blockage, blockage_form}
use Rattle.def_grammar.specs.Clauses.{as_kept_clause}
use Rattle.def_grammar.specs.Components.{as_component, clause, component_form}
use Rattle.def_grammar.specs.Groups.{as_group, group_clause, group_form}
use Rattle.def_grammar.specs.Pins.{clearance, as_pin_rectangle, pin_rectangle, as_pin_via, pin_via, pin_shape, pin_clause, as_pin, pin_form}
use Rattle.def_grammar.specs.Points.{as_corners}
use Rattle.def_grammar.specs.Regions.{region_kind_word, region_kinds, region_clause, as_region, later_corners, region_form}
use Rattle.edit_laws.proofs.PartForms.{name_plain, rest_plain, point_plain, later_point_plain, corners_plain, polygon_plain, placement_plain, mask_plain, kept_clause_plain}
use Rattle.edit_laws.proofs.Plain.{Plain, empty_plain, word_plain, number_plain, one_of_plain, upto_plain, behind_plain, closed_plain, seq_plain, alt_plain, many_plain, or_else_plain, seen_plain, before_ends, seq_ends, IsEntryForm, minus_entries, seen_entries}

clause_plain : Plain clause.of
unfolding clause
clause_plain =
    behind_plain _ _ refl (alt_plain _ _ _ (closed_plain _ _ placement_plain) (alt_plain _ _ _ (behind_plain _ _ refl rest_plain) (
    alt_plain _ _ _ (behind_plain _ _ refl (closed_plain _ _ name_plain)) (seq_plain _ _ (word_plain _ refl) rest_plain))))

pub component_entries : IsEntryForm component_form.of
unfolding component_form
component_entries = seen_entries as_component _ (minus_entries _ (seq_ends _ _ name_plain (seq_ends _ _ name_plain (seq_ends _ _ rest_plain (before_ends _ (many_plain _ _ clause_plain))))))

clearance_plain : Plain clearance.of
unfolding clearance
clearance_plain = alt_plain _ _ _ (behind_plain _ _ refl (number_plain _)) (alt_plain _ _ _ (behind_plain _ _ refl (number_plain _)) empty_plain)

pin_rectangle_plain : Plain pin_rectangle.of
unfolding pin_rectangle
pin_rectangle_plain = seen_plain as_pin_rectangle _ (seq_plain _ _ name_plain (seq_plain _ _ mask_plain (seq_plain _ _ clearance_plain corners_plain)))

pin_via_plain : Plain pin_via.of
unfolding pin_via
pin_via_plain = seen_plain as_pin_via _ (seq_plain _ _ name_plain (seq_plain _ _ mask_plain point_plain))

pin_shape_plain : Plain pin_shape.of
unfolding pin_shape
pin_shape_plain =
    alt_plain _ _ _ (behind_plain _ _ refl pin_rectangle_plain) (alt_plain _ _ _ (behind_plain _ _ refl pin_via_plain) (
    alt_plain _ _ _ (behind_plain _ _ refl (seq_plain _ _ name_plain rest_plain)) kept_clause_plain))

pin_clause_plain : Plain pin_clause.of
unfolding pin_clause
pin_clause_plain =
    behind_plain _ _ refl (closed_plain _ _ (alt_plain _ _ _ placement_plain (alt_plain _ _ _ (behind_plain _ _ refl name_plain) (
    alt_plain _ _ _ (behind_plain _ _ refl empty_plain) pin_shape_plain))))

pub pin_entries : IsEntryForm pin_form.of
unfolding pin_form
pin_entries = seen_entries as_pin _ (minus_entries _ (seq_ends _ _ name_plain (before_ends _ (many_plain _ _ pin_clause_plain))))

region_clause_plain : Plain region_clause.of
unfolding region_clause region_kind_word
region_clause_plain = behind_plain _ _ refl (closed_plain _ _ (alt_plain _ _ _ (behind_plain _ _ refl (one_of_plain region_kind_word region_kinds refl)) kept_clause_plain))

later_corners_plain : Plain later_corners.of
unfolding later_corners
later_corners_plain = seen_plain as_corners _ (seq_plain _ _ later_point_plain later_point_plain)

pub region_entries : IsEntryForm region_form.of
unfolding region_form
region_entries =
    seen_entries as_region _ (minus_entries _ (seq_ends _ _ name_plain (seq_ends _ _ corners_plain (seq_ends _ _ (many_plain _ _ later_corners_plain) (before_ends _ (many_plain _ _ region_clause_plain))))))

group_clause_plain : Plain group_clause.of
unfolding group_clause
group_clause_plain = behind_plain _ _ refl (alt_plain _ _ _ (behind_plain _ _ refl rest_plain) kept_clause_plain)

pub group_entries : IsEntryForm group_form.of
unfolding group_form
group_entries = seen_entries as_group _ (minus_entries _ (seq_ends _ _ name_plain (seq_ends _ _ (many_plain _ _ (word_plain _ refl)) (before_ends _ (many_plain _ _ group_clause_plain)))))

blockage_kind_plain : Plain blockage_kind.of
unfolding blockage_kind
blockage_kind_plain = alt_plain _ _ _ (behind_plain _ _ refl name_plain) (behind_plain _ _ refl empty_plain)

blockage_clause_plain : Plain blockage_clause.of
unfolding blockage_clause
blockage_clause_plain = behind_plain _ _ refl (seen_plain as_kept_clause _ (seq_plain _ _ (word_plain _ refl) (upto_plain _ refl)))

blockage_shape_plain : Plain blockage_shape.of
unfolding blockage_shape
blockage_shape_plain = alt_plain _ _ _ (behind_plain _ _ refl corners_plain) (behind_plain _ _ refl polygon_plain)

blockage_plain : Plain blockage.of
unfolding blockage
blockage_plain =
    seen_plain as_blockage _ (seq_plain _ _ blockage_kind_plain (seq_plain _ _ (many_plain _ _ blockage_clause_plain) (seq_plain _ _ blockage_shape_plain (many_plain _ _ blockage_shape_plain))))

pub blockage_entries : IsEntryForm blockage_form.of
unfolding blockage_form
blockage_entries = minus_entries _ (before_ends _ (or_else_plain _ _ (closed_plain _ _ blockage_plain) (upto_plain _ refl)))
