-- The forms that several sections share: what fits them is spelled without ;
use Rattle.std.proofs.Common.{refl}
use Rattle.design_model.specs.EnumWords.{status_word, statuses, orient_word, orients}
use Rattle.def_grammar.specs.Parts.{as_point, name, rest, point, orient}
use Rattle.def_grammar.specs.Points.{two_numbers, later_point, as_corners, corners, as_polygon, polygon, points}
use Rattle.def_grammar.specs.Clauses.{as_list, mask, as_kept_clause, kept_clause}
use Rattle.def_grammar.specs.Components.{placement}
use Rattle.edit_laws.proofs.Plain.{Plain, word_plain, number_plain, one_of_plain, upto_plain, behind_plain, before_plain, seq_plain, opt_plain, many_plain, seen_plain}

pub name_plain : Plain name.of
name_plain = word_plain _ refl

pub rest_plain : Plain rest.of
rest_plain = upto_plain _ refl

pub point_plain : Plain point.of
unfolding point
point_plain = seen_plain as_point _ (behind_plain _ _ refl (seq_plain _ _ (number_plain _) (before_plain _ _ (number_plain _) refl)))

pub two_numbers_plain : Plain two_numbers.of
unfolding two_numbers
two_numbers_plain = seen_plain as_point _ (seq_plain _ _ (number_plain _) (number_plain _))

pub later_point_plain : Plain later_point.of
unfolding later_point
later_point_plain = seen_plain as_point _ (behind_plain _ _ refl (seq_plain _ _ (number_plain _) (before_plain _ _ (number_plain _) refl)))

pub points_plain : Plain points.of
unfolding points
points_plain = seen_plain as_list _ (opt_plain _ _ (seq_plain _ _ point_plain (many_plain _ _ later_point_plain)))

pub corners_plain : Plain corners.of
unfolding corners
corners_plain = seen_plain as_corners _ (seq_plain _ _ point_plain later_point_plain)

pub polygon_plain : Plain polygon.of
unfolding polygon
polygon_plain = seen_plain as_polygon _ (seq_plain _ _ point_plain (seq_plain _ _ later_point_plain (seq_plain _ _ later_point_plain (many_plain _ _ later_point_plain))))

pub orient_plain : Plain orient.of
unfolding orient orient_word
orient_plain = one_of_plain orient_word orients refl

pub placement_plain : Plain placement.of
unfolding placement status_word
placement_plain = seq_plain _ _ (one_of_plain status_word statuses refl) (seq_plain _ _ point_plain orient_plain)

pub mask_plain : Plain mask.of
mask_plain = opt_plain _ _ (behind_plain _ _ refl (word_plain _ refl))

pub kept_clause_plain : Plain kept_clause.of
unfolding kept_clause
kept_clause_plain = seen_plain as_kept_clause _ (seq_plain _ _ (word_plain _ refl) rest_plain)
