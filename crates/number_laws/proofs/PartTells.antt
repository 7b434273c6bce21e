-- The forms that several sections share: what they tell of their numbers.
use Rattle.std.proofs.Common.{[], ◌∷◌}
use Rattle.form_meanings.specs.Words.{is_name, is_plain, is_stop}
use Rattle.design_model.specs.EnumWords.{orient_word, orients}
use Rattle.def_grammar.specs.Clauses.{as_list, mask, as_kept_clause, kept_clause}
use Rattle.def_grammar.specs.Parts.{as_point, name, rest, point, orient}
use Rattle.def_grammar.specs.Points.{two_numbers, later_point, points, as_corners, corners, as_polygon, polygon}
use Rattle.def_grammar.specs.Regions.{later_corners}
use Rattle.number_laws.specs.PartNumbers.{PointNumbers, LaterPointNumbers, PointsNumbers, CornersNumbers, LaterCornersNumbers, PolygonNumbers}
use Rattle.number_laws.proofs.Tells.{Tells, NoNumbers, word_tells, one_of_tells, upto_tells, number_tells, behind_tells, before_tells, seq_tells, opt_tells, opt_none, many_tells, seen_tells}

pub name_tells : NoNumbers name.of
name_tells = word_tells is_name

pub rest_tells : NoNumbers rest.of
rest_tells = upto_tells is_stop

pub orient_tells : NoNumbers orient.of
unfolding orient
orient_tells = one_of_tells orient_word orients

pub mask_tells : NoNumbers mask.of
mask_tells = opt_none _ _ (behind_tells _ _ (word_tells is_plain))

pub kept_clause_tells : NoNumbers kept_clause.of
unfolding kept_clause
kept_clause_tells = seen_tells as_kept_clause _ (seq_tells _ _ (word_tells is_plain) rest_tells) (λ c t. tt) (λ c t. (tt, tt))

pub point_tells : Tells point.of PointNumbers
unfolding point
point_tells = seen_tells as_point _ (behind_tells _ _ (seq_tells _ _ (number_tells _) (before_tells _ _ (number_tells _)))) (λ at t. t) (λ at t. t)

pub two_numbers_tell : Tells two_numbers.of PointNumbers
unfolding two_numbers
two_numbers_tell = seen_tells as_point _ (seq_tells _ _ (number_tells _) (number_tells _)) (λ at t. t) (λ at t. t)

pub later_point_tells : Tells later_point.of LaterPointNumbers
unfolding later_point
later_point_tells = seen_tells as_point _ (behind_tells _ _ (seq_tells _ _ (number_tells _) (before_tells _ _ (number_tells _)))) (λ at t. t) (λ at t. t)

pub points_tell : Tells points.of PointsNumbers
unfolding points
points_tell =
    seen_tells as_list _ (opt_tells _ _ (seq_tells _ _ point_tells (many_tells _ _ later_point_tells)))
    (elim [ [] ↦ λ t. tt | at ∷ all ↦ λ t. t ]) (elim [ [] ↦ λ t. tt | at ∷ all ↦ λ t. t ])

pub corners_tell : Tells corners.of CornersNumbers
unfolding corners
corners_tell = seen_tells as_corners _ (seq_tells _ _ point_tells later_point_tells) (λ c t. t) (λ c t. t)

pub later_corners_tell : Tells later_corners.of LaterCornersNumbers
unfolding later_corners
later_corners_tell = seen_tells as_corners _ (seq_tells _ _ later_point_tells later_point_tells) (λ c t. t) (λ c t. t)

pub polygon_tells : Tells polygon.of PolygonNumbers
unfolding polygon
polygon_tells =
    seen_tells as_polygon _ (seq_tells _ _ point_tells (seq_tells _ _ later_point_tells (seq_tells _ _ later_point_tells (many_tells _ _ later_point_tells))))
    (λ p t. (t.0, t.1.0, t.1.1.0, t.1.1.1)) (λ p t. (t.0, (t.1, (t.2, t.3))))
