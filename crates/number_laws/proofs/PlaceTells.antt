-- The entries of the sections about places, and the statements about the floor: what they tell of their numbers.
use Rattle.std.proofs.Common.{◌≡◌, ℕ, List, ◌∷◌, None, codes, refl}
use Rattle.form_meanings.specs.Words.{is_plus, is_semicolon}
use Rattle.statement_model.specs.Form.{number, ◌▸◌, ◌⨟◌, seen}
use Rattle.def_grammar.specs.Blockages.{blockage_kind, blockage_clause, BlockageShape, blocked_rectangle, blocked_polygon, blockage_shape, as_blockage, blockage, BlockageEntry, blocks, blockage_kept, blockage_form}
use Rattle.def_grammar.specs.Clauses.{as_kept_clause}
use Rattle.def_grammar.specs.Components.{Clause, placed, unplaced, region, other, placement, clause, as_component, component_form}
use Rattle.def_grammar.specs.DieArea.{as_die_area, die_area_statement}
use Rattle.def_grammar.specs.Grids.{axis_word, axes, is_within_range, as_tracks, tracks_statement, as_grid_lines, grid_lines, as_gcell_grid, gcell_grid_statement}
use Rattle.def_grammar.specs.Limits.{is_size, is_lines}
use Rattle.def_grammar.specs.Numbers.{is_int}
use Rattle.def_grammar.specs.Parts.{int}
use Rattle.def_grammar.specs.Pins.{Clearance, spacing, design_rule_width, no_clearance, clearance, as_pin_rectangle, pin_rectangle, as_pin_via, pin_via, PinClause, pin_placed, pin_net, pin_port, pin_has_rectangle, pin_has_via, pin_has_polygon, pin_kept, pin_shape, pin_clause, as_pin, pin_form}
use Rattle.def_grammar.specs.Regions.{region_kind_word, region_kinds, as_region, region_clause, region_form}
use Rattle.def_grammar.specs.Rows.{as_site_array, site_array, as_row, row_clause, row_statement}
use Rattle.design_model.specs.EnumWords.{status_word, statuses}
use Rattle.number_laws.specs.PartNumbers.{Passes, PointNumbers, CornersNumbers}
use Rattle.number_laws.specs.PlaceNumbers.{ClauseNumbers, ComponentNumbers, ClearanceNumbers, PinClauseNumbers, PinNumbers, RegionNumbers, BlockageShapeNumbers, BlockageNumbers, BlockageEntryNumbers, DieAreaNumbers, SiteArrayNumbers, RowNumbers, TracksNumbers, GridLinesNumbers, GcellGridNumbers}
use Rattle.number_laws.proofs.Tells.{Tells, NoNumbers, empty_tells, word_tells, one_of_tells, upto_tells, number_tells, behind_tells, before_tells, closed_tells, seq_tells, alt_tells, opt_tells, many_tells, many_none, seen_tells, limited_tells}
use Rattle.number_laws.proofs.PartTells.{name_tells, rest_tells, orient_tells, mask_tells, kept_clause_tells, point_tells, two_numbers_tell, later_point_tells, corners_tell, later_corners_tell, polygon_tells}

region_clause_tells : NoNumbers region_clause.of
unfolding region_clause
region_clause_tells = behind_tells _ _ (closed_tells _ _ (alt_tells _ _ _ (behind_tells _ _ (one_of_tells region_kind_word region_kinds)) kept_clause_tells))

blockage_kind_tells : NoNumbers blockage_kind.of
unfolding blockage_kind
blockage_kind_tells = alt_tells _ _ _ (behind_tells _ _ name_tells) (behind_tells _ _ empty_tells)

blockage_clause_tells : NoNumbers blockage_clause.of
unfolding blockage_clause
blockage_clause_tells = behind_tells _ _ (seen_tells as_kept_clause _ (seq_tells _ _ (word_tells _) (upto_tells _)) (λ c t. tt) (λ c t. (tt, tt)))

row_clause_tells : NoNumbers row_clause.of
unfolding row_clause
row_clause_tells = behind_tells _ _ kept_clause_tells

placement_tells : Tells placement.of (λ p. PointNumbers p.1.0)
unfolding placement
placement_tells = record { tell = λ p ws e. ((seq_tells _ _ (one_of_tells status_word statuses) (seq_tells _ _ point_tells orient_tells)).tell p ws e).1.0; good = λ p ws n. (seq_tells _ _ (one_of_tells status_word statuses) (seq_tells _ _ point_tells orient_tells)).good p ws (tt, (n, tt)) }

clause_tells : (c : Clause) (ws : List (List ℕ)) → clause.of.bad c ws ≡ None → ClauseNumbers c
unfolding clause
clause_tells (placed status at o) ws e = placement_tells.tell (status, (at, o)) ws e
clause_tells (unplaced words) ws e = tt
clause_tells (region own) ws e = tt
clause_tells (other w words) ws e = tt

clause_good : (c : Clause) (ws : List (List ℕ)) → ClauseNumbers c → clause.of.bad c ws ≡ None
unfolding clause
clause_good (placed status at o) ws p = placement_tells.good (status, (at, o)) ws p
clause_good (unplaced words) ws p = refl
clause_good (region own) ws p = refl
clause_good (other w words) ws p = refl

clauses_tell : Tells clause.of ClauseNumbers
clauses_tell = record { tell = clause_tells; good = clause_good }

pub component_form_tells : Tells component_form.of ComponentNumbers
unfolding component_form
component_form_tells =
    seen_tells as_component _ (behind_tells _ _ (seq_tells _ _ name_tells (seq_tells _ _ name_tells (seq_tells _ _ rest_tells (before_tells _ _ (many_tells _ _ clauses_tell))))))
    (λ c t. t.1.1.1) (λ c t. (tt, (tt, (tt, t))))

clearance_says : (c : Clearance) (ws : List (List ℕ)) → clearance.of.bad c ws ≡ None → ClearanceNumbers c
unfolding clearance
clearance_says (spacing n) ws e = (number_tells is_int).tell n ws e
clearance_says (design_rule_width n) ws e = (number_tells is_int).tell n ws e
clearance_says no_clearance ws e = tt

clearance_good : (c : Clearance) (ws : List (List ℕ)) → ClearanceNumbers c → clearance.of.bad c ws ≡ None
unfolding clearance
clearance_good (spacing n) ws p = (number_tells is_int).good n ws p
clearance_good (design_rule_width n) ws p = (number_tells is_int).good n ws p
clearance_good no_clearance ws p = refl

clearance_tells : Tells clearance.of ClearanceNumbers
clearance_tells = record { tell = clearance_says; good = clearance_good }

pin_rectangle_tells : Tells pin_rectangle.of (λ r. ClearanceNumbers r.clearance × CornersNumbers r.corners)
unfolding pin_rectangle
pin_rectangle_tells =
    seen_tells as_pin_rectangle _ (seq_tells _ _ name_tells (seq_tells _ _ mask_tells (seq_tells _ _ clearance_tells corners_tell))) (λ r t. t.1.1) (λ r t. (tt, (tt, t)))

pin_via_tells : Tells pin_via.of (λ v. PointNumbers v.at)
unfolding pin_via
pin_via_tells = seen_tells as_pin_via _ (seq_tells _ _ name_tells (seq_tells _ _ mask_tells point_tells)) (λ v t. t.1.1) (λ v t. (tt, (tt, t)))

pin_clause_tells : (c : PinClause) (ws : List (List ℕ)) → pin_clause.of.bad c ws ≡ None → PinClauseNumbers c
unfolding pin_clause pin_shape
pin_clause_tells (pin_placed status at o) ws e = placement_tells.tell (status, (at, o)) ws e
pin_clause_tells (pin_net net) ws e = tt
pin_clause_tells pin_port ws e = tt
pin_clause_tells (pin_has_rectangle r) ws e = pin_rectangle_tells.tell r ws e
pin_clause_tells (pin_has_via v) ws e = pin_via_tells.tell v ws e
pin_clause_tells (pin_has_polygon layer words) ws e = tt
pin_clause_tells (pin_kept kept) ws e = tt

pin_clause_good : (c : PinClause) (ws : List (List ℕ)) → PinClauseNumbers c → pin_clause.of.bad c ws ≡ None
unfolding pin_clause pin_shape
pin_clause_good (pin_placed status at o) ws p = placement_tells.good (status, (at, o)) ws p
pin_clause_good (pin_net net) ws p = refl
pin_clause_good pin_port ws p = refl
pin_clause_good (pin_has_rectangle r) ws p = pin_rectangle_tells.good r ws p
pin_clause_good (pin_has_via v) ws p = pin_via_tells.good v ws p
pin_clause_good (pin_has_polygon layer words) ws p = refl
pin_clause_good (pin_kept kept) ws p = kept_clause_tells.good kept ws tt

pin_clauses_tell : Tells pin_clause.of PinClauseNumbers
pin_clauses_tell = record { tell = pin_clause_tells; good = pin_clause_good }

pub pin_form_tells : Tells pin_form.of PinNumbers
unfolding pin_form
pin_form_tells = seen_tells as_pin _ (behind_tells _ _ (seq_tells _ _ name_tells (before_tells _ _ (many_tells _ _ pin_clauses_tell)))) (λ p t. t.1) (λ p t. (tt, t))

pub region_form_tells : Tells region_form.of RegionNumbers
unfolding region_form
region_form_tells =
    seen_tells as_region _ (behind_tells _ _ (seq_tells _ _ name_tells (seq_tells _ _ corners_tell (seq_tells _ _ (many_tells _ _ later_corners_tell) (before_tells _ _ (many_none is_plus region_clause.of region_clause_tells))))))
    (λ r t. (t.1.0, t.1.1.0)) (λ r t. (tt, (t.0, (t.1, tt))))

shape_tells : (s : BlockageShape) (ws : List (List ℕ)) → blockage_shape.of.bad s ws ≡ None → BlockageShapeNumbers s
unfolding blockage_shape
shape_tells (blocked_rectangle corners) ws e = corners_tell.tell corners ws e
shape_tells (blocked_polygon polygon) ws e = polygon_tells.tell polygon ws e

shape_good : (s : BlockageShape) (ws : List (List ℕ)) → BlockageShapeNumbers s → blockage_shape.of.bad s ws ≡ None
unfolding blockage_shape
shape_good (blocked_rectangle corners) ws p = corners_tell.good corners ws p
shape_good (blocked_polygon polygon) ws p = polygon_tells.good polygon ws p

shapes_tell : Tells blockage_shape.of BlockageShapeNumbers
shapes_tell = record { tell = shape_tells; good = shape_good }

blockage_tells : Tells blockage.of BlockageNumbers
unfolding blockage
blockage_tells =
    seen_tells as_blockage _ (seq_tells _ _ blockage_kind_tells (seq_tells _ _ (many_none is_plus blockage_clause.of blockage_clause_tells) (seq_tells _ _ shapes_tell (many_tells _ _ shapes_tell))))
    (λ b t. t.1.1) (λ b t. (tt, (tt, t)))

blockage_entry_tells : (b : BlockageEntry) (ws : List (List ℕ)) → blockage_form.of.bad b ws ≡ None → BlockageEntryNumbers b
unfolding blockage_form
blockage_entry_tells (blocks b) ws e = blockage_tells.tell b (codes ";" ∷ ws) e
blockage_entry_tells (blockage_kept tokens) ws e = tt

blockage_entry_good : (b : BlockageEntry) (ws : List (List ℕ)) → BlockageEntryNumbers b → blockage_form.of.bad b ws ≡ None
unfolding blockage_form
blockage_entry_good (blocks b) ws p = blockage_tells.good b (codes ";" ∷ ws) p
blockage_entry_good (blockage_kept tokens) ws p = refl

pub blockage_form_tells : Tells blockage_form.of BlockageEntryNumbers
blockage_form_tells = record { tell = blockage_entry_tells; good = blockage_entry_good }

pub die_area_tells : Tells die_area_statement.of DieAreaNumbers
unfolding die_area_statement
die_area_tells = before_tells _ _ (seen_tells as_die_area _ (seq_tells _ _ point_tells (seq_tells _ _ later_point_tells (many_tells _ _ later_point_tells))) (λ a t. (t.0, t.1.0, t.1.1)) (λ a t. (t.0, (t.1, t.2))))

site_array_tells : Tells site_array.of SiteArrayNumbers
unfolding site_array
site_array_tells =
    seen_tells as_site_array _ (seq_tells _ _ (number_tells _) (behind_tells _ _ (seq_tells _ _ (number_tells _) (opt_tells _ _ (behind_tells _ _ two_numbers_tell))))) (λ a t. (t.0, t.1.0, t.1.1)) (λ a t. (t.0, (t.1, t.2)))

pub row_tells : Tells row_statement.of RowNumbers
unfolding row_statement
row_tells =
    before_tells _ _ (seen_tells as_row _ (seq_tells _ _ name_tells (seq_tells _ _ name_tells (seq_tells _ _ two_numbers_tell (
    seq_tells _ _ orient_tells (seq_tells _ _ (opt_tells _ _ (behind_tells _ _ site_array_tells)) (many_none is_plus row_clause.of row_clause_tells))))))
    (λ r t. (t.1.1.0, t.1.1.1.1.0)) (λ r t. (tt, (tt, (t.0, (tt, (t.1, tt)))))))

pub tracks_tell : Tells tracks_statement.of TracksNumbers
unfolding tracks_statement
tracks_tell =
    before_tells _ _ (seen_tells as_tracks _ (seq_tells _ _ (one_of_tells axis_word axes) (seq_tells _ _ (number_tells _) (
    behind_tells _ _ (seq_tells _ _ (number_tells _) (behind_tells _ _ (seq_tells _ _ (number_tells _) (upto_tells is_semicolon)))))))
    (λ t s. (s.1.0, s.1.1.0, s.1.1.1.0)) (λ t s. (tt, (s.0, (s.1, (s.2, tt))))))

written_lines_tell : Tells (seen as_grid_lines (int ⨟ codes "DO" ▸ number is_lines ⨟ codes "STEP" ▸ number is_size)).of (λ g. Passes is_int g.start × Passes is_lines g.count × Passes is_size g.step)
written_lines_tell = seen_tells as_grid_lines _ (seq_tells _ _ (number_tells _) (behind_tells _ _ (seq_tells _ _ (number_tells _) (behind_tells _ _ (number_tells _))))) (λ g t. (t.0, t.1.0, t.1.1)) (λ g t. (t.0, (t.1, t.2)))

grid_lines_tell : Tells grid_lines.of GridLinesNumbers
unfolding grid_lines
grid_lines_tell = record { tell = λ g ws e. let t = (limited_tells is_within_range 3 _ written_lines_tell).tell g ws e in (t.0.0, t.0.1, t.0.2, t.1); good = λ g ws p. (limited_tells is_within_range 3 _ written_lines_tell).good g ws ((p.0, p.1, p.2), p.3) }

pub gcell_grid_tells : Tells gcell_grid_statement.of GcellGridNumbers
unfolding gcell_grid_statement
gcell_grid_tells = before_tells _ _ (seen_tells as_gcell_grid _ (seq_tells _ _ (one_of_tells axis_word axes) grid_lines_tell) (λ g t. t.1) (λ g t. (tt, t)))
