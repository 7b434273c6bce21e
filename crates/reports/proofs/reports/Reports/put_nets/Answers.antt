use Rattle.std.proofs.Common.{◌≡◌, ◌∙◌, [], ℕ, List, None, ap, ap₂, map, subst, sum, sym}
use Rattle.std.specs.Option.{option_map}
use Rattle.form_meanings.specs.Firsts.{find_named}
use Rattle.connection_rules.specs.NetParts.{all_nets, net_names}
use Rattle.design_rules.specs.Boxes.{boxes, scale}
use Rattle.drawn_parts.specs.DrawnLengths.{capped}
use Rattle.measure_rules.specs.Lengths.{length_of}
use Rattle.measure_rules.specs.GridCells.{columns, rows}
use Rattle.reports.specs.Answers.{Answers}
use Rattle.reports.specs.Densities.{HoldsDensities, box_shape}
use Rattle.reports.specs.DrawnNets.{found_after}
use Rattle.reports.specs.MeasuredNets.{MeasuredNet, measured, name_of}
use Rattle.reports.proofs.CellAnswers.{reports_on}
use Rattle.reports.proofs.DrawnSteps.{found_alike, shapes_held}
use Rattle.reports.proofs.NetAnswers.{box_is, length_is, total_is}
use Rattle.reports.proofs.reports.Reports.put_nets.Goals as goal

pub returns : goal.returns
returns g c = λ library design without nets lengths.
    let u = scale design in
    let no_longer = c.none_is_longer.ensures in
    let length_by = λ (name : List ℕ). capped (length_of library design u name) in
    let none : c.self.inside.measured.table ≡ [] = ap (λ (a : Answers). a.nets) c.self.view_is ∙ without.nets in
    let found : (name : List ℕ) → find_named name_of c.measure_each.new.table name ≡ find_named name_of (measured (all_nets library design u) (map length_by (net_names library design u))) name =
    λ name.
    c.in_ok-measure_each.ensures name
    ∙ ap (λ (t : List MeasuredNet). found_after c.args.nets.now c.args.lengths.now name (find_named name_of t name)) none
    ∙ ap₂ (λ ns ls. found_after ns ls name None) nets lengths
    ∙ found_alike library design u length_by name in
    reports_on library design _
    (λ name. ap (option_map (λ (n : MeasuredNet). n.net_length)) (found name) ∙ length_is library design u no_longer without.fits name)
    (λ name. ap (option_map (λ (n : MeasuredNet). n.net_box)) (found name) ∙ box_is library design u length_by name)
    (c.sum_of.ensures ∙ ap (λ ls. capped (sum ls)) lengths ∙ total_is library design u no_longer without.fits)
    (ap (λ (a : Answers). a.layers) c.self.view_is ∙ without.layers)
    (shapes_held (columns design) (rows design) c.args.nets.now (all_nets library design u) c.shapes.result.now c.self.inside.measured.cells c.add_shapes.new.self c.shapes.ensures nets
    (subst (λ (a : Answers). HoldsDensities (columns design) (rows design) [] a.cells) (sym c.self.view_is) without.cells) c.in_ok-add_shapes.ensures)
    (subst (λ (a : Answers). HoldsDensities (columns design) (rows design) (map box_shape (boxes library design)) a.place_cells) (sym c.self.view_is) without.place_cells)
