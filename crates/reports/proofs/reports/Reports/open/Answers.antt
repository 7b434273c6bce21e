use Rattle.std.proofs.Common.{ℕ, List, ap, ◌∙◌}
use Rattle.std.specs.Option.{option_map}
use Rattle.form_meanings.specs.Firsts.{find_named}
use Rattle.design_rules.specs.Boxes.{scale}
use Rattle.drawn_parts.specs.DrawnLengths.{capped}
use Rattle.measure_rules.specs.Lengths.{length_of}
use Rattle.measure_rules.specs.GridCells.{columns, rows}
use Rattle.reports.specs.MeasuredNets.{MeasuredNet, name_of}
use Rattle.reports.proofs.CellAnswers.{reports_on}
use Rattle.reports.proofs.MeasuredSteps.{all_by_name}
use Rattle.reports.proofs.NetAnswers.{box_is, length_is, total_is}
use Rattle.reports.proofs.reports.Reports.open.Goals as goal

pub returns : goal.returns
returns g c =
    let library = c.args.library.now in
    let design = c.args.names.now in
    let u = scale design in
    let no_longer = c.none_is_longer.ensures in
    let few = c.requires.lengths in
    let length_by = λ (name : List ℕ). capped (length_of library design u name) in
    let measured_are = c.in_ok-measured.ensures in
    let by_name = all_by_name (columns design) (rows design) _ _ _ _ _ measured_are in
    reports_on library design _
    (λ name. ap (λ ns. option_map (λ (n : MeasuredNet). n.net_length) (find_named name_of ns name)) by_name ∙ length_is library design u no_longer few name)
    (λ name. ap (λ ns. option_map (λ (n : MeasuredNet). n.net_box) (find_named name_of ns name)) by_name ∙ box_is library design u length_by name)
    (measured_are.together ∙ total_is library design u no_longer few) c.in_ok-layers.ensures.count measured_are.densities
    c.in_ok-place_cells.ensures
