use Rattle.std.proofs.Common.{[], ap, ap₂, map, ◌∙◌}
use Rattle.std.specs.List.{filter_map}
use Rattle.design_rules.specs.Boxes.{box_of, scale}
use Rattle.reports.specs.Densities.{box_shape}
use Rattle.reports.proofs.densities.place_densities.Goals as goal

pub returns : goal.returns
returns g c =
    let library = c.args.library.now in
    let read = c.records-records.ensures in
    let scaled = c.scale_of.ensures ∙ ap scale read in
    rw (ap₂ (λ u rs. map box_shape (filter_map (box_of library u) rs)) scaled read, c.requires.columns, c.requires.rows) at (c.in_ok-add_boxes.ensures.holds _ _ [] c.in_ok-densities.ensures)
