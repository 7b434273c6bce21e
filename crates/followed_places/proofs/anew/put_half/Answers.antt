use Rattle.std.proofs.Common.{filter}
use Rattle.std.specs.List.{filter_map}
use Rattle.design_rules.specs.Boxes.{box_of}
use Rattle.place_checks.specs.Views.{swept_view}
use Rattle.design_text.specs.DesignTexts.{design_of}
use Rattle.followed_places.specs.Halves.{is_in}
use Rattle.followed_places.proofs.anew.put_half.Goals as goal

pub returns-clause-lines : goal.returns-clause-lines
returns-clause-lines g c = λ s same.
    let p = c.args.placement.now in
    let components = filter (is_in c.args.half) (filter_map (box_of p.library.now p.scale) (design_of p.text.now)) in
    let swept = rw c.new-boxes.ensures.items at c.in_ok-put_components_in.ensures.boxes in
    c.in_ok-put_lines_between.ensures.lines components c.args.lines.now _ swept (c.in_ok-put_components_in.ensures.lines s same)

pub returns-clause-same : goal.returns-clause-same
returns-clause-same g c =
    let swept = rw c.new-boxes.ensures.items at c.in_ok-put_components_in.ensures.boxes in
    rw swept at (c.maps_are_same.ensures swept_view _ _ (c.permutations_are_same.ensures _ _ c.in_ok-put_lines_between.ensures.same))
