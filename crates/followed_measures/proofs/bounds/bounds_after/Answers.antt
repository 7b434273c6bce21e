use Rattle.std.proofs.Common.{rules, map}
use Rattle.design_model.specs.Views.{rectangle_of}
use Rattle.net_lists.specs.PartCuts.{shape_view}
use Rattle.followed_measures.specs.Bounds.{AreInside, boxes_in}
use Rattle.followed_measures.proofs.BoxLemmas.{gone_inside, none_bounded}
use Rattle.followed_measures.proofs.bounds.bounds_after.Goals as goal

pub returns-in_default : goal.returns-in_default
returns-in_default c = rw (c.in_default.is) (none_bounded (boxes_in (map shape_view c.args.gone.now)) (boxes_in (map shape_view c.args.come.now)) _ c.grown.ensures)

pub returns : goal.returns
returns c =
    let inside : AreInside (rectangle_of c.in-Some.bounds) (boxes_in (map shape_view c.args.gone.now)) = search rules in
    rw (c.in-Some.is) (gone_inside (boxes_in (map shape_view c.args.gone.now)) (boxes_in (map shape_view c.args.come.now)) (rectangle_of c.in-Some.bounds) _ inside c.grown-2.ensures)
