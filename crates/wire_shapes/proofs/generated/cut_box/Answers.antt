use Rattle.design_model.specs.Views.{rectangle_of}
use Rattle.wire_shapes.proofs.Cuts.{cuts_are, extent_is}
use Rattle.wire_shapes.proofs.generated.cut_box.Goals as goal

pub returns-clause-is : goal.returns-clause-is
returns-clause-is c =
    let v = c.args.via.now in
    let r = c.requires in
    cuts_are c.extent_of-across.result c.extent_of-along.result _ _ c.centred.result.low c.centred.result.high c.centred-2.result.low c.centred-2.result.high (rectangle_of c.box_of.result)
    (extent_is v.columns c.extent_of-across.result v.cut_size.x v.cut_spacing.x r.cut_width r.space_across c.extent_of-across.ensures.is)
    (extent_is v.rows c.extent_of-along.result v.cut_size.y v.cut_spacing.y r.cut_height r.space_along c.extent_of-along.ensures.is)
    c.centred.ensures.low c.centred.ensures.high c.centred-2.ensures.low c.centred-2.ensures.high c.box_of.ensures
