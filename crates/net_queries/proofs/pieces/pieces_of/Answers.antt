use Rattle.std.proofs.Common.{◌∙◌, ap, length}
use Rattle.shape_rules.specs.Classes.{bare, holding}
use Rattle.net_queries.proofs.PieceLemmas.{as_many, pieces}
use Rattle.net_queries.proofs.pieces.pieces_of.Goals as goal

pub counts-requires : goal.counts-requires
counts-requires g c =
    let net = c.args.net.now in
    ap length c.deref.ensures.value ∙ as_many c.args.first net.parts.now net.shapes.now _ c.in_ok-classes.classes _ c.in_ok-marks.marks.items c.in_ok-classes.ensures.labels c.in_ok-marks.ensures c.join_parts-joining.ensures.joined

pub returns-clause-classes : goal.returns-clause-classes
returns-clause-classes g c =
    let net = c.args.net.now in
    pieces c.args.first net.parts.now net.shapes.now _ c.in_ok-classes.classes _ c.deref.result.now c.in_ok-classes.ensures.labels (c.deref.ensures.value ∙ c.in_ok-marks.ensures) c.join_parts-joining.ensures.joined c.order_is_open.ensures holding _ c.in_ok-counts.ensures.holding

pub returns-clause-floating : goal.returns-clause-floating
returns-clause-floating g c =
    let net = c.args.net.now in
    pieces c.args.first net.parts.now net.shapes.now _ c.in_ok-classes.classes _ c.deref.result.now c.in_ok-classes.ensures.labels (c.deref.ensures.value ∙ c.in_ok-marks.ensures) c.join_parts-joining.ensures.joined c.order_is_open.ensures bare _ c.in_ok-counts.ensures.bare
