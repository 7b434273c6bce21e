use Rattle.std.proofs.Common.{arith}
use Rattle.wire_shapes.proofs.Places.{no_row, row_step}
use Rattle.wire_shapes.proofs.Reach.{row_in_reach}
use Rattle.wire_shapes.proofs.via_places.ViaPlaces.enter_row.Goals as goal

pub returns-then-self-eq0-clause-none : goal.returns-then-self-eq0-clause-none
returns-then-self-eq0-clause-none c = λ h.
    let w = c.args.self.now in
    no_row w.in_row w.rows w.columns w.across w.up w.at w.row c.requires.done c.if-self-eq0.true

pub returns-clause-same : goal.returns-clause-same
returns-clause-same c =
    let w = c.args.self.now in
    row_step w.in_row w.rows w.columns w.across w.up w.at w.row c.next_point-self.result c.requires.done (omega (arith, c.if-self-eq0.false)) c.next_point-self.ensures

pub returns-clause-reach : goal.returns-clause-reach
returns-clause-reach c = row_in_reach c.args.self.now c.next_point-self.result c.requires.reach (omega (arith, c.if-self-eq0.false)) c.next_point-self.ensures
