use Rattle.std.proofs.Common.{arith}
use Rattle.std.proofs.lemmas.Result.{IfOk-weaker}
use Rattle.net_lists.specs.NetViews.{net_view}
use Rattle.kept_nets.proofs.HeldParts.{few_compared, holds_parts, met_compared}
use Rattle.kept_nets.proofs.counted.state_of.Goals as goal

pub returns-clause-classes : goal.returns-clause-classes
returns-clause-classes g c =
    let held = holds_parts (net_view c.args.net.now).parts c.tiles.result.now.entries (rw (← c.tiles.ensures) at c.in_ok-placed.ensures) in
    IfOk-weaker c.pieces_of.result _ _ (λ s h. h held) c.pieces_of.ensures.classes

pub returns-clause-floating : goal.returns-clause-floating
returns-clause-floating g c =
    let held = holds_parts (net_view c.args.net.now).parts c.tiles.result.now.entries (rw (← c.tiles.ensures) at c.in_ok-placed.ensures) in
    IfOk-weaker c.pieces_of.result _ _ (λ s h. h held) c.pieces_of.ensures.floating

pub returns-clause-tests : goal.returns-clause-tests
returns-clause-tests g c =
    let net = c.args.net.now in
    let most = few_compared net.parts.now net.shapes.now c.tiles.result.now.entries net.whole (rw (← c.tiles.ensures) at c.in_ok-placed.ensures) in
    IfOk-weaker c.pieces_of.result _ _ (λ s h. omega (arith, h, most)) c.pieces_of.ensures.tests

pub returns-clause-least : goal.returns-clause-least
returns-clause-least g c =
    let net = c.args.net.now in
    let some = met_compared net.parts.now net.shapes.now c.tiles.result.now.entries net.whole (rw (← c.tiles.ensures) at c.in_ok-placed.ensures) in
    IfOk-weaker c.pieces_of.result _ _ (λ s h. omega (arith, h, some)) c.pieces_of.ensures.least
