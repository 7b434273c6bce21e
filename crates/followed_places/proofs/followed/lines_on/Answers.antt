use Rattle.std.proofs.Common.{arith, map}
use Rattle.design_model.specs.Geometry.{Rectangle}
use Rattle.design_model.specs.declared.identifier.StmtId.{StmtId}
use Rattle.place_checks.specs.IndexViews.{surroundings_view}
use Rattle.statement_boxes.specs.Boxes.{box_view}
use Rattle.followed_places.specs.Lines.{boxed_under}
use Rattle.followed_places.specs.Placed.{component_of}
use Rattle.followed_places.proofs.FollowedLemmas.{as_ok}
use Rattle.followed_places.proofs.OthersMet.{with_blocked}
use Rattle.followed_places.proofs.followed.lines_on.Goals as goal

pub returns-clause-lines : goal.returns-clause-lines
returns-clause-lines g c ids are =
    let own = rw (c.deref.ensures.value) at (c.in_ok-own.ensures.lines ids are) in
    let put = rw (c.deref-2.ensures.value) at (c.blocked_near.ensures.lines ids are) in
    as_ok _ _ c.blocked_near.result
    (λ checked same.
    with_blocked (surroundings_view c.args.around.now.surroundings) (map (λ (b : StmtId × Rectangle). b.1) c.args.keep_outs.now) (map (λ (b : StmtId × Rectangle). b.1) (map box_view c.args.loose.now.keep_outs.items)) (map component_of c.args.loose.now.components.items)
    (boxed_under c.args.library.now c.args.around.now.scale c.args.text.now.pieces.table.slots ids) c.in_ok-own.own.lines checked.lines own same)
    put

pub returns-clause-tests : goal.returns-clause-tests
returns-clause-tests g c =
    let own = rw (c.deref.ensures.value) at c.in_ok-own.ensures.tests in
    let put = rw (c.deref-2.ensures.value) at c.blocked_near.ensures.tests in
    as_ok _ _ c.blocked_near.result (λ checked few. omega (arith, own, few)) put

pub returns-clause-least : goal.returns-clause-least
returns-clause-least g c =
    let own = rw (c.deref.ensures.value) at c.in_ok-own.ensures.least in
    let put = rw (c.deref-2.ensures.value) at c.blocked_near.ensures.least in
    as_ok _ _ c.blocked_near.result (λ checked some. omega (arith, own, some)) put
