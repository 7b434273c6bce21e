use Rattle.std.proofs.Common.{arith, map, rules}
use Rattle.statement_boxes.specs.Boxes.{box_view}
use Rattle.followed_places.specs.Placed.{placed_view}
use Rattle.followed_places.specs.Places.{place_under}
use Rattle.followed_places.proofs.ExchangeLemmas.{boxes_grown, boxes_left, few_compared, lines_follow, met_compared}
use Rattle.followed_places.proofs.followed.exchanged.Goals as goal

pub lines_on-requires-clause-kept : goal.lines_on-requires-clause-kept
lines_on-requires-clause-kept g c =
    let went = rw (c.deref.ensures.value) at (c.remove_all.ensures c.if-not-remove_all.false) in
    (c.requires.awaits.0, boxes_left _ _ _ _ _ c.args.change.now.went.components.items c.args.change.now.came.components.items _ _ _ _ _ _ c.requires.awaits.2 _ went)

pub lines_on-requires-2-clause-kept : goal.lines_on-requires-2-clause-kept
lines_on-requires-2-clause-kept g c =
    let went = rw (c.deref.ensures.value) at (c.remove_all.ensures c.if-not-remove_all.false) in
    (c.requires.awaits.0, boxes_left _ _ _ _ _ c.args.change.now.went.components.items c.args.change.now.came.components.items _ _ _ _ _ _ c.requires.awaits.2 _ went)

pub followed-requires : goal.followed-requires
followed-requires g c =
    let a = c.requires.awaits.2 in
    let went = rw (c.deref.ensures.value) at (c.remove_all.ensures c.if-not-remove_all.false) in
    let left = boxes_left _ _ _ _ _ c.args.change.now.went.components.items c.args.change.now.came.components.items _ _ _ _ _ _ a _ went in
    let same = rw (c.deref-2.ensures.value, c.deref-3.ensures.value) at (c.in_ok-exchange_keep_outs.ensures (search rules)) in
    (a.before, c.requires.awaits.1, a.kept_are, lines_follow _ _ _ _ _ c.args.change.now.went.components.items c.args.change.now.came.components.items _ _ _ _ _ _ a c.same_lines_follow.ensures _ same _ _ (c.in_ok-out.ensures.lines c.requires.awaits.0 left) (c.in_ok-put.ensures.lines c.requires.awaits.0 left))

pub returns-clause-lines : goal.returns-clause-lines
returns-clause-lines g c = λ stay after a.
    let went = rw (c.deref.ensures.value) at (c.remove_all.ensures c.if-not-remove_all.false) in
    let left = boxes_left _ _ _ _ _ c.args.change.now.went.components.items c.args.change.now.came.components.items _ _ _ _ _ _ a _ went in
    let same = rw (c.deref-2.ensures.value, c.deref-3.ensures.value) at (c.in_ok-exchange_keep_outs.ensures (search rules)) in
    rw (c.in-Some.is) at (c.in_ok-lines.ensures a.before after a.kept_are (lines_follow _ _ _ _ _ c.args.change.now.went.components.items c.args.change.now.came.components.items _ _ _ _ _ _ a c.same_lines_follow.ensures _ same _ _ (c.in_ok-out.ensures.lines stay left) (c.in_ok-put.ensures.lines stay left)))

pub returns-clause-boxes : goal.returns-clause-boxes
returns-clause-boxes g c = λ stay after a.
    let went = rw (c.deref.ensures.value) at (c.remove_all.ensures c.if-not-remove_all.false) in
    let grown = rw (c.deref-4.ensures.value) at c.in_ok-insert_all.ensures in
    boxes_grown _ _ _ _ _ c.args.change.now.went.components.items c.args.change.now.came.components.items _ _ _ _ _ _ a _ _ went grown

pub returns-clause-keep_outs : goal.returns-clause-keep_outs
returns-clause-keep_outs g c = rw (c.deref-2.ensures.value, c.deref-3.ensures.value) at (c.in_ok-exchange_keep_outs.ensures (search rules))

pub returns-clause-tests : goal.returns-clause-tests
returns-clause-tests g c = λ stay after a.
    let went = rw (c.deref.ensures.value) at (c.remove_all.ensures c.if-not-remove_all.false) in
    let left = boxes_left _ _ _ _ _ c.args.change.now.went.components.items c.args.change.now.came.components.items _ _ _ _ _ _ a _ went in
    few_compared _ _ _ _ (map place_under (map placed_view c.args.change.now.went.components.items)) (map place_under (map placed_view c.args.change.now.came.components.items)) (map box_view c.args.change.now.went.keep_outs.items) (map box_view c.args.change.now.came.keep_outs.items)
    c.in_ok-out.out.tests c.in_ok-put.put.tests c.saturating_add-tests.result left.boxes_are c.in_ok-out.ensures.tests c.in_ok-put.ensures.tests (omega arith)

pub returns-clause-least : goal.returns-clause-least
returns-clause-least g c = λ stay after a.
    let went = rw (c.deref.ensures.value) at (c.remove_all.ensures c.if-not-remove_all.false) in
    let left = boxes_left _ _ _ _ _ c.args.change.now.went.components.items c.args.change.now.came.components.items _ _ _ _ _ _ a _ went in
    met_compared _ _ _ _ (map place_under (map placed_view c.args.change.now.went.components.items)) (map place_under (map placed_view c.args.change.now.came.components.items)) (map box_view c.args.change.now.went.keep_outs.items) (map box_view c.args.change.now.came.keep_outs.items)
    c.in_ok-out.out.tests c.in_ok-put.put.tests c.saturating_add-tests.result left.boxes_are c.in_ok-out.ensures.least c.in_ok-put.ensures.least (omega arith)
