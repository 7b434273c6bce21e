use Rattle.std.proofs.Common.{arith, rules}
use Rattle.followed_places.proofs.ExchangeLemmas.{rectangle_lines_follow}
use Rattle.followed_places.proofs.NearSums.{both_least, none_before}
use Rattle.followed_places.proofs.followed.exchanged_keep_outs.Goals as goal

pub blocked_near-requires-clause-kept : goal.blocked_near-requires-clause-kept
blocked_near-requires-clause-kept g c = let a = c.requires.awaits.3 in (c.requires.awaits.0, record { kept = a.pieces; boxes_are = a.boxes_are })

pub blocked_near-requires-2-clause-kept : goal.blocked_near-requires-2-clause-kept
blocked_near-requires-2-clause-kept g c = let a = c.requires.awaits.3 in (c.requires.awaits.0, record { kept = a.pieces; boxes_are = a.boxes_are })

pub followed-requires : goal.followed-requires
followed-requires g c =
    let stay = c.requires.awaits.0 in
    let a = c.requires.awaits.3 in
    let same = c.in_ok-exchange_keep_outs.ensures (search rules) in
    let gone = rw (c.nothing.ensures.lines) at (c.in_ok-gone.ensures.lines stay (record { kept = a.pieces; boxes_are = a.boxes_are })) in
    let come = rw (c.nothing-2.ensures.lines) at (c.in_ok-come.ensures.lines stay (record { kept = a.pieces; boxes_are = a.boxes_are })) in
    (a.before, c.requires.awaits.1, a.kept_are, rectangle_lines_follow _ _ _ _ _ _ _ _ _ _ _ a c.same_lines_follow.ensures _ same _ _ gone come)

pub returns-clause-lines : goal.returns-clause-lines
returns-clause-lines g c = λ stay after s a.
    let same = c.in_ok-exchange_keep_outs.ensures (search rules) in
    let gone = rw (c.nothing.ensures.lines) at (c.in_ok-gone.ensures.lines stay (record { kept = a.pieces; boxes_are = a.boxes_are })) in
    let come = rw (c.nothing-2.ensures.lines) at (c.in_ok-come.ensures.lines stay (record { kept = a.pieces; boxes_are = a.boxes_are })) in
    rw (c.in-Some.is) at (c.in_ok-lines.ensures a.before after a.kept_are (rectangle_lines_follow _ _ _ _ _ _ _ _ _ _ _ a c.same_lines_follow.ensures _ same _ _ gone come))

pub returns-clause-tests : goal.returns-clause-tests
returns-clause-tests g c = omega (arith, c.in_ok-gone.ensures.tests, c.in_ok-come.ensures.tests, c.nothing.ensures.tests, c.nothing-2.ensures.tests)

pub returns-clause-least : goal.returns-clause-least
returns-clause-least g c =
    both_least _ _ c.in_ok-gone.gone.tests c.in_ok-come.come.tests c.saturating_add-tests.result (none_before _ _ _ c.nothing.ensures.tests c.in_ok-gone.ensures.least) (none_before _ _ _ c.nothing-2.ensures.tests c.in_ok-come.ensures.least) (omega arith)
