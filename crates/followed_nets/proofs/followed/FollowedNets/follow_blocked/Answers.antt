use Rattle.std.proofs.Common.{rules, ◌≡◌, ◌∙◌, ◌++◌, ◌≤◌, ◌+◌, [], List, arith, ap, map, subst, sym}
use Rattle.connection_rules.specs.NetLines.{barriers}
use Rattle.design_rules.specs.Boxes.{scale}
use Rattle.net_touches.specs.Barriers.{barrier_view}
use Rattle.design_text.specs.Exchanges.{records_in}
use Rattle.followed_nets.specs.Noted.{said}
use Rattle.followed_nets.proofs.BarredFollow.{none_changed, same_bars}
use Rattle.followed_nets.proofs.NotBoth.{what_is_left}
use Rattle.followed_nets.proofs.followed.FollowedNets.follow_blocked.Goals as goal

pub changed_bars-requires : goal.changed_bars-requires
changed_bars-requires g c = (c.requires.0, c.requires.1)

pub exchange_blocked-requires : goal.exchange_blocked-requires
exchange_blocked-requires g c =
    let library = c.args.library.now in
    let last = records_in c.args.text.now in
    let gone = rw (c.in-Some.is) at c.in_ok-changed.ensures.gone in
    let come = rw (c.in-Some.is) at c.in_ok-changed.ensures.come in
    let left = what_is_left c.args.text.now.pieces.table.slots library c.bars_are_exchanged.ensures c.requires.0 last c.args.made.now.exchanges _ _ _ _ c.requires.1 gone come c.in_ok-left.ensures.same in
    (barriers library (said c.requires.0) (scale (said c.requires.0)), barriers library (said last) (scale (said last)), left, c.requires.2)

pub returns-clause-lines : goal.returns-clause-lines
returns-clause-lines g c = λ old exchanges are.
    let library = c.args.library.now in
    let last = records_in c.args.text.now in
    let gone = rw (c.in-Some.is) at c.in_ok-changed.ensures.gone in
    let come = rw (c.in-Some.is) at c.in_ok-changed.ensures.come in
    let left = what_is_left c.args.text.now.pieces.table.slots library c.bars_are_exchanged.ensures old last c.args.made.now.exchanges _ _ _ _ exchanges gone come c.in_ok-left.ensures.same in
    rw (c.in-Some-2.is) at (c.in_ok-found.ensures.lines (barriers library (said old) (scale (said old))) (barriers library (said last) (scale (said last))) left are)

pub returns-clause-tests : goal.returns-clause-tests
returns-clause-tests g c = λ old exchanges.
    let library = c.args.library.now in
    let last = records_in c.args.text.now in
    let gone = rw (c.in-Some.is) at c.in_ok-changed.ensures.gone in
    let come = rw (c.in-Some.is) at c.in_ok-changed.ensures.come in
    let left = what_is_left c.args.text.now.pieces.table.slots library c.bars_are_exchanged.ensures old last c.args.made.now.exchanges _ _ _ _ exchanges gone come c.in_ok-left.ensures.same in
    record {
      gone = map barrier_view c.in_ok-left.left.gone.items;
      come = map barrier_view c.in_ok-left.left.come.items;
      changed = left;
      apart = c.in_ok-left.ensures.apart;
      few = rw (c.in-Some-2.is) at c.in_ok-found.ensures.tests;
    }

pub returns-then-are_none-clause-lines : goal.returns-then-are_none-clause-lines
returns-then-are_none-clause-lines g c = λ old exchanges are.
    let library = c.args.library.now in
    let last = records_in c.args.text.now in
    let gone = rw (c.in-Some.is) at c.in_ok-changed.ensures.gone in
    let come = rw (c.in-Some.is) at c.in_ok-changed.ensures.come in
    let left = what_is_left c.args.text.now.pieces.table.slots library c.bars_are_exchanged.ensures old last c.args.made.now.exchanges _ _ _ _ exchanges gone come c.in_ok-left.ensures.same in
    let none = c.are_none.ensures (search (rules, c.if-are_none.true)) in
    let gone_left = map barrier_view c.in_ok-left.left.gone.items in
    let come_left = map barrier_view c.in_ok-left.left.come.items in
    let was = barriers library (said old) (scale (said old)) in
    let is = barriers library (said last) (scale (said last)) in
    let same = none_changed was is gone_left come_left (ap (map barrier_view) none.0) (ap (map barrier_view) none.1) left in
    same_bars c.same_lines_sort_alike.ensures library last was is c.args.self.now c.args.followed.lines same are

pub returns-then-are_none-clause-tests : goal.returns-then-are_none-clause-tests
returns-then-are_none-clause-tests g c = λ old exchanges.
    let library = c.args.library.now in
    let last = records_in c.args.text.now in
    let gone = rw (c.in-Some.is) at c.in_ok-changed.ensures.gone in
    let come = rw (c.in-Some.is) at c.in_ok-changed.ensures.come in
    let left = what_is_left c.args.text.now.pieces.table.slots library c.bars_are_exchanged.ensures old last c.args.made.now.exchanges _ _ _ _ exchanges gone come c.in_ok-left.ensures.same in
    record {
      gone = map barrier_view c.in_ok-left.left.gone.items;
      come = map barrier_view c.in_ok-left.left.come.items;
      changed = left;
      apart = c.in_ok-left.ensures.apart;
      few = omega arith;
    }
