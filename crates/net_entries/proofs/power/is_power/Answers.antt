use Rattle.net_entries.proofs.PowerLemmas.{last_power, next_power}
use Rattle.net_entries.proofs.power.is_power.Goals as goal

pub returns-then-says_power : goal.returns-then-says_power
returns-then-says_power c = λ library design u.
    let next = next_power library design u c.args.entries.now c.loop-lent.lent-index c.lent-item.result _ c.says_power.result (c.loop-lent.invariant library design u) c.loop-lent-test.true c.lent-item.is (c.says_power.ensures library design u) in
    rw (c.if-says_power.true) at next

pub loop-lent-preserved : goal.loop-lent-preserved
loop-lent-preserved c = λ library design u.
    let next = next_power library design u c.args.entries.now c.loop-lent.lent-index c.lent-item.result _ c.says_power.result (c.loop-lent.invariant library design u) c.loop-lent-test.true c.lent-item.is (c.says_power.ensures library design u) in
    rw (c.if-says_power.false) at next

pub returns : goal.returns
returns c = λ library design u. last_power library design u c.args.entries.now c.loop-lent.lent-index _ (c.loop-lent.invariant library design u) c.loop-lent-test.false
