use Rattle.std.proofs.Common.{◌-◌, ℕ, nat_lt, length, drop, arith, sym, ap, subst, ◌∙◌}
use Rattle.def_splice.specs.SpliceViews.{AreInOrder}
use Rattle.def_splice.proofs.LongLemmas.{later, left_length, order_later, overfull, room_left}
use Rattle.def_splice.proofs.fitting.is_long.Goals as goal

pub returns-then-room-kept : goal.returns-then-room-kept
returns-then-room-kept g c = λ text fits.
    let l = c.loop-splice in
    let s = c.splice-item.result in
    let ss = c.args.splices.now in
    let order = subst (λ (n : ℕ). AreInOrder l.at (drop l.splice-index ss) n) (sym fits) l.invariant.in_order in
    let many = left_length ss l.splice-index s l.at text c.loop-splice-test.true c.splice-item.is order in
    let rest = length (later ss l.splice-index s l.at text c.loop-splice-test.true c.splice-item.is order) in
    let over = c.if-room-kept.true in
    sym (sym (l.invariant.so_far text fits) ∙ ap (nat_lt l.room) many ∙ overfull l.room (s.lo - l.at) (length s.put) rest (omega arith))

pub returns-then-left-put : goal.returns-then-left-put
returns-then-left-put g c = λ text fits.
    let l = c.loop-splice in
    let s = c.splice-item.result in
    let ss = c.args.splices.now in
    let order = subst (λ (n : ℕ). AreInOrder l.at (drop l.splice-index ss) n) (sym fits) l.invariant.in_order in
    let many = left_length ss l.splice-index s l.at text c.loop-splice-test.true c.splice-item.is order in
    let rest = length (later ss l.splice-index s l.at text c.loop-splice-test.true c.splice-item.is order) in
    let put = c.len-put.ensures in
    let over = c.if-left-put.true in
    sym (sym (l.invariant.so_far text fits) ∙ ap (nat_lt l.room) many ∙ overfull l.room (s.lo - l.at) (length s.put) rest (omega (arith, put, over)))

pub loop-splice-preserved : goal.loop-splice-preserved
loop-splice-preserved g c =
    let l = c.loop-splice in
    let s = c.splice-item.result in
    let ss = c.args.splices.now in
    let put = c.len-put.ensures in
    let one = c.if-room-kept.false in
    let two = c.if-left-put.false in
    record {
      so_far = λ text fits.
          let order = subst (λ (n : ℕ). AreInOrder l.at (drop l.splice-index ss) n) (sym fits) l.invariant.in_order in
          let many = left_length ss l.splice-index s l.at text c.loop-splice-test.true c.splice-item.is order in
          let rest = length (later ss l.splice-index s l.at text c.loop-splice-test.true c.splice-item.is order) in
          ap (λ n. nat_lt ((l.room - (s.lo - l.at)) - n) rest) put ∙ sym (room_left l.room (s.lo - l.at) (length s.put) rest (omega (arith, put, one, two))) ∙ ap (nat_lt l.room) (sym many) ∙ l.invariant.so_far text fits;
      in_order = order_later ss l.splice-index s l.at c.args.len c.loop-splice-test.true c.splice-item.is l.invariant.in_order;
    }
