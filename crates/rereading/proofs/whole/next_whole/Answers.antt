use Rattle.std.proofs.Common.{arith, ◌∙◌}
use Rattle.rereading.proofs.Tries.{longer_pos, tried_more, tries_again}
use Rattle.rereading.proofs.whole.next_whole.Goals as goal

pub returns-in-Some-clause-again : goal.returns-in-Some-clause-again
returns-in-Some-clause-again g c = λ raw holds.
    let i = c.grow.invariant in
    let segments = g.S.Segments.listed c.args.segments.now in
    let window = c.grow.window in
    tries_again c.pieces_are_found.ensures raw segments c.args.mode c.args.pos c.args.window.now.used window.used c.args.again.now c.next_in.new.again window.bytes.items c.in-Some.answer (rw c.in-Some.ensures.again (i.tried raw holds)) (c.in-Some.ensures.whole raw (i.holds raw holds))

pub grow-preserved : goal.grow-preserved
grow-preserved g c =
    let i = c.grow.invariant in
    let segments = g.S.Segments.listed c.args.segments.now in
    let window = c.grow.window in
    let new = c.append.new.self in
    let short = c.in_default.ensures.short in
    let grown = c.in_ok-append.ensures in
    let further = grown.further i.some short.0 in
    let tries = c.in_default.ensures.again in
    record {
      some = c.twice-more.ensures i.some;
      pos = longer_pos c.args.pos window.bytes.items new.bytes.items grown.longer i.pos;
      counted = c.in_default.ensures.counts ∙ i.counted;
      few = omega (arith, i.few, further, tries);
      holds = λ raw holds. grown.holds raw (i.holds raw holds);
      tried = λ raw holds. rw tries (tried_more raw segments c.args.mode c.args.pos c.args.window.now.used c.args.again.now c.grow.again window.used new.used window.bytes.items new.bytes.items (i.tried raw holds) (i.holds raw holds) short.1 grown.longer further);
    }
