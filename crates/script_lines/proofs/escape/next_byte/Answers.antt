use Rattle.std.proofs.Common.{inr, arith}
use Rattle.script_lines.proofs.EscapeLemmas.{plain_byte, lone_escape, good_escape, bad_escape, behind_shorter}
use Rattle.script_lines.proofs.escape.next_byte.Goals as goal

pub returns-then-raw-ne92 : goal.returns-then-raw-ne92
returns-then-raw-ne92 c = (plain_byte c.args.raw.now c.if-len-eq0.false c.if-raw-ne92.true, behind_shorter c.args.raw.now 1 (omega arith) c.if-len-eq0.false)

pub returns-then-len-eq1 : goal.returns-then-len-eq1
returns-then-len-eq1 c = inr (lone_escape c.args.raw.now c.if-len-eq1.true c.if-raw-ne92.false)

pub returns-in-Some : goal.returns-in-Some
returns-in-Some c = (
  good_escape c.args.raw.now _ c.if-len-eq0.false c.if-len-eq1.false c.if-raw-ne92.false c.in-Some.ensures,
  behind_shorter c.args.raw.now 2 (omega arith) c.if-len-eq0.false,
)

pub returns-in-None : goal.returns-in-None
returns-in-None c = inr (bad_escape c.args.raw.now c.if-len-eq0.false c.if-len-eq1.false c.if-raw-ne92.false c.in-None.ensures)
