use Rattle.std.proofs.Common.{sym, ◌∙◌, arith, get_or}
use Rattle.statement_model.specs.Tokens.Open.{between}
use Rattle.lefdef_tokens.proofs.Lexing.{lex_refused, white_accepted, white_step}
use Rattle.lefdef_tokens.proofs.runs.token_start.Goals as goal

pub returns-then-is_refused-clause-goes : goal.returns-then-is_refused-clause-goes
returns-then-is_refused-clause-goes c =
    rw c.refused.ensures (c.loop-pos.invariant.2 ∙ lex_refused c.args.text.now c.loop-pos.pos between c.loop-pos-test.true (sym c.if-is_refused.ensures))

pub loop-pos-preserved-then-is_white : goal.loop-pos-preserved-then-is_white
loop-pos-preserved-then-is_white c =
    let white = sym c.is_white.ensures ∙ c.if-is_white.true in
    (omega arith, omega arith, c.loop-pos.invariant.2 ∙ white_step c.args.text.now c.loop-pos.pos c.loop-pos-test.true (white_accepted (get_or c.args.text.now c.loop-pos.pos 0) white) white)
