use Rattle.std.proofs.Common.{◌≡◌, is_none, sym, ◌∙◌, rules}
use Rattle.lefdef_tokens.specs.Views.{rest_of}
use Rattle.net_wiring.proofs.WiringTexts.{said_at_end, said_fewer, said_later, said_none}
use Rattle.net_wiring.proofs.wiring_text.are_wiring.Goals as goal

pub returns-in-Some : goal.returns-in-Some
returns-in-Some c =
    let e = c.in-Some.ensures in
    let is : c.is_none.result ≡ is_none c.in-Some.end.bad = search rules in
    is ∙ sym (said_at_end (rest_of c.loop-end.left) (rest_of c.in-Some.end) c.args.section e.0 e.1) ∙ c.loop-end.invariant

pub returns-in_default-past_clause : goal.returns-in_default-past_clause
returns-in_default-past_clause c = sym (said_none (rest_of c.loop-end.left) c.args.section c.in_default.ensures c.in_default-past_clause.ensures) ∙ c.loop-end.invariant

pub loop-end-smaller : goal.loop-end-smaller
loop-end-smaller c = said_fewer (rest_of c.loop-end.left) (rest_of c.in-Some-past_clause.later) c.args.section c.in-Some-past_clause.ensures

pub loop-end-preserved : goal.loop-end-preserved
loop-end-preserved c =
    sym (said_later (rest_of c.loop-end.left) c.args.section c.in_default.ensures (rest_of c.in-Some-past_clause.later) c.in-Some-past_clause.ensures) ∙ c.loop-end.invariant
