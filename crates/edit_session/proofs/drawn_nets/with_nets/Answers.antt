use Rattle.std.proofs.Common.{◌∙◌}
use Rattle.std.proofs.lemmas.Result.{IfOk-from_err}
use Rattle.edit_session.proofs.drawn_nets.with_nets.Goals as goal

pub returns-in_err-put_nets : goal.returns-in_err-put_nets
returns-in_err-put_nets g c = λ library design drawn without. IfOk-from_err c.from_residual.result _ c.from_residual.ensures.0

pub returns : goal.returns
returns g c = λ library design drawn without. c.in_ok-put_nets.ensures library design (rw (c.in-Some.is) at without) (c.nets.ensures ∙ drawn.nets) (c.lengths.ensures ∙ drawn.lengths)
