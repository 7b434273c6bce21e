use Rattle.std.proofs.Common.{rules}
use Rattle.edit_session.proofs.NetTests.{any_subject}
use Rattle.edit_session.proofs.nets.note_nets.Goals as goal

pub returns-then-is_none-clause-only : goal.returns-then-is_none-clause-only
returns-then-is_none-clause-only g c =
    let any = any_subject c.args.change in
    (any.0, any.1, tt)

pub returns-in_err-nets-clause-only : goal.returns-in_err-nets-clause-only
returns-in_err-nets-clause-only g c =
    let any = any_subject c.args.change in
    (any.0, any.1, search rules)
