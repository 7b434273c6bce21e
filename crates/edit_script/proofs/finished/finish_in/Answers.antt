use Rattle.std.proofs.Common.{[], Some, rules}
use Rattle.edit_script.proofs.EndLemmas.{stopped_by_out}
use Rattle.edit_script.proofs.finished.finish_in.Goals as goal

pub returns-clause-fault : goal.returns-clause-fault
returns-clause-fault g c =
    let script = c.as_slice.result.now in
    (script, record { def_reads = search rules; is_script = search rules }, stopped_by_out c.args.session.now.library c.args.session.now.text script _ _ (Some []) c.in-Err-Write.ensures.err)
