use Rattle.std.proofs.Common.{inr, rules}
use Rattle.edit_script.proofs.run.run_in.Goals as goal

pub returns-in-Err-Memory-clause-fault : goal.returns-in-Err-Memory-clause-fault
returns-in-Err-Memory-clause-fault g c = inr (c.as_slice.result.now, record { def_reads = search rules; is_script = search rules }, search rules)
