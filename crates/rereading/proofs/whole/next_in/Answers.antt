use Rattle.rereading.proofs.AllBytes.{final_fault}
use Rattle.rereading.proofs.whole.next_in.Goals as goal

pub returns-then-is_final-clause-whole : goal.returns-then-is_final-clause-whole
returns-then-is_final-clause-whole g c = λ raw holds.
    let window = c.args.window.now in
    let read = rw c.deref.ensures.value at c.in-Err.ensures.found in
    final_fault c.faults_stand.ensures raw (g.S.Segments.listed c.args.segments.now) window.used window.bytes.items c.args.mode c.args.pos c.in-Err.fault c.requires.apart holds c.requires.pos read (c.is_final.ensures c.if-is_final.true)
