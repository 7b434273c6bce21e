use Rattle.std.proofs.Common.{◌∙◌, sym, ap, Ok}
use Rattle.design_text.proofs.text.DesignText.design_is_read.Goals as goal

pub returns-clause-reads : goal.returns-clause-reads
returns-clause-reads g c =
    let inv = rw c.self.view_is at c.self.invariant in
    let k = c.statements_are_known.ensures inv.design inv.reads in
    inv.reads ∙ ap Ok (sym k.said)

pub returns-clause-alone : goal.returns-clause-alone
returns-clause-alone g c = λ design reads. sym (c.statements_are_known.ensures design reads).said
