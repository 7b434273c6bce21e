use Rattle.design_text.specs.DesignTexts.{text_of}
use Rattle.design_text.proofs.ReadTexts.{is_read, read_fits}
use Rattle.design_text.proofs.text.DesignText.text_reads.Goals as goal

pub returns-clause-fits : goal.returns-clause-fits
returns-clause-fits g c =
    let inv = rw c.self.view_is at c.self.invariant in
    read_fits (text_of c.args.self.now) (is_read _ inv.design inv.reads)
