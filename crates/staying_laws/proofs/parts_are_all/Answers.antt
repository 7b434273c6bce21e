use Rattle.staying_laws.proofs.ReportParts.{parts_are_all}
use Rattle.staying_laws.proofs.parts_are_all.Goals as goal

pub returns : goal.returns
returns c = parts_are_all
