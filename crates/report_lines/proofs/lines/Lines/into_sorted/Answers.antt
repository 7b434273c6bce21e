use Rattle.std.proofs.Common.{sym, subst}
use Rattle.report_lines.specs.Kinds.{HaveTheirKinds}
use Rattle.report_lines.proofs.KindLemmas.{kinds_moved}
use Rattle.report_lines.proofs.lines.Lines.into_sorted.Goals as goal

pub returns-clause-kinds : goal.returns-clause-kinds
returns-clause-kinds g c = subst HaveTheirKinds (sym c.from_vec.ensures) (kinds_moved _ _ c.sort_lines.ensures.same c.self.invariant)
