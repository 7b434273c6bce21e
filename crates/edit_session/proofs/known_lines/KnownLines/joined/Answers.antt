use Rattle.std.proofs.Common.{List, ap, map, subst, sym, ◌∙◌}
use denote.Ref.{Bor}
use Rattle.design_model.specs.declared.diagnostic.DiagLine.{DiagLine}
use Rattle.design_model.specs.Order.{texts}
use Rattle.report_lines.specs.Kinds.{HaveTheirKinds}
use Rattle.edit_session.proofs.known_lines.KnownLines.joined.Goals as goal

pub returns-clause-lines : goal.returns-clause-lines
returns-clause-lines g c = λ library design known.
    let seen = ap (λ (v : List (Bor (DiagLine g.row.A.Denot))). texts (map (λ l. l.now) v)) c.deref.ensures.value in
    rw (seen ∙ c.in_ok-lent.ensures.lines library design known) at c.copies.ensures.lines

pub returns-clause-kinds : goal.returns-clause-kinds
returns-clause-kinds g c = c.copies.ensures.kinds (subst (λ (v : List (Bor (DiagLine g.row.A.Denot))). HaveTheirKinds (map (λ l. l.now) v)) (sym c.deref.ensures.value) c.in_ok-lent.ensures.kinds)
