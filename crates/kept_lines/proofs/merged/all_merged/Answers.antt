use Rattle.std.proofs.Common.{List, ap, map, ◌∙◌}
use denote.Ref.{Bor}
use Rattle.design_model.specs.declared.diagnostic.DiagLine.{DiagLine}
use Rattle.design_model.specs.Order.{texts}
use Rattle.kept_lines.proofs.MergeLemmas.{parts_sorted}
use Rattle.kept_lines.proofs.merged.all_merged.Goals as goal

pub returns-clause-lines : goal.returns-clause-lines
returns-clause-lines g c =
    let seen = λ (v : List (Bor (DiagLine g.row.A.Denot))). texts (map (λ l. l.now) v) in
    let one = ap seen c.deref-3.ensures.value ∙ c.in_ok-first_lent.ensures.lines in
    let both = ap seen c.deref-4.ensures.value ∙ c.in_ok-behind.ensures.lines in
    let two = ap seen c.deref.ensures.value ∙ c.in_ok-second_lent.ensures.lines in
    let three = ap seen c.deref-2.ensures.value ∙ c.in_ok-third_lent.ensures.lines in
    rw (parts_sorted _ _ _ _ _ _ _ one both two three) at c.merged-2.ensures.lines
