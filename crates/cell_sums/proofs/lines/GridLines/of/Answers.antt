use Rattle.std.proofs.Common.{subst, sym, ◌∙◌}
use Rattle.std.proofs.lemmas.List.Filters.{dedup_is}
use Rattle.std.specs.Ordering.{int_eq}
use Rattle.cell_sums.specs.Lines.{AreLines}
use Rattle.cell_sums.proofs.OrderLemmas.{are_lines, in_order_is}
use Rattle.cell_sums.proofs.lines.GridLines.of.Goals as goal

pub invariant_of-result : goal.invariant_of-result
invariant_of-result g c =
    subst AreLines (sym (dedup_is int_eq _ _ c.dedup.ensures.filtered))
    (are_lines c.args.lines.items c.sort_unstable.new.self.items c.sort_unstable.ensures.permutation c.sort_unstable.ensures.sorted c.requires)

pub returns : goal.returns
returns g c = dedup_is int_eq _ _ c.dedup.ensures.filtered ∙ in_order_is c.args.lines.items c.sort_unstable.new.self.items c.sort_unstable.ensures.permutation c.sort_unstable.ensures.sorted
