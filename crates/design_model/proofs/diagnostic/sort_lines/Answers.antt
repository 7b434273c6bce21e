use Rattle.std.proofs.Common.{rules, List, ℕ}
use Rattle.std.specs.Ordering.{is_lt}
use Rattle.std.proofs.lemmas.Cmp.{nat_list_cmp_total}
use Rattle.std.proofs.lemmas.List.Sorted.{ranks_by, answers_always, IsPermutation-map}
use Rattle.design_model.specs.declared.diagnostic.DiagLine.{DiagLine}
use Rattle.design_model.specs.Order.{IsSortOf, byte_cmp}
use Rattle.design_model.proofs.Sorting.{IsSortedBy-map}
use Rattle.design_model.proofs.SortUnique.{sorted_is}
use Rattle.design_model.proofs.diagnostic.sort_lines.Goals as goal

pub returns-clause-sorted : goal.returns-clause-sorted
returns-clause-sorted g c =
    let text = λ (l : DiagLine g.row.A.Denot). l.text in
    let up = c.sort_unstable_by.ensures.sorted _ (ranks_by nat_list_cmp_total text) (answers_always _ _ _ (λ f a r f' k. search rules)) in
    sorted_is _ _ (record {
      same = IsPermutation-map text _ _ c.sort_unstable_by.ensures.permutation;
      sorted = IsSortedBy-map (λ x y. is_lt (byte_cmp x y)) text _ up;
    })
