use Rattle.std.proofs.Common.{List, ℕ}
use Rattle.std.proofs.lemmas.Cmp.{nat_list_cmp_total}
use Rattle.std.proofs.lemmas.List.Sorted.{searchable_from_sorted}
use Rattle.place_checks.specs.declared.assigned.Assigned.{Assigned}
use Rattle.place_checks.proofs.assignment_table.AssignmentTable.with_name.Goals as goal

pub all_equal-requires : goal.all_equal-requires
all_equal-requires g c =
    let pattern : Assigned → List ℕ = λ a. a.pattern.now in
    rw c.deref.ensures.value (searchable_from_sorted nat_list_cmp_total pattern c.args.self.now.named.items c.args.name.now c.args.self.now.sorted)
