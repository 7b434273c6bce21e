use Rattle.std.proofs.Common.{◌≡◌, ◌≤◌, take}
use Rattle.std.specs.Prelude.{count_by}
use Rattle.design_tables.specs.Marks.{same_role}
use Rattle.design_tables.proofs.names.Listing.count.Given as goal

abbrev pub invariant-loop-mark : goal.invariant-loop-mark
invariant-loop-mark g l = record {
  counted : l.count ≡ count_by (λ m. same_role m.role l.role) (take l.mark-index l.mark-items);
  few : l.count ≤ l.mark-index;
}
