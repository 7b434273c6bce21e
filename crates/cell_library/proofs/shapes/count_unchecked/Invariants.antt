use Rattle.std.proofs.Common.{◌≡◌, ◌≤◌, ◌+◌, drop, filter, length}
use Rattle.cell_library.specs.Records.{records_view}
use Rattle.cell_library.specs.ShapeViews.{is_unchecked_in}
use Rattle.cell_library.proofs.shapes.count_unchecked.Given as goal

abbrev pub invariant-loop-statement : goal.invariant-loop-statement
invariant-loop-statement l = record {
  counted : l.count + length (filter is_unchecked_in (records_view (drop l.statement-index l.inner))) ≡ length (filter is_unchecked_in (records_view l.inner));
  few : l.count ≤ l.statement-index;
}
