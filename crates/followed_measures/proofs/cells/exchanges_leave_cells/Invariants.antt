use Rattle.std.proofs.Common.{drop}
use Rattle.std.specs.Option.{option_map}
use Rattle.std.specs.List.{AllByRecursion}
use Rattle.followed_measures.specs.Cells.{LeavesCells}
use Rattle.followed_measures.proofs.CellLemmas.{AreKept}
use Rattle.followed_measures.proofs.cells.exchanges_leave_cells.Given as goal

abbrev pub invariant-loop-place : goal.invariant-loop-place
invariant-loop-place g l =
    let slots = l.text.pieces.table.slots in
    let left = drop l.place l.made.exchanges in
    record {
      kept : AllByRecursion (AreKept slots) left;
      so_far : AllByRecursion (LeavesCells slots (option_map (λ w. w.now) l.but)) left → AllByRecursion (LeavesCells slots (option_map (λ w. w.now) l.but)) l.made.exchanges;
    }
