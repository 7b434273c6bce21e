use Rattle.std.proofs.Common.{◌≤◌, arith, length}
use Rattle.std.specs.Option.{option_map}
use Rattle.design_text.specs.Exchanges.{exchange_view, records_in}
use Rattle.followed_measures.specs.Cells.{LeavesCells}
use Rattle.followed_measures.proofs.CellLemmas.{AreKept, all_kept, left_by_all, of_next, of_none, with_next}
use Rattle.followed_measures.proofs.cells.exchanges_leave_cells.Goals as goal

pub loop-place-init : goal.loop-place-init
loop-place-init g c =
    let slots = c.args.text.now.pieces.table.slots in
    record {
      kept = all_kept slots c.args.made.now.exchanges c.requires.0 (records_in c.args.text.now) c.requires.1;
      so_far = λ left. left;
    }

pub leaves_cells-requires-clause-went : goal.leaves_cells-requires-clause-went
leaves_cells-requires-clause-went g c =
    (of_next (AreKept c.args.text.now.pieces.table.slots) c.args.made.now.exchanges c.loop-place.place (exchange_view c.in-Some.exchange) c.in-Some.ensures c.loop-place.invariant.kept).0.went

pub leaves_cells-requires-clause-came : goal.leaves_cells-requires-clause-came
leaves_cells-requires-clause-came g c =
    (of_next (AreKept c.args.text.now.pieces.table.slots) c.args.made.now.exchanges c.loop-place.place (exchange_view c.in-Some.exchange) c.in-Some.ensures c.loop-place.invariant.kept).0.came

pub loop-place-preserved : goal.loop-place-preserved
loop-place-preserved g c =
    let slots = c.args.text.now.pieces.table.slots in
    let all = c.args.made.now.exchanges in
    let x = exchange_view c.in-Some.exchange in
    record {
      kept = (of_next (AreKept slots) all c.loop-place.place x c.in-Some.ensures c.loop-place.invariant.kept).1;
      so_far = λ left. c.loop-place.invariant.so_far (with_next (LeavesCells slots (option_map (λ w. w.now) c.args.but)) all c.loop-place.place x c.in-Some.ensures (c.in_ok-leaves_cells.ensures c.if-not-branch.false) left);
    }

pub returns : goal.returns
returns g c =
    let slots = c.args.text.now.pieces.table.slots in
    let all = c.args.made.now.exchanges in
    let done : length all ≤ c.loop-place.place = omega (arith, c.loop-place-test.false, c.len-place-end.ensures) in
    λ old made all_left.
    left_by_all slots c.others_leave_cells.ensures (option_map (λ w. w.now) c.args.but) all old (records_in c.args.text.now) made (c.loop-place.invariant.so_far (of_none (LeavesCells slots (option_map (λ w. w.now) c.args.but)) all c.loop-place.place done))
