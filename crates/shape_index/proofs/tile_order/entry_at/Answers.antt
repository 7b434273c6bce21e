use Rattle.std.proofs.Common.{rules, ◌≡◌, Some, None, sym, arith}
use Rattle.slab.specs.Slab.{get}
use Rattle.std.specs.Prelude.{slice_index_or}
use Rattle.shape_index.proofs.Listed.{there_at}
use Rattle.shape_index.proofs.tile_order.entry_at.Goals as goal

pub returns-in-Some : goal.returns-in-Some
returns-in-Some g c =
    let e = there_at c.args.shapes.now c.args.order.now c.args.place (record { 0 = 0 }) c.requires (omega arith) in
    let some : get c.args.shapes.now (slice_index_or c.args.order.now c.args.place (record { 0 = 0 })).0 ≡ Some c.in-Some.shape.now = search rules in
    sym (rw some at e)

pub returns-in-None : goal.returns-in-None
returns-in-None g c =
    let e = there_at c.args.shapes.now c.args.order.now c.args.place (record { 0 = 0 }) c.requires (omega arith) in
    let none : get c.args.shapes.now (slice_index_or c.args.order.now c.args.place (record { 0 = 0 })).0 ≡ None = search rules in
    sym (rw none at e)
