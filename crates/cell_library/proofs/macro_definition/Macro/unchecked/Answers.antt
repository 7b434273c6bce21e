use Rattle.std.proofs.Common.{◌<◌, arith, length, sym}
use Rattle.std.proofs.lemmas.Option.{slice_get_within}
use Rattle.cell_library.proofs.UncheckedLemmas.{all_counted, one_counted}
use Rattle.cell_library.proofs.macro_definition.Macro.unchecked.Goals as goal

pub overflow_add-count : goal.overflow_add-count
overflow_add-count g c =
    let pins = c.args.self.now.pins in
    let next = one_counted pins c.loop-pin.count c.loop-pin.place c.loop-pin.invariant (c.in-Some.field-0-0.now, c.in-Some.pin.now) c.in-Some.ensures.there in
    let few = c.args.self.now.few in
    omega (arith, next, few)

pub loop-pin-smaller : goal.loop-pin-smaller
loop-pin-smaller g c =
    let within : c.loop-pin.place < length c.args.self.now.pins = slice_get_within c.args.self.now.pins c.loop-pin.place _ (sym c.in-Some.ensures.there) in
    omega (arith, within)

pub loop-pin-preserved : goal.loop-pin-preserved
loop-pin-preserved g c =
    one_counted c.args.self.now.pins c.loop-pin.count c.loop-pin.place c.loop-pin.invariant (c.in-Some.field-0-0.now, c.in-Some.pin.now) c.in-Some.ensures.there

pub returns : goal.returns
returns g c = all_counted c.args.self.now.pins c.loop-pin.count c.loop-pin.place c.loop-pin.invariant c.in_default.ensures.there
