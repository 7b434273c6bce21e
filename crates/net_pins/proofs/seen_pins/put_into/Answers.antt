use Rattle.std.proofs.Common.{◌+◌, ◌++◌, add-one, drop, drop-cons, get_or}
use Rattle.std.proofs.lemmas.List.{drop_all}
use Rattle.net_pins.proofs.SeenLemmas.{all_put, one_put}
use Rattle.net_pins.proofs.seen_pins.put_into.Goals as goal

pub returns : goal.returns
returns g c =
    let pins = c.args.pins.now in
    all_put (c.args.table.now.keys ++ pins) c.loop-pin.table.keys (drop c.loop-pin.pin-index pins) (drop_all c.loop-pin.pin-index pins c.loop-pin-test.false) c.loop-pin.invariant

pub loop-pin-preserved : goal.loop-pin-preserved
loop-pin-preserved g c =
    let pins = c.args.pins.now in
    let i = c.loop-pin.pin-index in
    let keys = c.in_ok-insert.ensures.keys in
    one_put (c.args.table.now.keys ++ pins) c.loop-pin.table.keys (drop i pins) (drop (i + 1) pins) c.insert.new.self.keys _ (rw (add-one i) (drop-cons pins i _ c.loop-pin-test.true)) c.loop-pin.invariant keys
