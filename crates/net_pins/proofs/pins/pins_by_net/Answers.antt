use Rattle.std.proofs.Common.{map, take, ap, sym, ◌∙◌}
use Rattle.def_reader.specs.StatementViews.{record_view, records_view}
use Rattle.name_groups.specs.Groups.{seen}
use Rattle.net_pins.specs.EntryPins.{lent_pin, net_groups}
use Rattle.net_pins.proofs.NamingLemmas.{all_taken, no_pins, one_taken}
use Rattle.net_pins.proofs.pins.pins_by_net.Goals as goal

pub loop-statement-init : goal.loop-statement-init
loop-statement-init g c = ap (map (seen lent_pin)) c.new-pins.ensures ∙ sym no_pins

pub loop-statement-preserved : goal.loop-statement-preserved
loop-statement-preserved g c =
    c.in_ok-add.ensures (records_view (take c.loop-statement.statement-index c.args.records.now)) c.loop-statement.invariant
    ∙ ap net_groups (one_taken record_view c.args.records.now c.loop-statement.statement-index c.statement-item.result c.loop-statement-test.true c.statement-item.is)

pub returns : goal.returns
returns g c = c.loop-statement.invariant ∙ ap (λ rs. net_groups (records_view rs)) (all_taken c.args.records.now c.loop-statement.statement-index c.loop-statement-test.false)
