use Rattle.std.proofs.Common.{sym, ◌∙◌}
use Rattle.std.proofs.lemmas.Result.{on_ok_weaker}
use Rattle.def_reader.specs.StatementViews.{record_view}
use Rattle.net_pins.specs.EntryPins.{borrowed_pin}
use Rattle.net_pins.proofs.NamingLemmas.{no_net_more, no_pin_more, pin_more}
use Rattle.net_pins.proofs.pins.add.Goals as goal

pub returns-in_default : goal.returns-in_default
returns-in_default g c = λ before so_far. so_far ∙ sym (no_pin_more before (record_view c.args.statement.now) c.in_default.ensures)

pub returns-in_default-net_of : goal.returns-in_default-net_of
returns-in_default-net_of g c = λ before so_far. so_far ∙ sym (no_net_more before (record_view c.args.statement.now) (borrowed_pin c.in-Some.parts) c.in-Some.ensures c.in_default-net_of.ensures)

pub returns : goal.returns
returns g c = λ before so_far.
    on_ok_weaker c.add.result (pin_more before (record_view c.args.statement.now) (record { pin = c.in-Some.parts }) c.in-Some-net_of.net.now c.args.pins.now c.add.new.self c.in-Some.ensures c.in-Some-net_of.ensures so_far) c.add.ensures
