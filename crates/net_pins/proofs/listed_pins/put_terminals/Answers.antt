use Rattle.std.proofs.Common.{ap, flat_map}
use Rattle.connection_rules.specs.Terminals.{pins_of}
use Rattle.wire_parts.specs.TerminalViews.{terminal_view, terminals_of}
use Rattle.net_pins.specs.EntryPins.{pins_in}
use Rattle.net_pins.proofs.PutLemmas.{more_pins_put}
use Rattle.net_pins.proofs.listed_pins.put_terminals.Goals as goal

pub loop-terminal-preserved : goal.loop-terminal-preserved
loop-terminal-preserved g c =
    let f = pins_of (pins_in c.args.of.now) in
    more_pins_put (f (terminal_view c.in-Some.terminal)) (flat_map f (terminals_of c.next.new.self)) (ap (flat_map f) c.in-Some.ensures.step)
    c.loop-terminal.invariant c.in_ok-put_terminal.ensures.ok c.in_ok-put_terminal.ensures.ready
