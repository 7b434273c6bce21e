use Rattle.std.specs.Option.{option_map}
use Rattle.connection_rules.specs.PinShapes.{checked_named}
use Rattle.place_parts.specs.PinViews.{pin_clause_view, pin_clauses_of}
use Rattle.net_pins.specs.PortViews.{port_place_view, vias_in}
use Rattle.net_pins.specs.PortsLeft.{clause_if, shapes_left}
use Rattle.net_pins.proofs.ClauseLemmas.{clause_left, ports_put}
use Rattle.net_pins.proofs.PutLemmas.{more_put}
use Rattle.net_pins.proofs.design_pins.put_ports.Goals as goal

pub loop-clause-preserved : goal.loop-clause-preserved
loop-clause-preserved g c =
    let layers = c.args.of.now.library.now.layers in
    let vias = vias_in c.args.of.now in
    let place = option_map port_place_view c.loop-clause.place in
    record {
      known = c.in-Ok.ensures.known;
      puts =
          more_put (checked_named layers (clause_if vias place (pin_clause_view c.in-Some.clause))) (checked_named layers (shapes_left vias place (pin_clauses_of c.next.new.self)))
          (clause_left layers vias place (pin_clauses_of c.loop-clause.left) (pin_clauses_of c.next.new.self) (pin_clause_view c.in-Some.clause) c.is_port.result c.in-Some.ensures.step c.is_port.ensures c.if-is_port.false)
          c.loop-clause.invariant.puts c.in-Ok.ensures.ok c.in-Ok.ensures.part;
    }

pub returns-clause-ok : goal.returns-clause-ok
returns-clause-ok g c =
    ports_put c.args.of.now.library.now.layers (vias_in c.args.of.now) (option_map port_place_view c.loop-clause.place) (pin_clauses_of c.loop-clause.left) (pin_clauses_of c.args.pin.now.clauses) c.loop-clause.nets c.args.nets.now
    c.in_default.ensures.step c.loop-clause.invariant.puts.same
