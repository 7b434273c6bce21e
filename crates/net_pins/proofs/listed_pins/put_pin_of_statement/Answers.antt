use Rattle.std.proofs.Common.{◌≡◌, Some, Option, rules, subst}
use Rattle.def_grammar.specs.Components.{Component}
use Rattle.def_grammar.specs.Records.{component_of}
use Rattle.place_parts.specs.ComponentViews.{component_view}
use Rattle.def_reader.specs.StatementViews.{record_view}
use Rattle.net_pins.specs.Unseen.{IsUnseen}
use Rattle.net_pins.proofs.listed_pins.put_pin_of_statement.Goals as goal

pub put_pin_of-requires-clause-new : goal.put_pin_of-requires-clause-new
put_pin_of-requires-clause-new g c new =
    let is_one : component_of (record_view c.args.statement.now) ≡ Some (component_view c.in-Entry-Component.component) = search rules in
    subst (λ (o : Option Component). IsUnseen c.args.pin.now c.args.walk.now.seen o) is_one (c.requires.new new).0
