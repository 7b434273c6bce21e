use Rattle.std.proofs.Common.{◌≡◌, sym, ◌∙◌, None}
use Rattle.cell_library.specs.Naming.{named}
use Rattle.entry_rules.specs.ViaLayers.{layers_named}
use Rattle.design_wires.specs.Defined.{defined}
use Rattle.design_wires.specs.KnownVias.{IsVia}
use Rattle.design_wires.proofs.TableLemmas.{absent_where, has_new, matched}
use Rattle.design_wires.proofs.via_table.add.Goals as goal

pub returns-in_ok-add : goal.returns-in_ok-add
returns-in_ok-add g c left h =
    has_new (defined c.args.of) c.args.vias.now c.args.name.now left h c.in-Some.via c.add.new.self
    (absent_where c.get.result (named c.args.vias.now c.args.name.now) c.get.ensures (sym c.is_some.ensures ∙ c.if-is_some.false))
    (matched (layers_named c.args.of.library.now c.args.of.names.now c.args.name.now ≡ None) (IsVia (defined c.args.of) c.args.name.now) c.in_ok-via.field-0 c.in-Some.via c.in-Some.is c.in_ok-via.ensures)
    c.in_ok-add.ensures.ok
