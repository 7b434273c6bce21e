use Rattle.std.proofs.Common.{◌++◌}
use Rattle.def_reader.specs.StatementViews.{records_view}
use Rattle.cell_library.specs.ViaViews.{vias_view}
use Rattle.design_wires.specs.Defined.{defined}
use Rattle.design_wires.specs.KnownVias.{HasOthers, names_in_def, names_in_lef}
use Rattle.design_wires.proofs.TableLemmas.{has_nothing, has_vias}
use Rattle.design_wires.proofs.via_table.vias_of.Goals as goal

pub returns : goal.returns
returns g c =
    let start : HasOthers (defined c.args.of) c.new-vias.result (names_in_def (records_view c.records.result.now) ++ names_in_lef (vias_view c.vias-2.result.now)) =
    rw (c.records.ensures, c.vias-2.ensures) (has_nothing (defined c.args.of) c.new-vias.result c.new-vias.ensures)
    in has_vias (defined c.args.of) c.add_those_of_lef.new.vias
    (c.in_ok-add_those_of_lef.ensures (c.in_ok-add_those_of_def.ensures (names_in_lef (vias_view c.vias-2.result.now)) start))
