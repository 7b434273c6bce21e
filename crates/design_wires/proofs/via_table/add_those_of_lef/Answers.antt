use Rattle.std.proofs.Common.{◌∷◌, ◌+◌, drop}
use Rattle.cell_library.specs.ViaViews.{vias_view}
use Rattle.design_wires.specs.Defined.{defined}
use Rattle.design_wires.specs.KnownVias.{HasOthers, names_in_lef}
use Rattle.design_wires.proofs.TableLemmas.{names_from, no_names_from}
use Rattle.design_wires.proofs.via_table.add_those_of_lef.Goals as goal

pub loop-name-preserved : goal.loop-name-preserved
loop-name-preserved g c h =
    let left : HasOthers (defined c.args.of) c.loop-name.vias (c.in-Some.name.now ∷ names_in_lef (drop (c.loop-name.place + 1) (vias_view c.args.all.now))) =
    rw (← names_from c.args.all.now c.loop-name.place (c.in-Some.name.now, c.in-Some.field-0-1.now) c.in-Some.ensures.there) (c.loop-name.invariant h)
    in c.in_ok-add.ensures (names_in_lef (drop (c.loop-name.place + 1) (vias_view c.args.all.now))) left

pub returns : goal.returns
returns g c h = rw (← no_names_from c.args.all.now c.loop-name.place c.in_default.ensures.there) (c.loop-name.invariant h)
