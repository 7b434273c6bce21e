use Rattle.std.proofs.Common.{ap}
use Rattle.cell_library.specs.CellViews.{cell_view}
use Rattle.design_wires.specs.Scales.{units_of}
use Rattle.net_pins.proofs.FoundLemmas.{at_own_scale, looked_up}
use Rattle.net_pins.proofs.last_pins.look_up.Goals as goal

pub returns-clause-found : goal.returns-clause-found
returns-clause-found g c =
    looked_up c.args.library.now c.args.cell.now c.args.name.now (cell_view c.in-Some.view) (units_of c.args.scale) _ c.in-Some.ensures c.in-Some-pin.ensures (ap units_of c.of.ensures.scale) c.of.ensures.origin c.of.ensures.boundary

pub returns-clause-kept : goal.returns-clause-kept
returns-clause-kept g c = at_own_scale c.args.library.now c.args.cell.now c.args.name.now (units_of c.args.scale) _ (returns-clause-found g c)
