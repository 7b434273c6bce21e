use Rattle.std.proofs.Common.{◌++◌, flat_map, ap, List}
use Rattle.design_model.specs.declared.geometry.Point.{Point}
use Rattle.wire_rules.specs.Paths.{line_of}
use Rattle.wire_shapes.proofs.Places.{line_step}
use Rattle.wire_shapes.proofs.Reach.{next_in_reach, place_in_reach}
use Rattle.wire_shapes.proofs.via_places.ViaPlaces.pass.Goals as goal

pub returns-clause-gives : goal.returns-clause-gives
returns-clause-gives c =
    let w = c.args.self.now in (
      ap (λ (row : List Point). row ++ flat_map (line_of w.columns w.across) (line_of w.rows w.up w.row)) (line_step w.in_row w.across w.at c.next_point-self.result c.requires.some c.next_point-self.ensures),
      next_in_reach w c.next_point-self.result c.requires.reach,
    )

pub returns-clause-reach : goal.returns-clause-reach
returns-clause-reach c = place_in_reach c.args.self.now c.next_point-self.result c.requires.reach c.requires.some c.next_point-self.ensures
