use Rattle.std.proofs.Common.{rules, sym, ◌++◌}
use Rattle.std.proofs.lemmas.Fn.{chained_keeps}
use Rattle.std.proofs.lemmas.List.{append-nil}
use Rattle.shape_index.proofs.Pushed.{Holds, found}
use Rattle.placed_shapes.proofs.NearPlaces.{met_placed, near_placed}
use Rattle.placed_shapes.proofs.TouchedLists.{met_are_touched, one_pushed, places_of}
use Rattle.placed_shapes.proofs.placed.PlacedShapes.push_touched.Goals as goal

pub returns-clause-places : goal.returns-clause-places
returns-clause-places g c =
    let run = c.for_met-found.ensures.folded in
    let held = chained_keeps _ (λ xs q. Holds (λ v. v.items) (c.args.places.items ++ places_of xs) q) (λ xs q e v h k. one_pushed (λ v. v.items) q v c.args.places.items e xs h (search rules)) run.0 _ _ (sym (append-nil c.args.places.items)) run.2 in
    rw (c.in_ok-places.was) at (found (λ v. v.items) c.for_met-found.result.0 _ _ held (met_are_touched c.args.shape.now c.args.places.items c.tiles.result.now.entries run.0 c.args.self.now c.tiles.ensures run.1))

pub returns-clause-tests : goal.returns-clause-tests
returns-clause-tests g c = rw (← c.tiles.ensures, ← near_placed c.args.shape.now c.tiles.result.now.entries) c.for_met-found.ensures.compared

pub returns-clause-least : goal.returns-clause-least
returns-clause-least g c = rw (← c.tiles.ensures, ← met_placed c.args.shape.now c.tiles.result.now.entries) c.for_met-found.ensures.least
