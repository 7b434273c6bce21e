use Rattle.std.proofs.Common.{map, refl}
use Rattle.design_model.specs.Views.{rectangle_of}
use Rattle.place_checks.proofs.BetweenLemmas.{between}
use Rattle.place_checks.proofs.Oks.{following}
use Rattle.place_checks.proofs.between.put_lines_between.Goals as goal

pub returns-clause-lines : goal.returns-clause-lines
returns-clause-lines g c = λ components before own are begun.
    let moved = c.permutations_are_same.ensures _ _ c.sort_boxes.ensures.same in
    let pairs = rw (c.deref.ensures.value) at c.in-Ok.ensures in
    let crosses = rw (c.deref-2.ensures.value) at c.blocked_of.ensures in
    following c.blocked_of.result (λ put. between c.overlap_lines_are_unordered.ensures c.crosses_are_unordered.ensures c.maps_are_same.ensures (map rectangle_of c.args.keep_outs.now) _ c.sort_boxes.new.boxes.items
    components before own _ _ _ moved (record { sums = λ w. refl }) are begun pairs put) crosses
