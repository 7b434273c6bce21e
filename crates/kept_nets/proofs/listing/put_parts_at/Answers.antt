use Rattle.kept_nets.proofs.PartsAt.{next_absent, next_put}
use Rattle.net_lists.specs.Building.{with_parts}
use Rattle.class_laws.specs.OneMore.{parts_at}
use Rattle.std.proofs.Common.{map}
use Rattle.kept_nets.specs.Parts.{part_view}
use Rattle.kept_nets.proofs.listing.put_parts_at.Goals as goal
use Rattle.kept_nets.proofs.listing.put_parts_at.Goals.{in-Some+in_ok-put_part, in_default}

pub loop-place-preserved : goal.loop-place-preserved
loop-place-preserved g c =
    let parts = c.args.parts.now in
    let places = c.args.places.now in
    let total = with_parts (parts_at (map part_view parts) places) c.args.nets.now in
    elim c.match-get.branch [
      | in-Some+in_ok-put_part w ↦
          let found = w.in-Some.ensures.lookup in
          rw (w.nets-is) (record {
            left = next_put parts places c.loop-place.place-index c.loop-place-test.true w.in-Some.part.now total c.loop-place.nets w.put_part.new.nets found.3.0 found.1 w.in_ok-put_part.ensures.ok c.loop-place.invariant.left;
            net = w.in_ok-put_part.ensures.net;
          })
      | in_default w ↦
          let found = w.in_default.ensures.lookup in
          rw (w.nets-is) (record {
            left = next_absent parts places c.loop-place.place-index c.loop-place-test.true total c.loop-place.nets found.3 c.loop-place.invariant.left;
            net = c.loop-place.invariant.net;
          })
    ]
