use Rattle.std.proofs.Common.{rules, ◌≤◌, get_or, length, not, ap}
use Rattle.named_shapes.specs.Touching.{is_known}
use Rattle.named_shapes.proofs.TouchingLemmas.{next_none, none_left}
use Rattle.named_shapes.proofs.near.names_at.Goals as goal

pub loop-place-preserved : goal.loop-place-preserved
loop-place-preserved g c = λ more stay rest.
    let names = c.args.names.now in
    let put = c.in_ok-add_name.ensures in
    c.loop-place.invariant more (λ n known. stay n (put.stay n known))
    (next_none (λ n. not (is_known names more n)) c.args.places.now c.loop-place.place-index c.loop-place-test.true (ap not (stay (get_or c.args.places.now c.loop-place.place-index 0) put.known)) rest)

pub returns : goal.returns
returns g c =
    let past : length c.args.places.now ≤ c.loop-place.place-index = search rules in
    c.loop-place.invariant c.loop-place.found.items (λ n known. known) (none_left (λ n. not (is_known c.args.names.now c.loop-place.found.items n)) c.args.places.now c.loop-place.place-index past)
