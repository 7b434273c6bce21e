use Rattle.std.proofs.Common.{rules, ◌≡◌, ◌+◌, ◌++◌, drop, length, sym, take}
use Rattle.followed_nets.proofs.NumberLemmas.{found_so, row_exchanged}
use Rattle.followed_nets.proofs.numbers.with_exchanged.Goals as goal

pub returns : goal.returns
returns g c = λ front rest is.
    let ids = c.args.ids.now in
    let went = c.args.went.now in
    let came = c.args.came.now in
    let place = c.in-Some-only_place.place in
    let end = c.in-Some-checked_add.end in
    let to : end ≡ place + length went = search rules in
    found_so (λ v. v.items ≡ take place ids ++ (came ++ drop end ids)) _ c.joined.result
    (λ v are. row_exchanged ids went came front rest c.in-Some.first.now place end v.items (sym c.in-Some.ensures.value) is c.in-Some-only_place.ensures to are) c.joined.ensures
