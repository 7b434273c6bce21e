use Rattle.std.proofs.Common.{rules, refl}
use Rattle.followed_nets.proofs.HeadsStay.{fits_none, fits_stars}
use Rattle.followed_nets.proofs.followed.FollowedNets.fits.Goals as goal

pub returns-then-are_others : goal.returns-then-are_others
returns-then-are_others g c = λ yes.
    let others = rw (c.deref-in-Some-None.ensures.value, c.deref-in-Some-None-2.ensures.value) at (c.are_others.ensures (search (rules, c.if-are_others.true))) in
    let heads = rw (c.deref-then-are_others.ensures.value, c.deref-then-are_others-2.ensures.value) at (c.are_of_others.ensures yes) in
    rw (← c.self.view_is, ← c.touched.view_is, c.in-Some-None.is-0, c.in-Some-None.is-1) (fits_stars _ _ _ c.in-Some-None.stars.items refl refl others heads)

pub returns-in-None-None : goal.returns-in-None-None
returns-in-None-None g c = λ yes.
    let heads = rw (c.deref-in-None-None.ensures.value, c.deref-in-None-None-2.ensures.value) at (c.are_of_others-in-None-None.ensures yes) in
    rw (← c.self.view_is, ← c.touched.view_is, c.in-None-None.is-0, c.in-None-None.is-1) (fits_none _ _ _ refl refl heads)
