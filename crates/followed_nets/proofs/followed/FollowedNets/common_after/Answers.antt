use Rattle.std.proofs.Common.{◌≡◌, ◌∙◌, sym}
use Rattle.followed_nets.proofs.followed.FollowedNets.common_after.Goals as goal

pub returns-in-Some : goal.returns-in-Some
returns-in-Some g c = λ old made are stay. c.numbers_after.ensures old made (c.deref.ensures.value ∙ (rw (← c.self.view_is) at are))
