use Rattle.followed_measures.proofs.followed.FollowedMeasures.are_others.Goals as goal

pub returns-in-Some : goal.returns-in-Some
returns-in-Some g c = rw (← c.self.view_is, c.in-Some.is) (c.are_others.ensures)
