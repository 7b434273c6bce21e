use Rattle.edit_session.proofs.session.Session.into_text.Goals as goal

pub returns : goal.returns
returns g c = rw (← c.self.view_is) c.into_text.ensures
