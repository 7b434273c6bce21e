use Rattle.design_text.proofs.opening.TellingTold.tell.Goals as goal

pub returns-then-repeats : goal.returns-then-repeats
returns-then-repeats g c = λ xs told. (c.in-Ok.ensures.added xs told.0, λ e. absurd (cc))

pub returns : goal.returns
returns g c = λ xs told. (c.in-Ok.ensures.added xs told.0, λ e. (c.in-Ok.ensures.once xs told.0 (told.1 e)).0 c.if-repeats.false)
