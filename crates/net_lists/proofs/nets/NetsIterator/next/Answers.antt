use Rattle.std.proofs.Common.{◌∙◌, ap, take, drop}
use Rattle.net_lists.proofs.NextLemmas.{fewer, first_net, some_left}
use Rattle.net_lists.proofs.nets.NetsIterator.next.Goals as goal

pub returns-clause-steps : goal.returns-clause-steps
returns-clause-steps c =
    rw (← c.self.view_is)
    (first_net c.self.inside.heads.now _ c.self.inside.parts.now c.split_at.result.0.now c.split_at.result.1.now c.self.inside.shapes.now c.split_at-2.result.0.now c.split_at-2.result.1.now
    (some_left _ c.if-is_empty.ensures) c.split_at.ensures.front c.split_at.ensures.back
    (c.split_at-2.ensures.front ∙ ap (λ n. take n c.self.inside.shapes.now) c.shapes_of.ensures)
    (c.split_at-2.ensures.back ∙ ap (λ n. drop n c.self.inside.shapes.now) c.shapes_of.ensures))

pub returns-clause-goes : goal.returns-clause-goes
returns-clause-goes c = record { on = λ _. (tt, tt, fewer _ _ _ (returns-clause-steps c)); keeps = tt; rests = λ _. tt }
