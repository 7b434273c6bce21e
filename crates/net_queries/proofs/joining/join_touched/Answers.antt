use Rattle.std.proofs.Common.{◌-◌, length, refl, rules}
use Rattle.shape_index.specs.Shapes.{met_by}
use Rattle.net_queries.specs.Held.{is_among}
use Rattle.net_queries.proofs.Joins.{folded}
use Rattle.net_queries.proofs.Steps.{among_below, joined_things, numbered_step}
use Rattle.net_queries.proofs.joining.join_touched.Goals as goal

pub returns-clause-joined : goal.returns-clause-joined
returns-clause-joined g c =
    let first = c.args.first in
    let part = c.args.part in
    let n = length c.args.joining.classes in
    let run = c.for_met-classes.ensures.folded in
    let made = folded (λ ls. ls) _ (λ e. is_among first n e.1.net) (λ e. (part, e.1.net - first)) n
    (λ e t. c.requires) (λ e t. among_below first n e.1.net t)
    (λ a e b k size. numbered_step first part e.1.net n (part, e.1.net - first) a b c.requires size (search rules)) run.0 _ _ refl run.2 in
    joined_things (λ e. is_among first n e.1.net) (λ e. (part, e.1.net - first)) run.0 (met_by c.args.own.now.layer c.args.own.now.rect _) _ _ run.1 made
