use Rattle.std.proofs.Common.{rules, ◌∷◌, ◌++◌, [], ◌∙◌, ap, map, subst, sym}
use Rattle.std.proofs.lemmas.List.{map-append}
use Rattle.net_touches.specs.Barriers.{barrier_view}
use Rattle.followed_nets.specs.Blocked.{AreNotBoth}
use Rattle.followed_nets.proofs.NotBoth.{one_beside, one_less}
use Rattle.followed_nets.proofs.taking_bars.take_or_push.Goals as goal

pub returns-in_ok-push-clause-apart : goal.returns-in_ok-push-clause-apart
returns-in_ok-push-clause-apart g c = λ apart.
    let bar = barrier_view c.args.bar.now in
    let left = map barrier_view c.args.left.now.items in
    let come = map barrier_view c.args.come.now.items in
    let none = c.if-not-take_bar.ensures.none (search rules) in
    let same = ap (map barrier_view) (c.if-not-take_bar.ensures.left (search rules)) in
    let more = ap (map barrier_view) c.in_ok-push.ensures.items ∙ map-append barrier_view c.args.left.now.items (c.args.bar.now ∷ []) in
    rw (same, more) (one_beside bar left come none apart)

pub returns-else-not-take_bar-clause-apart : goal.returns-else-not-take_bar-clause-apart
returns-else-not-take_bar-clause-apart g c = λ apart.
    one_less (barrier_view c.args.bar.now) (map barrier_view c.args.left.now.items) (map barrier_view c.args.come.now.items) (map barrier_view c.take_bar.new.bars.items) (c.if-not-take_bar.ensures.taken (search rules)) apart
