use Rattle.std.proofs.Common.{refl}
use Rattle.kept_lines.proofs.FollowLemmas.{followed_are, out_stands}
use Rattle.kept_lines.proofs.kept.KeptLines.followed.Goals as goal

pub exchange-requires : goal.exchange-requires
exchange-requires g c = out_stands c.sorting_is_by_lines.ensures c.kept_lines_follow.ensures _ c.requires.0 c.requires.1 _ _ c.requires.2 c.requires.3

pub returns-then-branch : goal.returns-then-branch
returns-then-branch g c = λ before after is follow.
    followed_are c.sorting_is_by_lines.ensures c.kept_lines_follow.ensures _ before after _ _ is follow c.same_lines_sort_alike.ensures _ (c.in_ok-exchange.ensures.follow c.if-branch.true) (c.in_ok-exchange.ensures.in_order c.if-branch.true)
