use Rattle.std.proofs.Common.{rules, ◌<◌, length}
use Rattle.followed_nets.specs.Heads.{IsHead}
use Rattle.followed_nets.specs.ToldViews.{head_view}
use Rattle.followed_nets.proofs.HeadLemmas.{one_at}
use Rattle.followed_nets.proofs.heads.head_named.Goals as goal

pub returns-then-eq-clause-head : goal.returns-then-eq-clause-head
returns-then-eq-clause-head g c = λ design all. one_at head_view (IsHead design) c.args.heads.now c.loop-head.head-index c.head-item.result (search rules) c.head-item.is all
