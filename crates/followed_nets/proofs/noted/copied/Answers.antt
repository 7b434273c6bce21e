use Rattle.std.proofs.Common.{◌∙◌, ◌++◌, ◌∷◌, [], List, ap, append_assoc, sym}
use Rattle.connection_rules.specs.NetParts.{Net}
use Rattle.net_lists.specs.NetViews.{net_view}
use Rattle.followed_nets.proofs.noted.copied.Goals as goal

pub loop-net-preserved : goal.loop-net-preserved
loop-net-preserved g c =
    let before = c.loop-net.invariant.0 in (
      before ++ net_view c.in-Some.net ∷ [],
      c.loop-net.invariant.1
          ∙ ap (λ (l : List Net). before ++ l) c.in-Some.ensures.steps
          ∙ sym (append_assoc before (net_view c.in-Some.net ∷ []) c.next.new.self),
    )
