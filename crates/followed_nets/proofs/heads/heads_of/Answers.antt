use Rattle.design_text.specs.DesignTexts.{design_of}
use Rattle.followed_nets.specs.Heads.{IsHead}
use Rattle.followed_nets.specs.ToldViews.{head_view}
use Rattle.followed_nets.proofs.HeadLemmas.{one_more}
use Rattle.followed_nets.proofs.heads.heads_of.Goals as goal
use Rattle.followed_nets.proofs.heads.heads_of.Goals.{in-Some+in_ok-push, in_default}

pub loop-star-preserved : goal.loop-star-preserved
loop-star-preserved g c =
    let design = design_of c.args.text.now in
    elim c.match-branch-2.branch [
      | in-Some+in_ok-push w ↦
          let own = rw (w.in-Some.is) at c.in_ok-head.ensures in
          rw (w.heads-is) (one_more head_view (IsHead design) c.loop-star.heads.items w.in-Some.head _ w.in_ok-push.ensures.items c.loop-star.invariant own)
      | in_default w ↦ rw (w.heads-is) c.loop-star.invariant
    ]
