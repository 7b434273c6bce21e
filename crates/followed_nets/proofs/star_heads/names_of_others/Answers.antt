use Rattle.std.proofs.Common.{rules, ◌≡◌, ◌∙◌, ◌++◌, ◌∷◌, [], ◌+◌, List, ℕ, ap, false, map, sym, take, true}
use Rattle.std.proofs.lemmas.List.{take_more}
use Rattle.net_laws.specs.NetChanges.{is_one_of}
use Rattle.followed_nets.specs.StarHeads.{head_names}
use Rattle.followed_nets.specs.ToldViews.{head_view}
use Rattle.followed_nets.proofs.NoteLemmas.{all_others, one_kept, one_other}
use Rattle.followed_nets.proofs.star_heads.names_of_others.Goals as goal
use Rattle.followed_nets.proofs.star_heads.names_of_others.Goals.{else-not-is_head, then-not-is_head+in_ok-add_name}

pub loop-name-preserved : goal.loop-name-preserved
loop-name-preserved g c =
    let stars = head_names (map head_view c.args.heads.now) in
    let n = c.name-item.result in
    let next : take (c.loop-name.name-index + 1) c.args.names.now ≡ take c.loop-name.name-index c.args.names.now ++ n ∷ [] =
    take_more c.args.names.now c.loop-name.name-index n c.loop-name-test.true ∙ ap (λ (m : List ℕ). take c.loop-name.name-index c.args.names.now ++ m ∷ []) (sym c.name-item.is) in
    elim c.if-not-is_head.branch [
      | then-not-is_head+in_ok-add_name w ↦
          let other : is_one_of stars n ≡ false = search rules in
          rw (next, w.others-is) (one_other (take c.loop-name.name-index c.args.names.now) stars n c.loop-name.others.items w.add_name.new.nets.items other (rw (w.bytes-then-not-is_head.ensures) at w.in_ok-add_name.ensures.all) (w.in_ok-add_name.ensures.apart c.loop-name.invariant.apart) c.loop-name.invariant)
      | else-not-is_head w ↦
          let kept : is_one_of stars n ≡ true = search rules in
          rw (next, w.others-is) (one_kept (take c.loop-name.name-index c.args.names.now) stars n c.loop-name.others.items kept c.loop-name.invariant)
    ]

pub returns-clause-apart : goal.returns-clause-apart
returns-clause-apart g c = λ own apart. all_others _ (head_names (map head_view c.args.heads.now)) c.loop-name.others.items c.loop-name.invariant apart
