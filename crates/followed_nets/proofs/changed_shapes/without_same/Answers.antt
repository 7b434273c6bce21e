use Rattle.std.proofs.Common.{◌≡◌, ◌∙◌, [], ◌∷◌, ◌++◌, List, ap, map, subst, sym}
use Rattle.std.proofs.lemmas.List.{append-nil, map-append, nil_from_length}
use Rattle.followed_nets.specs.Lacking.{Lacks}
use Rattle.followed_nets.specs.Told.{Told}
use Rattle.followed_nets.specs.ToldViews.{told_view}
use Rattle.followed_nets.proofs.LackingLemmas.{all_there, next_lacks, none_lacks, turned_lacks}
use Rattle.followed_nets.proofs.changed_shapes.without_same.Goals as goal

pub loop-out-init : goal.loop-out-init
loop-out-init g c = (
  [],
  all_there (map told_view c.args.told.gone.items) _ (ap (map told_view) c.new.ensures.items),
  all_there (map told_view c.args.told.come.items) _ (ap (map told_view) c.new-2.ensures.items),
)

pub loop-out-preserved-in-Continue-1 : goal.loop-out-preserved-in-Continue-1
loop-out-preserved-in-Continue-1 g c =
    let before = c.loop-out.invariant in
    let step = c.in_ok-push_changed-in-Some-pop.ensures in
    let out = ap (map told_view) c.in-Some.ensures.items ∙ map-append told_view c.pop.new.self.items (c.in-Some.out ∷ []) in
    let put = ap (map told_view) c.in-Some-pop.ensures.items ∙ map-append told_view c.pop-in-Some.new.self.items (c.in-Some-pop.put ∷ []) in
    (step.0 ++ before.0, next_lacks _ _ _ _ _ _ before.0 step.0 out before.1 step.1, next_lacks _ _ _ _ _ _ before.0 step.0 put before.2 step.2)

pub loop-out-preserved : goal.loop-out-preserved
loop-out-preserved g c =
    let before = c.loop-out.invariant in
    let out = ap (map told_view) c.in-Some.ensures.items ∙ map-append told_view c.pop.new.self.items (c.in-Some.out ∷ []) in
    let more = ap (map told_view) c.in_ok-push-in-None.ensures.items ∙ map-append told_view c.loop-out.changed.gone.items (c.in-Some.out ∷ []) in
    let none = none_lacks (told_view c.in-Some.out) (map told_view c.loop-out.changed.gone.items) in
    let stays = ap (map told_view) (c.in-None.ensures.items ∙ append-nil c.pop-in-Some.new.self.items) in
    let come = subst (λ (ts : List Told). Lacks (ts ++ map told_view c.loop-out.changed.come.items) (map told_view c.args.told.come.items) before.0) stays before.2 in
    (before.0, rw (more) (next_lacks _ _ _ _ _ _ before.0 [] out before.1 none), come)

pub returns : goal.returns
returns g c =
    let before = c.loop-out.invariant in
    let none = nil_from_length c.loop-out.gone.items (sym c.loop-out.gone.ok.0 ∙ c.in_default.ensures.cases.0) in
    let goes = rw (none) at before.1 in
    let all = ap (map told_view) c.in_ok-append.ensures.items ∙ map-append told_view c.loop-out.changed.come.items c.loop-out.come.items in
    (before.0, goes, rw (all) (turned_lacks (map told_view c.loop-out.come.items) (map told_view c.loop-out.changed.come.items) (map told_view c.args.told.come.items) before.0 before.2))
