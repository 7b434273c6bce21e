use Rattle.std.proofs.Common.{◌≡◌, ◌∙◌, List, ℕ, Some, None, ap, map, subst, sym}
use Rattle.std.specs.Prelude.{IfOk, IfSome, flat_map}
use Rattle.std.specs.List.{AllByRecursion}
use Rattle.def_grammar.specs.Records.{Record}
use Rattle.connection_rules.specs.NetLines.{layer_name}
use Rattle.line_laws.specs.Lines.{SameLines}
use Rattle.net_touches.specs.Barriers.{barrier_view, name_at}
use Rattle.design_text.specs.DesignTexts.{design_of}
use Rattle.followed_nets.specs.Blocked.{AllTell, barred_lines}
use Rattle.followed_nets.specs.Stars.{IsStar}
use Rattle.followed_nets.proofs.followed.FollowedNets.barred_lines.Goals as goal

pub lines_near-requires-clause-stars : goal.lines_near-requires-clause-stars
lines_near-requires-clause-stars g c =
    let library = c.args.library.now in
    let kept = rw (c.in-Some.is) at (rw (← c.self.view_is) at c.requires.stars) in
    rw (c.deref-in-Some.ensures.value) (subst (λ (d : List Record). AllByRecursion (IsStar library d) c.in-Some.stars.items) c.statements_are_kept.ensures.said kept)

pub returns-in-Some-clause-out : goal.returns-in-Some-clause-out
returns-in-Some-clause-out g c =
    let library = c.args.library.now in
    let bars = map barrier_view c.args.changed.now.gone.items in
    let names = ap name_at (ap (map (λ w. w.now)) c.deref-in-Some-2.ensures.value ∙ c.in_ok-layers.ensures) ∙ c.layers_have_their_names.ensures library.layers in
    let named = subst (λ (f : ℕ → List ℕ). IfOk c.lines_near.result (λ found. IfSome found (λ l. SameLines l.out (flat_map (barred_lines f library (design_of c.args.text.now) bars) c.args.names.now)))) names c.lines_near.ensures.out in
    subst (λ (d : List Record). IfOk c.lines_near.result (λ found. IfSome found (λ l. SameLines l.out (flat_map (barred_lines (layer_name library.layers) library d bars) c.args.names.now)))) (sym c.statements_are_kept.ensures.said) named

pub returns-in-Some-clause-put : goal.returns-in-Some-clause-put
returns-in-Some-clause-put g c =
    let library = c.args.library.now in
    let bars = map barrier_view c.args.changed.now.come.items in
    let names = ap name_at (ap (map (λ w. w.now)) c.deref-in-Some-2.ensures.value ∙ c.in_ok-layers.ensures) ∙ c.layers_have_their_names.ensures library.layers in
    let named = subst (λ (f : ℕ → List ℕ). IfOk c.lines_near.result (λ found. IfSome found (λ l. SameLines l.put (flat_map (barred_lines f library (design_of c.args.text.now) bars) c.args.names.now)))) names c.lines_near.ensures.put in
    subst (λ (d : List Record). IfOk c.lines_near.result (λ found. IfSome found (λ l. SameLines l.put (flat_map (barred_lines (layer_name library.layers) library d bars) c.args.names.now)))) (sym c.statements_are_kept.ensures.said) named

pub returns-clause-out : goal.returns-clause-out
returns-clause-out g c =
    let library = c.args.library.now in
    let bars = map barrier_view c.args.changed.now.gone.items in
    let names = ap name_at (ap (map (λ w. w.now)) c.deref-in-None-3.ensures.value ∙ c.in_ok-layers.ensures) ∙ c.layers_have_their_names.ensures library.layers in
    let named = subst (λ (f : ℕ → List ℕ). IfOk c.lines_near-in-None.result (λ found. IfSome found (λ l. SameLines l.out (flat_map (barred_lines f library (design_of c.args.text.now) bars) c.args.names.now)))) names c.lines_near-in-None.ensures.out in
    subst (λ (d : List Record). IfOk c.lines_near-in-None.result (λ found. IfSome found (λ l. SameLines l.out (flat_map (barred_lines (layer_name library.layers) library d bars) c.args.names.now)))) (sym c.statements_are_kept.ensures.said) named

pub returns-clause-put : goal.returns-clause-put
returns-clause-put g c =
    let library = c.args.library.now in
    let bars = map barrier_view c.args.changed.now.come.items in
    let names = ap name_at (ap (map (λ w. w.now)) c.deref-in-None-3.ensures.value ∙ c.in_ok-layers.ensures) ∙ c.layers_have_their_names.ensures library.layers in
    let named = subst (λ (f : ℕ → List ℕ). IfOk c.lines_near-in-None.result (λ found. IfSome found (λ l. SameLines l.put (flat_map (barred_lines f library (design_of c.args.text.now) bars) c.args.names.now)))) names c.lines_near-in-None.ensures.put in
    subst (λ (d : List Record). IfOk c.lines_near-in-None.result (λ found. IfSome found (λ l. SameLines l.put (flat_map (barred_lines (layer_name library.layers) library d bars) c.args.names.now)))) (sym c.statements_are_kept.ensures.said) named

pub returns-in-Some-clause-tells : goal.returns-in-Some-clause-tells
returns-in-Some-clause-tells g c = subst (λ (d : List Record). IfOk c.lines_near.result (λ found. IfSome found (λ _. AllTell d c.args.names.now))) (sym c.statements_are_kept.ensures.said) c.lines_near.ensures.tells

pub returns-clause-tells : goal.returns-clause-tells
returns-clause-tells g c = subst (λ (d : List Record). IfOk c.lines_near-in-None.result (λ found. IfSome found (λ _. AllTell d c.args.names.now))) (sym c.statements_are_kept.ensures.said) c.lines_near-in-None.ensures.tells
