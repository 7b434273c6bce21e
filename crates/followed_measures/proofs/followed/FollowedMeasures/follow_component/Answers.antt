use Rattle.std.proofs.Common.{rules, ◌≡◌, ◌∙◌, [], ℕ, List, Some, filter, map, subst, sym, true}
use Rattle.std.specs.Option.{option_map}
use Rattle.std.proofs.lemmas.Result.{err_from_is_err_and}
use Rattle.design_model.specs.Views.{rectangle_of}
use Rattle.def_grammar.specs.Records.{Record}
use Rattle.reports.specs.Densities.{box_shape, box_shapes}
use Rattle.measuring_laws.specs.Measuring.{is_of_cells, own_boxes}
use Rattle.net_laws.specs.Within.{a_component}
use Rattle.design_text.specs.Exchanges.{records_in}
use Rattle.followed_nets.specs.Noted.{said}
use Rattle.followed_nets.specs.StarHeads.{AreStarHeads, ArePinShapes}
use Rattle.followed_nets.specs.StarHeadViews.{pins_view}
use Rattle.followed_nets.specs.Within.{Leaves}
use Rattle.followed_measures.specs.ExchangedNets.{NetsExchanged}
use Rattle.followed_measures.specs.Told.{told_names}
use Rattle.followed_measures.specs.ToldViews.{net_view}
use Rattle.followed_measures.proofs.FollowLemmas.{awaits, component_followed, heads_then}
use Rattle.followed_measures.proofs.followed.FollowedMeasures.follow_component.Goals as goal

pub pins_by-requires-clause-common : goal.pins_by-requires-clause-common
pins_by-requires-clause-common g c =
    let yes : c.in_ok-leaves_others.field-0 ≡ true = search rules in
    let common = rw (c.in-Some-Some.is-0) at (rw (← c.self.view_is) at c.requires.2).common_are in
    c.deref-2.ensures.value ∙ (c.in_ok-leaves_others.ensures c.requires.0 c.in-Some-Some.common.items c.requires.1 common yes).1

pub pins_by-requires-clause-heads : goal.pins_by-requires-clause-heads
pins_by-requires-clause-heads g c =
    let old = c.requires.0 in
    let yes : c.in_ok-leaves_others.field-0 ≡ true = search rules in
    let had = rw (← c.self.view_is) at c.requires.2 in
    let common = rw (c.in-Some-Some.is-0) at had.common_are in
    let heads = rw (c.in-Some-Some.is-1) at had.heads_are in
    let last = records_in c.args.text.now in
    let left = c.in_ok-leaves_others.ensures old c.in-Some-Some.common.items c.requires.1 common yes in
    let name = c.bytes-name.result.now in
    let leaves = subst (λ (ns : List (List ℕ)). Leaves (said old) (said last) ns (a_component name)) (c.deref.ensures.value ∙ c.new-none.ensures.items) left.0 in
    subst (λ (d : List Record). AreStarHeads d c.in-Some-Some.heads) c.statements_are_kept.ensures.said (heads_then (said old) (said last) name leaves c.in-Some-Some.heads heads)

pub box_in-requires : goal.box_in-requires
box_in-requires g c =
    let yes : c.in_ok-leaves_others.field-0 ≡ true = search rules in
    let common = rw (c.in-Some-Some.is-0) at (rw (← c.self.view_is) at c.requires.2).common_are in
    c.deref-3.ensures.value ∙ (c.in_ok-leaves_others.ensures c.requires.0 c.in-Some-Some.common.items c.requires.1 common yes).1

pub exchange_nets-requires : goal.exchange_nets-requires
exchange_nets-requires g c =
    let yes : c.in_ok-leaves_others.field-0 ≡ true = search rules in
    let common = rw (c.in-Some-Some.is-0) at (rw (← c.self.view_is) at c.requires.2).common_are in
    c.deref-4.ensures.value ∙ (c.in_ok-leaves_others.ensures c.requires.0 c.in-Some-Some.common.items c.requires.1 common yes).1

pub returns-in_err-exchange_nets : goal.returns-in_err-exchange_nets
returns-in_err-exchange_nets g c = λ old made told measures.
    let p = err_from_is_err_and c.from_residual-in_err-exchange_nets.result c.from_residual-in_err-exchange_nets.ensures.1 in
    rw (p.1) tt

pub returns-in_err-exchange_component : goal.returns-in_err-exchange_component
returns-in_err-exchange_component g c = λ old made told measures.
    let p = err_from_is_err_and c.from_residual-in_err-exchange_component.result c.from_residual-in_err-exchange_component.ensures.1 in
    rw (p.1) tt

pub returns : goal.returns
returns g c = λ old made told measures yes_so.
    let library = c.args.library.now in
    let text = c.args.text.now in
    let last = records_in text in
    let name = c.args.own.name in
    let nets = map net_view c.args.nets.items in
    let bounds = option_map rectangle_of c.args.own.bounds in
    let come = option_map rectangle_of c.in_ok-come.come in
    let stars = map pins_view c.args.own.stars.items in
    let after = map pins_view c.in-Some.after.items in
    let a = c.self.inside.reports in
    let first = c.exchange_stars.new.reports in
    let next = c.exchange_nets.new.reports in
    let yes : c.in_ok-leaves_others.field-0 ≡ true = search rules in
    let stars_yes : c.in_ok-exchange_stars.field-0 ≡ true = search (rules, c.if-not-branch-2.false) in
    let nets_yes : c.in_ok-exchange_nets.field-0 ≡ true = search (rules, c.if-not-branch-3.false) in
    let had = rw (← c.self.view_is) at measures in
    let common = rw (c.in-Some-Some.is-0) at had.common_are in
    let heads = rw (c.in-Some-Some.is-1) at had.heads_are in
    let left = c.in_ok-leaves_others.ensures old c.in-Some-Some.common.items made common yes in
    let bare = subst (λ (ns : List (List ℕ)). Leaves (said old) (said last) ns (a_component c.bytes-name.result.now)) (c.deref.ensures.value ∙ c.new-none.ensures.items) left.0 in
    let leaves = subst (λ (n : List ℕ). Leaves (said old) (said last) [] (a_component n)) c.bytes-name.ensures bare in
    let cells = subst (λ (n : List ℕ). filter (is_of_cells (Some n)) (said old) ≡ filter (is_of_cells (Some n)) (said last)) c.bytes-name.ensures left.2 in
    let same = sym c.statements_are_kept.ensures.said in
    let pins = rw (c.in-Some.is) at c.in_ok-after.ensures.shapes in
    let pins_are = subst (λ (n : List ℕ). ArePinShapes library (said last) n after) c.bytes-name.ensures (subst (λ (d : List Record). ArePinShapes library d c.bytes-name.result.now after) same pins) in
    let come_is = subst (λ (n : List ℕ). box_shapes come ≡ map box_shape (own_boxes library (said last) (Some n))) c.bytes-name.ensures (subst (λ (d : List Record). box_shapes come ≡ map box_shape (own_boxes library d (Some c.bytes-name.result.now))) same c.in_ok-come.ensures) in
    let follow = c.told_measures_follow.ensures in
    let exchanged = c.told_nets_are_exchanged.ensures in
    let cells_follow = c.told_cells_follow.ensures in
    let waits = awaits library (said old) (said last) follow exchanged cells_follow nets name bounds stars told leaves cells after a had.answers_are pins_are in
    let stars_done = c.in_ok-exchange_stars.ensures library (said old) (said last) name waits stars_yes in
    let nets_done = subst (λ (d : List Record). NetsExchanged library (said old) d (told_names nets) first next) same (c.in_ok-exchange_nets.ensures (said old) told.nets_are nets_yes) in
    record {
      answers_are = component_followed library (said old) (said last) follow exchanged cells_follow nets name bounds stars told leaves cells a first next c.exchange_component.new.self come had.answers_are stars_done nets_done c.in_ok-exchange_component.ensures come_is;
      common_are = rw (c.in-Some-Some.is-0) left.1;
      heads_are = rw (c.in-Some-Some.is-1) (heads_then (said old) (said last) name leaves c.in-Some-Some.heads heads);
    }
