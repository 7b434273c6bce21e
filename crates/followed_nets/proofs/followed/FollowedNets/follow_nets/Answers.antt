use Rattle.std.proofs.Common.{rules, ◌≡◌, ◌∙◌, ◌+◌, ◌≤◌, ◌++◌, ℕ, List, Option, Some, None, true, ap, arith, map, refl, subst, sym}
use Rattle.std.specs.Prelude.{IfSome}
use Rattle.std.proofs.lemmas.Result.{IfOk-from_err}
use Rattle.def_grammar.specs.Records.{Record}
use Rattle.connection_rules.specs.NetLines.{NetShape, barriers, layer_name}
use Rattle.design_rules.specs.Boxes.{scale}
use Rattle.line_laws.specs.Lines.{SameThings}
use Rattle.net_touches.specs.Barriers.{barrier_view}
use Rattle.design_text.specs.Exchanges.{records_in}
use Rattle.followed_nets.specs.Exchanging.{AreToldIn}
use Rattle.followed_nets.specs.Noted.{said}
use Rattle.followed_nets.specs.Pieces.{AreOnPieces}
use Rattle.followed_nets.specs.ToldViews.{star_view, stars_of, told_view}
use Rattle.followed_nets.specs.declared.exchanging.FollowedOnNets.{FollowedOnNets}
use Rattle.followed_nets.specs.declared.star_exchange.ToldExchange.{ToldExchange}
use Rattle.followed_nets.specs.declared.touched.TouchedComponent.{TouchedComponent}
use Rattle.followed_nets.proofs.BarredNets.{told_alike}
use Rattle.followed_nets.proofs.FollowLemmas.{all_exchanged, all_few, if_none_so}
use Rattle.followed_nets.proofs.HeadsStay.{heads_stay}
use Rattle.followed_nets.proofs.OwnPairs.{told_few, twice}
use Rattle.followed_nets.proofs.followed.FollowedNets.follow_nets.Goals as goal

pub told_nets-requires : goal.told_nets-requires
told_nets-requires g c =
    let yes : c.in_ok-are_all.field-0 ≡ true = search rules in
    let t = rw (← c.touched.view_is) at c.requires.2 in
    let alone = rw (← c.touched.view_is) at c.in_ok-are_all.ensures in
    c.deref.ensures.value ∙ (rw (c.in-Some.is) at ((rw (← c.touched.view_is) at c.in_ok-common.ensures) c.requires.0 c.requires.1 c.requires.3.nets.common_are (λ none. (alone c.requires.0 c.args.self.now.common c.requires.1 t.lists yes).1 none c.requires.3.nets.common_are)))

pub exchange_stars-requires-clause-common : goal.exchange_stars-requires-clause-common
exchange_stars-requires-clause-common g c =
    let yes : c.in_ok-are_all.field-0 ≡ true = search rules in
    let t = rw (← c.touched.view_is) at c.requires.2 in
    let alone = rw (← c.touched.view_is) at c.in_ok-are_all.ensures in
    rw (c.in-Some.is) at ((rw (← c.touched.view_is) at c.in_ok-common.ensures) c.requires.0 c.requires.1 c.requires.3.nets.common_are (λ none. (alone c.requires.0 c.args.self.now.common c.requires.1 t.lists yes).1 none c.requires.3.nets.common_are))

pub exchange_stars-requires-clause-heads : goal.exchange_stars-requires-clause-heads
exchange_stars-requires-clause-heads g c =
    let yes : c.in_ok-are_all.field-0 ≡ true = search rules in
    let t = rw (← c.touched.view_is) at c.requires.2 in
    let alone = rw (← c.touched.view_is) at c.in_ok-are_all.ensures in
    let fits = rw (← c.touched.view_is, ← c.self.view_is) at (c.fits.ensures (search (rules, c.if-not-fits.false))) in
    let f = rw (← c.self.view_is) at c.requires.3 in
    let last = records_in c.args.text.now in
    let both = alone c.requires.0 c.args.self.now.common c.requires.1 t.lists yes in
    heads_stay c.args.library.now (said c.requires.0) (said last) _ both.0 t.pins _ fits.heads f.nets.heads_are

pub exchange-requires : goal.exchange-requires
exchange-requires g c =
    let yes : c.in_ok-are_all.field-0 ≡ true = search rules in
    let t = rw (← c.touched.view_is) at c.requires.2 in
    let alone = rw (← c.touched.view_is) at c.in_ok-are_all.ensures in
    let fits = rw (← c.touched.view_is, ← c.self.view_is) at (c.fits.ensures (search (rules, c.if-not-fits.false))) in
    let f = rw (← c.self.view_is) at c.requires.3 in
    let library = c.args.library.now in
    let last = records_in c.args.text.now in
    let both = alone c.requires.0 c.args.self.now.common c.requires.1 t.lists yes in
    let told = rw (c.in-Some-2.is) at c.in_ok-after.ensures.told in
    let named = rw (c.in-Some-2.is) at c.in_ok-after.ensures.named ∙ c.deref-3.ensures.value in
    let then_bars = barriers library (said c.requires.0) (scale (said c.requires.0)) in
    let bars_are : SameThings (map barrier_view c.deref-2.result.now) then_bars = rw (c.deref-2.ensures.value) f.nets.bars_are in
    let then_told =
    told_alike library (map barrier_view c.deref-2.result.now) then_bars bars_are (said last) (map told_view c.in-Some-2.after.items)
    (subst (λ (d : List Record). AreToldIn library (map barrier_view c.deref-2.result.now) d (map told_view c.in-Some-2.after.items)) (sym c.statements_are_kept.ensures.said) told) in
    let none = if_none_so c.touched.inside.component (λ h. (h.0, ap (λ (e : ToldExchange _). map told_view e.gone.items) h.1, ap (λ (e : ToldExchange _). map told_view e.come.items) h.1)) (rw (c.in-Some-3.is) at c.in_ok-all.ensures.none) in
    let all = all_exchanged library c.requires.0 last _ c.args.kept _ _ c.told_nets_are_exchanged.ensures c.entries_tell.ensures c.same_lines_sort_alike.ensures c.short_is_symmetric.ensures t f both.0 fits then_told named
    c.touched.inside.component (λ (x : TouchedComponent _). x.name) (λ (x : TouchedComponent _). map star_view x.stars.items) refl (λ own is. ap (λ (x : Option (TouchedComponent _)). stars_of x) is)
    c.nets_are_told.ensures c.pin_lines_follow.ensures c.one_component_exchanged.ensures (map told_view c.in-Some-3.all.gone.items) (map told_view c.in-Some-3.all.come.items) c.exchange_stars.new.self.stars none (rw (c.in-Some-3.is) at c.in_ok-all.ensures.own) in
    let p = all.parts in
    let had = subst (λ (ss : List NetShape). AreOnPieces (layer_name library.layers) p.bars (p.out ++ p.rest) ss c.args.kept.lines) (sym c.in_ok-all.ensures.shapes) p.had in
    (p.bars, p.out, p.put, p.rest, p.goes, p.comes, had)

pub returns-clause-lines : goal.returns-clause-lines
returns-clause-lines g c = λ old exchanges touched followed.
    let yes : c.in_ok-are_all.field-0 ≡ true = search rules in
    let t = rw (← c.touched.view_is) at touched in
    let alone = rw (← c.touched.view_is) at c.in_ok-are_all.ensures in
    let fits = rw (← c.touched.view_is, ← c.self.view_is) at (c.fits.ensures (search (rules, c.if-not-fits.false))) in
    let f = rw (← c.self.view_is) at followed in
    let library = c.args.library.now in
    let last = records_in c.args.text.now in
    let both = alone old c.args.self.now.common exchanges t.lists yes in
    let told = rw (c.in-Some-2.is) at c.in_ok-after.ensures.told in
    let named = rw (c.in-Some-2.is) at c.in_ok-after.ensures.named ∙ c.deref-3.ensures.value in
    let then_bars = barriers library (said old) (scale (said old)) in
    let bars_are : SameThings (map barrier_view c.deref-2.result.now) then_bars = rw (c.deref-2.ensures.value) f.nets.bars_are in
    let then_told =
    told_alike library (map barrier_view c.deref-2.result.now) then_bars bars_are (said last) (map told_view c.in-Some-2.after.items)
    (subst (λ (d : List Record). AreToldIn library (map barrier_view c.deref-2.result.now) d (map told_view c.in-Some-2.after.items)) (sym c.statements_are_kept.ensures.said) told) in
    let none = if_none_so c.touched.inside.component (λ h. (h.0, ap (λ (e : ToldExchange _). map told_view e.gone.items) h.1, ap (λ (e : ToldExchange _). map told_view e.come.items) h.1)) (rw (c.in-Some-3.is) at c.in_ok-all.ensures.none) in
    let all = all_exchanged library old last _ c.args.kept _ _ c.told_nets_are_exchanged.ensures c.entries_tell.ensures c.same_lines_sort_alike.ensures c.short_is_symmetric.ensures t f both.0 fits then_told named
    c.touched.inside.component (λ (x : TouchedComponent _). x.name) (λ (x : TouchedComponent _). map star_view x.stars.items) refl (λ own is. ap (λ (x : Option (TouchedComponent _)). stars_of x) is)
    c.nets_are_told.ensures c.pin_lines_follow.ensures c.one_component_exchanged.ensures (map told_view c.in-Some-3.all.gone.items) (map told_view c.in-Some-3.all.come.items) c.exchange_stars.new.self.stars none (rw (c.in-Some-3.is) at c.in_ok-all.ensures.own) in
    let p = all.parts in
    let had = subst (λ (ss : List NetShape). AreOnPieces (layer_name library.layers) p.bars (p.out ++ p.rest) ss c.args.kept.lines) (sym c.in_ok-all.ensures.shapes) p.had in
    let on = subst (λ (found : Option (FollowedOnNets _)). IfSome found (λ f. AreOnPieces (layer_name library.layers) p.bars (p.put ++ p.rest) c.exchange.new.self.shapes f.lines.lines)) c.in-Some-4.is
    (c.in_ok-followed.ensures.lines p.bars p.out p.put p.rest p.goes p.comes had) in
    record {
      nets = record {
        shapes_are = p.then_shapes c.exchange.new.self.shapes c.in-Some-4.followed.lines.lines on;
        common_are = rw (c.in_ok-followed.ensures.common, c.in_ok-all.ensures.common) (rw (c.in-Some.is) at ((rw (← c.touched.view_is) at c.in_ok-common.ensures) old exchanges followed.nets.common_are (λ none. both.1 none followed.nets.common_are)));
        bars_are = rw (c.in_ok-followed.ensures.bars, c.in_ok-all.ensures.bars) f.nets.bars_are;
        stars_are = rw (c.in_ok-followed.ensures.stars) all.then_stars;
        heads_are =
            rw (c.in_ok-followed.ensures.heads, c.in_ok-all.ensures.heads)
            (heads_stay library (said old) (said last) _ both.0 t.pins _ fits.heads f.nets.heads_are);
      };
      lines = p.then_lines c.exchange.new.self.shapes c.in-Some-4.followed.lines.lines on;
    }

pub returns-clause-tests : goal.returns-clause-tests
returns-clause-tests g c = λ old exchanges touched followed.
    let sum = c.saturating_add-tests.ensures in
    let counted : c.saturating_add-tests.result ≤ c.tests_told.result + c.tests_told-2.result = omega (arith, sum) in
    let yes : c.in_ok-are_all.field-0 ≡ true = search rules in
    let t = rw (← c.touched.view_is) at touched in
    let alone = rw (← c.touched.view_is) at c.in_ok-are_all.ensures in
    let fits = rw (← c.touched.view_is, ← c.self.view_is) at (c.fits.ensures (search (rules, c.if-not-fits.false))) in
    let f = rw (← c.self.view_is) at followed in
    let library = c.args.library.now in
    let last = records_in c.args.text.now in
    let both = alone old c.args.self.now.common exchanges t.lists yes in
    let told = rw (c.in-Some-2.is) at c.in_ok-after.ensures.told in
    let named = rw (c.in-Some-2.is) at c.in_ok-after.ensures.named ∙ c.deref-3.ensures.value in
    let then_bars = barriers library (said old) (scale (said old)) in
    let bars_are : SameThings (map barrier_view c.deref-2.result.now) then_bars = rw (c.deref-2.ensures.value) f.nets.bars_are in
    let then_told =
    told_alike library (map barrier_view c.deref-2.result.now) then_bars bars_are (said last) (map told_view c.in-Some-2.after.items)
    (subst (λ (d : List Record). AreToldIn library (map barrier_view c.deref-2.result.now) d (map told_view c.in-Some-2.after.items)) (sym c.statements_are_kept.ensures.said) told) in
    let none = if_none_so c.touched.inside.component (λ h. (h.0, ap (λ (e : ToldExchange _). map told_view e.gone.items) h.1, ap (λ (e : ToldExchange _). map told_view e.come.items) h.1)) (rw (c.in-Some-3.is) at c.in_ok-all.ensures.none) in
    let all = all_exchanged library old last _ c.args.kept _ _ c.told_nets_are_exchanged.ensures c.entries_tell.ensures c.same_lines_sort_alike.ensures c.short_is_symmetric.ensures t f both.0 fits then_told named
    c.touched.inside.component (λ (x : TouchedComponent _). x.name) (λ (x : TouchedComponent _). map star_view x.stars.items) refl (λ own is. ap (λ (x : Option (TouchedComponent _)). stars_of x) is)
    c.nets_are_told.ensures c.pin_lines_follow.ensures c.one_component_exchanged.ensures (map told_view c.in-Some-3.all.gone.items) (map told_view c.in-Some-3.all.come.items) c.exchange_stars.new.self.stars none (rw (c.in-Some-3.is) at c.in_ok-all.ensures.own) in
    let p = all.parts in
    let had = subst (λ (ss : List NetShape). AreOnPieces (layer_name library.layers) p.bars (p.out ++ p.rest) ss c.args.kept.lines) (sym c.in_ok-all.ensures.shapes) p.had in
    let on = subst (λ (found : Option (FollowedOnNets _)). IfSome found (λ f. AreOnPieces (layer_name library.layers) p.bars (p.put ++ p.rest) c.exchange.new.self.shapes f.lines.lines)) c.in-Some-4.is
    (c.in_ok-followed.ensures.lines p.bars p.out p.put p.rest p.goes p.comes had) in
    let tests = rw (c.in-Some-4.is, c.in_ok-all.ensures.shapes) at c.in_ok-followed.ensures.tests in
    let then_few = p.then_few c.exchange.new.self.shapes (p.then_shapes c.exchange.new.self.shapes c.in-Some-4.followed.lines.lines on) in
    let gone = rw (c.deref-4.ensures.value) at c.tests_told.ensures in
    let come = rw (c.deref-5.ensures.value) at c.tests_told-2.ensures in
    let come_few = rw (c.in-Some-2.is) at c.in_ok-after.ensures.few in
    let start = told_few _ _ _ _ _ _ _ counted gone come t.few come_few in
    let same = if_none_so c.touched.inside.component (λ h. ap (λ (e : ToldExchange _). e.tests) h.1) (rw (c.in-Some-3.is) at c.in_ok-all.ensures.none) in
    let all_told =
    all_few library old last _ c.args.kept _ _ c.told_nets_are_exchanged.ensures c.entries_tell.ensures c.same_lines_sort_alike.ensures c.short_is_symmetric.ensures t f both.0 fits then_told named
    c.touched.inside.component (λ (x : TouchedComponent _). x.name) (λ (x : TouchedComponent _). map star_view x.stars.items) refl (λ own is. ap (λ (x : Option (TouchedComponent _)). stars_of x) is)
    c.pin_lines_follow.ensures c.one_component_exchanged.ensures (map told_view c.in-Some-3.all.gone.items) (map told_view c.in-Some-3.all.come.items) c.exchange_stars.new.self.stars c.saturating_add-tests.result c.in-Some-3.all.tests same
    (rw (c.in-Some-3.is) at c.in_ok-all.ensures.own) (rw (c.in-Some-3.is) at c.in_ok-all.ensures.few) start in
    rw (← c.touched.view_is) (twice _ _ _ _ _ _ tests all_told p.few then_few)

-- (where memory is refused, nothing is said)
pub returns-in_err-after-clause-lines : goal.returns-in_err-after-clause-lines
returns-in_err-after-clause-lines g c = λ old exchanges touched followed. IfOk-from_err c.from_residual-in_err-after.result _ c.from_residual-in_err-after.ensures.0

pub returns-in_err-after-clause-tests : goal.returns-in_err-after-clause-tests
returns-in_err-after-clause-tests g c = λ old exchanges touched followed. IfOk-from_err c.from_residual-in_err-after.result _ c.from_residual-in_err-after.ensures.0

pub returns-in_err-all-clause-lines : goal.returns-in_err-all-clause-lines
returns-in_err-all-clause-lines g c = λ old exchanges touched followed. IfOk-from_err c.from_residual-in_err-all.result _ c.from_residual-in_err-all.ensures.0

pub returns-in_err-all-clause-tests : goal.returns-in_err-all-clause-tests
returns-in_err-all-clause-tests g c = λ old exchanges touched followed. IfOk-from_err c.from_residual-in_err-all.result _ c.from_residual-in_err-all.ensures.0

pub returns-in_err-followed-clause-lines : goal.returns-in_err-followed-clause-lines
returns-in_err-followed-clause-lines g c = λ old exchanges touched followed. IfOk-from_err c.from_residual-in_err-followed.result _ c.from_residual-in_err-followed.ensures.0

pub returns-in_err-followed-clause-tests : goal.returns-in_err-followed-clause-tests
returns-in_err-followed-clause-tests g c = λ old exchanges touched followed. IfOk-from_err c.from_residual-in_err-followed.result _ c.from_residual-in_err-followed.ensures.0
