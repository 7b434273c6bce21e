use Rattle.std.proofs.Common.{rules, ◌≡◌, ◌∙◌, [], List, None, ap, arith, false, length, map, refl, subst, sym, true}
use Rattle.std.specs.Prelude.{IfSome}
use Rattle.std.specs.List.{AllByRecursion}
use Rattle.std.proofs.lemmas.List.{nil_from_length}
use Rattle.std.proofs.lemmas.Result.{IfOk-weaker}
use Rattle.def_grammar.specs.Records.{Record}
use Rattle.net_laws.specs.NetChanges.{is_one_of}
use Rattle.design_text.specs.Exchanges.{records_in}
use Rattle.followed_nets.specs.Heads.{Head}
use Rattle.followed_nets.specs.Noted.{said}
use Rattle.followed_measures.specs.ExchangedNets.{NetsExchanged}
use Rattle.followed_measures.specs.Told.{told_names}
use Rattle.followed_measures.specs.ToldViews.{net_view}
use Rattle.followed_measures.proofs.FollowLemmas.{all_of_others, nets_followed, nothing_exchanged}
use Rattle.followed_measures.proofs.followed.FollowedMeasures.follow_nets.Goals as goal

pub returns-in_default : goal.returns-in_default
returns-in_default g c = λ old made told measures empty.
    let library = c.args.library.now in
    let last = records_in c.args.text.now in
    let nets = map net_view c.args.nets.items in
    let yes : c.in_ok-leaves_others.field-0 ≡ true = search rules in
    let left = c.in_ok-leaves_others.ensures old _ made refl yes in
    let named : c.deref-else-not-are_others.result.now ≡ told_names nets = c.deref-else-not-are_others.ensures.value ∙ c.in_ok-names.ensures ∙ ap (λ l. told_names (map net_view l)) c.deref.ensures.value in
    let same = c.deref-2.ensures.value ∙ sym c.deref-else-not-are_others.ensures.value in
    let others = subst (λ (ns : List _). IfSome c.args.self.now.heads (AllByRecursion (λ (h : Head). is_one_of ns h.name ≡ false))) same (c.are_others.ensures (search (rules, c.if-not-are_others.false))) in
    let size : length c.args.nets.items ≡ 0 = grind (arith, c.is_empty.ensures, empty) in
    let none : nets ≡ [] = ap (map net_view) (nil_from_length c.args.nets.items size) in
    let not_noted : c.args.self.now.common ≡ None = rw (← c.self.view_is, c.in_default.is) refl in
    let made = nothing_exchanged library (said old) (said last) c.told_measures_follow.ensures c.told_nets_are_exchanged.ensures c.told_cells_follow.ensures nets told c.deref-else-not-are_others.result.now named left.0 left.2 none c.args.self.now.answers in
    record {
      answers_are = nets_followed library (said old) (said last) c.told_measures_follow.ensures c.told_nets_are_exchanged.ensures c.told_cells_follow.ensures nets told c.deref-else-not-are_others.result.now named left.0 left.2 _ _ measures.answers_are made;
      common_are = rw (not_noted) tt;
      heads_are = all_of_others library (said old) (said last) c.told_measures_follow.ensures c.told_nets_are_exchanged.ensures c.told_cells_follow.ensures nets told c.deref-else-not-are_others.result.now named left.0 left.2 c.args.self.now.heads others measures.heads_are;
    }

pub exchange_nets-requires : goal.exchange_nets-requires
exchange_nets-requires g c =
    let old = c.requires.0 in
    let yes : c.in_ok-leaves_others.field-0 ≡ true = search rules in
    let common = rw (c.in-Some.is) at (rw (← c.self.view_is) at c.requires.2) in
    c.deref-3.ensures.value ∙ (c.in_ok-leaves_others.ensures old c.in-Some.common.items c.requires.1 common yes).1

pub returns : goal.returns
returns g c = λ old made told measures.
    let library = c.args.library.now in
    let last = records_in c.args.text.now in
    let nets = map net_view c.args.nets.items in
    let yes : c.in_ok-leaves_others.field-0 ≡ true = search rules in
    let had = rw (← c.self.view_is) at measures in
    let common = rw (c.in-Some.is) at had.common_are in
    let left = c.in_ok-leaves_others.ensures old c.in-Some.common.items made common yes in
    let named : c.deref-else-not-are_others.result.now ≡ told_names nets = c.deref-else-not-are_others.ensures.value ∙ c.in_ok-names.ensures ∙ ap (λ l. told_names (map net_view l)) c.deref.ensures.value in
    let same = c.deref-2.ensures.value ∙ sym c.deref-else-not-are_others.ensures.value in
    let all_others = subst (λ (ns : List _). IfSome c.args.self.now.heads (AllByRecursion (λ (h : Head). is_one_of ns h.name ≡ false))) same (c.are_others.ensures (search (rules, c.if-not-are_others.false))) in
    let others = rw (← c.self.view_is) at all_others in
    let reports = c.self.inside.reports in
    let then = c.exchange_nets.new.reports in
    IfOk-weaker c.exchange_nets.result _ _
    (λ b made is. record {
      answers_are = nets_followed library (said old) (said last) c.told_measures_follow.ensures c.told_nets_are_exchanged.ensures c.told_cells_follow.ensures nets told c.deref-else-not-are_others.result.now named left.0 left.2 reports then had.answers_are
          (subst (λ (d : List Record). NetsExchanged library (said old) d (told_names nets) reports then) (sym c.statements_are_kept.ensures.said) (made is));
      common_are = rw (c.in-Some.is) left.1;
      heads_are = all_of_others library (said old) (said last) c.told_measures_follow.ensures c.told_nets_are_exchanged.ensures c.told_cells_follow.ensures nets told c.deref-else-not-are_others.result.now named left.0 left.2 c.self.inside.heads others had.heads_are;
    })
    (c.exchange_nets.ensures (said old) told.nets_are)
