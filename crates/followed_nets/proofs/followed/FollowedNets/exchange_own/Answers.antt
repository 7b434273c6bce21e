use Rattle.std.proofs.Common.{◌≡◌, ◌∙◌, List, ℕ, Some, ap, arith, map, refl, subst, sym}
use Rattle.std.proofs.lemmas.List.{map-append}
use Rattle.std.specs.List.{AllByRecursion}
use Rattle.def_grammar.specs.Records.{Record}
use Rattle.design_text.specs.Exchanges.{records_in}
use Rattle.followed_nets.specs.Heads.{IsHead}
use Rattle.followed_nets.specs.Noted.{said}
use Rattle.followed_nets.specs.Stars.{names_of}
use Rattle.followed_nets.specs.ToldViews.{head_view, star_view, told_view}
use Rattle.followed_nets.specs.Touched.{ArePinsBy}
use Rattle.followed_nets.proofs.followed.FollowedNets.exchange_own.Goals as goal

pub told_stars-requires-clause-heads : goal.told_stars-requires-clause-heads
told_stars-requires-clause-heads g c =
    let kept = rw (← c.self.view_is) at c.requires.heads in
    rw (c.deref-2.ensures.value) (subst (λ (d : List Record). AllByRecursion (IsHead d) (map head_view c.self.inside.heads.items)) c.statements_are_kept.ensures.said kept)

pub returns-clause-own : goal.returns-clause-own
returns-clause-own g c = λ old stars is own.
    let library = c.args.library.now in
    let new = said (records_in c.args.text.now) in
    let there : c.self.inside.stars ≡ Some c.in-Some.stars = sym c.take.ensures.value ∙ c.in-Some.is in
    let seen = rw there at (rw (← c.self.view_is) at is) in
    let same : c.in-Some.stars.items ≡ stars = cc in
    let named = rw (c.in-Some-2.is) at c.in_ok-after.ensures.named in
    let pins = rw (c.bytes-name.ensures) at (rw (c.in-Some-2.is) at c.in_ok-after.ensures.pins) in
    let then_pins = subst (λ (d : List Record). ArePinsBy library d c.args.own.name (map star_view c.in-Some-2.after.items)) (sym c.statements_are_kept.ensures.said) pins in
    let awaits = own (map star_view c.in-Some-2.after.items) (named ∙ ap names_of (c.deref-3.ensures.value ∙ same)) then_pins in
    let these = rw (← same) at awaits in
    let then = rw (c.in-Some-3.is) at (c.in_ok-exchanged.ensures.stars library old new c.args.own.name these) in
    let exchanged = c.in-Some-3.exchanged in
    record {
      stars = exchanged.stars.items;
      out = map told_view exchanged.gone.items;
      put = map told_view exchanged.come.items;
      kept_are = refl;
      gone_are = ap (map told_view) c.in_ok-all.ensures.gone ∙ map-append told_view c.args.told.gone.items exchanged.gone.items;
      come_are = ap (map told_view) c.in_ok-all.ensures.come ∙ map-append told_view c.args.told.come.items exchanged.come.items;
      own = rw (← same) then;
    }

pub returns-clause-few : goal.returns-clause-few
returns-clause-few g c = λ stars is.
    let there : c.self.inside.stars ≡ Some c.in-Some.stars = sym c.take.ensures.value ∙ c.in-Some.is in
    let seen = rw there at (rw (← c.self.view_is) at is) in
    let same : c.in-Some.stars.items ≡ stars = cc in
    let few = rw (c.in-Some-3.is) at c.in_ok-exchanged.ensures.tests in
    let more = c.in_ok-all.ensures.tests in
    rw (← same) (omega (arith, few, more))
