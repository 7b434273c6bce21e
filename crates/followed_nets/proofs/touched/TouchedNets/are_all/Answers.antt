use Rattle.std.proofs.Common.{◌≡◌, ◌∙◌, Bool, List, [], Some, None, ap, refl, subst, sym, true}
use Rattle.std.specs.Option.{option_map}
use Rattle.design_text.specs.Exchanges.{records_in}
use Rattle.followed_nets.specs.Noted.{AreCommon, said}
use Rattle.net_laws.specs.Within.{a_component, pin_in}
use Rattle.followed_nets.specs.Touched.{subject_by}
use Rattle.followed_nets.specs.Within.{Leaves, LeavesOthers}
use Rattle.followed_nets.specs.declared.touched.TouchedComponent.{TouchedComponent}
use Rattle.followed_nets.proofs.OthersLeft.{by_component, by_nets, if_ok, no_pin_in}
use Rattle.followed_nets.proofs.touched.TouchedNets.are_all.Goals as goal

pub returns-in-Some : goal.returns-in-Some
returns-in-Some g c = λ old common exchanges lists.
    let last = records_in c.args.text.now in
    let name = c.in-Some.own.name in
    let seen = rw (← c.self.view_is) at lists in
    let within = rw (c.deref.ensures.value, c.new-none.ensures.items, c.bytes.ensures) at (c.exchanges_are_within.ensures old common exchanges) in
    rw (← c.self.view_is)
    (if_ok (λ (b : Bool). b ≡ true → Leaves (said old) (said last) [] (a_component name) × (pin_in (a_component name) ≡ None → AreCommon old common → AreCommon last common)) _ c.exchanges_are_within.result
    (λ b h yes. let both = h yes in (by_component (said old) (said last) _ seen name (ap (option_map (λ (x : TouchedComponent _). x.name)) c.in-Some.is) both.0, λ none. both.1 refl))
    within)

pub returns-in-None : goal.returns-in-None
returns-in-None g c = λ old common exchanges lists.
    let last = records_in c.args.text.now in
    let seen = rw (← c.self.view_is) at lists in
    let of_pin = rw (← c.self.view_is) at c.pin_or_neither.ensures in
    let within = rw (c.deref-in-None.ensures.value, of_pin) at (c.exchanges_are_within-in-None.ensures old common exchanges) in
    rw (← c.self.view_is)
    (if_ok (λ (b : Bool). b ≡ true → Leaves (said old) (said last) c.self.inside.names.items (subject_by None c.self.inside.pin) × (pin_in (subject_by None c.self.inside.pin) ≡ None → AreCommon old common → AreCommon last common)) _ c.exchanges_are_within-in-None.result
    (λ b h yes. let both = h yes in (by_nets (said old) (said last) _ seen (ap (option_map (λ (x : TouchedComponent _). x.name)) c.in-None.is) both.0, λ none. both.1 (no_pin_in c.self.inside.pin none)))
    within)
