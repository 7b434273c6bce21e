use Rattle.std.proofs.Common.{◌≡◌, Some, None, [], ◌∷◌, ◌++◌}
use Rattle.design_text.specs.DesignTexts.{design_of}
use Rattle.design_text.specs.Exchanges.{records_in}
use Rattle.followed_nets.specs.Listed.{AllList, AllOfPin}
use Rattle.followed_nets.specs.Touched.{Touched, star_names}
use Rattle.followed_places.specs.Places.{said}
use Rattle.edit_session.specs.Tests.{TouchesOnly, one_component, one_net, one_pin}
use Rattle.edit_session.proofs.NetTests.{each_is_touched, found, of_pin_are_touched, one_is_touched}
use Rattle.edit_session.proofs.nets.touched_by_entry.Goals as goal

pub returns-in_default-clause-touched : goal.returns-in_default-clause-touched
returns-in_default-clause-touched g c = c.none.ensures.touched c.args.library.now (said (records_in c.args.text.now))

pub returns-in-Component-clause-only : goal.returns-in-Component-clause-only
returns-in-Component-clause-only g c =
    let design = design_of c.args.text.now in
    let name = c.in-Component.parts.name.bytes.now in (
      Some (one_component name),
      rw (c.statements_are_kept.ensures.said) (found (λ (t : Touched). AllList design name (t.names ++ star_names t.stars) × (t.component ≡ Some name)) (TouchesOnly design (Some (one_component name))) _ (each_is_touched design name) c.touched_by_component.ensures.names),
    )

pub returns-in-Net-Net-clause-only : goal.returns-in-Net-Net-clause-only
returns-in-Net-Net-clause-only g c =
    let design = said (records_in c.args.text.now) in
    let name = c.in-Net-Net.net.name.bytes.now in (
      Some (one_net name),
      found (λ (t : Touched). (t.names ≡ name ∷ []) × (t.stars ≡ []) × (t.component ≡ None)) (TouchesOnly design (Some (one_net name))) _ (one_is_touched design name) c.touched_by_net.ensures.names,
    )

pub returns-in-SpecialNet-clause-only : goal.returns-in-SpecialNet-clause-only
returns-in-SpecialNet-clause-only g c =
    let design = said (records_in c.args.text.now) in
    let name = c.in-SpecialNet.net.name.bytes.now in (
      Some (one_net name),
      found (λ (t : Touched). (t.names ≡ name ∷ []) × (t.stars ≡ []) × (t.component ≡ None)) (TouchesOnly design (Some (one_net name))) _ (one_is_touched design name) c.touched_by_net-in-SpecialNet.ensures.names,
    )

pub returns-in-Pin-clause-only : goal.returns-in-Pin-clause-only
returns-in-Pin-clause-only g c =
    let design = design_of c.args.text.now in
    let name = c.in-Pin.parts.name.bytes.now in (
      Some (one_pin name),
      rw (c.statements_are_kept.ensures.said) (found (λ (t : Touched). AllOfPin design name t.names × (t.stars ≡ []) × (t.component ≡ None)) (TouchesOnly design (Some (one_pin name))) _ (of_pin_are_touched design name) c.touched_by_pin.ensures.names),
    )
