use Rattle.std.proofs.Common.{inl, inr, ⊎_elim, ◌≤◌, arith, map}
use Rattle.kept_nets.specs.NearParts.{near_in_parts}
use Rattle.kept_nets.specs.Parts.{part_view}
use Rattle.kept_nets.proofs.SureShapes.{near_each_other}
use Rattle.kept_nets.proofs.Telling.{both_told, same_stay}
use Rattle.kept_nets.proofs.net.KeptNet.exchange.Goals as goal

pub returns-clause-before : goal.returns-clause-before
returns-clause-before g c =
    let all = near_each_other (map part_view c.self.inside.parts.items) c.self.inside.sure c.self.invariant.sure_are in
    let few : c.put_in.new.looks.tests ≤ c.self.inside.sure = omega (arith, c.if-before-most.false) in
    let most : c.put_in.new.looks.tests ≤ near_in_parts (map part_view c.self.inside.parts.items) = omega (arith, all, few) in
    rw (← c.self.view_is) most

pub returns-clause-least : goal.returns-clause-least
returns-clause-least g c = λ stay same.
    let out = map part_view c.args.out.now in
    let left = c.take_out.new.self.parts in
    let gone = c.in_ok-take_out.ensures.out c.if-not-branch.false in
    let went = c.in_ok-take_out.ensures.told c.if-not-branch.false in
    ⊎_elim
    (λ told. inl (both_told c.take_out.new.told c.put_in.new.told out (map part_view c.args.put.items) stay left c.take_out.new.looks.tests c.put_in.new.looks.tests (same_stay c.args.self.now.parts out stay left same gone) went c.in_ok-put_in.ensures.told told))
    (λ found. inr (omega (arith, found)))
    c.in_ok-after.ensures.least
