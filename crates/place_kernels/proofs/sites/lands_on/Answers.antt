use Rattle.std.proofs.Common.{of_z, w64, sym, ◌∙◌, ap}
use Rattle.std.specs.Int.{int_signum}
use Rattle.std.proofs.lemmas.Int.{to_z-of_z}
use Rattle.place_kernels.proofs.Steps.{lands_apart}
use Rattle.place_kernels.proofs.sites.lands_on.Goals as goal

pub returns-then-signum : goal.returns-then-signum
returns-then-signum c =
    let step = c.signum.ensures.value ∙ ap int_signum (to_z-of_z w64 _ c.ranges.step) in
    let distance = c.signum-else-distance-eq0.ensures.value ∙ ap int_signum (to_z-of_z w64 _ c.ranges.distance) in
    lands_apart c.args.count c.args.step c.args.distance
    (λ zero. c.if-distance-eq0.false (ap (of_z w64) zero))
    (λ same. c.if-signum.true (ap (of_z w64) (step ∙ same ∙ sym distance)))
