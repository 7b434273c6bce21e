use Rattle.std.proofs.Common.{arith, rules, ap₂, ◌∙◌, w64}
use Rattle.std.proofs.lemmas.Int.{to_z-of_z}
use Rattle.std.specs.Int.{int_max, int_min}
use Rattle.cell_sums.proofs.LengthLemmas.{extent_taken, extent_left, extent_small}
use Rattle.cell_sums.proofs.stretch.length_shared.Goals as goal

pub returns-then-low-high-clause-value : goal.returns-then-low-high-clause-value
returns-then-low-high-clause-value c =
    extent_taken _ _ c.max-low.result c.min-high.result (search rules) (search rules)
    (c.max-low.ensures.value ∙ ap₂ int_max (to_z-of_z w64 _ c.ranges.low) (to_z-of_z w64 _ (search rules)))
    (c.min-high.ensures.value ∙ ap₂ int_min (to_z-of_z w64 _ c.ranges.high) (to_z-of_z w64 _ (search rules)))
    _ c.if-low-high.true c.abs_diff.ensures

pub returns-then-low-high-clause-small : goal.returns-then-low-high-clause-small
returns-then-low-high-clause-small c =
    let value = returns-then-low-high-clause-value c in
    let small = extent_small c.args.low c.args.high c.args.stretch.low c.args.stretch.high c.requires.low_near c.requires.high_near in
    omega (arith, value, small)

pub returns-else-low-high-clause-value : goal.returns-else-low-high-clause-value
returns-else-low-high-clause-value c =
    extent_left _ _ c.max-low.result c.min-high.result (search rules) (search rules)
    (c.max-low.ensures.value ∙ ap₂ int_max (to_z-of_z w64 _ c.ranges.low) (to_z-of_z w64 _ (search rules)))
    (c.min-high.ensures.value ∙ ap₂ int_min (to_z-of_z w64 _ c.ranges.high) (to_z-of_z w64 _ (search rules)))
    c.if-low-high.false
