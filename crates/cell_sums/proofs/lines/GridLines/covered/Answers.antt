use Rattle.std.proofs.Common.{◌≡◌, List, ℤ, subst, ◌+ℤ◌, pos, rules, ap, ◌∙◌, to_z, of_z, w64}
use Rattle.std.proofs.lemmas.Int.{to_z-of_z}
use Rattle.std.specs.Int.{saturate_to_bits}
use Rattle.std.specs.List.Sorted.{IsStrictlySortedBy}
use Rattle.std.specs.Ordering.{int_cmp}
use Rattle.cell_sums.proofs.CoverLemmas.{covered_is, next_follows, next_not_before}
use Rattle.cell_sums.proofs.lines.GridLines.covered.Goals as goal

pub returns-clause-covered : goal.returns-clause-covered
returns-clause-covered g c =
    let low = c.args.stretch.low in
    let low_is : to_z w64 (of_z w64 low) ≡ low = to_z-of_z w64 _ (search rules) in
    let next_is = c.saturating_add.ensures ∙ ap (λ z. saturate_to_bits 63 (z +ℤ pos 1)) low_is in
    let follows = next_follows low c.saturating_add.result (search rules) next_is in
    let behind = next_not_before low c.saturating_add.result (search rules) next_is in
    let up : IsStrictlySortedBy int_cmp c.args.self.now = subst (λ (ls : List ℤ). IsStrictlySortedBy int_cmp ls) c.self.view_is c.self.invariant.rise in
    covered_is c.args.self.now up low c.saturating_add.result c.args.stretch.high follows behind c.before-behind.result c.before-before.result (search rules) (search rules) c.saturating_sub-first.result c.max.result c.min-end.result (search rules) (search rules) (search rules)
