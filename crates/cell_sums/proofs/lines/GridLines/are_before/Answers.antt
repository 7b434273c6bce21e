use Rattle.std.proofs.Common.{◌≡◌, ◌-◌, List, ℤ, rules, subst, ap, ◌∙◌, to_z, of_z, w64}
use Rattle.std.proofs.lemmas.Int.{to_z-of_z}
use Rattle.std.specs.List.Sorted.{IsStrictlySortedBy}
use Rattle.std.specs.Ordering.{int_cmp}
use Rattle.cell_sums.specs.Covered.{is_before}
use Rattle.cell_sums.proofs.CoverLemmas.{none_before, some_before}
use Rattle.cell_sums.proofs.lines.GridLines.are_before.Goals as goal

pub returns-then-count-eq0 : goal.returns-then-count-eq0
returns-then-count-eq0 g c h =
    let ls = c.args.self.now in
    let up : IsStrictlySortedBy int_cmp ls = subst (λ (ls : List ℤ). IsStrictlySortedBy int_cmp ls) c.self.view_is c.self.invariant.rise in
    let place_is : to_z w64 (of_z w64 c.args.place) ≡ c.args.place = to_z-of_z w64 _ (search rules) in
    none_before ls up c.args.place c.args.count c.is_before.result (search rules) (c.is_before.ensures ∙ ap (λ p. is_before ls p 0) place_is) h

pub returns-then-is_before : goal.returns-then-is_before
returns-then-is_before g c h =
    let ls = c.args.self.now in
    let up : IsStrictlySortedBy int_cmp ls = subst (λ (ls : List ℤ). IsStrictlySortedBy int_cmp ls) c.self.view_is c.self.invariant.rise in
    let place_is : to_z w64 (of_z w64 c.args.place) ≡ c.args.place = to_z-of_z w64 _ (search rules) in
    some_before ls up c.args.place c.args.count c.is_before-2.result c.is_before-then-is_before.result
    (c.is_before-2.ensures ∙ ap (λ p. is_before ls p (c.args.count - 1)) place_is) c.if-is_before.true
    (c.is_before-then-is_before.ensures ∙ ap (λ p. is_before ls p c.args.count) place_is) h
