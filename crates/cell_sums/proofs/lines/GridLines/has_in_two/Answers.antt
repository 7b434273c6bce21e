use Rattle.std.proofs.Common.{◌+◌, ◌≤ℤ◌, List, ℤ, rules, subst, arith, w64}
use Rattle.std.proofs.lemmas.Int.{to_z-of_z}
use Rattle.cell_sums.specs.Covered.{IsCovered}
use Rattle.cell_sums.proofs.CoverLemmas.{in_two, le_so}
use Rattle.cell_sums.proofs.lines.GridLines.has_in_two.Goals as goal

pub returns-then-index-stretch-clause-covered : goal.returns-then-index-stretch-clause-covered
returns-then-index-stretch-clause-covered g c h =
    let s = c.args.stretch in
    let low = c.index.result.now in
    let high = c.index-then-index-stretch.result.now in
    let from : low ≤ℤ s.low = le_so low s.low _ _ (to_z-of_z w64 _ (search rules)) (to_z-of_z w64 _ (search rules)) c.if-index-stretch.true in
    let to : s.high ≤ℤ high = le_so s.high high _ _ (to_z-of_z w64 _ (search rules)) (to_z-of_z w64 _ (search rules)) h in
    subst (λ (ls : List ℤ). IsCovered ls s.low s.high c.args.first (c.args.first + 2)) c.self.view_is
    (in_two c.self.inside.lines.items c.self.invariant.rise s.low s.high low high c.args.first (omega arith) c.index.ensures c.index-then-index-stretch.ensures from to)
