use Rattle.std.proofs.Common.{List, ℤ, Some, rules, sym, ap, ap₂, ◌∙◌, arith, w64}
use Rattle.std.proofs.lemmas.Int.{to_z-of_z}
use Rattle.measure_rules.specs.GridCells.{between}
use Rattle.cell_sums.proofs.CoverLemmas.{between_is, between_none}
use Rattle.cell_sums.proofs.lines.GridLines.between.Goals as goal

pub returns-then-place-saturating_sub-clause-lines : goal.returns-then-place-saturating_sub-clause-lines
returns-then-place-saturating_sub-clause-lines g c =
    ap₂ (λ (x y : ℤ). Some (x, y)) (to_z-of_z w64 _ (search rules)) (to_z-of_z w64 _ (search rules))
    ∙ sym (between_is c.self.inside.lines.items c.args.place c.index.result.now c.index-then-place-saturating_sub.result.now (omega arith) c.index.ensures c.index-then-place-saturating_sub.ensures)
    ∙ ap (λ (ls : List ℤ). between ls c.args.place) c.self.view_is

pub returns-else-place-saturating_sub-clause-lines : goal.returns-else-place-saturating_sub-clause-lines
returns-else-place-saturating_sub-clause-lines g c = sym (between_none c.self.inside.lines.items c.args.place (omega arith)) ∙ ap (λ (ls : List ℤ). between ls c.args.place) c.self.view_is
