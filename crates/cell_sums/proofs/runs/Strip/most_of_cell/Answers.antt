use Rattle.std.proofs.Common.{ap₂, nat_abs, ◌-ℤ◌, ◌∙◌, ap, min, rules, w64}
use Rattle.std.proofs.lemmas.Int.{to_z-of_z}
use Rattle.cell_sums.proofs.LengthLemmas.{area_at_most}
use Rattle.cell_sums.proofs.RectangleLemmas.{length_small}
use Rattle.cell_sums.proofs.runs.Strip.most_of_cell.Goals as goal

pub returns : goal.returns
returns c ls lines i =
    let strip = c.args.self.now in
    let long = c.abs_diff.ensures ∙ ap₂ (λ a b. nat_abs (a -ℤ b)) (to_z-of_z w64 strip.high (search rules)) (to_z-of_z w64 strip.low (search rules)) in
    area_at_most ls strip i c.min.result (length_small ls strip.low strip.high i lines) (c.min.ensures ∙ ap (λ n. min n 4294967295) long)
