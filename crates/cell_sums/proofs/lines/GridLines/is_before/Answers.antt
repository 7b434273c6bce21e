use Rattle.std.proofs.Common.{◌≡◌, List, ℤ, rules, ap, ap₂, ◌∙◌, to_z, of_z, w64, arith}
use Rattle.std.proofs.lemmas.Int.{to_z-of_z}
use Rattle.std.specs.Int.Signed.{lt_z}
use Rattle.cell_sums.specs.Covered.{is_before}
use Rattle.cell_sums.proofs.CoverLemmas.{line_before, none_there}
use Rattle.cell_sums.proofs.lines.GridLines.is_before.Goals as goal

pub returns-then-number-len : goal.returns-then-number-len
returns-then-number-len g c =
    let line_is : to_z w64 (of_z w64 c.index.result.now) ≡ c.index.result.now = to_z-of_z w64 _ (search rules) in
    let place_is : to_z w64 (of_z w64 c.args.place) ≡ c.args.place = to_z-of_z w64 _ (search rules) in
    ap₂ lt_z line_is place_is
    ∙ line_before c.self.inside.lines.items c.args.place c.args.number c.index.result.now (omega arith) c.index.ensures
    ∙ ap (λ (ls : List ℤ). is_before ls c.args.place c.args.number) c.self.view_is

pub returns-else-number-len : goal.returns-else-number-len
returns-else-number-len g c = (search rules) ∙ none_there c.self.inside.lines.items c.args.place c.args.number (omega arith) ∙ ap (λ (ls : List ℤ). is_before ls c.args.place c.args.number) c.self.view_is
