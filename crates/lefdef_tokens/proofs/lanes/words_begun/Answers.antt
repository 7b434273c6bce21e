use Rattle.std.proofs.Common.{◌-◌, ◌∙◌, ap, ap₂, arith, bit_and, count_ones}
use Rattle.std.specs.Simd.Lanes.{mask_l, zip2}
use Rattle.std.proofs.lemmas.Nat.{and_mask, one_shl}
use Rattle.lefdef_tokens.specs.Skipping.{begins_after}
use Rattle.lefdef_tokens.proofs.LaneCounts.{begun_lanes, counted_all, counted_first}
use Rattle.lefdef_tokens.proofs.lanes.words_begun.Goals.{then-plain-eq64, else-plain-eq64}
use Rattle.lefdef_tokens.proofs.lanes.words_begun.Goals as goal

pub returns : goal.returns
returns c =
    let text = c.args.text.now in
    let plain = c.args.plain in
    let marks = c.begun-marks.result in
    let is = c.begun-marks.ensures ∙ ap₂ (λ u v. mask_l (zip2 begins_after u v)) c.load.ensures c.load-2.ensures ∙ ap mask_l (begun_lanes text c.args.at c.requires.low c.requires.high) in
    elim c.if-plain-eq64.branch [
      | then-plain-eq64 w ↦ ap count_ones w.first-is ∙ counted_all text c.args.at plain c.requires.within marks w.if-plain-eq64.true is
      | else-plain-eq64 w ↦ let short = w.if-plain-eq64.false in let within = c.requires.within in ap count_ones (w.first-is ∙ ap (λ n. bit_and marks (n - 1)) (one_shl plain 64 (omega arith)) ∙ and_mask marks plain) ∙ counted_first text c.args.at plain c.requires.within marks is
    ]
