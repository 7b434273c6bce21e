use Rattle.std.proofs.Common.{◌≡◌, refl, rules, to_z, of_z, w64}
use Rattle.std.proofs.lemmas.Int.{to_z-of_z}
use Rattle.cell_sums.specs.Tables.{spanned}
use Rattle.cell_sums.specs.declared.runs.Strip.{Strip}
use Rattle.cell_sums.proofs.RectangleLemmas.{rectangle_at_most, rows_on, rows_stop}
use Rattle.cell_sums.proofs.cell_sums.add_strips.Goals as goal

pub loop-major-preserved : goal.loop-major-preserved
loop-major-preserved g c =
    let along = c.args.along.now.stretch in
    let low : to_z w64 (of_z w64 along.low) ≡ along.low = to_z-of_z w64 _ (search rules) in
    let high : to_z w64 (of_z w64 along.high) ≡ along.high = to_z-of_z w64 _ (search rules) in
    let strip : Strip = record { low = to_z w64 (of_z w64 along.low); high = to_z w64 (of_z w64 along.high); height = c.common_length.result; small = c.common_length.ensures.small } in
    rows_on c.args.lines.now c.args.crossing.now c.args.layer (spanned along c.args.across.now.stretch) c.args.along.now.first c.args.along.now.end c.requires.along c.loop-major.major c.common_length.result c.common_length.ensures.value
    c.args.sheet.now c.loop-major.sheet c.add.new.self _ c.loop-major.invariant _ strip refl low high refl c.in_ok-add.ensures.added

pub returns-in_err-add-clause-at_most : goal.returns-in_err-add-clause-at_most
returns-in_err-add-clause-at_most g c =
    let along = c.args.along.now.stretch in
    let low : to_z w64 (of_z w64 along.low) ≡ along.low = to_z-of_z w64 _ (search rules) in
    let high : to_z w64 (of_z w64 along.high) ≡ along.high = to_z-of_z w64 _ (search rules) in
    let strip : Strip = record { low = to_z w64 (of_z w64 along.low); high = to_z w64 (of_z w64 along.high); height = c.common_length.result; small = c.common_length.ensures.small } in
    rows_stop c.args.lines.now c.args.crossing.now c.args.layer (spanned along c.args.across.now.stretch) c.args.along.now.first c.args.along.now.end c.requires.along c.loop-major.major c.common_length.result c.common_length.ensures.value
    c.args.sheet.now c.loop-major.sheet c.add.new.self _ c.loop-major.invariant _ strip refl low high refl c.requires.lines c.requires.crossing c.add.ensures.at_most

pub returns-clause-at_most : goal.returns-clause-at_most
returns-clause-at_most g c =
    rectangle_at_most c.args.lines.now c.args.crossing.now c.args.layer (spanned c.args.along.now.stretch c.args.across.now.stretch) c.args.sheet.now c.loop-major.sheet c.args.across.now.first c.loop-major.major c.loop-major.invariant
    c.requires.lines c.requires.crossing
