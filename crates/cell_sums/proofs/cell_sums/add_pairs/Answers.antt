use Rattle.std.proofs.Common.{◌+◌, refl}
use Rattle.cell_sums.specs.Tables.{spanned}
use Rattle.cell_sums.specs.declared.runs.Strip.{Strip}
use Rattle.cell_sums.proofs.RectangleLemmas.{rectangle_at_most, rows_on, rows_stop}
use Rattle.cell_sums.proofs.SheetLemmas.{pair_grown, pair_refused}
use Rattle.cell_sums.proofs.cell_sums.add_pairs.Goals as goal

pub loop-major-preserved : goal.loop-major-preserved
loop-major-preserved g c =
    let along = c.args.along.now.stretch in
    let strip : Strip = record { low = along.low; high = along.high; height = c.common_length-height.result; small = c.common_length-height.ensures.small } in
    rows_on c.args.lines.now c.args.crossing.now c.args.layer (spanned along c.args.across.now.stretch) c.args.along.now.first (c.args.along.now.first + 2) c.requires.along.covered c.loop-major.major c.common_length-height.result c.common_length-height.ensures.value
    c.args.sheet.now c.loop-major.sheet c.add_to_two.new.self _ c.loop-major.invariant _ strip refl refl refl refl
    (pair_grown c.args.lines.now c.args.along.now c.requires.along _ strip refl refl refl refl c.loop-major.sheet c.add_to_two.new.self c.add_to_two.ensures.same c.in_ok-add_to_two.ensures.added)

pub returns-in_err-add_to_two-clause-at_most : goal.returns-in_err-add_to_two-clause-at_most
returns-in_err-add_to_two-clause-at_most g c =
    let along = c.args.along.now.stretch in
    let strip : Strip = record { low = along.low; high = along.high; height = c.common_length-height.result; small = c.common_length-height.ensures.small } in
    rows_stop c.args.lines.now c.args.crossing.now c.args.layer (spanned along c.args.across.now.stretch) c.args.along.now.first (c.args.along.now.first + 2) c.requires.along.covered c.loop-major.major c.common_length-height.result c.common_length-height.ensures.value
    c.args.sheet.now c.loop-major.sheet c.add_to_two.new.self _ c.loop-major.invariant _ strip refl refl refl refl c.requires.lines c.requires.crossing
    (pair_refused c.args.lines.now c.args.along.now c.requires.along _ strip refl refl refl refl c.loop-major.sheet c.add_to_two.new.self c.add_to_two.ensures.same c.in_err-add_to_two.ensures.refused)

pub returns-clause-at_most : goal.returns-clause-at_most
returns-clause-at_most g c =
    rectangle_at_most c.args.lines.now c.args.crossing.now c.args.layer (spanned c.args.along.now.stretch c.args.across.now.stretch) c.args.sheet.now c.loop-major.sheet c.args.across.now.first c.loop-major.major c.loop-major.invariant
    c.requires.lines c.requires.crossing
