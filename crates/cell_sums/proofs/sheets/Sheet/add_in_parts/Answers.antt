use Rattle.std.proofs.Common.{subst, ap, arith}
use Rattle.std.proofs.lemmas.Result.{on_ok_weaker}
use Rattle.cell_sums.specs.Blocks.{strip_gains, sum_at}
use Rattle.cell_sums.specs.Sheets.{HasGrown, HasGrownAtMost, SheetSums}
use Rattle.cell_sums.proofs.SheetLemmas.{chunk_fits, grown, grown_at_most, none_gained}
use Rattle.cell_sums.proofs.sheets.Sheet.add_in_parts.Goals as goal

pub add_heights-requires : goal.add_heights-requires
add_heights-requires g c = record {
  fits = λ i low high.
      let is = ap (λ (b : SheetSums). sum_at b.chunks c.args.cells.now.layer i c.args.cells.now.major) c.self.view_is in
      let room = chunk_fits c.args.lines.now c.args.cells.now c.args.strip.now c.args.begin c.args.end c.requires.full c.requires.some c.requires.behind c.requires.before c.requires.lines c.args.self.now c.requires.fits i low high in
      omega (arith, is, room);
}

pub returns-in_err-add_heights-clause-at_most : goal.returns-in_err-add_heights-clause-at_most
returns-in_err-add_heights-clause-at_most g c =
    let cells = c.self.inside.cells in
    subst (λ (t : SheetSums). HasGrownAtMost c.args.lines.now t (record { cells = cells; chunks = c.add_heights.new.self }) (strip_gains c.args.lines.now c.args.cells.now c.args.strip.now)) c.self.view_is
    (grown_at_most c.args.lines.now c.args.cells.now c.args.strip.now c.args.begin c.args.end c.requires.full c.requires.some c.requires.behind c.requires.before cells cells cells c.self.inside.chunks c.add_heights.new.self c.add_heights.ensures.at_most (none_gained cells _) (none_gained cells _))

pub returns-in_err-add-clause-at_most : goal.returns-in_err-add-clause-at_most
returns-in_err-add-clause-at_most g c =
    subst (λ (t : SheetSums). HasGrownAtMost c.args.lines.now t (record { cells = c.add.new.self; chunks = c.add_heights.new.self }) (strip_gains c.args.lines.now c.args.cells.now c.args.strip.now)) c.self.view_is
    (grown_at_most c.args.lines.now c.args.cells.now c.args.strip.now c.args.begin c.args.end c.requires.full c.requires.some c.requires.behind c.requires.before c.self.inside.cells c.add.new.self c.add.new.self c.self.inside.chunks c.add_heights.new.self c.add_heights.ensures.at_most c.add.ensures.at_most (none_gained c.add.new.self _))

pub returns-clause-added : goal.returns-clause-added
returns-clause-added g c =
    on_ok_weaker c.add-2.result
    (λ gained.
    subst (λ (t : SheetSums). HasGrown c.args.lines.now t (record { cells = c.add-2.new.self; chunks = c.add_heights.new.self }) (strip_gains c.args.lines.now c.args.cells.now c.args.strip.now)) c.self.view_is
    (grown c.args.lines.now c.args.cells.now c.args.strip.now c.args.begin c.args.end c.requires.full c.requires.some c.requires.behind c.requires.before c.self.inside.cells c.add.new.self c.add-2.new.self c.self.inside.chunks c.add_heights.new.self c.in_ok-add_heights.ensures.added c.in_ok-add.ensures.added gained))
    c.add-2.ensures.added

pub returns-clause-at_most : goal.returns-clause-at_most
returns-clause-at_most g c =
    subst (λ (t : SheetSums). HasGrownAtMost c.args.lines.now t (record { cells = c.add-2.new.self; chunks = c.add_heights.new.self }) (strip_gains c.args.lines.now c.args.cells.now c.args.strip.now)) c.self.view_is
    (grown_at_most c.args.lines.now c.args.cells.now c.args.strip.now c.args.begin c.args.end c.requires.full c.requires.some c.requires.behind c.requires.before c.self.inside.cells c.add.new.self c.add-2.new.self c.self.inside.chunks c.add_heights.new.self c.add_heights.ensures.at_most c.add.ensures.at_most c.add-2.ensures.at_most)
