use Rattle.std.proofs.Common.{rules}
use Rattle.edit_rules.specs.Edits.{lent, of_section}
use Rattle.edit_rules.specs.SectionEdits.{add_blockage}
use Rattle.def_splice.specs.SpliceViews.{MakesSplices}
use Rattle.def_splice.proofs.splices.looked_up_splices.Goals as goal

pub returns-in-Block-clause-makes : goal.returns-in-Block-clause-makes
returns-in-Block-clause-makes g c =
    let b = c.in-Block in
    let made : MakesSplices {A = g.row.A.Denot} c.args.library.now (g.L.LookUps.text c.args.lookups.now) (of_section (add_blockage (lent (λ l. l.now) b.layer) b.x1 b.y1 b.x2 b.y2)) c.block_splices.result = search rules in
    rw b.is made
