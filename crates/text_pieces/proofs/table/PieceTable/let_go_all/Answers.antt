use Rattle.std.proofs.Common.{sym, subst, take, get_or}
use Rattle.std.proofs.lemmas.List.{take_more}
use Rattle.design_model.specs.declared.identifier.StmtId.{StmtId}
use Rattle.text_pieces.specs.LettingGo.{AreLetGo}
use Rattle.text_pieces.specs.Tables.{table_of}
use Rattle.text_pieces.proofs.LettingGo.{keeps_on, keeps_refl, let_go_more, let_go_on, table_same}
use Rattle.text_pieces.proofs.table.PieceTable.let_go_all.Goals as goal

pub loop-id-init : goal.loop-id-init
loop-id-init g c = (keeps_refl (table_of c.args.self.now), tt)

pub let_go_of-requires : goal.let_go_of-requires
let_go_of-requires g c = table_same (table_of c.args.self.now) (table_of c.loop-id.self) c.requires c.loop-id.invariant.0

pub loop-id-preserved : goal.loop-id-preserved
loop-id-preserved g c =
    let first = table_of c.args.self.now in
    let old = table_of c.loop-id.self in
    let new = table_of c.let_go_of.new.self in
    let e = c.let_go_of.ensures in
    let i = c.loop-id.id-index in
    let ids = c.args.ids.now in
    let d : StmtId = record { 0 = 0 } in
    let front = let_go_on old new (take i ids) e.keeps e.free c.loop-id.invariant.1 in (
      keeps_on first old new c.loop-id.invariant.0 e.keeps,
      subst (AreLetGo new) (sym (take_more ids i d c.loop-id-test.true)) (let_go_more new (take i ids) (get_or ids i d) front e.gone),
    )
