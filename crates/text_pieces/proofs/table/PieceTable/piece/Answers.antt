use Rattle.std.proofs.Common.{List, map, sym, subst}
use Rattle.design_model.specs.declared.identifier.StmtId.{StmtId}
use Rattle.text_pieces.specs.Chunks.{AreOnce, shown}
use Rattle.text_pieces.specs.Tables.{ids_after, ids_before}
use Rattle.text_pieces.proofs.Ids.{absent_before}
use Rattle.text_pieces.proofs.Shown.{is_there, kept_is}
use Rattle.text_pieces.proofs.table.PieceTable.piece.Goals as goal

pub index-requires : goal.index-requires
index-requires g c = is_there c.args.self.now.pieces.slots c.args.id _ c.in-Some.ensures.held

pub returns : goal.returns
returns g c =
    let s = c.in-Some.ensures in
    let cs = map shown c.args.self.now.chunks.items in
    let k = c.in-Some._place.0 in
    let i = c.in-Some._place.1 in (
      sym (kept_is c.args.self.now.pieces.slots c.args.id _ c.index.ensures),
      record {
        before = ids_before cs k i;
        after = ids_after cs k i;
        is = s.is;
        first = absent_before c.args.id (ids_before cs k i) (ids_after cs k i) (subst (λ (l : List StmtId). AreOnce l) s.is c.requires.once);
      },
    )
