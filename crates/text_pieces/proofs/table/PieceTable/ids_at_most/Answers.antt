use Rattle.std.proofs.Common.{◌∙◌, [], ◌∷◌, ◌++◌, List, sym, ap, map}
use Rattle.design_model.specs.declared.identifier.StmtId.{StmtId}
use Rattle.text_pieces.specs.Behind.{ids_from}
use Rattle.text_pieces.specs.Chunks.{shown}
use Rattle.text_pieces.proofs.TouchedPieces.{id_more}
use Rattle.text_pieces.proofs.table.PieceTable.ids_at_most.Goals as goal

pub loop-k-preserved : goal.loop-k-preserved
loop-k-preserved g c =
    let ids = ids_from (map shown c.args.self.now.chunks.items) c.args.chunk c.args.place in
    let id = c.in-Some.id in
    c.in-Ok.ensures.items ∙ ap (λ (l : List StmtId). l ++ id ∷ []) c.loop-k.invariant ∙ sym (id_more ids c.loop-k.k id (sym c.in-Some.ensures))
