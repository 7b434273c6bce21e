use Rattle.std.proofs.Common.{◌∙◌, map, inr, refl, sym}
use Rattle.std.specs.Prelude.{option_map}
use Rattle.text_pieces.specs.Tables.{ids_of, kept, table_of}
use Rattle.text_pieces.proofs.LettingGo.{emptied, free_left, keeps_refl, others_left, others_same, where_none}
use Rattle.text_pieces.proofs.table.PieceTable.let_go_of.Goals as goal

pub returns-then-is_some-clause-keeps : goal.returns-then-is_some-clause-keeps
returns-then-is_some-clause-keeps g c = keeps_refl (table_of c.args.self.now)

pub returns-clause-keeps : goal.returns-clause-keeps
returns-clause-keeps g c =
    let old = c.args.self.now.pieces in
    let new = c.try_remove-gone.new.self in
    record {
      chunks = refl;
      slots = others_same (map (option_map kept) old.slots) (map (option_map kept) new.slots) c.args.id (ids_of (table_of c.args.self.now)) (others_left old new c.args.id.0 c.try_remove-gone.ensures.updates) (where_none _ _ _ (sym c.is_some.ensures ∙ c.if-is_some.false) c.piece.ensures);
    }

pub returns-clause-gone : goal.returns-clause-gone
returns-clause-gone g c = inr (emptied c.args.self.now.pieces c.try_remove-gone.new.self c.args.id.0 c.try_remove-gone.ensures.updates)

pub returns-clause-free : goal.returns-clause-free
returns-clause-free g c = free_left c.args.self.now.pieces c.try_remove-gone.new.self c.args.id.0 c.try_remove-gone.ensures.updates
