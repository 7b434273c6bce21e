use Rattle.std.proofs.Common.{take}
use Rattle.text_pieces.specs.LettingGo.{AreLetGo, KeepsStanding}
use Rattle.text_pieces.specs.Tables.{table_of}
use Rattle.text_pieces.proofs.table.PieceTable.let_go_all.Given as goal

abbrev pub invariant-loop-id : goal.invariant-loop-id
invariant-loop-id g l = KeepsStanding (table_of l.fn.self) (table_of l.self) × AreLetGo (table_of l.self) (take l.id-index l.ids)
