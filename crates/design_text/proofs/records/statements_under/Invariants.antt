use Rattle.std.proofs.Common.{◌≡◌, map, take}
use Rattle.def_reader.specs.StatementViews.{record_view}
use Rattle.text_pieces.specs.KeptRecords.{record_of}
use Rattle.text_pieces.specs.Tables.{kept_at}
use Rattle.design_text.proofs.records.statements_under.Given as goal

abbrev pub invariant-loop-id : goal.invariant-loop-id
invariant-loop-id g l = map record_view l.statements.items ≡ map (λ x. record_of (kept_at l.pieces.table.slots x)) (take l.id-index l.ids)
