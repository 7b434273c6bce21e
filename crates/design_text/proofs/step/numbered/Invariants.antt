use Rattle.std.proofs.Common.{◌≡◌, map, take}
use Rattle.text_pieces.specs.KeptRecords.{records_under}
use Rattle.design_tables.specs.TableViews.{numbered_view}
use Rattle.design_text.proofs.step.numbered.Given as goal

abbrev pub invariant-loop-id : goal.invariant-loop-id
invariant-loop-id g l = map numbered_view l.statements.items ≡ records_under l.pieces.table.slots (take l.id-index l.ids)
