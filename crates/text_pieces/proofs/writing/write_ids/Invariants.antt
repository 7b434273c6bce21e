use Rattle.std.proofs.Common.{map, take}
use Rattle.std.specs.Prelude.{option_map}
use Rattle.std.specs.List.{concat}
use Rattle.text_pieces.specs.Content.{bytes_of}
use Rattle.text_pieces.specs.Tables.{kept, kept_at}
use Rattle.text_pieces.specs.Writing.{WritesAll}
use Rattle.text_pieces.proofs.writing.write_ids.Given as goal

abbrev pub invariant-loop-id : goal.invariant-loop-id
invariant-loop-id g l = WritesAll
    (record { contents = g.W.Write.contents l.fn.out; hard = g.W.Failures.failed_hard l.fn.out; failed = g.W.Failures.failed l.fn.out; patience = l.fn.patience })
    (record { contents = g.W.Write.contents l.out; hard = g.W.Failures.failed_hard l.out; failed = g.W.Failures.failed l.out; patience = l.patience })
    (concat (bytes_of (map (kept_at (map (option_map kept) l.table.pieces.slots)) (take l.id-index l.ids))))
