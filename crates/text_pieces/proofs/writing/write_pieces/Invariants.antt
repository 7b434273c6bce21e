use Rattle.std.proofs.Common.{map, take}
use Rattle.std.specs.Prelude.{option_map}
use Rattle.std.specs.List.{concat}
use Rattle.text_pieces.specs.Chunks.{all_ids, shown}
use Rattle.text_pieces.specs.Content.{bytes_of}
use Rattle.text_pieces.specs.Tables.{kept, kept_at}
use Rattle.text_pieces.specs.Writing.{WritesAll}
use Rattle.text_pieces.proofs.writing.write_pieces.Given as goal

abbrev pub invariant-loop-k : goal.invariant-loop-k
invariant-loop-k g l = WritesAll
    (record { contents = g.W.Write.contents l.fn.out; hard = g.W.Failures.failed_hard l.fn.out; failed = g.W.Failures.failed l.fn.out; patience = l.fn.patience })
    (record { contents = g.W.Write.contents l.out; hard = g.W.Failures.failed_hard l.out; failed = g.W.Failures.failed l.out; patience = l.patience })
    (concat (bytes_of (map (kept_at (map (option_map kept) l.table.pieces.slots)) (all_ids (take l.k (map shown l.table.chunks.items))))))
