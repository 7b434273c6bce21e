use Rattle.std.proofs.Common.{map}
use Rattle.std.specs.Prelude.{option_map}
use Rattle.text_pieces.specs.Storing.{StaysKept, StoresAll, news_of}
use Rattle.text_pieces.specs.Tables.{kept}
use Rattle.text_pieces.proofs.storing.store_all.Given as goal

abbrev pub invariant-loop-piece : goal.invariant-loop-piece
invariant-loop-piece g l =
    StoresAll (map (option_map kept) l.fn.pieces.slots) (map (option_map kept) l.pieces.slots) (news_of l.chunk l.yielded) l.chunk l.fn.ids.items l.ids.items
    × StaysKept (map (option_map kept) l.fn.pieces.slots) (map (option_map kept) l.pieces.slots)
