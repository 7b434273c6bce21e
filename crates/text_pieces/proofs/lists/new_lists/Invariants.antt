use Rattle.std.proofs.Common.{◌≡◌, ◌<◌, [], ◌++◌, map, take}
use Rattle.std.specs.Prelude.{option_map}
use Rattle.text_pieces.specs.Chunks.{all_ids, ids_at, shown, shown_change}
use Rattle.text_pieces.specs.Lists.{ids_left}
use Rattle.text_pieces.specs.Tables.{kept}
use Rattle.text_pieces.proofs.NewLists.{Going}
use Rattle.text_pieces.proofs.lists.new_lists.Given as goal

abbrev pub invariant-loop-k : goal.invariant-loop-k
invariant-loop-k g l =
    let cs = map shown l.table.chunks.items in
    Going (map (option_map kept) l.table.pieces.slots) cs (all_ids (take l.chunk cs) ++ l.fn.head.items) (ids_left cs l.chunk l.fn.place l.out) (map shown_change l.changes.items) l.k l.place l.left l.ids.items
    × (l.chunk < l.k → l.ids.items ≡ [])
    × (l.chunk < l.k → l.place ≡ 0)
    × (take l.place l.ids.items ≡ take l.place (ids_at cs l.k))
