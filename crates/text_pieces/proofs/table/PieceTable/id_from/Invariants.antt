use Rattle.std.proofs.Common.{◌≡◌, ◌≤◌, length, map}
use Rattle.std.specs.Prelude.{slice_get}
use Rattle.text_pieces.specs.Behind.{ids_from}
use Rattle.text_pieces.specs.Chunks.{ids_at, shown}
use Rattle.text_pieces.proofs.table.PieceTable.id_from.Given as goal

abbrev pub invariant-loop-k : goal.invariant-loop-k
invariant-loop-k g l =
    let chunks = map shown l.self.chunks.items in
    (l.place ≤ length (ids_at chunks l.k)) × (slice_get (ids_from chunks l.k l.place) l.left ≡ slice_get (ids_from chunks l.chunk l.fn.place) l.count)
