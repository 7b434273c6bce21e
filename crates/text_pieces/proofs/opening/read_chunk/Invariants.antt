use Rattle.std.proofs.Common.{◌≡◌, ◌≤◌, ◌+◌, ◌-◌, List, [], ◌∷◌, ◌++◌, length, map}
use Rattle.std.specs.Prelude.{option_map}
use Rattle.text_pieces.specs.Chunks.{Numbers}
use Rattle.text_pieces.specs.Opening.{AreTold}
use Rattle.text_pieces.specs.Tables.{kept}
use Rattle.text_pieces.proofs.opening.read_chunk.Given as goal

abbrev pub invariant-statements : goal.invariant-statements
invariant-statements g l =
    (l.from + length l.ids.items ≤ l.pos)
    × (l.pos ≤ length l.block)
    × ((begun : _) (front : List Numbers) → length front ≡ l.number → AreTold g.T.Told.says begun l.fn.told l.block front (map (option_map kept) l.fn.pieces.slots) l.fn.first l.from
    → AreTold g.T.Told.says begun l.told l.block (front ++ record { ids = l.ids.items; len = l.pos - l.from } ∷ []) (map (option_map kept) l.pieces.slots) l.mode l.pos)

abbrev pub decreases-statements : goal.decreases-statements
decreases-statements g l = 1000 - length l.ids.items
