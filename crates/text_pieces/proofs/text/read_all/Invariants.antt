use Rattle.std.proofs.Common.{◌≤◌, ◌-◌, length, map}
use Rattle.std.specs.Prelude.{option_map}
use Rattle.text_pieces.specs.Chunks.{shown}
use Rattle.text_pieces.specs.Opening.{AreTold}
use Rattle.text_pieces.specs.Tables.{kept}
use Rattle.text_pieces.proofs.text.read_all.Given as goal

abbrev pub invariant-chunks : goal.invariant-chunks
invariant-chunks g l = (l.pos ≤ length l.block) × AreTold g.T.Told.says l.fn.told l.told l.block (map shown l.table.chunks.items) (map (option_map kept) l.table.pieces.slots) l.mode l.pos

abbrev pub decreases-chunks : goal.decreases-chunks
decreases-chunks g l = length l.block - l.pos
