use Rattle.std.proofs.Common.{◌<◌, length, map, arith}
use Rattle.std.specs.Prelude.{option_map}
use Rattle.std.proofs.lemmas.List.{length-map}
use Rattle.text_pieces.specs.Chunks.{shown}
use Rattle.text_pieces.specs.Tables.{kept}
use Rattle.text_pieces.proofs.NewWeights.{has_bytes}
use Rattle.text_pieces.proofs.Shown.{shown_at}
use Rattle.text_pieces.proofs.table.PieceTable.bytes_in.Goals as goal

pub returns : goal.returns
returns g c =
    let slots = map (option_map kept) c.args.self.now.pieces.slots in
    let chunks = c.args.self.now.chunks.items in
    let within : c.args.chunk < length chunks = omega (arith, c.requires.within, length-map chunks shown) in
    has_bytes slots (map shown chunks) c.args.chunk _ c.requires.table c.requires.within (shown_at chunks c.args.chunk c.index.result.now within c.index.ensures)
