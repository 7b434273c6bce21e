use Rattle.std.proofs.Common.{◌+◌, ◌∙◌, ℕ, List, Some, sym, ap, map}
use Rattle.std.specs.Prelude.{option_map}
use Rattle.text_pieces.specs.Behind.{ids_from, old_bytes, segments}
use Rattle.text_pieces.specs.Chunks.{shown}
use Rattle.text_pieces.specs.Tables.{Kept, kept, kept_at}
use Rattle.text_pieces.proofs.FromPlaces.{held_from, segment_at}
use Rattle.text_pieces.proofs.Shown.{is_there, kept_is}
use Rattle.text_pieces.proofs.TouchedPieces.{segment_from}
use Rattle.text_pieces.proofs.behind.BehindSegments.segment.Goals as goal

pub index-piece-requires : goal.index-piece-requires
index-piece-requires g c =
    let b = c.self.inside in
    let slots = map (option_map kept) b.table.now.pieces.slots in
    let cs = map shown b.table.now.chunks.items in
    is_there b.table.now.pieces.slots c.in-Some.id _ (held_from slots cs b.chunk b.place (b.passed + c.args.k) c.in-Some.id c.self.invariant.0.chunks c.self.invariant.1 (sym c.in-Some.ensures))

pub returns-clause-at : goal.returns-clause-at
returns-clause-at g c =
    let b = c.self.inside in
    let slots = map (option_map kept) b.table.now.pieces.slots in
    let cs = map shown b.table.now.chunks.items in
    let id = c.in-Some.id in
    let own = kept_is b.table.now.pieces.slots id _ c.index-piece.ensures in
    rw (← c.self.view_is) (
    ap (λ (l : List ℕ). Some (record { bytes = l; mode = Some c.index-piece.result.now.mode })) c.as_slice.ensures
    ∙ ap (λ (k : Kept). Some (old_bytes k)) (sym own)
    ∙ sym (segment_at slots (ids_from cs b.chunk b.place) b.tail.now (b.passed + c.args.k) id (sym c.in-Some.ensures))
    ∙ sym (segment_from (segments (map (kept_at slots) (ids_from cs b.chunk b.place)) b.tail.now) b.passed c.args.k))
