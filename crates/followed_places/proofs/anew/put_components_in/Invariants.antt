use Rattle.std.proofs.Common.{◌≡◌, ◌++◌, drop, map}
use Rattle.design_rules.specs.Surroundings.{Surroundings}
use Rattle.text_pieces.specs.Chunks.{all_ids}
use Rattle.place_checks.specs.IndexViews.{surroundings_view}
use Rattle.place_checks.specs.SameSurroundings.{HaveSameLines}
use Rattle.place_checks.specs.Views.{swept_view}
use Rattle.followed_places.proofs.AnewLemmas.{boxes_of, lines_of}
use Rattle.followed_places.proofs.anew.put_components_in.Given as goal

abbrev pub invariant-loop-place : goal.invariant-loop-place
invariant-loop-place g l = record {
  lines : (s : Surroundings) → HaveSameLines (surroundings_view l.fn.placement.surroundings.now) s →
      l.lines ++ lines_of l.fn.placement.text.now.pieces.table.slots l.fn.placement.library.now l.fn.placement.scale l.fn.half s (all_ids (drop l.place l.fn.placement.text.now.pieces.table.chunks))
      ≡ l.fn.lines ++ lines_of l.fn.placement.text.now.pieces.table.slots l.fn.placement.library.now l.fn.placement.scale l.fn.half s (all_ids l.fn.placement.text.now.pieces.table.chunks);
  boxes :
      map swept_view l.boxes.items ++ boxes_of l.fn.placement.text.now.pieces.table.slots l.fn.placement.library.now l.fn.placement.scale l.fn.half (all_ids (drop l.place l.fn.placement.text.now.pieces.table.chunks))
      ≡ map swept_view l.fn.boxes.items ++ boxes_of l.fn.placement.text.now.pieces.table.slots l.fn.placement.library.now l.fn.placement.scale l.fn.half (all_ids l.fn.placement.text.now.pieces.table.chunks);
}
