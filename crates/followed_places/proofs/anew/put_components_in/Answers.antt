use Rattle.std.proofs.Common.{◌≡◌, List, ◌++◌, filter, flat_map, map, refl, ap, ◌∙◌}
use Rattle.std.specs.List.{filter_map}
use Rattle.def_grammar.specs.Records.{Record}
use Rattle.def_reader.specs.StatementViews.{records_view}
use Rattle.design_rules.specs.Boxes.{box_of}
use Rattle.design_rules.specs.PlaceLines.{lines_in}
use Rattle.place_checks.specs.Views.{bare, boxed_view, swept_view}
use Rattle.text_pieces.specs.Chunks.{ids_at}
use Rattle.design_text.proofs.ChunkWalks.{all_chunks, design_is_kept, one_chunk, says}
use Rattle.followed_places.specs.Halves.{is_in}
use Rattle.followed_places.proofs.AnewLemmas.{boxes_of, boxes_parted, lines_of, lines_parted, placed}
use Rattle.followed_places.proofs.anew.put_components_in.Goals as goal

pub loop-place-preserved : goal.loop-place-preserved
loop-place-preserved g c =
    let p = c.args.placement.now in
    let library = p.library.now in
    let u = p.scale in
    let half = c.args.half in
    let table = p.text.now.pieces.table in
    let k = c.loop-place.place in
    let read : records_view c.deref.result.now ≡ map (says table.slots) (ids_at table.chunks k) =
    ap records_view c.deref.ensures.value ∙ c.in_ok-statements.ensures ∙ ap (map (says table.slots)) c.chunk.ensures.numbers in
    let those : map boxed_view c.deref-in-loop-place.result.now ≡ placed table.slots library u half (ids_at table.chunks k) =
    ap (map boxed_view) c.deref-in-loop-place.ensures.value ∙ c.in_ok-components.ensures ∙ ap (λ (rs : List Record). filter (is_in half) (filter_map (box_of library u) rs)) read in
    record {
      lines = λ s same.
          one_chunk (lines_of table.slots library u half s) (lines_parted table.slots library u half s) table.chunks c.chunks_go_on.ensures k c.loop-place.lines c.put_components.new.lines _
          (rw (← c.chunks-place-end.ensures) c.loop-place-test.true)
          (rw those at (c.in_ok-put_components.ensures.lines s same))
          (c.loop-place.invariant.lines s same);
      boxes =
          one_chunk (boxes_of table.slots library u half) (boxes_parted table.slots library u half) table.chunks c.chunks_go_on.ensures k (map swept_view c.loop-place.boxes.items)
          (map swept_view c.put_components.new.boxes.items) _ (rw (← c.chunks-place-end.ensures) c.loop-place-test.true)
          (rw those at c.in_ok-put_components.ensures.boxes)
          c.loop-place.invariant.boxes;
    }

pub returns-clause-lines : goal.returns-clause-lines
returns-clause-lines g c = λ s same.
    let p = c.args.placement.now in
    let library = p.library.now in
    let u = p.scale in
    let half = c.args.half in
    let text = p.text.now in
    let table = text.pieces.table in
    let all = all_chunks (lines_of table.slots library u half s) (lines_parted table.slots library u half s) table.chunks refl c.loop-place.place c.loop-place.lines _
    (rw (← c.chunks-place-end.ensures) c.loop-place-test.false) (c.loop-place.invariant.lines s same) in
    let kept = c.statements_are_kept.ensures in
    all ∙ ap (λ (rs : List Record). c.args.lines.now ++ flat_map (lines_in s) (filter (is_in half) (filter_map (box_of library u) rs))) (design_is_kept text kept.kept kept.said)

pub returns-clause-boxes : goal.returns-clause-boxes
returns-clause-boxes g c =
    let p = c.args.placement.now in
    let library = p.library.now in
    let u = p.scale in
    let half = c.args.half in
    let text = p.text.now in
    let table = text.pieces.table in
    let all = all_chunks (boxes_of table.slots library u half) (boxes_parted table.slots library u half) table.chunks refl c.loop-place.place (map swept_view c.loop-place.boxes.items) _
    (rw (← c.chunks-place-end.ensures) c.loop-place-test.false) c.loop-place.invariant.boxes in
    let kept = c.statements_are_kept.ensures in
    all ∙ ap (λ (rs : List Record). map swept_view c.args.boxes.now.items ++ map bare (filter (is_in half) (filter_map (box_of library u) rs))) (design_is_kept text kept.kept kept.said)
