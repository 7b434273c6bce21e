use Rattle.std.proofs.Common.{◌≡◌, List, ◌++◌, filter, map, refl, sym, ap, ◌∙◌}
use Rattle.design_model.specs.declared.identifier.StmtId.{StmtId}
use Rattle.def_grammar.specs.Records.{Record}
use Rattle.design_tables.specs.TableViews.{numbered_view}
use Rattle.staying_laws.specs.PlaceStatements.{surrounds_or_blocks}
use Rattle.text_pieces.specs.Chunks.{all_ids, ids_at}
use Rattle.text_pieces.specs.KeptRecords.{records_under}
use Rattle.design_text.proofs.ChunkWalks.{all_chunks, one_chunk}
use Rattle.followed_places.proofs.AnewLemmas.{numbers_of, numbers_parted}
use Rattle.followed_places.proofs.anew.numbers_in.Goals as goal

pub loop-place-preserved : goal.loop-place-preserved
loop-place-preserved g c =
    let table = c.args.text.now.pieces.table in
    let those : map numbered_view c.deref.result.now ≡ records_under table.slots (ids_at table.chunks c.loop-place.place) =
    ap (map numbered_view) c.deref.ensures.value ∙ c.in_ok-statements.ensures ∙ ap (records_under table.slots) c.chunk.ensures.numbers in
    let put = c.in_ok-push_numbers_around.ensures ∙ ap (λ (rs : List (StmtId × Record)). c.loop-place.numbers.items ++ map (λ x. x.0) (filter (λ x. surrounds_or_blocks x.1) rs)) those in
    one_chunk (numbers_of table.slots) (numbers_parted table.slots) table.chunks c.chunks_go_on.ensures c.loop-place.place c.loop-place.numbers.items c.push_numbers_around.new.numbers.items
    (numbers_of table.slots (all_ids table.chunks)) (rw (← c.chunks-place-end.ensures) c.loop-place-test.true) put c.loop-place.invariant

pub returns : goal.returns
returns g c =
    let table = c.args.text.now.pieces.table in
    let all = all_chunks (numbers_of table.slots) (numbers_parted table.slots) table.chunks refl c.loop-place.place c.loop-place.numbers.items
    (numbers_of table.slots (all_ids table.chunks)) (rw (← c.chunks-place-end.ensures) c.loop-place-test.false) c.loop-place.invariant in
    all ∙ ap (λ (rs : List (StmtId × Record)). map (λ x. x.0) (filter (λ x. surrounds_or_blocks x.1) rs)) (sym c.statements_are_kept.ensures.kept.says)
