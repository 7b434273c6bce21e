use Rattle.std.proofs.Common.{◌≡◌, List, ◌++◌, flat_map, map, refl, ap, ◌∙◌}
use Rattle.def_grammar.specs.Records.{Record}
use Rattle.def_reader.specs.StatementViews.{records_view}
use Rattle.report_rules.specs.Diagnostics.{statement_lines}
use Rattle.text_pieces.specs.Chunks.{ids_at}
use Rattle.design_text.specs.DesignTexts.{design_of}
use Rattle.design_text.proofs.ChunkWalks.{all_chunks, design_is_kept, one_chunk, says}
use Rattle.followed_statements.proofs.AnewLemmas.{lines_of, lines_parted}
use Rattle.followed_statements.proofs.lines.put_all_statements.Goals as goal

pub loop-place-preserved : goal.loop-place-preserved
loop-place-preserved g c =
    let f = statement_lines c.args.library.now (design_of c.args.text.now) in
    let table = c.args.text.now.pieces.table in
    let k = c.loop-place.place in
    let those : records_view c.deref.result.now ≡ map (says table.slots) (ids_at table.chunks k) =
    ap records_view c.deref.ensures.value ∙ c.in_ok-statements.ensures ∙ ap (map (says table.slots)) c.chunk.ensures.numbers in
    let inv = c.loop-place.invariant in
    let put = rw (inv.library, inv.design) at c.in_ok-put_statements.ensures.lines in
    record {
      put = one_chunk (lines_of table.slots f) (lines_parted table.slots f) table.chunks c.chunks_go_on.ensures k c.loop-place.lines c.put_statements.new.lines _
          (rw (← c.chunks-place-end.ensures) c.loop-place-test.true) (put ∙ ap (λ (rs : List Record). c.loop-place.lines ++ flat_map f rs) those) inv.put;
      library = rw c.put_statements.ensures.same inv.library;
      design = rw c.put_statements.ensures.same inv.design;
    }

pub returns : goal.returns
returns g c =
    let f = statement_lines c.args.library.now (design_of c.args.text.now) in
    let text = c.args.text.now in
    let table = text.pieces.table in
    let kept = c.statements_are_kept.ensures in
    all_chunks (lines_of table.slots f) (lines_parted table.slots f) table.chunks refl c.loop-place.place c.loop-place.lines _
    (rw (← c.chunks-place-end.ensures) c.loop-place-test.false) c.loop-place.invariant.put
    ∙ ap (λ (rs : List Record). c.args.lines.now ++ flat_map f rs) (design_is_kept text kept.kept kept.said)
