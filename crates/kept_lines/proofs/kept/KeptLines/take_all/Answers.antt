use Rattle.std.proofs.Common.{ap, arith, get_or, ◌≡◌, ◌∙◌}
use Rattle.kept_lines.proofs.TurnLemmas.{one_more_gone, still_stands}
use Rattle.kept_lines.proofs.kept.KeptLines.take_all.Goals as goal

pub take-requires : goal.take-requires
take-requires g c =
    let at : c.as_slice.result.now ≡ (get_or c.args.out.now c.loop-line.line-index c.line-item.result).text = c.as_slice.ensures ∙ ap (λ l. l.text) c.line-item.is in
    rw at (still_stands c.args.out.now _ _ c.loop-line.line-index c.line-item.result (omega arith) c.requires c.loop-line.invariant.gone)

pub loop-line-preserved : goal.loop-line-preserved
loop-line-preserved g c = record {
  gone =
      let at : c.as_slice.result.now ≡ (get_or c.args.out.now c.loop-line.line-index c.line-item.result).text = c.as_slice.ensures ∙ ap (λ l. l.text) c.line-item.is in
      one_more_gone c.args.out.now _ _ _ c.loop-line.line-index c.line-item.result (omega arith) c.loop-line.invariant.gone (rw at at c.take.ensures.taken);
  len = omega (arith, c.take.ensures.len, c.loop-line.invariant.len);
  room = c.take.ensures.room ∙ c.loop-line.invariant.room;
}
