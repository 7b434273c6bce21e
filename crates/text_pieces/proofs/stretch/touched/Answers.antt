use Rattle.std.proofs.Common.{◌≡◌, ◌+◌, ◌-◌, ◌∙◌, ◌++◌, ℕ, List, length, sym, ap, arith}
use Rattle.rereading.specs.Segments.{segment_view}
use Rattle.text_pieces.proofs.TouchedPieces.{segment_more}
use Rattle.text_pieces.proofs.stretch.touched.Goals.{else-count-gt0-via-then-count-gt0+else-len-end, else-count-gt0-via-else-count-gt0}
use Rattle.text_pieces.proofs.stretch.touched.Goals as goal

pub segments-preserved : goal.segments-preserved
segments-preserved g c =
    let s = c.segments in
    let more = segment_more (g.S.Segments.listed c.args.segments.now) s.count (segment_view c.in-Some.segment) (sym c.in-Some.ensures.at) in
    let long = ap (λ (l : List ℕ). length l) s.invariant.0 in
    let back : s.count + 1 - 1 ≡ s.count = omega arith in (
      c.in-Ok.ensures.items ∙ ap (λ (l : _). l ++ c.in-Some.segment.bytes.now) s.invariant.0 ∙ sym more.1,
      omega (arith, more.0),
      λ many. rw back (elim c.else-count-gt0.branch [
        | else-count-gt0-via-then-count-gt0+else-len-end w ↦ omega (arith, long, w.len.ensures, w.if-len-end.false)
        | else-count-gt0-via-else-count-gt0 w ↦ absurd (omega (arith, many, w.if-count-gt0.false))
      ]),
    )
