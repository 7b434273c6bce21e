use Rattle.std.proofs.Common.{◌≡◌, ◌∙◌, length, ap, arith}
use Rattle.text_pieces.specs.Content.{Content, text_of}
use Rattle.text_pieces.proofs.CoveredCuts.{next_follows}
use Rattle.text_pieces.proofs.text.TextPieces.covering.Goals as goal

pub returns-then-not-follows-clause-refuses : goal.returns-then-not-follows-clause-refuses
returns-then-not-follows-clause-refuses g c = λ all.
    let size : c.self.inside.len ≡ length (text_of c.args.self.now) = c.self.invariant.whole ∙ ap (λ (d : Content). length (text_of d)) c.self.view_is in
    let k = next_follows c.args.cuts.now c.loop-cut.cut-index _ c.loop-cut.at _ c.loop-cut-test.true (c.loop-cut.invariant.4 all) in
    c.follows.ensures.no c.if-not-follows.true (k.0, k.1, omega (arith, k.2, size))
