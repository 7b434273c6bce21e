use Rattle.std.proofs.Common.{ap}
use Rattle.text_pieces.specs.Covering.{cut_of}
use Rattle.def_splice.specs.SpliceViews.{cut_view}
use Rattle.design_text.proofs.Pushing.{pushed}
use Rattle.design_text.proofs.editing.text_cuts.Goals as goal

pub loop-splice-preserved : goal.loop-splice-preserved
loop-splice-preserved g c =
    let s = c.splice-item.result in
    pushed cut_of cut_view c.args.splices.now c.loop-splice.splice-index s s c.loop-splice.cuts.items c.push.new.self.items _ c.loop-splice-test.true c.splice-item.is c.in-Ok-push.ensures.items
    (ap (λ put. record { lo = s.lo; hi = s.hi; put = put }) c.as_slice.ensures) c.loop-splice.invariant
