use Rattle.std.proofs.Common.{arith, sym}
use Rattle.rereading.proofs.Windows.{appended, longer_still}
use Rattle.rereading.specs.Segments.{segment_view}
use Rattle.rereading.proofs.window.Window.append.Goals as goal

pub loop-preserved : goal.loop-preserved
loop-preserved g c =
    let i = c.loop.invariant in
    let segments = g.S.Segments.listed c.args.segments.now in
    let window = c.loop.self.bytes.items in
    let new = c.extend_from_slice.new.self.items in
    let more = c.in_ok-extend_from_slice.ensures.items in
    record {
      count = omega (arith, i.count);
      longer = longer_still c.args.self.now.bytes.items window _ new i.longer more;
      holds = λ raw holds. appended raw segments c.loop.self.used window new (segment_view c.in-Some.segment) (sym c.in-Some.ensures.at) more (i.holds raw holds);
    }
