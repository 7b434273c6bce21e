use Rattle.std.proofs.Common.{◌≡◌, ◌<◌, length, arith}
use Rattle.rereading.proofs.Windows.{pos_within, shortened, still_kept, tight_end}
use Rattle.rereading.proofs.window.Window.give_back.Goals as goal

pub returns-then-size-len-clause-tight : goal.returns-then-size-len-clause-tight
returns-then-size-len-clause-tight g c = λ raw holds.
    let i = c.back.invariant in
    let segments = g.S.Segments.listed c.args.segments.now in
    let long : c.len.result ≡ length c.back.self.bytes.items = search in
    tight_end raw segments c.back.self.used c.args.pos c.len.result c.size_at-size.result c.back.self.bytes.items i.pos long c.size_at-size.ensures c.if-size-len.true (i.holds raw holds)

pub back-preserved : goal.back-preserved
back-preserved g c =
    let i = c.back.invariant in
    let segments = g.S.Segments.listed c.args.segments.now in
    let window = c.back.self.bytes.items in
    let new = c.truncate.new.self.items in
    let long : c.len-in-back.result ≡ length window = search in
    let same : c.len.result ≡ length window = search in
    let some : 0 < c.back.self.used = omega (arith, c.if-self-eq0.false) in
    record {
      within = omega (arith, i.within);
      pos = pos_within c.args.pos c.len-in-back.result c.size_at-size.result window new i.pos long (omega (arith, c.if-size-len.false, same, long)) c.truncate.ensures.items;
      holds = λ raw holds. shortened raw segments c.back.self.used c.len-in-back.result c.size_at-size.result window new some long c.size_at-size.ensures c.truncate.ensures.items (i.holds raw holds);
      kept = λ raw holds k low before. still_kept raw segments c.back.self.used c.args.pos c.len.result c.size_at-size.result window k i.pos same c.size_at-size.ensures (omega (arith, c.if-size-len.false)) (i.holds raw holds) (i.kept raw holds k low before) before;
    }
