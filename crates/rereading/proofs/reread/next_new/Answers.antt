use Rattle.rereading.proofs.Ends.{next_new}
use Rattle.rereading.proofs.Shared.{not_shared}
use Rattle.rereading.proofs.reread.next_new.Goals as goal

pub returns-clause-new : goal.returns-clause-new
returns-clause-new g c = λ raw holds tight.
    let segments = g.S.Segments.listed c.args.segments.now in
    let old = c.args.window.now in
    let window = c.next_whole.new.window in
    let alone = not_shared raw segments old.used c.args.pos old.bytes.items c.args.mode holds tight c.requires.full c.requires.pos (c.lands.ensures.not_there c.if-lands.false) in
    next_new raw segments c.args.mode c.args.pos window.used window.bytes.items c.next_whole.result alone (c.next_whole.ensures.whole raw holds)
