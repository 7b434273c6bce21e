use Rattle.std.proofs.Common.{◌∙◌, rules}
use Rattle.net_pins.proofs.SeenLemmas.{noted_unlisted}
use Rattle.net_pins.proofs.seen_pins.SeenPins.note_new.Goals as goal

pub invariant_of-self-in-Continue-branch-2 : goal.invariant_of-self-in-Continue-branch-2
invariant_of-self-in-Continue-branch-2 g c =
    let s = c.self.inside in
    noted_unlisted s.first.items s.further.keys s.unlisted.items c.push-else-len-lt-FEW.new.self.items c.args.pin (search rules) c.self.invariant (rw (c.self.view_is) c.requires) c.in_ok-push-2.ensures.items
