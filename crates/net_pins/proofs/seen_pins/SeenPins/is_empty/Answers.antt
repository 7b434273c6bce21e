use Rattle.std.proofs.Common.{◌∙◌, ◌++◌}
use Rattle.net_pins.proofs.SeenLemmas.{empty_first}
use Rattle.net_pins.proofs.seen_pins.SeenPins.is_empty.Goals as goal

pub returns-clause-only_then : goal.returns-clause-only_then
returns-clause-only_then g c none =
    rw (c.as_slice.ensures.value) at (c.is_empty.ensures) ∙ empty_first c.self.inside.first.items (c.self.inside.further.keys ++ c.self.inside.unlisted.items) (c.self.view_is ∙ none)
