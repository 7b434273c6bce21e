use Rattle.std.proofs.Common.{◌≡◌, length}
use Rattle.lefdef_tokens.specs.Views.{rest_of}
use Rattle.net_wiring.specs.WiringViews.{said_from}
use Rattle.net_wiring.proofs.wiring_text.are_wiring.Given as goal

abbrev pub invariant-loop-end : goal.invariant-loop-end
invariant-loop-end l = said_from (rest_of l.left) l.section ≡ said_from (rest_of l.fn.cursor) l.section

abbrev pub decreases-loop-end : goal.decreases-loop-end
decreases-loop-end l = length (rest_of l.left).words
