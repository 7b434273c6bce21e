use Rattle.std.proofs.Common.{◌≡◌, drop}
use Rattle.edit_rules.specs.NetEdits.{opens_comment}
use Rattle.statement_model.specs.Tokens.Open.{between}
use Rattle.net_wiring.specs.WiringViews.{open_view}
use Rattle.net_wiring.proofs.comments.opens_comment.Given as goal

abbrev pub invariant-loop-byte : goal.invariant-loop-byte
invariant-loop-byte l = opens_comment (open_view l.state) (drop l.byte-index l.bytes) ≡ opens_comment between l.bytes
