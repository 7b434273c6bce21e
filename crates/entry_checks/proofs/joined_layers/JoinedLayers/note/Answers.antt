use Rattle.std.proofs.Common.{sym}
use Rattle.entry_checks.proofs.JoinLemmas.{noted}
use Rattle.entry_checks.proofs.joined_layers.JoinedLayers.note.Goals as goal

pub returns-then-is_routing : goal.returns-then-is_routing
returns-then-is_routing g c left all p =
    noted c.args.library.now c.args.self c.args.name.now left all p c.with.result (sym c.if-is_routing.ensures) c.with.ensures
