use Rattle.std.proofs.Common.{Some, ap}
use Rattle.entry_rules.specs.ViaLayers.{routing_layers}
use Rattle.entry_checks.proofs.JoinLemmas.{all_noted, joins_first, joins_neither, joins_none, joins_second}
use Rattle.entry_checks.proofs.joined_layers.JoinedLayers.via_on.Goals as goal

pub returns-in_default : goal.returns-in_default
returns-in_default c library all p =
    ap Some (joins_none c.args.layer.now c.args.self (routing_layers library all) c.in_default.not-Two (all_noted library c.args.self all p))

pub returns-then-is_word : goal.returns-then-is_word
returns-then-is_word c library all p =
    ap Some (joins_first c.args.layer.now c.args.self c.in-Two.a c.in-Two.b (routing_layers library all) c.in-Two.is (all_noted library c.args.self all p) c.if-is_word.ensures)

pub returns-then-is_word-2 : goal.returns-then-is_word-2
returns-then-is_word-2 c library all p =
    ap Some (joins_second c.args.layer.now c.args.self c.in-Two.a c.in-Two.b (routing_layers library all) c.in-Two.is (all_noted library c.args.self all p) c.if-is_word.ensures c.if-is_word-2.ensures)

pub returns-else-is_word-2 : goal.returns-else-is_word-2
returns-else-is_word-2 c library all p =
    ap Some (joins_neither c.args.layer.now c.args.self c.in-Two.a c.in-Two.b (routing_layers library all) c.in-Two.is (all_noted library c.args.self all p) c.if-is_word.ensures c.if-is_word-2.ensures)
