use Rattle.std.proofs.Common.{◌≡◌, ap, sym, ◌∙◌, rules, Some}
use Rattle.std.specs.Option.{option_map, option_or}
use Rattle.def_splice.specs.Lying.{lying_statement}
use Rattle.def_splice.proofs.NetLemmas.{either_lists, net_lists, seen_or, without_net}
use Rattle.def_splice.proofs.lookups.listing_entry.Goals as goal

pub returns-in_default-clause-gives : goal.returns-in_default-clause-gives
returns-in_default-clause-gives g c = λ design reads.
    let none = sym (c.entry.ensures.gives design reads) ∙ ap (option_map lying_statement) c.in_default.is in
    without_net c.records_are_read.ensures.located (g.L.LookUps.text c.args.lookups.now) design reads c.args.name.now c.same_keys_are_once.ensures c.args.owner.now c.args.pin.now _ none (c.entry-in_default.ensures.gives design reads)

pub returns-then-lists_terminal-clause-gives : goal.returns-then-lists_terminal-clause-gives
returns-then-lists_terminal-clause-gives g c = λ design reads.
    let found = sym (c.entry.ensures.gives design reads) ∙ ap (option_map lying_statement) c.in-Some.is in
    let so = sym c.lists_terminal.ensures ∙ c.if-lists_terminal.true in
    net_lists c.records_are_read.ensures.located (g.L.LookUps.text c.args.lookups.now) design reads c.args.name.now c.same_keys_are_once.ensures c.args.owner.now c.args.pin.now (lying_statement c.in-Some.net) found so

pub returns-clause-gives : goal.returns-clause-gives
returns-clause-gives g c = λ design reads.
    let found = sym (c.entry.ensures.gives design reads) ∙ ap (option_map lying_statement) c.in-Some.is in
    let not_so = sym c.lists_terminal.ensures ∙ c.if-lists_terminal.false in
    let either : c.or.result ≡ option_or c.special_entry_with.result (Some c.in-Some.net) = search rules in
    ap (option_map lying_statement) either
    ∙ seen_or lying_statement c.special_entry_with.result c.in-Some.net
    ∙ either_lists c.records_are_read.ensures.located (g.L.LookUps.text c.args.lookups.now) design reads c.args.name.now c.same_keys_are_once.ensures c.args.owner.now c.args.pin.now (lying_statement c.in-Some.net) found not_so _ (c.special_entry_with.ensures.gives design reads)
