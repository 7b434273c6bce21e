use Rattle.std.proofs.Common.{ap, sym, ◌∙◌}
use Rattle.std.specs.Option.{option_map}
use Rattle.def_splice.specs.Lying.{lying_statement}
use Rattle.def_splice.proofs.NetLemmas.{net_found, special_found}
use Rattle.def_splice.proofs.lookups.net_entry.Goals as goal

pub returns-in-Some-clause-gives : goal.returns-in-Some-clause-gives
returns-in-Some-clause-gives g c = λ design reads.
    let found = sym (c.entry.ensures.gives design reads) ∙ ap (option_map lying_statement) c.in-Some.is in
    net_found c.records_are_read.ensures.located (g.L.LookUps.text c.args.lookups.now) design reads c.args.name.now (lying_statement c.in-Some.found) found

pub returns-clause-gives : goal.returns-clause-gives
returns-clause-gives g c = λ design reads.
    let none = sym (c.entry.ensures.gives design reads) ∙ ap (option_map lying_statement) c.in_default.is in
    special_found c.records_are_read.ensures.located (g.L.LookUps.text c.args.lookups.now) design reads c.args.name.now _ none (c.entry-2.ensures.gives design reads)
