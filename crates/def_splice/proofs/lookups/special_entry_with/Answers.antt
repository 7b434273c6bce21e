use Rattle.std.proofs.Common.{ap, sym, ◌∙◌, refl}
use Rattle.std.specs.Option.{option_map}
use Rattle.def_splice.specs.Lying.{lying_statement}
use Rattle.def_splice.specs.NetViews.{listing}
use Rattle.def_splice.proofs.lookups.special_entry_with.Goals as goal

pub returns-in_default-clause-gives : goal.returns-in_default-clause-gives
returns-in_default-clause-gives g c = λ design reads.
    let found = sym (c.entry.ensures.gives design reads) ∙ ap (option_map lying_statement) c.in_default.is in
    sym (ap (listing c.args.owner.now c.args.pin.now) found)

pub returns-then-lists_terminal-clause-gives : goal.returns-then-lists_terminal-clause-gives
returns-then-lists_terminal-clause-gives g c = λ design reads.
    let found = sym (c.entry.ensures.gives design reads) ∙ ap (option_map lying_statement) c.in-Some.is in
    let so = sym c.lists_terminal.ensures ∙ c.if-lists_terminal.true in
    sym (ap (listing c.args.owner.now c.args.pin.now) found ∙ rw so refl)

pub returns-else-lists_terminal-clause-gives : goal.returns-else-lists_terminal-clause-gives
returns-else-lists_terminal-clause-gives g c = λ design reads.
    let found = sym (c.entry.ensures.gives design reads) ∙ ap (option_map lying_statement) c.in-Some.is in
    let not_so = sym c.lists_terminal.ensures ∙ c.if-lists_terminal.false in
    sym (ap (listing c.args.owner.now c.args.pin.now) found ∙ rw not_so refl)
