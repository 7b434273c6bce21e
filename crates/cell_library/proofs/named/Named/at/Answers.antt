use Rattle.std.proofs.Common.{ap, ◌∙◌, slice_get}
use Rattle.cell_library.proofs.NamedLemmas.{entry_there}
use Rattle.cell_library.proofs.named.Named.at.Goals as goal

pub returns-clause-there : goal.returns-clause-there
returns-clause-there g c =
    entry_there c.self.inside.entries.entries c.args.place (c.in_ok-name.name.now, c.in_ok-name.definition.now)
    (c.in_ok-name.ensures.entry ∙ ap (λ es. slice_get es c.args.place) c.as_slice.ensures.entries)
    ∙ ap (λ es. slice_get es c.args.place) c.self.view_is
