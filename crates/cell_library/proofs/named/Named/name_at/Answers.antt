use Rattle.std.proofs.Common.{ap, ◌∙◌, slice_get}
use Rattle.std.specs.Option.{option_map}
use Rattle.cell_library.specs.Naming.{name_of}
use Rattle.cell_library.proofs.NamedLemmas.{name_there}
use Rattle.cell_library.proofs.named.Named.name_at.Goals as goal

pub returns : goal.returns
returns g c =
    name_there c.self.inside.entries.entries c.args.place (c.in_ok-name.name.now, c.in_ok-name.field-0-1.now) c.in_ok-name.ensures.entry
    ∙ ap (λ es. option_map name_of (slice_get es c.args.place)) c.self.view_is
