use Rattle.std.proofs.Common.{ap, ◌∙◌}
use Rattle.cell_library.specs.Naming.{named}
use Rattle.cell_library.proofs.NamedLemmas.{found}
use Rattle.cell_library.proofs.named.Named.get.Goals as goal

pub returns : goal.returns
returns g c = c.get.ensures.value ∙ found g.row.D.Denot c.args.name.now c.self.inside.entries.entries ∙ ap (λ es. named es c.args.name.now) c.self.view_is
