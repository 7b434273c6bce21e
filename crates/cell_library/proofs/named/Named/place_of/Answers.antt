use Rattle.std.proofs.Common.{ap, ◌∙◌}
use Rattle.cell_library.specs.Naming.{place_of}
use Rattle.cell_library.proofs.NamedLemmas.{placed}
use Rattle.cell_library.proofs.named.Named.place_of.Goals as goal

pub returns : goal.returns
returns g c = c.get_index_of.ensures.index ∙ placed g.row.D.Denot c.args.name.now c.self.inside.entries.entries ∙ ap (λ es. place_of es c.args.name.now) c.self.view_is
