use Rattle.std.proofs.Common.{refl, ap, ◌∙◌}
use Rattle.lef_grammar.specs.Library.{Library, via_named}
use Rattle.cell_library.specs.ViaViews.{via_name, via_view}
use Rattle.cell_library.proofs.NamedLemmas.{lent_seen}
use Rattle.cell_library.proofs.library.Library.via.Goals as goal

pub returns : goal.returns
returns g c =
    lent_seen _ _ via_view via_name (λ e. refl) c.args.name.now c.get.result c.self.inside.vias c.get.ensures
    ∙ ap (λ (l : Library). via_named l c.args.name.now) c.self.view_is
