use Rattle.std.proofs.Common.{refl, ap, ◌∙◌}
use Rattle.lef_grammar.specs.Library.{Library, layer_named}
use Rattle.cell_library.specs.LayerViews.{layer_name, layer_view}
use Rattle.cell_library.proofs.NamedLemmas.{lent_seen}
use Rattle.cell_library.proofs.library.Library.layer_named.Goals as goal

pub returns : goal.returns
returns g c =
    lent_seen _ _ layer_view layer_name (λ e. refl) c.args.name.now c.get.result c.self.inside.layers c.get.ensures
    ∙ ap (λ (l : Library). layer_named l c.args.name.now) c.self.view_is
