use Rattle.std.proofs.Common.{refl, ap, ◌∙◌}
use Rattle.lef_grammar.specs.Library.{Library, site_named}
use Rattle.cell_library.specs.SiteViews.{site_name, site_view}
use Rattle.cell_library.proofs.NamedLemmas.{lent_seen}
use Rattle.cell_library.proofs.library.Library.site.Goals as goal

pub returns : goal.returns
returns g c =
    lent_seen _ _ site_view site_name (λ e. refl) c.args.name.now c.get.result c.self.inside.sites c.get.ensures
    ∙ ap (λ (l : Library). site_named l c.args.name.now) c.self.view_is
