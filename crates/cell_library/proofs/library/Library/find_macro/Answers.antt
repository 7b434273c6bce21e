use Rattle.std.proofs.Common.{refl, ap, ◌∙◌}
use Rattle.lef_grammar.specs.Library.{Library, macro_named}
use Rattle.cell_library.specs.MacroViews.{macro_name, macro_view}
use Rattle.cell_library.proofs.NamedLemmas.{found_as}
use Rattle.cell_library.proofs.library.Library.find_macro.Goals as goal

pub returns : goal.returns
returns g c =
    found_as _ _ macro_view macro_name (λ e. refl) c.args.name.now c.find.result c.self.inside.macros c.find.ensures
    ∙ ap (λ (l : Library). macro_named l c.args.name.now) c.self.view_is
