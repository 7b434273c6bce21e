-- Adding what statements define, kind by kind.
use Rattle.std.proofs.Common.{◌≡◌, ℕ, List, OnOk, Result, Ok, Err, refl}
use Rattle.lef_grammar.specs.Definitions.{layers_of, macros_of, rules_of, sites_of, vias_of}
use Rattle.form_meanings.specs.Firsts.{with_all}
use Rattle.lef_grammar.specs.LefRecords.{LefRecord}
use Rattle.lef_grammar.specs.Library.{with_text}
use Rattle.cell_library.specs.LayerViews.{layer_name, layers_view}
use Rattle.cell_library.specs.LibraryViews.{library_view}
use Rattle.cell_library.specs.MacroViews.{macro_name, macros_view}
use Rattle.cell_library.specs.RuleViews.{rule_name, rules_view}
use Rattle.cell_library.specs.SiteViews.{site_name, sites_view}
use Rattle.cell_library.specs.ViaViews.{via_name, vias_view}
use Rattle.cell_library.specs.declared.layer.Layer.{Layer}
use Rattle.cell_library.specs.declared.macro_definition.Macro.{Macro}
use Rattle.cell_library.specs.declared.rule.Rule.{Rule}
use Rattle.cell_library.specs.declared.site.Site.{Site}
use Rattle.cell_library.specs.declared.via_definition.Via.{Via}

module _ {A E : Type 0} (layers : List (List ℕ × Layer)) (sites : List (List ℕ × Site)) (vias : List (List ℕ × Via A)) (rules : List (List ℕ × Rule A)) (macros : List (List ℕ × Macro A))
    (layers' : List (List ℕ × Layer)) (sites' : List (List ℕ × Site)) (vias' : List (List ℕ × Via A)) (rules' : List (List ℕ × Rule A)) (macros' : List (List ℕ × Macro A)) (recs : List LefRecord) where
  pub all_added : (r : Result (Unit {0}) E)
      → layers_view layers' ≡ with_all layer_name (layers_view layers) (layers_of recs)
      → sites_view sites' ≡ with_all site_name (sites_view sites) (sites_of recs)
      → vias_view vias' ≡ with_all via_name (vias_view vias) (vias_of recs)
      → rules_view rules' ≡ with_all rule_name (rules_view rules) (rules_of recs)
      → OnOk r (macros_view macros' ≡ with_all macro_name (macros_view macros) (macros_of recs))
      → OnOk r (library_view layers' sites' vias' rules' macros' ≡ with_text (library_view layers sites vias rules macros) recs)
  all_added (Err e) a b c d m = tt
  all_added (Ok u) a b c d m = rw (a, b, c, d, m) refl
