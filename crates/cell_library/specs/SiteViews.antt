-- Sites of the program as those of the definitions.
use Rattle.std.specs.Prelude.{ℕ, List, map}
use Rattle.std.specs.Option.{option_map}
use Rattle.lef_grammar.specs.Definitions.{Site}
use Rattle.cell_library.specs.Numbers.{point_view}
use Rattle.cell_library.specs.declared.site.Site as code_site

abbrev pub site_name : Site → List ℕ
site_name s = s.name

abbrev pub site_view : List ℕ × code_site.Site → Site
site_view e = record { name = e.0; size = option_map point_view e.1.size }

abbrev pub sites_view : List (List ℕ × code_site.Site) → List Site
sites_view es = map site_view es
