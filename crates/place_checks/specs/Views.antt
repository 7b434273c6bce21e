-- Boxes of the program as those of the definitions.
use Rattle.std.specs.Prelude.{[], None, map}
use Rattle.std.specs.Option.{option_map}
use Rattle.design_model.specs.declared.geometry.Orient.TheVariants.{N}
use Rattle.design_model.specs.Views.{rectangle_of}
use Rattle.design_rules.specs.Boxes.{Boxed}
use Rattle.lefdef_tokens.specs.Views.{word_view}
use Rattle.place_checks.specs.declared.placed_box.PlacedBox.{PlacedBox}
use Rattle.place_checks.specs.declared.swept_box.SweptBox.{SweptBox}

abbrev pub boxed_view : PlacedBox → Boxed
boxed_view b = record {
  name = b.name.now;
  box = rectangle_of b.rect;
  orient = b.orient;
  class = option_map word_view b.class;
  sites = map word_view b.sites.now;
  region = option_map word_view b.region;
}

-- a component with its name and its box alone, on which its lines with others and with rectangles depend
abbrev pub bare : Boxed → Boxed
bare b = record { name = b.name; box = b.box; orient = N; class = None; sites = []; region = None }

abbrev pub swept_view : SweptBox → Boxed
swept_view s = record { name = s.name.now; box = rectangle_of s.rect; orient = N; class = None; sites = []; region = None }
