-- The shapes of the via that was found are those of the name.
use Rattle.std.proofs.Common.{◌≡◌, ℕ, List, [], Option, Some, None, refl, sym, ap, ◌∙◌}
use Rattle.std.specs.Option.{option_map}
use Rattle.def_grammar.specs.DefVias.{DefVia}
use Rattle.def_grammar.specs.Records.{Record}
use Rattle.lef_grammar.specs.Definitions as lef
use Rattle.lef_grammar.specs.Library.{Library, via_named}
use Rattle.entry_rules.specs.ViaLayers.{def_via_named, or_lef}
use Rattle.net_rules.specs.ViaRectangles.{body_shapes, def_via_shapes, or_else, via_shapes}
use Rattle.design_wires.specs.FoundVias.{FoundVia, in_def, in_lef, shapes_of, via_found}

by_either : (u : ℕ) (a : Option DefVia) (b : Option lef.Via)
    → or_else [] (or_lef (option_map def_via_shapes a) (option_map (λ (v : lef.Via). body_shapes u v.body) b))
    ≡ or_else [] (option_map (shapes_of u) (or_lef (option_map in_def a) (option_map (λ (v : lef.Via). in_lef v.body) b)))
by_either u (Some v) b = refl
by_either u None (Some v) = refl
by_either u None None = refl

pub shapes_found : (library : Library) (design : List Record) (u : ℕ) (name : List ℕ) (found : Option FoundVia) → found ≡ via_found library design name
    → or_else [] (option_map (shapes_of u) found) ≡ via_shapes library design u name
shapes_found library design u name found e =
    ap (λ (o : Option FoundVia). or_else [] (option_map (shapes_of u) o)) e ∙ sym (by_either u (def_via_named design name) (via_named library name))
