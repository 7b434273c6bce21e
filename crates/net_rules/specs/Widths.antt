-- How wide wires of NETS are, in database units, of which there are u in a micron (LEF/DEF 5.8 Language Reference, "Layer
-- (Routing)" and "Nondefault Rules").
use Rattle.std.specs.Prelude.{ℕ, List, Option, Some, None, ℤ}
use Rattle.std.specs.Option.{option_map}
use Rattle.design_model.specs.Units.{nearest}
use Rattle.form_meanings.specs.Words.{◌>>=◌}
use Rattle.wire_rules.specs.Sizes.{as_size}
use Rattle.lef_grammar.specs.Definitions as lef
use Rattle.form_meanings.specs.Firsts.{find_named}
use Rattle.lef_grammar.specs.Library.{Library, layer_named, rule_named}
use Rattle.lef_grammar.specs.Measures.{width_in}
use Rattle.def_grammar.specs.Numbers.{int_of}
use Rattle.def_grammar.specs.Rules.{Rule, RuleLayer}
use Rattle.def_grammar.specs.Records.{Record}
use Rattle.def_grammar.specs.Wiring.{Taper, tapered, tapered_by, not_tapered}
use Rattle.entry_rules.specs.References.{rule_layers}
use Rattle.entry_rules.specs.ViaLayers.{def_rule_named}

abbrev pub width_of : ℕ → Option lef.Layer → ℤ
width_of u None = width_in u None
width_of u (Some layer) = width_in u layer.width

-- the WIDTH of a layer; of one without, or that isn't defined, 0
abbrev pub layer_width : Library → ℕ → List ℕ → ℤ
layer_width library u layer = width_of u (layer_named library layer)

-- the width that a rule of DEF gives on a layer, by its first LAYER of that name
abbrev pub def_rule_width : List ℕ → Rule → Option ℤ
def_rule_width layer r = option_map (λ (l : RuleLayer). int_of l.width) (find_named (λ (l : RuleLayer). l.layer) (rule_layers r) layer)

-- the one that a rule of LEF gives; its LAYER without WIDTH gives none
abbrev pub lef_rule_width : ℕ → List ℕ → lef.Rule → Option ℤ
lef_rule_width u layer r = find_named (λ (l : lef.RuleLayer). l.name) r.layers layer >>= λ (l : lef.RuleLayer). option_map (λ w. nearest w u) l.width

-- a rule is looked up in DEF, and in LEF where it isn't there
abbrev pub width_by_either : ℕ → List ℕ → Option Rule → Option lef.Rule → Option ℤ
width_by_either u layer (Some r) other = def_rule_width layer r
width_by_either u layer None other = other >>= lef_rule_width u layer

abbrev pub rule_width : Library → List Record → ℕ → List ℕ → List ℕ → Option ℤ
rule_width library design u layer rule = width_by_either u layer (def_rule_named design rule) (rule_named library rule)

abbrev pub or_width : ℤ → Option ℤ → ℤ
or_width width None = width
or_width width (Some other) = other

-- the width by a rule, if there is one; a rule that isn't defined, or that has no such layer, leaves the layer's WIDTH
abbrev pub wire_width : Library → List Record → ℕ → Option (List ℕ) → List ℕ → ℤ
wire_width library design u rule layer = as_size (or_width (layer_width library u layer) (rule >>= rule_width library design u layer))

-- the rule of a wire: none where it is tapered, that of its TAPERRULE, or that of its net
abbrev pub rule_of_wire : Option (List ℕ) → Taper → Option (List ℕ)
rule_of_wire net tapered = None
rule_of_wire net (tapered_by rule) = Some rule
rule_of_wire net not_tapered = net
