-- Rules of the program as those of the definitions.
use Rattle.std.specs.Prelude.{ℕ, List, map}
use Rattle.std.specs.Option.{option_map}
use Rattle.lef_grammar.specs.Definitions.{Rule, RuleLayer}
use Rattle.unit_numbers.specs.Distances.{distance_of}
use Rattle.cell_library.specs.declared.rule.Rule as code_rule
use Rattle.cell_library.specs.declared.rule.RuleLayer as code_layer

abbrev pub rule_layer_name : RuleLayer → List ℕ
rule_layer_name l = l.name

abbrev pub rule_layer_view : List ℕ × code_layer.RuleLayer → RuleLayer
rule_layer_view e = record { name = e.0; width = option_map distance_of e.1.width }

abbrev pub rule_layers_view : List (List ℕ × code_layer.RuleLayer) → List RuleLayer
rule_layers_view es = map rule_layer_view es

abbrev pub rule_name : Rule → List ℕ
rule_name r = r.name

abbrev pub rule_view : {A : Type 0} → List ℕ × code_rule.Rule A → Rule
rule_view e = record { name = e.0; layers = rule_layers_view e.1.layers }

abbrev pub rules_view : {A : Type 0} → List (List ℕ × code_rule.Rule A) → List Rule
rules_view es = map rule_view es
