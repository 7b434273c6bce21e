-- The width of the first LAYER of a name among clauses of a rule of DEF.
use Rattle.std.specs.Prelude.{ℕ, List, Option, ℤ}
use Rattle.std.specs.List.{filter_map}
use Rattle.std.specs.Option.{option_map}
use Rattle.form_meanings.specs.Firsts.{find_named}
use Rattle.def_grammar.specs.Numbers.{int_of}
use Rattle.def_grammar.specs.Rules.{RuleClause, RuleLayer, layer_of_rule}

abbrev pub layer_name : RuleLayer → List ℕ
layer_name l = l.layer

abbrev pub width_of : RuleLayer → ℤ
width_of l = int_of l.width

abbrev pub first_width : List ℕ → List RuleClause → Option ℤ
first_width layer clauses = option_map width_of (find_named layer_name (filter_map layer_of_rule clauses) layer)
