-- The clauses of a net, read one by one for its rule and its wires.
use Rattle.std.proofs.Common.{◌≡◌, List}
use Rattle.std.specs.Prelude.{flat_map, MatchOption}
use Rattle.std.specs.Option.{option_map}
use Rattle.form_meanings.specs.Firsts.{first_of}
use Rattle.def_grammar.specs.Nets.{NetClause, rule_of_clause}
use Rattle.def_grammar.specs.NetWires.{wires_of}
use Rattle.lefdef_tokens.specs.Views.{word_view}
use Rattle.wire_parts.specs.NetWireViews.{paths_left}
use Rattle.wire_reading.specs.NetBegun.{begun_wires, first_then}
use Rattle.wire_reading.specs.declared.beginning.Begun.{Begun}

-- of all clauses these are left, and the others were noted
pub record Going (all left : List NetClause) (b : Begun) : Type 0 where
  pub rule : first_then (option_map word_view b.rule) (first_of rule_of_clause left) ≡ first_of rule_of_clause all
  pub wires : begun_wires b ≡ flat_map wires_of all
  pub unfound : MatchOption b.first (paths_left b.paths ≡ flat_map wires_of left) (λ w. Unit {0})
