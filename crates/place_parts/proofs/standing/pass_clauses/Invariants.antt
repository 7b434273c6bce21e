use Rattle.std.proofs.Common.{◌-◌}
use Rattle.form_meanings.specs.Words.{is_plus}
use Rattle.form_meanings.specs.Meaning.{items}
use Rattle.statement_model.specs.Form.{read, spell}
use Rattle.def_grammar.specs.Components.{clause}
use Rattle.lefdef_tokens.specs.Views.{pieces_of, rest_of, IsLater}
use Rattle.statement_reader.specs.PartViews.{Going, GoingPast}
use Rattle.place_parts.proofs.StandingSteps.{Noting}
use Rattle.place_parts.proofs.standing.pass_clauses.Given as goal

abbrev pub invariant-loop : goal.invariant-loop
invariant-loop l = record {
  going : Going is_plus (read clause) l.most (rest_of l.cursor) (l.most - l.counter) (rest_of l.left);
  past : GoingPast (spell clause) is_plus (read clause) l.most (rest_of l.cursor) (pieces_of l.cursor.tokens) (l.most - l.counter) (rest_of l.left) (pieces_of l.left.tokens);
  noting : Noting (items l.most is_plus (read clause) (rest_of l.cursor)) (items (l.most - l.counter) is_plus (read clause) (rest_of l.left)) l.standing l.region;
  later : IsLater l.cursor l.left;
}
