use Rattle.std.proofs.Common.{◌-◌}
use Rattle.lefdef_tokens.specs.Views.{pieces_of, rest_of, IsLater}
use Rattle.statement_reader.specs.PartViews.{Going, GoingPast}
use Rattle.statement_reader.proofs.parts.pass_parts.Given as goal

abbrev pub invariant-loop : goal.invariant-loop
invariant-loop g l = record {
  going : Going g.P.Part.test g.P.Part.reads l.most (rest_of l.cursor) (l.most - l.counter) (rest_of l.left);
  past : GoingPast g.P.Part.spells g.P.Part.test g.P.Part.reads l.most (rest_of l.cursor) (pieces_of l.cursor.tokens) (l.most - l.counter) (rest_of l.left) (pieces_of l.left.tokens);
  later : IsLater l.cursor l.left;
}
