use Rattle.std.proofs.Common.{rules}
use Rattle.lefdef_tokens.specs.Views.{pieces_of, rest_of}
use Rattle.statement_reader.proofs.PartLoops.{going_past}
use Rattle.statement_reader.proofs.PastLoops.{past_skipped}
use Rattle.statement_reader.proofs.parts.skip_usual.Goals as goal

pub loop-passed-preserved : goal.loop-passed-preserved
loop-passed-preserved g c = record {
  going = going_past g.P.Part.test g.P.Part.reads c.args.most c.args.most c.loop-passed.passed (rest_of c.args.cursor) (rest_of c.loop-passed.left) (rest_of c.in-Some.later) c.loop-passed-test.true c.in-Some.ensures.begins c.in-Some.ensures.gives c.loop-passed.invariant.going;
  past = past_skipped g.P.Part.spells g.P.Part.test g.P.Part.reads c.args.most c.args.most c.loop-passed.passed (rest_of c.args.cursor) (rest_of c.loop-passed.left) (rest_of c.in-Some.later) (pieces_of c.args.cursor.tokens) (pieces_of c.loop-passed.left.tokens) (pieces_of c.in-Some.later.tokens) c.loop-passed-test.true c.in-Some.ensures.begins c.in-Some.ensures.gives c.in-Some.ensures.left c.loop-passed.invariant.past;
  later = search rules;
}
