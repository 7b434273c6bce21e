use Rattle.std.proofs.Common.{arith, refl, sym, ◌∙◌, rules}
use Rattle.lefdef_tokens.specs.Views.{pieces_of, words_of}
use Rattle.lefdef_tokens.proofs.RunLemmas.{going_on, going_stops, going_ends}
use Rattle.lefdef_tokens.proofs.PlaceLemmas.{passed_on, passed_all}
use Rattle.lefdef_tokens.proofs.cursor.Cursor.up_to.Goals as goal

pub returns-then-is_at-clause-gives : goal.returns-then-is_at-clause-gives
returns-then-is_at-clause-gives g c =
    let i = c.loop-token.invariant in
    let found = c.in-Some.ensures.first in
    rw (going_stops g.E.PartEnd.test (words_of c.args.self.tokens) (words_of c.loop-token.left.tokens) c.loop-token.count c.in-Some.token.bytes.now (words_of c.in-Some.later.tokens) found (sym c.is_at.ensures ∙ c.if-is_at.true) i.going, c.front.ensures.words, i.bad) refl

pub loop-token-preserved : goal.loop-token-preserved
loop-token-preserved g c =
    let i = c.loop-token.invariant in
    let found = c.in-Some.ensures.first in
    record {
      going = going_on g.E.PartEnd.test (words_of c.args.self.tokens) (words_of c.loop-token.left.tokens) c.loop-token.count c.in-Some.token.bytes.now (words_of c.in-Some.later.tokens) found (sym c.is_at.ensures ∙ c.if-is_at.false) i.going;
      together = grind (arith, i.together, found);
      passed = passed_on (words_of c.args.self.tokens) c.loop-token.count c.in-Some.token.bytes.now (words_of c.in-Some.later.tokens) (pieces_of c.args.self.tokens) (pieces_of c.loop-token.left.tokens) (pieces_of c.in-Some.later.tokens) (i.going.behind ∙ found) i.passed c.in-Some.ensures.left;
      bad = c.in-Some.ensures.bad ∙ i.bad;
      later = search rules;
    }

pub returns-clause-gives : goal.returns-clause-gives
returns-clause-gives g c =
    let i = c.loop-token.invariant in
    rw (going_ends g.E.PartEnd.test (words_of c.args.self.tokens) (words_of c.loop-token.left.tokens) c.loop-token.count c.in_default.ensures.first i.going, i.bad) refl

pub returns-then-is_at-clause-left : goal.returns-then-is_at-clause-left
returns-then-is_at-clause-left g c = rw c.front.ensures.words c.loop-token.invariant.passed

pub returns-clause-left : goal.returns-clause-left
returns-clause-left g c =
    let i = c.loop-token.invariant in
    passed_all (words_of c.args.self.tokens) c.loop-token.count (pieces_of c.args.self.tokens) (pieces_of c.loop-token.left.tokens) (i.going.behind ∙ c.in_default.ensures.first) i.passed
