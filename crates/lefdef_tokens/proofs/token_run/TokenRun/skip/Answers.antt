use Rattle.std.proofs.Common.{◌≡◌, ◌-◌, ◌+◌, suc, arith, ◌∙◌}
use Rattle.lefdef_tokens.specs.TokenViews.{token_of, pieces_of, words_of}
use Rattle.lefdef_tokens.proofs.RunLemmas.{drop_on}
use Rattle.lefdef_tokens.proofs.token_run.TokenRun.skip.Goals as goal

pub loop-preserved : goal.loop-preserved
loop-preserved c =
    let i = c.loop.invariant in
    let n = c.args.count - (c.loop.counter + 1) in
    let less : c.args.count - c.loop.counter ≡ suc n = omega (arith, c.loop-test.true) in
    record {
      pieces = i.pieces ∙ drop_on (pieces_of c.loop.left) _ n (token_of c.in-Some.field-0-0) (pieces_of c.in-Some.later) less c.in-Some.ensures.pieces;
      words = i.words ∙ drop_on (words_of c.loop.left) _ n c.in-Some.field-0-0.bytes.now (words_of c.in-Some.later) less c.in-Some.ensures.words;
      same = c.in-Some.ensures.same ∙ i.same;
    }
