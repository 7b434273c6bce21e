use Rattle.std.proofs.Common.{arith}
use Rattle.entry_references.proofs.TokenCounts.{few_words}
use Rattle.entry_references.proofs.token_count.few_tokens.Goals as goal

pub returns : goal.returns
returns c =
    let words = few_words c.args.cursor.now.tokens in
    let bytes = c.few_bytes.ensures in
    omega (arith, words, bytes)
