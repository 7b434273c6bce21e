use Rattle.std.proofs.Common.{arith, length-drop, sym, ap, ◌∙◌, length}
use Rattle.lefdef_tokens.specs.Views.{words_of}
use Rattle.def_splice.proofs.TokenLemmas.{words_counted}
use Rattle.def_splice.proofs.token_splices.tokens_behind.Goals as goal

pub front-requires : goal.front-requires
front-requires c =
    let left = sym (words_counted c.skip.result) ∙ ap length c.skip.ensures.words ∙ length-drop c.args.before (words_of c.args.statement) in
    omega (arith, left, c.requires)
