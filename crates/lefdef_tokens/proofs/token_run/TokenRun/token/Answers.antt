use Rattle.std.proofs.Common.{sym, ◌∙◌}
use Rattle.lefdef_tokens.specs.TokenViews.{token_of, pieces_of}
use Rattle.lefdef_tokens.proofs.RunLemmas.{item_none, item_some}
use Rattle.lefdef_tokens.proofs.token_run.TokenRun.token.Goals as goal

pub returns-in_err-token-clause-gives : goal.returns-in_err-token-clause-gives
returns-in_err-token-clause-gives c =
    rw c.from_residual.ensures (item_none (pieces_of c.args.self) c.args.n (sym c.skip.ensures.gives ∙ c.in_err-token.ensures.pieces))

pub returns-clause-gives : goal.returns-clause-gives
returns-clause-gives c =
    item_some (pieces_of c.args.self) c.args.n (token_of c.in_ok-token.token) (pieces_of c.in_ok-token.field-0-1) (sym c.skip.ensures.gives ∙ c.in_ok-token.ensures.pieces)
