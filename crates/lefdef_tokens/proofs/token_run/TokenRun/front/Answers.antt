use Rattle.std.proofs.Common.{arith, refl}
use Rattle.std.proofs.lemmas.List.{take-map, take-take}
use Rattle.statement_model.specs.Tokens.{Token, left_from}
use Rattle.lefdef_tokens.specs.TokenViews.{pieces_of}
use Rattle.lefdef_tokens.proofs.token_run.TokenRun.front.Goals as goal

pub returns-clause-words : goal.returns-clause-words
returns-clause-words c =
    let run = c.args.self in
    rw (take-map (λ (p : Token). p.bytes) c.args.count (pieces_of run), take-take c.args.count run.count (left_from run.text.now run.pos).pieces (omega arith)) refl
