use Rattle.std.proofs.Common.{◌∷◌, [], ap, sym, ◌∙◌}
use Rattle.statement_model.specs.Cuts.{Cut}
use Rattle.def_splice.proofs.token_splices.made_one.Goals as goal

pub returns-in-Ok-clause-gives : goal.returns-in-Ok-clause-gives
returns-in-Ok-clause-gives g c = λ text plan cut free one is.
    let own = rw c.in-Ok.is at is in
    (free, one ∙ ap (λ (x : Cut). x ∷ []) (sym own))
