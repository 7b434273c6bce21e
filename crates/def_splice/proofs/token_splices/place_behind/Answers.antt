use Rattle.std.proofs.Common.{sym, ap, ◌∙◌}
use Rattle.statement_model.specs.Cuts.{end_of_all}
use Rattle.lefdef_tokens.specs.Views.{pieces_of}
use Rattle.def_splice.proofs.PlaceLemmas.{span_end}
use Rattle.def_splice.proofs.TokenLemmas.{gap_behind}
use Rattle.def_splice.proofs.token_splices.place_behind.Goals as goal

pub returns-else-before-eq0-clause-gives : goal.returns-else-before-eq0-clause-gives
returns-else-before-eq0-clause-gives c =
    ap (λ s. s.hi) c.span-else-before-eq0.ensures.gives ∙ span_end (pieces_of c.front.result) ∙ ap end_of_all c.front.ensures.gives ∙ sym (gap_behind c.args.before (pieces_of c.args.statement) (λ e. c.if-before-eq0.false e))
