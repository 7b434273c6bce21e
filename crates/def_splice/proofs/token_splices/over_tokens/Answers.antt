use Rattle.std.proofs.Common.{ap, ◌∙◌}
use Rattle.lefdef_tokens.specs.Views.{pieces_of}
use Rattle.def_splice.proofs.PlaceLemmas.{if_ok, span_end, span_start}
use Rattle.def_splice.proofs.token_splices.over_tokens.Goals as goal

pub returns-clause-cut : goal.returns-clause-cut
returns-clause-cut g c =
    let ps = pieces_of c.args.tokens in
    let low = ap (λ s. s.lo) c.span-span.ensures.gives ∙ span_start ps in
    let high = ap (λ s. s.hi) c.span-span.ensures.gives ∙ span_end ps in
    if_ok c.put_apart.result (λ s e. rw (low, high) at e) c.put_apart.ensures
