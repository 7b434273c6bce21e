use Rattle.std.proofs.Common.{◌-◌, length, take, ap, ◌∙◌}
use Rattle.std.proofs.lemmas.List.{length-map}
use Rattle.lefdef_tokens.specs.TokenViews.{span_of}
use Rattle.lefdef_tokens.specs.Views.{pieces_of}
use Rattle.def_splice.proofs.PlaceLemmas.{if_ok, span_end}
use Rattle.def_splice.proofs.place.clause_splice.Goals as goal

pub returns-in-None-clause-gives : goal.returns-in-None-clause-gives
returns-in-None-clause-gives g c =
    let ps = pieces_of c.args.entry in
    let count = c.len.ensures ∙ length-map ps (λ p. p.bytes) in
    let high = ap (λ s. s.hi) c.span-end.ensures.gives ∙ ap (λ qs. (span_of qs).hi) (c.front.ensures.gives ∙ ap (λ n. take (n - 1) ps) count) ∙ span_end (take (length ps - 1) ps) in
    rw c.in-None.is (if_ok c.put_apart.result (λ s e. rw high at e) c.put_apart.ensures)
