use Rattle.std.proofs.Common.{refl, sym, ap, ◌∙◌, Some}
use Rattle.lefdef_tokens.specs.Views.{rest_of}
use Rattle.wire_parts.specs.PathViews.{counts_view}
use Rattle.wire_parts.proofs.ArrayTokens.{size_reads}
use Rattle.wire_parts.proofs.paths.array_size_at.Goals as goal

pub returns-clause-gives : goal.returns-clause-gives
returns-clause-gives c =
    let found = c.in_ok-columns in
    let counts = counts_view (found.columns, found.rows) in
    size_reads (rest_of c.args.cursor) (counts, rest_of found.later) found.ensures.gives
    ∙ ap (λ z. Some (counts, z)) (sym (c.noted.ensures.noted ∙ rw (c.is_array-good.ensures, c.len.ensures) refl))
