use Rattle.std.proofs.Common.{◌∙◌, sym}
use Rattle.def_grammar.specs.SpecialNets.{special_listed}
use Rattle.lefdef_tokens.specs.Views.{rest_of}
use Rattle.wire_parts.specs.SpecialNetViews.{special_by_word, special_clause_view}
use Rattle.wire_parts.proofs.ClosedForms.{closed_none, closed_some, none_closed}
use Rattle.wire_parts.proofs.special_nets.listed_at.Goals as goal

pub returns-then-next_is_stop-clause-gives : goal.returns-then-next_is_stop-clause-gives
unfolding special_listed
returns-then-next_is_stop-clause-gives c =
    let found = c.in_ok-clause in
    closed_some special_by_word (rest_of c.args.cursor) (special_clause_view found.clause, rest_of found.cursor) found.ensures.gives (sym c.next_is_stop.ensures ∙ c.if-next_is_stop.true)

pub returns-else-next_is_stop-clause-gives : goal.returns-else-next_is_stop-clause-gives
unfolding special_listed
returns-else-next_is_stop-clause-gives c =
    let found = c.in_ok-clause in
    closed_none special_by_word (rest_of c.args.cursor) (special_clause_view found.clause, rest_of found.cursor) found.ensures.gives (sym c.next_is_stop.ensures ∙ c.if-next_is_stop.false)

pub returns-in_err-clause-clause-gives : goal.returns-in_err-clause-clause-gives
unfolding special_listed
returns-in_err-clause-clause-gives c = rw (c.from_residual.ensures) (none_closed special_by_word (rest_of c.args.cursor) c.in_err-clause.ensures.gives)
