use Rattle.std.proofs.Common.{ℕ, length, sym, ap, ◌∙◌}
use Rattle.form_meanings.specs.Words.{is_plus}
use Rattle.form_meanings.specs.Meaning.{items, repeat}
use Rattle.statement_model.specs.Form.{read, spell}
use Rattle.def_grammar.specs.Components.{clause}
use Rattle.lefdef_tokens.specs.Views.{pieces_of, rest_of}
use Rattle.statement_reader.proofs.PartLoops.{items_are}
use Rattle.statement_reader.proofs.PastLoops.{after_items}
use Rattle.place_parts.proofs.StandingSteps.{none_next}
use Rattle.place_parts.proofs.standing.noted_clauses_at.Goals as goal

pub returns-in_err-clauses-clause-gives : goal.returns-in_err-clauses-clause-gives
returns-in_err-clauses-clause-gives c =
    let later = rest_of c.in_ok-noted.later in
    let none = c.in_err-clauses.ensures.gives in
    let some = none_next is_plus (read clause) (length later.words) later c.in_ok-noted.ensures.ends in
    absurd (cc)

pub returns-clause-gives : goal.returns-clause-gives
returns-clause-gives c =
    ap (λ (n : ℕ). repeat n is_plus (read clause) (rest_of c.args.cursor)) (sym c.len-most.ensures)
    ∙ items_are is_plus (read clause) c.len-most.result (rest_of c.args.cursor) (rest_of c.in_ok-noted.later) c.in_ok-noted.ensures.gives

pub returns-clause-left : goal.returns-clause-left
returns-clause-left c =
    let n = c.len-most.result in
    let here = rest_of c.args.cursor in
    let later = rest_of c.in_ok-noted.later in
    after_items (spell clause) (items n is_plus (read clause) here) (repeat n is_plus (read clause) here) later (pieces_of c.args.cursor.tokens) (pieces_of c.in_ok-noted.later.tokens) (items_are is_plus (read clause) n here later c.in_ok-noted.ensures.gives) c.in_ok-noted.ensures.left
