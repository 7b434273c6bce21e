use Rattle.std.proofs.Common.{◌≤◌, ◌-◌, ap, sym, subst, ◌∙◌, length, List, ℕ}
use Rattle.def_grammar.specs.Terminals.{Terminal}
use Rattle.lefdef_tokens.specs.Views.{pieces_of, words_of}
use Rattle.wire_parts.specs.TerminalViews.{terminals_of as terminals_left}
use Rattle.edit_rules.specs.NetEdits.{front_of}
use Rattle.def_splice.proofs.TerminalLemmas.{end_is, left_within}
use Rattle.def_splice.proofs.TokenLemmas.{pieces_counted}
use Rattle.def_splice.proofs.terminals.tokens_to_end.Goals as goal

pub overflow_sub-result : goal.overflow_sub-result
overflow_sub-result c =
    let ts = terminals_left c.in-Some.field-0-0 in
    let ps = pieces_of c.args.tokens in
    let lent = c.in-Some.ensures.lent ps c.requires.lent in
    subst (λ (n : ℕ). c.in-Some.left ≤ n) (pieces_counted c.args.tokens ∙ sym c.len.ensures) (left_within ts ps c.in-Some.left lent.1)

pub returns-in-Some : goal.returns-in-Some
returns-in-Some c =
    let ts = terminals_left c.in-Some.field-0-0 in
    let ps = pieces_of c.args.tokens in
    let lent = c.in-Some.ensures.lent ps c.requires.lent in
    let own = subst (λ (us : List Terminal). front_of us ≤ length (words_of c.args.tokens)) c.in-Some.ensures.gives c.requires.within in
    let fits = subst (λ (n : ℕ). front_of ts ≤ n) (sym (pieces_counted c.args.tokens)) own in
    ap (λ (n : ℕ). n - c.in-Some.left) (c.len.ensures ∙ sym (pieces_counted c.args.tokens)) ∙ end_is ts ps c.in-Some.left lent.1 fits ∙ ap front_of (sym c.in-Some.ensures.gives)
