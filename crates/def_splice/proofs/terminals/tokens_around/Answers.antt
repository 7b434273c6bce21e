use Rattle.std.proofs.Common.{◌+◌, ap, sym, ◌∙◌, length, ℕ}
use Rattle.statement_model.specs.Form.{spell}
use Rattle.def_grammar.specs.Terminals.{terminal}
use Rattle.lefdef_tokens.specs.Views.{rest_of, words_of}
use Rattle.wire_parts.specs.TerminalViews.{terminal_view, terminals_of as terminals_left}
use Rattle.def_splice.proofs.TerminalLemmas.{found, passed, words_left}
use Rattle.def_splice.proofs.terminals.tokens_around.Goals as goal

pub returns-then-is_terminal : goal.returns-then-is_terminal
returns-then-is_terminal c =
    let l = c.loop-terminal in
    let t = terminal_view c.in-Some.terminal in
    let count = length (words_of c.args.terminals.cursor.tokens) in
    let fewer = words_left (rest_of l.left.cursor) t (rest_of c.next.new.self.cursor) c.in-Some.ensures.reads in
    let words = l.invariant.here ∙ fewer ∙ ap (λ (n : ℕ). length (spell terminal t) + n) (sym c.len-behind.ensures) in
    found c.args.owner.now c.args.pin.now (terminals_left c.args.terminals) count (terminals_left l.left) l.before l.invariant.going t (terminals_left c.next.new.self) c.in-Some.ensures.step c.len-behind.result words (sym c.is_terminal.ensures ∙ c.if-is_terminal.true)

pub loop-terminal-preserved : goal.loop-terminal-preserved
loop-terminal-preserved c =
    let l = c.loop-terminal in
    let t = terminal_view c.in-Some.terminal in
    let count = length (words_of c.args.terminals.cursor.tokens) in
    let fewer = words_left (rest_of l.left.cursor) t (rest_of c.next.new.self.cursor) c.in-Some.ensures.reads in
    let words = l.invariant.here ∙ fewer ∙ ap (λ (n : ℕ). length (spell terminal t) + n) (sym c.len-behind.ensures) in
    record {
      here = c.len-behind.ensures;
      going = passed c.args.owner.now c.args.pin.now (terminals_left c.args.terminals) count (terminals_left l.left) l.before l.invariant.going t (terminals_left c.next.new.self) c.in-Some.ensures.step c.len-behind.result words (sym c.is_terminal.ensures ∙ c.if-is_terminal.false);
    }
