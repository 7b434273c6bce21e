use Rattle.std.proofs.Common.{◌≡◌, length}
use Rattle.lefdef_tokens.specs.Views.{words_of}
use Rattle.wire_parts.specs.TerminalViews.{terminals_of}
use Rattle.def_splice.proofs.TerminalLemmas.{Going}
use Rattle.def_splice.proofs.terminals.tokens_around.Given as goal

abbrev pub invariant-loop-terminal : goal.invariant-loop-terminal
invariant-loop-terminal l = record {
  here : l.before ≡ length (words_of l.left.cursor.tokens);
  going : Going l.owner l.pin (terminals_of l.fn.terminals) (length (words_of l.fn.terminals.cursor.tokens)) (terminals_of l.left) l.before;
}

abbrev pub decreases-loop-terminal : goal.decreases-loop-terminal
decreases-loop-terminal l = l.left.most
