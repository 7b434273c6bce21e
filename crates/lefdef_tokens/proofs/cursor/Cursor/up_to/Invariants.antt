use Rattle.std.proofs.Common.{◌≡◌, ◌+◌, length, take}
use Rattle.lefdef_tokens.specs.Views.{IsLater, pieces_of, words_of}
use Rattle.lefdef_tokens.specs.Places.{behind}
use Rattle.lefdef_tokens.proofs.RunLemmas.{Going}
use Rattle.lefdef_tokens.proofs.cursor.Cursor.up_to.Given as goal

abbrev pub invariant-loop-token : goal.invariant-loop-token
invariant-loop-token g l = record {
  going : Going g.E.PartEnd.test (words_of l.self.tokens) l.count (words_of l.left.tokens);
  together : l.count + length (words_of l.left.tokens) ≡ length (words_of l.self.tokens);
  passed : pieces_of l.left.tokens ≡ behind (take l.count (words_of l.self.tokens)) (pieces_of l.self.tokens);
  bad : l.left.bad ≡ l.self.bad;
  later : IsLater l.self l.left;
}

abbrev pub decreases-loop-token : goal.decreases-loop-token
decreases-loop-token g l = length (words_of l.left.tokens)
