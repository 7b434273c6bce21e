use Rattle.std.proofs.Common.{refl, sym}
use Rattle.lefdef_tokens.specs.Views.{pieces_of, words_of}
use Rattle.lefdef_tokens.proofs.RunLemmas.{split_none}
use Rattle.lefdef_tokens.proofs.PlaceLemmas.{behind_own}
use Rattle.lefdef_tokens.proofs.cursor.Cursor.tail.Goals as goal

pub returns-clause-gives : goal.returns-clause-gives
returns-clause-gives c = rw (split_none (words_of c.args.self.tokens), c.at.ensures.tokens, c.at.ensures.bad) refl

pub returns-clause-left : goal.returns-clause-left
returns-clause-left c = rw c.at.ensures.tokens (sym (behind_own (pieces_of c.args.self.tokens)))
