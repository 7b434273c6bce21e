-- Reading two texts, one after the other.
use Rattle.std.proofs.Common.{◌≡◌, ℕ, ◌+◌, List, ◌++◌, length, ap, ◌∙◌}
use Rattle.statement_model.specs.Tokens.{Lexed, before, lex}
use Rattle.statement_model.specs.Tokens.Open.{between}
use Rattle.statement_model.specs.Boundaries.{statements}
use Rattle.statement_model.specs.Grammar.{Grammar}
use Rattle.statement_model.specs.Reading.{read_from}
use Rattle.lefdef_tokens.specs.Laws.{BeginsApart}
use Rattle.lefdef_tokens.proofs.Joining.{join}
use Rattle.statement_laws.specs.JoiningLaws.{IsWholeText, TextsJoin, StatementsOfTextsJoin}
use Rattle.statement_laws.proofs.Reading.{reading_joins}
use Rattle.statement_laws.proofs.StatementLists.{statements_join}

-- the tokens of both texts are those of the first and then those of the second
both_tokens : (pos : ℕ) (s t : List ℕ) → IsWholeText pos s → BeginsApart t → lex pos between (s ++ t) ≡ before (lex pos between s).pieces (lex (pos + length s) between t)
both_tokens pos s t whole apart = join s t pos whole.size between whole.end whole.closed apart

pub texts_join : {M R : Type 0} (g : Grammar M R) → TextsJoin g
texts_join g pos s t state after recs whole apart reads =
    ap (read_from g state) (both_tokens pos s t whole apart)
    ∙ reading_joins g state after (lex pos between s).pieces recs (lex (pos + length s) between t) reads

pub statements_of_texts_join : StatementsOfTextsJoin
statements_of_texts_join ending pos begun s t whole apart =
    ap (λ (l : Lexed). statements ending begun l.pieces) (both_tokens pos s t whole apart)
    ∙ statements_join ending (lex pos between s).pieces (lex (pos + length s) between t).pieces begun
