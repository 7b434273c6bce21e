-- Laws of texts, one after the other.
use Rattle.std.specs.Prelude.{◌≡◌, ℕ, ◌+◌, List, ◌++◌, length, Ok}
use Rattle.statement_model.specs.Tokens.{Token, lex}
use Rattle.statement_model.specs.Tokens.Open.{between}
use Rattle.statement_model.specs.Boundaries.{Ending, statements}
use Rattle.statement_model.specs.Folds.{◌>>◌}
use Rattle.statement_model.specs.Grammar.{Key, Grammar}
use Rattle.statement_model.specs.Reading.{read_from}
use Rattle.lefdef_tokens.specs.Laws.{state_after, IsClosed, BeginsApart}
use Rattle.statement_laws.specs.ReadingLaws.{ReadsAs}

-- a text at a place, without a fault of tokens, that ends outside of comments and strings
pub record IsWholeText (pos : ℕ) (text : List ℕ) : Type 0 where
  pub size : ℕ
  pub end : (lex pos between text).end ≡ Ok size
  pub closed : IsClosed (state_after pos between text)

-- Where such a text reads as whole statements, with their records and the state after them, and another text is empty or
-- begins with white space, reading both, one after the other, is reading on: the records of the first, and then those of
-- the second, read at its place from that state on; or the fault of that.
abbrev pub TextsJoin : {M R : Type 0} → Grammar M R → Type 0
TextsJoin {M = M} {R = R} g = (pos : ℕ) (s t : List ℕ) (state after : M × List Key) (recs : List R)
    → IsWholeText pos s
    → BeginsApart t
    → ReadsAs g state (lex pos between s).pieces recs after
    → read_from g state (lex pos between (s ++ t)) ≡ (read_from g after (lex (pos + length s) between t) >> λ later. Ok (recs ++ later))

-- The statements of two such texts, one after the other, are those of the first, and then those of the second at its
-- place, with the tokens that the first leaves over before them.
abbrev pub StatementsOfTextsJoin : Type 0
StatementsOfTextsJoin = (ending : List ℕ → Ending) (pos : ℕ) (begun : List Token) (s t : List ℕ)
    → IsWholeText pos s
    → BeginsApart t
    → let first = statements ending begun (lex pos between s).pieces in
    let second = statements ending first.1 (lex (pos + length s) between t).pieces in
    statements ending begun (lex pos between (s ++ t)).pieces ≡ (first.0 ++ second.0, second.1)
