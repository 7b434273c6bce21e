-- Cursors in the program, as the words that they have left.
use Rattle.std.specs.Prelude.{◌≡◌, ◌≤◌, ℕ, List}
use denote.Ref.{Bor}
use Rattle.form_meanings.specs.Words.{Rest}
use Rattle.lefdef_tokens.specs.declared.cursor.Cursor.{Cursor}
use Rattle.lefdef_tokens.specs.declared.token.Token.{Token}
use Rattle.lefdef_tokens.specs.declared.token_run.TokenRun.{TokenRun}
pub use Rattle.lefdef_tokens.specs.TokenViews.{token_of, found_of, IsIn, IsNext, Steps, pieces_of, words_of, span_of}

-- a word that is lent
abbrev pub word_view : Bor (List ℕ) → List ℕ
word_view w = w.now

-- the words that a cursor has left
abbrev pub rest_of : Cursor → Rest
rest_of c = record { words = words_of c.tokens; bad = c.bad }

-- a word, and what is left after it
abbrev pub word_of : Token × Cursor → List ℕ × Rest
word_of x = (x.0.bytes.now, rest_of x.1)

-- the words of a run, and what is left after it
abbrev pub run_of : TokenRun × Cursor → List (List ℕ) × Rest
run_of x = (words_of x.0, rest_of x.1)

-- a cursor of the same text, no nearer to its start, with no more tokens left
pub record IsLater (old new : Cursor) : Type 0 where
  pub text : new.tokens.text.now ≡ old.tokens.text.now
  pub further : old.tokens.pos ≤ new.tokens.pos
  pub fewer : new.tokens.count ≤ old.tokens.count
