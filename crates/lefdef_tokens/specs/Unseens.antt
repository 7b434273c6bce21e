-- Tokens of which none was looked for yet, as the words that are left.
use Rattle.std.specs.Prelude.{◌≡◌, ◌≤◌, ℕ, List, Option, Some, IfSome}
use Rattle.form_meanings.specs.Words.{Rest}
use Rattle.lefdef_tokens.specs.TokenViews.{words_of}
use Rattle.lefdef_tokens.specs.declared.token.Token.{Token}
use Rattle.lefdef_tokens.specs.declared.token_run.TokenRun.{TokenRun}
use Rattle.lefdef_tokens.specs.declared.unseen.Unseen.{Unseen}

abbrev pub unseen_rest : Unseen → Rest
unseen_rest u = record { words = words_of u.tokens; bad = u.bad }

-- a word, and what is left after it
abbrev pub unseen_word : Token × Unseen → List ℕ × Rest
unseen_word x = (x.0.bytes.now, unseen_rest x.1)

-- what a function found, seen by a view, is what reading gives; where it found nothing, it says nothing
abbrev pub Finds : {X Y : Type 0} → (X → Y) → Option X → Option Y → Type 0
Finds view found read = IfSome found (λ x. read ≡ Some (view x))

-- tokens of the same text, no nearer to its start, and no more of them
pub record IsFurther (old new : TokenRun) : Type 0 where
  pub text : new.text.now ≡ old.text.now
  pub further : old.pos ≤ new.pos
  pub fewer : new.count ≤ old.count
