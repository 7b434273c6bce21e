-- Forms of statements, and of parts of them. A form comes with the proof that it reads exactly what it spells.
use Rattle.std.specs.Prelude.{◌⊎◌, ℕ, Bool, false, List, Option}
use Rattle.form_meanings.specs.Words.{◌>>=◌, Rest, is_word, start, ends}
use Rattle.form_meanings.specs.Meaning.{Seen, Meaning, Exact, empty_meaning, word_meaning, number_meaning, one_of_meaning, upto_meaning, behind_meaning, before_meaning, closed_meaning, seq_meaning, alt_meaning, opt_meaning, many_meaning, or_else_meaning, seen_meaning, none_meaning, left_meaning, right_meaning, limited_meaning, given_meaning}
use Rattle.form_meanings.proofs.Exact.{empty_exact, word_exact, number_exact, one_of_exact, upto_exact, behind_exact, before_exact, closed_exact, seq_exact, alt_exact, opt_exact, many_exact, else_exact, seen_exact, none_exact, left_exact, right_exact, limited_exact, given_exact}

pub record Form (A : Type 0) : Type 1 where
  pub of : Meaning A
  pub exact : Exact of

-- reads a form
abbrev pub read : {A : Type 0} → Form A → Rest → Option (A × Rest)
read f = f.of.read

-- the words that a value is spelled with
abbrev pub spell : {A : Type 0} → Form A → A → List (List ℕ)
spell f = f.of.spell

-- a value stands in its form before these words
abbrev pub Fits : {A : Type 0} → Form A → A → List (List ℕ) → Type 0
Fits f = f.of.Fits

-- no token
abbrev pub empty : Form (Unit {0})
empty = record { of = empty_meaning; exact = empty_exact }

-- a word that passes a test
abbrev pub word : (List ℕ → Bool) → Form (List ℕ)
word t = record { of = word_meaning t; exact = word_exact t }

-- a place for a number that passes a test
abbrev pub number : (List ℕ → Bool) → Form (List ℕ)
number t = record { of = number_meaning t; exact = number_exact t }

-- one of these, each by its word
abbrev pub one_of : {A : Type 0} → (A → List ℕ) → List A → Form A
one_of word_of all = record { of = one_of_meaning word_of all; exact = one_of_exact word_of all }

-- tokens up to one that passes a test
abbrev pub upto : (List ℕ → Bool) → Form (List (List ℕ))
upto t = record { of = upto_meaning t; exact = upto_exact t }

infixr 20 ◌▸◌
infixr 20 ◌⨟◌
infixl 30 ◌◂◌
-- this very word, then a form
abbrev pub ◌▸◌ : {A : Type 0} → List ℕ → Form A → Form A
w ▸ f = record { of = behind_meaning w f.of; exact = behind_exact w f.of f.exact }

-- a form, then this very word
abbrev pub ◌◂◌ : {A : Type 0} → Form A → List ℕ → Form A
f ◂ w = record { of = before_meaning f.of w; exact = before_exact f.of w f.exact }

-- two forms one after the other
abbrev pub ◌⨟◌ : {A B : Type 0} → Form A → Form B → Form (A × B)
f ⨟ g = record { of = seq_meaning f.of g.of; exact = seq_exact f.of g.of f.exact g.exact }

-- a form that ends where a token that passes a test is next
abbrev pub closed : {A : Type 0} → (List ℕ → Bool) → Form A → Form A
closed t f = record { of = closed_meaning t f.of; exact = closed_exact t f.of f.exact }

-- the first form where the next token passes a test, else the second
abbrev pub alt : {A B : Type 0} → (List ℕ → Bool) → Form A → Form B → Form (A ⊎ B)
alt t f g = record { of = alt_meaning t f.of g.of; exact = alt_exact t f.of g.of f.exact g.exact }

-- a form where the next token passes a test, else nothing
abbrev pub opt : {A : Type 0} → (List ℕ → Bool) → Form A → Form (Option A)
opt t f = record { of = opt_meaning t f.of; exact = opt_exact t f.of f.exact }

-- a form as long as the next token passes a test
abbrev pub many : {A : Type 0} → (List ℕ → Bool) → Form A → Form (List A)
many t f = record { of = many_meaning t f.of; exact = many_exact t f.of f.exact }

-- the first form, or the second where the first doesn't read
abbrev pub or_else : {A B : Type 0} → Form A → Form B → Form (A ⊎ B)
or_else f g = record { of = or_else_meaning f.of g.of; exact = else_exact f.of g.of f.exact g.exact }

-- a form in other words
abbrev pub seen : {A B : Type 0} → Seen A B → Form A → Form B
seen s f = record { of = seen_meaning s f.of; exact = seen_exact s f.of f.exact }

-- a form behind a word, or the other where the word isn't there
abbrev pub on : {A B : Type 0} → List ℕ → Form A → Form B → Form (A ⊎ B)
on w f g = alt (is_word w) (w ▸ f) g

-- [word form]
abbrev pub opt_on : {A : Type 0} → List ℕ → Form A → Form (Option A)
opt_on w f = opt (is_word w) (w ▸ f)

-- no value at all
abbrev pub no_form : {A : Type 0} → Form A
no_form = record { of = none_meaning; exact = none_exact }

-- a form, where the values of another type have none
abbrev pub left : {A B : Type 0} → Form A → Form (A ⊎ B)
left f = record { of = left_meaning f.of; exact = left_exact f.of f.exact }

abbrev pub right : {A B : Type 0} → Form B → Form (A ⊎ B)
right g = record { of = right_meaning g.of; exact = right_exact g.of g.exact }

-- all tokens that are left
abbrev pub tail : Form (List (List ℕ))
tail = upto (λ w. false)

-- the value that these tokens are, and how many of them were left at the first invalid number
abbrev pub whole : {A : Type 0} → Form A → List (List ℕ) → Option (A × Option ℕ)
whole f ws = read f (start ws) >>= λ a. ends a.0 a.1

-- a form whose value has to pass a further test: where it doesn't, the number with which its last n words begin is bad
abbrev pub limited : {A : Type 0} → (A → Bool) → ℕ → Form A → Form A
limited t n f = record { of = limited_meaning t n f.of; exact = limited_exact t n f.of f.exact }

-- this very value, and no token
abbrev pub given : {A : Type 0} → A → Form A
given a = record { of = given_meaning a; exact = given_exact a }
