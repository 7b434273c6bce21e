-- Reading the tokens of a statement from left to right, as their bytes alone. An invalid number, or one out of its range,
-- doesn't stop the reading: how many tokens were left where the first such one stands is carried along.
use Rattle.std.specs.Prelude.{◌≡◌, ℕ, Bool, true, false, not, ◌&&◌, ◌||◌, ◌==◌, List, [], ◌∷◌, length, Option, Some, None, codes, if◌then◌else◌}
use Rattle.std.specs.Str.{bytes_eq}

infixl 10 ◌>>=◌
abbrev pub ◌>>=◌ : {A B : Type 0} → Option A → (A → Option B) → Option B
(Some x) >>= f = f x
None >>= f = None

-- what a function returned, seen by a view, is what reading gives
abbrev pub Gives : {X Y : Type 0} → (X → Y) → Option X → Option Y → Type 0
Gives view (Some x) read = read ≡ Some (view x)
Gives view None read = read ≡ None

-- the tokens that are left, and how many were left where the first invalid number stood, itself counted
pub record Rest : Type 0 where
  pub words : List (List ℕ)
  pub bad : Option ℕ

-- this very word
abbrev pub is_word : List ℕ → List ℕ → Bool
is_word word w = bytes_eq w word

-- a string
abbrev pub is_quoted : List ℕ → Bool
is_quoted [] = false
is_quoted (b ∷ bs) = b == 34

abbrev pub is_plus : List ℕ → Bool
is_plus w = is_word (codes "+") w

abbrev pub is_semicolon : List ℕ → Bool
is_semicolon w = is_word (codes ";") w

-- the tokens that end a clause: the + of the next one, and the ; of the entry
abbrev pub is_stop : List ℕ → Bool
is_stop w = is_plus w || is_semicolon w

-- a word that begins no clause and ends no statement
abbrev pub is_plain : List ℕ → Bool
is_plain w = not (is_quoted w || is_stop w)

-- a word that can stand in the place of a number
abbrev pub is_place : List ℕ → Bool
is_place w = not (is_quoted w || is_semicolon w || is_word (codes "(") w || is_word (codes ")") w || is_plus w || is_word (codes "-") w)

abbrev pub is_name : List ℕ → Bool
is_name w = is_place w && not (is_word (codes "*") w)

-- the next token
abbrev pub next_of : List (List ℕ) → Option ℕ → Option (List ℕ × Rest)
next_of [] bad = None
next_of (w ∷ ws) bad = Some (w, record { words = ws; bad = bad })

abbrev pub next_word : Rest → Option (List ℕ × Rest)
next_word r = next_of r.words r.bad

-- one that passes a test
abbrev pub word_that : (List ℕ → Bool) → Rest → Option (List ℕ × Rest)
word_that test r = next_word r >>= λ p. (if test p.0 then Some p else None)

-- what comes after this very word
abbrev pub key : List ℕ → Rest → Option Rest
key word r = word_that (is_word word) r >>= λ p. Some p.1

abbrev pub name_at : Rest → Option (List ℕ × Rest)
name_at r = word_that is_name r

-- a bad number is noted, where none was before
abbrev pub first_bad : Bool → ℕ → Option ℕ → Option ℕ
first_bad true left bad = bad
first_bad false left None = Some left
first_bad false left (Some earlier) = Some earlier

-- the rest, with a number that is good or not, before which so many tokens were left
abbrev pub noted : Bool → ℕ → Rest → Rest
noted good left r = record { words = r.words; bad = first_bad good left r.bad }

-- a place for a number that passes a test
unfoldable pub number_at : (List ℕ → Bool) → Rest → Option (List ℕ × Rest)
number_at good r = do
  w ← word_that is_place r
  Some (w.0, noted (good w.0) (length r.words) w.1)

-- no token is left
abbrev pub is_empty : List (List ℕ) → Bool
is_empty [] = true
is_empty (w ∷ ws) = false

abbrev pub is_done : Rest → Bool
is_done r = is_empty r.words

-- the next token passes a test
abbrev pub first_passes : (List ℕ → Bool) → List (List ℕ) → Bool
first_passes test [] = false
first_passes test (w ∷ ws) = test w

abbrev pub next_passes : (List ℕ → Bool) → Rest → Bool
next_passes test r = first_passes test r.words

-- the tokens before the first that passes a test, and those from it on
unfoldable pub split_at : (List ℕ → Bool) → List (List ℕ) → List (List ℕ) × List (List ℕ)
split_at t [] = ([], [])
split_at t (w ∷ ws) = let later = split_at t ws in if t w then ([], w ∷ ws) else (w ∷ later.0, later.1)

abbrev pub split_rest : (List ℕ → Bool) → Rest → List (List ℕ) × Rest
split_rest t r = ((split_at t r.words).0, record { words = (split_at t r.words).1; bad = r.bad })

-- before the first of these tokens
abbrev pub start : List (List ℕ) → Rest
start ws = record { words = ws; bad = None }

-- a statement's form ends where its tokens do
abbrev pub ends : {A : Type 0} → A → Rest → Option (A × Option ℕ)
ends a r = if is_done r then Some (a, r.bad) else None

-- the first of a list
abbrev pub first : {A : Type 0} → List A → Option A
first [] = None
first (a ∷ all) = Some a
