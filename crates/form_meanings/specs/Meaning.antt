-- What forms of statements mean: how they are read, and the words that their values are spelled with.
use Rattle.std.specs.Prelude.{◌≡◌, ◌≤◌, ◌⊎◌, ℕ, ◌+◌, zero, suc, Bool, true, false, ◌||◌, List, [], ◌∷◌, ◌++◌, length, Option, Some, None, if◌then◌else◌}
use Rattle.std.proofs.Common.{inl, inr}
use Rattle.std.specs.List.{All}
use Rattle.std.specs.Option.{option_or}
use Rattle.form_meanings.specs.Words.{◌>>=◌, Rest, is_word, is_place, next_word, word_that, key, number_at, is_empty, first_passes, next_passes, split_rest, noted, start}

-- a type that is another one in other words
pub record Seen (A B : Type 0) : Type 0 where
  pub to : A → B
  pub from : B → A
  pub to_from : (b : B) → to (from b) ≡ b
  pub from_to : (a : A) → from (to a) ≡ a

-- the first value with this word
abbrev pub find : {A : Type 0} → (A → List ℕ) → List A → List ℕ → Option A
find word_of [] w = None
find word_of (a ∷ all) w = if is_word (word_of a) w then Some a else find word_of all w

-- at most n times
unfoldable pub repeat : {A : Type 0} → ℕ → (List ℕ → Bool) → (Rest → Option (A × Rest)) → Rest → Option (List A × Rest)
repeat zero t f r = if next_passes t r then None else Some ([], r)
repeat (suc n) t f r =
    if next_passes t r then (do
      first ← f r
      others ← repeat n t f first.1
      Some (first.0 ∷ others.0, others.1))
    else Some ([], r)

abbrev pub read_many : {A : Type 0} → (List ℕ → Bool) → (Rest → Option (A × Rest)) → Rest → Option (List A × Rest)
read_many t f r = repeat (length r.words) t f r

-- a value, and then those of what is left behind it
abbrev pub item_then : {A : Type 0} → Option (A × Rest) → (Rest → List A) → List A
item_then None later = []
item_then (Some x) later = x.0 ∷ later x.1

-- the values that can be read one after the other, at most n
unfoldable pub items : {A : Type 0} → ℕ → (List ℕ → Bool) → (Rest → Option (A × Rest)) → Rest → List A
items zero t f r = []
items (suc n) t f r = if next_passes t r then item_then (f r) (items n t f) else []

-- the first reading, or the other where there is none
abbrev pub or_other : {A B : Type 0} → Option (A × Rest) → Option (B × Rest) → Option ((A ⊎ B) × Rest)
or_other (Some a) other = Some (inl a.0, a.1)
or_other None other = other >>= λ b. Some (inr b.0, b.1)

-- the words that several values are spelled with
abbrev pub spell_all : {A : Type 0} → (A → List (List ℕ)) → List A → List (List ℕ)
spell_all f [] = []
spell_all f (a ∷ all) = f a ++ spell_all f all

-- no token, or one that passes a test
abbrev pub first_or_end : (List ℕ → Bool) → List (List ℕ) → Bool
first_or_end t ws = is_empty ws || first_passes t ws

-- each of these values fits where it stands, before these words, and none is left
abbrev pub FitAll : {A : Type 0} → (List ℕ → Bool) → (A → List (List ℕ)) → (A → List (List ℕ) → Type 0) → List A → List (List ℕ) → Type 0
FitAll t f fit [] ws = first_passes t ws ≡ false
FitAll t f fit (a ∷ all) ws = (first_passes t (f a ++ (spell_all f all ++ ws)) ≡ true) × fit a (spell_all f all ++ ws) × FitAll t f fit all ws

-- the first bad number of several values before these words
abbrev pub bad_of_all : {A : Type 0} → (A → List (List ℕ)) → (A → List (List ℕ) → Option ℕ) → List A → List (List ℕ) → Option ℕ
bad_of_all f bad [] ws = None
bad_of_all f bad (a ∷ all) ws = option_or (bad a (spell_all f all ++ ws)) (bad_of_all f bad all ws)

-- What a form of values of a type means: how it is read, the words that a value is spelled with, when a value stands
-- in it before these words, and how many words are left where the value's first bad number stands, itself counted.
pub record Meaning (A : Type 0) : Type 1 where
  pub read : Rest → Option (A × Rest)
  pub spell : A → List (List ℕ)
  pub Fits : A → List (List ℕ) → Type 0
  pub bad : A → List (List ℕ) → Option ℕ

-- a value stands first in its form, and what is left comes behind it
pub record Shown {A : Type 0} (f : Meaning A) (r : Rest) (a : A) (r2 : Rest) : Type 0 where
  pub words : r.words ≡ f.spell a ++ r2.words
  pub fits : f.Fits a r2.words
  pub bad : r2.bad ≡ option_or r.bad (f.bad a r2.words)

-- reading is exactly that
pub record Exact {A : Type 0} (f : Meaning A) : Type 0 where
  pub shows : (r : Rest) (p : A × Rest) → f.read r ≡ Some p → Shown f r p.0 p.1
  pub reads : (r r2 : Rest) (a : A) → Shown f r a r2 → f.read r ≡ Some (a, r2)

-- no token
abbrev pub empty_meaning : Meaning (Unit {0})
empty_meaning = record { read = λ r. Some (tt, r); spell = λ u. []; Fits = λ u ws. Unit {0}; bad = λ u ws. None }

-- a word that passes a test
abbrev pub word_meaning : (List ℕ → Bool) → Meaning (List ℕ)
word_meaning t = record { read = word_that t; spell = λ w. w ∷ []; Fits = λ w ws. t w ≡ true; bad = λ w ws. None }

-- a place for a number that passes a test
abbrev pub number_meaning : (List ℕ → Bool) → Meaning (List ℕ)
number_meaning t = record {
  read = number_at t;
  spell = λ w. w ∷ [];
  Fits = λ w ws. is_place w ≡ true;
  bad = λ w ws. if t w then None else Some (length (w ∷ ws));
}

-- one of these, each by its word
abbrev pub one_of_meaning : {A : Type 0} → (A → List ℕ) → List A → Meaning A
one_of_meaning word_of all = record {
  read = λ r. next_word r >>= λ w. find word_of all w.0 >>= λ a. Some (a, w.1);
  spell = λ a. word_of a ∷ [];
  Fits = λ a ws. find word_of all (word_of a) ≡ Some a;
  bad = λ a ws. None;
}

-- tokens up to one that passes a test
abbrev pub upto_meaning : (List ℕ → Bool) → Meaning (List (List ℕ))
upto_meaning t = record {
  read = λ r. Some (split_rest t r);
  spell = λ vs. vs;
  Fits = λ vs ws. All (λ v. t v ≡ false) vs × (first_or_end t ws ≡ true);
  bad = λ vs ws. None;
}

-- this very word, then a form
abbrev pub behind_meaning : {A : Type 0} → List ℕ → Meaning A → Meaning A
behind_meaning w f = record {
  read = λ r. key w r >>= λ a. f.read a;
  spell = λ a. w ∷ f.spell a;
  Fits = f.Fits;
  bad = f.bad;
}

-- a form, then this very word
abbrev pub before_meaning : {A : Type 0} → Meaning A → List ℕ → Meaning A
before_meaning f w = record {
  read = λ r. f.read r >>= λ a. key w a.1 >>= λ b. Some (a.0, b);
  spell = λ a. f.spell a ++ w ∷ [];
  Fits = λ a ws. f.Fits a (w ∷ ws);
  bad = λ a ws. f.bad a (w ∷ ws);
}

-- a form that ends where a token that passes a test is next
abbrev pub closed_meaning : {A : Type 0} → (List ℕ → Bool) → Meaning A → Meaning A
closed_meaning t f = record {
  read = λ r. f.read r >>= λ a. (if next_passes t a.1 then Some a else None);
  spell = f.spell;
  Fits = λ a ws. (first_passes t ws ≡ true) × f.Fits a ws;
  bad = f.bad;
}

-- two forms one after the other
abbrev pub seq_meaning : {A B : Type 0} → Meaning A → Meaning B → Meaning (A × B)
seq_meaning f g = record {
  read = λ r. f.read r >>= λ a. g.read a.1 >>= λ b. Some ((a.0, b.0), b.1);
  spell = λ x. f.spell x.0 ++ g.spell x.1;
  Fits = λ x ws. f.Fits x.0 (g.spell x.1 ++ ws) × g.Fits x.1 ws;
  bad = λ x ws. option_or (f.bad x.0 (g.spell x.1 ++ ws)) (g.bad x.1 ws);
}

-- the first form where the next token passes a test, else the second
abbrev pub alt_meaning : {A B : Type 0} → (List ℕ → Bool) → Meaning A → Meaning B → Meaning (A ⊎ B)
alt_meaning t f g = record {
  read = λ r. if next_passes t r then (f.read r >>= λ a. Some (inl a.0, a.1)) else (g.read r >>= λ b. Some (inr b.0, b.1));
  spell = elim [ inl a ↦ f.spell a | inr b ↦ g.spell b ];
  Fits = elim [
    | inl a ↦ λ ws. (first_passes t (f.spell a ++ ws) ≡ true) × f.Fits a ws
    | inr b ↦ λ ws. (first_passes t (g.spell b ++ ws) ≡ false) × g.Fits b ws
  ];
  bad = elim [ inl a ↦ f.bad a | inr b ↦ g.bad b ];
}

-- a form where the next token passes a test, else nothing
abbrev pub opt_meaning : {A : Type 0} → (List ℕ → Bool) → Meaning A → Meaning (Option A)
opt_meaning t f = record {
  read = λ r. if next_passes t r then (f.read r >>= λ a. Some (Some a.0, a.1)) else Some (None, r);
  spell = elim [ Some a ↦ f.spell a | None ↦ [] ];
  Fits = elim [
    | Some a ↦ λ ws. (first_passes t (f.spell a ++ ws) ≡ true) × f.Fits a ws
    | None ↦ λ ws. first_passes t ws ≡ false
  ];
  bad = elim [ Some a ↦ f.bad a | None ↦ λ ws. None ];
}

-- a form as long as the next token passes a test
abbrev pub many_meaning : {A : Type 0} → (List ℕ → Bool) → Meaning A → Meaning (List A)
many_meaning t f = record {
  read = read_many t f.read;
  spell = spell_all f.spell;
  Fits = λ xs ws. (length xs ≤ length (spell_all f.spell xs ++ ws)) × FitAll t f.spell f.Fits xs ws;
  bad = bad_of_all f.spell f.bad;
}

-- the first form, or the second where the first doesn't read
abbrev pub or_else_meaning : {A B : Type 0} → Meaning A → Meaning B → Meaning (A ⊎ B)
or_else_meaning f g = record {
  read = λ r. or_other (f.read r) (g.read r);
  spell = elim [ inl a ↦ f.spell a | inr b ↦ g.spell b ];
  Fits = elim [ inl a ↦ f.Fits a | inr b ↦ λ ws. (f.read (start (g.spell b ++ ws)) ≡ None) × g.Fits b ws ];
  bad = elim [ inl a ↦ f.bad a | inr b ↦ g.bad b ];
}

-- a form in other words
abbrev pub seen_meaning : {A B : Type 0} → Seen A B → Meaning A → Meaning B
seen_meaning s f = record {
  read = λ r. f.read r >>= λ a. Some (s.to a.0, a.1);
  spell = λ b. f.spell (s.from b);
  Fits = λ b. f.Fits (s.from b);
  bad = λ b. f.bad (s.from b);
}

-- no value at all
abbrev pub none_meaning : {A : Type 0} → Meaning A
none_meaning = record { read = λ r. None; spell = λ a. []; Fits = λ a ws. ⊥; bad = λ a ws. None }

-- a form, where other values have no form
abbrev pub left_meaning : {A B : Type 0} → Meaning A → Meaning (A ⊎ B)
left_meaning f = record {
  read = λ r. f.read r >>= λ a. Some (inl a.0, a.1);
  spell = elim [ inl a ↦ f.spell a | inr b ↦ [] ];
  Fits = elim [ inl a ↦ f.Fits a | inr b ↦ λ ws. ⊥ ];
  bad = elim [ inl a ↦ f.bad a | inr b ↦ λ ws. None ];
}

abbrev pub right_meaning : {A B : Type 0} → Meaning B → Meaning (A ⊎ B)
right_meaning g = record {
  read = λ r. g.read r >>= λ b. Some (inr b.0, b.1);
  spell = elim [ inl a ↦ [] | inr b ↦ g.spell b ];
  Fits = elim [ inl a ↦ λ ws. ⊥ | inr b ↦ g.Fits b ];
  bad = elim [ inl a ↦ λ ws. None | inr b ↦ g.bad b ];
}

-- a form whose value has to pass a further test: where it doesn't, the number with which its last n words begin is bad
abbrev pub limited_meaning : {A : Type 0} → (A → Bool) → ℕ → Meaning A → Meaning A
limited_meaning t n f = record {
  read = λ r. f.read r >>= λ a. Some (a.0, noted (t a.0) (n + length a.1.words) a.1);
  spell = f.spell;
  Fits = f.Fits;
  bad = λ a ws. option_or (f.bad a ws) (if t a then None else Some (n + length ws));
}

-- this very value, and no token
abbrev pub given_meaning : {A : Type 0} → A → Meaning A
given_meaning a = record { read = λ r. Some (a, r); spell = λ b. []; Fits = λ b ws. b ≡ a; bad = λ b ws. None }
