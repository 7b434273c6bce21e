-- Parts that are passed, or handed out one at a time.
use Rattle.std.specs.Prelude.{◌≡◌, ℕ, Bool, List, [], ◌∷◌, Option, Some, MatchOption}
use Rattle.form_meanings.specs.Words.{◌>>=◌, Rest}
use Rattle.form_meanings.specs.Meaning.{items, repeat, spell_all}
use Rattle.statement_model.specs.Tokens.{Token}
use Rattle.lefdef_tokens.specs.Places.{behind}
use Rattle.lefdef_tokens.specs.Views.{pieces_of}
use Rattle.statement_reader.specs.declared.parts.Parts.{Parts}

-- the first of the parts that are left, or none is left
abbrev pub IsFirst : {P A : Type 0} → (P → A) → (List ℕ → Bool) → (Rest → Option (A × Rest)) → ℕ → Rest → Option P → Type 0
IsFirst view t f most r found = MatchOption found (items most t f r ≡ []) (λ x. ((later : List _) × (items most t f r ≡ view x ∷ later)))

-- of the parts that were left, the first was handed out, and the others are left; or none was left
abbrev pub IsStep : {P A : Type 0} → (P → A) → (List ℕ → Bool) → (Rest → Option (A × Rest)) → ℕ → Rest → Option P → ℕ → Rest → Type 0
IsStep view t f most r found fewer later = MatchOption found (items most t f r ≡ []) (λ x. items most t f r ≡ view x ∷ items fewer t f later)

-- what is left after a reading
abbrev pub left_after : {A : Type 0} → Option (A × Rest) → Option Rest
left_after read = read >>= λ x. Some x.1

-- so much of a repetition is read that this is left of it, and may be repeated so often
pub record Going {A : Type 0} (t : List ℕ → Bool) (f : Rest → Option (A × Rest)) (n : ℕ) (r : Rest) (left : ℕ) (here : Rest) : Type 0 where
  pub going : left_after (repeat n t f r) ≡ left_after (repeat left t f here)

-- parts that are left begin with the first of these tokens
abbrev pub PartsAt : {P : Type 0} → List Token → Parts P → Type 0
PartsAt ps parts = pieces_of parts.cursor.tokens ≡ ps

-- the tokens that are left after a reading, by how its value is spelled
abbrev pub tokens_after : {A : Type 0} → (A → List (List ℕ)) → List Token → Option (A × Rest) → Option (List Token)
tokens_after spells ps read = read >>= λ x. Some (behind (spells x.0) ps)

-- the same, where these tokens are left of it
pub record GoingPast {A : Type 0} (spells : A → List (List ℕ)) (t : List ℕ → Bool) (f : Rest → Option (A × Rest)) (n : ℕ) (r : Rest) (ps : List Token) (left : ℕ) (here : Rest) (later : List Token) : Type 0 where
  pub past : tokens_after (spell_all spells) ps (repeat n t f r) ≡ tokens_after (spell_all spells) later (repeat left t f here)
