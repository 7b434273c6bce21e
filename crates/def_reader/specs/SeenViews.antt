-- What stood before in a text: in the program as sets of words, and in the definition as keys.
use Rattle.std.specs.Prelude.{◌≡◌, ℕ, Bool, true, List, [], ◌∷◌, Option, Some, None, Result, MatchResult}
use denote.Ref.{Bor}
use Rattle.std.specs.List.{list_any}
use Rattle.std.specs.Str.{bytes_eq}
use Rattle.design_model.specs.declared.fault.FaultCode.{FaultCode}
use Rattle.design_model.specs.declared.fault.ReadError.{ReadError}
use Rattle.design_model.specs.declared.fault.ReadError.TheVariants.{Memory}
use Rattle.design_model.specs.EnumWords.{section_word}
use Rattle.statement_model.specs.Grammar.{Key}
use Rattle.statement_model.specs.Reading.{is_among, repeats, with_key}
use Rattle.def_reader.specs.declared.seen.Key as code
use Rattle.def_reader.specs.declared.seen.Key.TheVariants as variants

abbrev pub key_view : code.Key → Key
key_view variants.Nothing = []
key_view (variants.Statement word) = word.now ∷ []
key_view (variants.Entry s name) = section_word s ∷ name.now ∷ []

-- a word is one of a set
abbrev pub has_word : List (Bor (List ℕ)) → List ℕ → Bool
has_word words w = list_any (λ (k : Bor (List ℕ)). bytes_eq w k.now) words

-- The words of statements, and the names that stand behind the latest of these words, stand for keys. Names come only
-- behind a word that stands alone too.
pub record StandFor (words names : List (Bor (List ℕ))) (latest : Option (List ℕ)) (keys : List Key) : Type 0 where
  pub of_words : (w : List ℕ) → is_among keys (w ∷ []) ≡ has_word words w
  pub of_names : (w n : List ℕ) → latest ≡ Some w → is_among keys (w ∷ n ∷ []) ≡ has_word names n
  pub stands : (w : List ℕ) → latest ≡ Some w → is_among keys (w ∷ []) ≡ true
  pub begun : (w n : List ℕ) → is_among keys (w ∷ n ∷ []) ≡ true → is_among keys (w ∷ []) ≡ true

-- the latest word of a statement
abbrev pub latest_with : Key → Option (List ℕ) → Option (List ℕ)
latest_with (w ∷ []) latest = Some w
latest_with _ latest = latest

-- a name stands behind the latest word
abbrev pub Belongs : Option (List ℕ) → Key → Type 0
Belongs latest (w ∷ n ∷ ws) = latest ≡ Some w
Belongs latest _ = Unit {0}

-- what noting a key says: it stands already, with this fault, or it is new and noted; or memory is refused
abbrev pub Notes : List (Bor (List ℕ)) → List (Bor (List ℕ)) → Key → List (Bor (List ℕ)) → List (Bor (List ℕ)) → Result (Option FaultCode) ReadError → Type 0
Notes words names key new_words new_names r =
    (latest : Option (List ℕ)) (keys : List Key) → StandFor words names latest keys → Belongs latest key →
    MatchResult r
    (λ again. (repeats keys key ≡ again) × (again ≡ None → StandFor new_words new_names (latest_with key latest) (with_key key keys)))
    (λ e. e ≡ Memory)
