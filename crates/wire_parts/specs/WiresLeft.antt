-- Wires that are handed out one at a time.
use Rattle.std.specs.Prelude.{◌≡◌, ℕ, List, [], ◌∷◌, Option, MatchOption}
use Rattle.statement_model.specs.Tokens.{Token}
use Rattle.lefdef_tokens.specs.Places.{behind}
use Rattle.lefdef_tokens.specs.Views.{pieces_of}
use Rattle.lefdef_tokens.specs.declared.token_run.TokenRun.{TokenRun}

-- of the wires that were left, the first was handed out, and the others are left; or none was left, and none is
abbrev pub GivesFirst : {W A : Type 0} → (W → A) → List A → Option W → List A → Type 0
GivesFirst view before found later = MatchOption found ((before ≡ []) × (later ≡ [])) (λ w. before ≡ view w ∷ later)

-- a thing is made of tokens of a text, behind some others
abbrev pub StandsIn : {X : Type 0} → (List Token → X → Type 0) → List ℕ → X → Type 0
StandsIn at text x = (run : TokenRun) × (others : List (List ℕ)) × (run.text.now ≡ text) × at (behind others (pieces_of run)) x
