-- Laws of the forms of whole statements.
use Rattle.std.specs.Prelude.{◌≡◌, ℕ, List, [], Option, Some}
use Rattle.statement_model.specs.Form.{Form, spell, Fits, whole}
use Rattle.statement_model.specs.Grammar.{Grammar}

-- What reads as a value is what the value is spelled with; the value fits, and the first invalid number is where it says.
-- What a value that fits is spelled with reads as that value.
abbrev pub ReadsAsSpelled : {A : Type 0} → Form A → Type 0
ReadsAsSpelled {A = A} f =
    ((ws : List (List ℕ)) (a : A) (bad : Option ℕ) → whole f ws ≡ Some (a, bad) → (ws ≡ spell f a) × Fits f a [] × (bad ≡ f.of.bad a []))
    × ((a : A) → Fits f a [] → whole f (spell f a) ≡ Some (a, f.of.bad a []))

-- So it is for the statements of a kind of text, wherever they stand.
abbrev pub FormsAreSpelled : {M R : Type 0} → Grammar M R → Type 0
FormsAreSpelled {M = M} g = (m : M) → ReadsAsSpelled (g.form m)
