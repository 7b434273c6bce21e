-- What rows of forms say: what a form makes of the tokens of a text.
use Rattle.std.specs.Prelude.{◌≡◌, ℕ, List, Option, Some, None}
use Rattle.statement_model.specs.Tokens.{Token, tokens}
use Rattle.statement_model.specs.Boundaries.{words}
use Rattle.statement_model.specs.Form.{Form, whole}
use Rattle.statement_model.specs.Reading.{pos_with_left}
use Rattle.def_grammar.specs.Parts.{Coordinates}
use Rattle.def_grammar.specs.Clauses.{KeptClause}

abbrev pub pieces_of : List ℕ → List Token
pieces_of text = (tokens text).pieces

abbrev pub tokens_of : List ℕ → List (List ℕ)
tokens_of text = words (pieces_of text)

-- the text is this value
abbrev pub Says : {A : Type 0} → Form A → List ℕ → A → Type 0
Says f text a = whole f (tokens_of text) ≡ Some (a, None)

-- the text hasn't the form
abbrev pub HasNoForm : {A : Type 0} → Form A → List ℕ → Type 0
HasNoForm f text = whole f (tokens_of text) ≡ None

abbrev pub bad_place : {A : Type 0} → List Token → Option (A × Option ℕ) → Option ℕ
bad_place ps (Some (a, Some left)) = Some (pos_with_left left ps)
bad_place ps _ = None

-- the text has the form, and its first invalid number stands there
abbrev pub IsBadAt : {A : Type 0} → Form A → List ℕ → ℕ → Type 0
IsBadAt f text pos = bad_place (pieces_of text) (whole f (tokens_of text)) ≡ Some pos

abbrev pub pt : List ℕ → List ℕ → Coordinates
pt x y = record { x = x; y = y }

-- a clause without meaning, by its word and the text of its other tokens
abbrev pub kept : List ℕ → List ℕ → KeptClause
kept keyword rest = record { keyword = keyword; rest = tokens_of rest }
