-- Laws of the kinds of lines.
use Rattle.std.specs.Prelude.{◌≡◌, ℕ, Bool, not, ◌==◌, List, Option}
use Rattle.std.specs.List.{take_while}
use Rattle.design_model.specs.declared.diagnostic.DiagKind.{DiagKind}
use Rattle.design_model.specs.Lines.{IsLineOf, kind_word, kinds}
use Rattle.form_meanings.specs.Meaning.{find}

abbrev pub is_no_space : ℕ → Bool
is_no_space b = not (b == 32)

-- the kind whose word stands before the first space
abbrev pub kind_of : List ℕ → Option DiagKind
kind_of text = find kind_word kinds (take_while is_no_space text)

-- A text is a line of one kind at most.
abbrev pub KindsAreTold : Type 0
KindsAreTold = (text : List ℕ) (k l : DiagKind) → IsLineOf k text → IsLineOf l text → k ≡ l
