-- Forms that several DEF statements share.
use Rattle.std.specs.Prelude.{ℕ, Bool, true, false, List, Option, Some, None, codes, refl}
use Rattle.design_model.specs.declared.geometry.Orient.{Orient}
use Rattle.design_model.specs.EnumWords.{orient_word, orients}
use Rattle.form_meanings.specs.Words.{is_name, is_stop}
use Rattle.form_meanings.specs.Meaning.{Seen}
use Rattle.statement_model.specs.Form.{Form, word, number, one_of, upto, ◌▸◌, ◌◂◌, ◌⨟◌, seen}
use Rattle.def_grammar.specs.Numbers.{is_int}

abbrev pub is_some : {A : Type 0} → Option A → Bool
is_some None = false
is_some (Some a) = true

abbrev pub name : Form (List ℕ)
name = word is_name

abbrev pub int : Form (List ℕ)
int = number is_int

-- any number of tokens but + and ;
abbrev pub rest : Form (List (List ℕ))
rest = upto is_stop

-- x and y of a point, as they are written
pub record Coordinates : Type 0 where
  pub x : List ℕ
  pub y : List ℕ

abbrev pub as_point : Seen (List ℕ × List ℕ) Coordinates
as_point = record { to = λ p. record { x = p.0; y = p.1 }; from = λ p. (p.x, p.y); to_from = λ p. refl; from_to = λ p. refl }

-- ( int int )
unfoldable pub point : Form Coordinates
point = seen as_point (codes "(" ▸ int ⨟ int ◂ codes ")")

-- N, W, S, E, FN, FW, FS or FE
unfoldable pub orient : Form Orient
orient = one_of orient_word orients
