-- The terminals of nets (LEF/DEF 5.8 Language Reference, "Nets" and "Special Nets").
use Rattle.std.specs.Prelude.{ℕ, Bool, List, codes, refl}
use Rattle.form_meanings.specs.Words.{is_place, is_plus, is_word}
use Rattle.form_meanings.specs.Meaning.{Seen}
use Rattle.statement_model.specs.Form.{Form, empty, word, ◌▸◌, ◌◂◌, ◌⨟◌, opt, seen}
use Rattle.def_grammar.specs.Parts.{name}
use Rattle.def_grammar.specs.Points.{is_star}
use Rattle.def_grammar.specs.Clauses.{as_flag}

-- whose pin it is, the pin, and whether it is SYNTHESIZED. The owner is a component, PIN for a pin of the design, VPIN
-- without meaning, or * for each component that has the pin.
pub record Terminal : Type 0 where
  pub owner : List ℕ
  pub pin : List ℕ
  pub is_synthesized : Bool

abbrev pub as_terminal : Seen (List ℕ × (List ℕ × Bool)) Terminal
as_terminal = record { to = λ p. record { owner = p.0; pin = p.1.0; is_synthesized = p.1.1 }; from = λ t. (t.owner, (t.pin, t.is_synthesized)); to_from = λ t. refl; from_to = λ p. refl }

-- a pin of each component that has it
abbrev pub is_of_all : Terminal → Bool
is_of_all t = is_star t.owner

-- a pin of the design
abbrev pub is_of_design : Terminal → Bool
is_of_design t = is_word (codes "PIN") t.owner

-- a virtual pin, which means nothing
abbrev pub is_virtual : Terminal → Bool
is_virtual t = is_word (codes "VPIN") t.owner

-- [+ SYNTHESIZED]
unfoldable pub synthesized : Form Bool
synthesized = seen as_flag (opt is_plus (codes "+" ▸ codes "SYNTHESIZED" ▸ empty))

-- ( name name [+ SYNTHESIZED] ), or ( * name [+ SYNTHESIZED] ): what can stand in the place of a number is a name or *
unfoldable pub terminal : Form Terminal
terminal = seen as_terminal (codes "(" ▸ word is_place ⨟ name ⨟ synthesized ◂ codes ")")
