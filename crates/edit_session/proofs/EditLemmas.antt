-- A refused edit of the design leaves the text.
use Rattle.std.proofs.Common.{◌≡◌, ℕ, List, Err}
use Rattle.edit_model.specs.declared.edit.EditRefusal.{EditRefusal}
use Rattle.edit_model.specs.declared.edit.EditRefusal.TheVariants.{Refused, Unreadable, Memory as NoMemory}
use Rattle.lef_grammar.specs.Library.{Library}
use Rattle.edit_rules.specs.Edits.{Change}
use Rattle.edit_rules.specs.Runs.{Answers, text_edit}
use Rattle.design_text.specs.Editing.{EditsText, ReplacesIn}

pub edits_nothing : (T : Type 0) (library : Library) (old : List ℕ) (change : Change) (e : EditRefusal) (new : List ℕ) → EditsText {T = T} library old change (Err e) new → new ≡ old
edits_nothing T library old change (Refused code) new h = h.0
edits_nothing T library old change (Unreadable fault) new h = absurd h
edits_nothing T library old change NoMemory new h = h.0

-- so does one of the text, and it is refused for what its definition says
pub replaces_nothing : (T : Type 0) (library : Library) (old : List ℕ) (a b : ℕ) (put : List ℕ) (e : EditRefusal) (new : List ℕ) → ReplacesIn {T = T} old a b put (Err e) new → Answers library old (text_edit a b put) (Err e) new
replaces_nothing T library old a b put (Refused code) new h = h
replaces_nothing T library old a b put (Unreadable fault) new h = h
replaces_nothing T library old a b put NoMemory new h = (h.0, h.1.0, h.1.1, h.1.2)
