-- What edits of the text of a design say.
use Rattle.std.specs.Prelude.{◌≡◌, ◌≤◌, ◌<◌, ℕ, false, List, [], ◌∷◌, length, Option, Some, None, Result, Ok, Err, IsOk}
use Rattle.design_model.specs.declared.TheConstants.{MAX_TEXT}
use Rattle.design_model.specs.declared.fault.Fault as fault
use Rattle.edit_model.specs.declared.edit.EditRefusal.{EditRefusal}
use Rattle.edit_model.specs.declared.edit.EditRefusal.TheVariants.{Refused, Unreadable, Memory as NoMemory}
use Rattle.statement_model.specs.Cuts.{Cut, with_cuts}
use Rattle.def_grammar.specs.Records.{Record, read_def}
use Rattle.lef_grammar.specs.Library.{Library}
use Rattle.edit_rules.specs.Edits.{Change, applied, is_long}
use Rattle.edit_rules.specs.Runs.{Makes, WantsMemory, new_text, text_outcome}
use Rattle.splicing_laws.specs.KeepingLaws.{AreInOrder}
use Rattle.text_pieces.specs.declared.prepared.PrepareError.{PrepareError}
use Rattle.text_pieces.specs.declared.prepared.PrepareError.TheVariants.{Fault, Memory, Range, TooLong}

-- what making cuts of a text says: they are made; or the text is as it was, since they don't, or the text with
-- them made would be too long, or has a fault; refused memory says nothing more
abbrev pub MakesCuts : {T : Type 0} → List ℕ → List Cut → Result T PrepareError → List ℕ → Type 0
MakesCuts old cuts (Ok t) new = new ≡ with_cuts cuts old
MakesCuts old cuts (Err Range) new = (new ≡ old) × (AreInOrder 0 cuts (length old) → ⊥)
MakesCuts old cuts (Err TooLong) new = (new ≡ old) × AreInOrder 0 cuts (length old) × (MAX_TEXT < length (with_cuts cuts old))
MakesCuts old cuts (Err Fault) new = (new ≡ old) × (f : fault.Fault) × (read_def (with_cuts cuts old) ≡ Err f)
MakesCuts old cuts (Err Memory) new = new ≡ old

-- The same of two cuts that stand in order, which are made one after the other, the later one first: where they aren't, the text is as
-- it was, and it doesn't read with the later one alone, or with both; refused memory says nothing more.
abbrev pub MakesTwo : {T E : Type 0} → List ℕ → Cut → Cut → Result (Option T) E → List ℕ → Type 0
MakesTwo old first last (Ok (Some t)) new = (new ≡ with_cuts (first ∷ last ∷ []) old) × IsOk (read_def (with_cuts (last ∷ []) old))
MakesTwo old first last (Ok None) new = (new ≡ old) × (IsOk (read_def (with_cuts (last ∷ []) old)) → IsOk (read_def (with_cuts (first ∷ last ∷ []) old)) → ⊥)
MakesTwo old first last (Err e) new = new ≡ old

-- what editing a text says: it has the edit's cuts made, or is as it was and refused as the edit is
abbrev pub EditsText : {T : Type 0} → Library → List ℕ → Change → Result T EditRefusal → List ℕ → Type 0
EditsText library old change (Ok t) new = (cuts : List Cut) × Makes library old change (Ok cuts) × (new ≡ with_cuts cuts old)
EditsText library old change (Err (Refused code)) new = (new ≡ old) × Makes library old change (Err code)
EditsText library old change (Err (Unreadable fault)) new = ⊥
EditsText library old change (Err NoMemory) new = (new ≡ old) × WantsMemory library old change

-- the text after an accepted edit reads as the edited design
abbrev pub ReadsEdited : List ℕ → Change → List ℕ → Type 0
ReadsEdited old change new = (design : List Record) × (read_def old ≡ Ok design) × (read_def new ≡ Ok (applied change design))

-- and it has all bytes of the text before, but those of the cuts that the edit makes, which stand in order within it
abbrev pub KeepsTheRest : Library → List ℕ → Change → List ℕ → Type 0
KeepsTheRest library old change new = (cuts : List Cut) × Makes library old change (Ok cuts) × (new ≡ with_cuts cuts old) × AreInOrder 0 cuts (length old)

-- why bytes don't take the place of others: the range, the length, or the fault of the new text; refused memory comes only where the
-- range and the length are good
abbrev pub IsRefused : List ℕ → ℕ → ℕ → List ℕ → EditRefusal → Type 0
IsRefused old a b put NoMemory = (a ≤ b) × (b ≤ length old) × (is_long (new_text old a b put) ≡ false)
IsRefused old a b put refusal = text_outcome old a b put ≡ Err refusal

-- they do in a text that is made anew
abbrev pub ReplacesText : {V : Type 0} → (V → List ℕ) → List ℕ → ℕ → ℕ → List ℕ → Result V EditRefusal → Type 0
ReplacesText items old a b put (Ok v) = text_outcome old a b put ≡ Ok (items v)
ReplacesText items old a b put (Err refusal) = IsRefused old a b put refusal

-- and in one that is new then, or as it was
abbrev pub ReplacesIn : {T : Type 0} → List ℕ → ℕ → ℕ → List ℕ → Result T EditRefusal → List ℕ → Type 0
ReplacesIn old a b put (Ok t) new = text_outcome old a b put ≡ Ok new
ReplacesIn old a b put (Err refusal) new = (new ≡ old) × IsRefused old a b put refusal
