-- A run of edits over a text (own).
use Rattle.std.specs.Prelude.{◌≡◌, ℕ, ◌≤◌, Bool, false, ◌&&◌, nat_le, List, [], ◌∷◌, length, Result, Ok, Err, if◌then◌else◌}
use Rattle.design_model.specs.declared.fault.Fault.{Fault}
use Rattle.edit_model.specs.declared.edit.Done.{Done}
use Rattle.edit_model.specs.declared.edit.EditCode.{EditCode}
use Rattle.edit_model.specs.declared.edit.EditCode.TheVariants.{Range, TooLong}
use Rattle.edit_model.specs.declared.edit.EditRefusal.{EditRefusal}
use Rattle.edit_model.specs.declared.edit.EditRefusal.TheVariants.{Refused, Unreadable, Memory}
use Rattle.statement_model.specs.Cuts.{Cut, with_cuts}
use Rattle.def_grammar.specs.Records.{Record, read_def}
use Rattle.lef_grammar.specs.Library.{Library}
use Rattle.edit_rules.specs.Edits.{Change, cuts_of, is_long}

-- an edit of the design, or bytes that take the place of those from a up to b
pub data Step : Type 0 where
  design_edit : Change → Step
  text_edit : ℕ → ℕ → List ℕ → Step

-- an edit of a text that reads makes these cuts, or is refused so
abbrev pub Makes : Library → List ℕ → Change → Result (List Cut) EditCode → Type 0
Makes library old change outcome = (design : List Record) × (read_def old ≡ Ok design) × (cuts_of library old design change ≡ outcome)

abbrev pub new_text : List ℕ → ℕ → ℕ → List ℕ → List ℕ
new_text old a b put = with_cuts (record { lo = a; hi = b; put = put } ∷ []) old

abbrev pub if_it_reads : List ℕ → Result (List Record) Fault → Result (List ℕ) EditRefusal
if_it_reads new (Ok design) = Ok new
if_it_reads new (Err fault) = Err (Unreadable fault)

abbrev pub in_range : List ℕ → ℕ → ℕ → Bool
in_range old a b = nat_le a b && nat_le b (length old)

-- the text after a text edit, or why it is refused: its range, its length, and then the fault of the new text
abbrev pub text_outcome : List ℕ → ℕ → ℕ → List ℕ → Result (List ℕ) EditRefusal
text_outcome old a b put =
    if in_range old a b then (if is_long (new_text old a b put) then Err (Refused TooLong) else if_it_reads (new_text old a b put) (read_def (new_text old a b put)))
    else Err (Refused Range)

-- want of memory may stand in the place of this answer: of none that needs no memory
abbrev pub MayWantMemory : Result (List Cut) EditCode → Type 0
MayWantMemory (Ok cuts) = Unit {0}
MayWantMemory (Err code) = code ≡ TooLong

-- an edit of a text that reads may be answered by want of memory
abbrev pub WantsMemory : Library → List ℕ → Change → Type 0
WantsMemory library old change = (outcome : Result (List Cut) EditCode) × Makes library old change outcome × MayWantMemory outcome

-- An edit may be answered so, and leave the text new: one that is refused leaves it as it was, and want of memory may
-- stand in place of no refusal that is found without memory.
abbrev pub Answers : Library → List ℕ → Step → Result Done EditRefusal → List ℕ → Type 0
Answers library old (design_edit change) (Ok done) new = (cuts : List Cut) × Makes library old change (Ok cuts) × (new ≡ with_cuts cuts old)
Answers library old (design_edit change) (Err (Refused code)) new = (new ≡ old) × Makes library old change (Err code)
Answers library old (design_edit change) (Err (Unreadable fault)) new = ⊥
Answers library old (design_edit change) (Err Memory) new = (new ≡ old) × WantsMemory library old change
Answers library old (text_edit a b put) (Ok done) new = text_outcome old a b put ≡ Ok new
Answers library old (text_edit a b put) (Err Memory) new = (new ≡ old) × (a ≤ b) × (b ≤ length old) × (is_long (new_text old a b put) ≡ false)
Answers library old (text_edit a b put) (Err refusal) new = (new ≡ old) × (text_outcome old a b put ≡ Err refusal)

-- edits in order may be answered so, and leave the text new in the end
abbrev pub Run : Library → List ℕ → List Step → List (Result Done EditRefusal) → List ℕ → Type 0
Run library old [] [] new = new ≡ old
Run library old (s ∷ ss) (r ∷ rs) new = (mid : List ℕ) × Answers library old s r mid × Run library mid ss rs new
Run library old [] (r ∷ rs) new = ⊥
Run library old (s ∷ ss) [] new = ⊥
