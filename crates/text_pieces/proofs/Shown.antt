-- Chunks and pieces of the program as they are seen.
use Rattle.std.proofs.Common.{rules, ◌≡◌, ◌<◌, ℕ, List, length, get_or, map, Option, Some, None, sym, ap, ◌∙◌}
use Rattle.std.specs.Prelude.{IsSome, option_map}
use Rattle.std.proofs.lemmas.List.{get_or-map}
use Rattle.design_model.specs.declared.identifier.StmtId.{StmtId}
use Rattle.text_pieces.specs.declared.chunks.Chunk.{Chunk}
use Rattle.text_pieces.specs.declared.table.Piece.{Piece}
use Rattle.text_pieces.specs.Chunks.{no_numbers, shown}
use Rattle.text_pieces.specs.Tables.{Kept, kept, kept_at, kept_or, slot}
use Rattle.text_pieces.proofs.Slots.{slot_map}

pub shown_at : {A : Type 0} (chunks : List (Chunk A)) (k : ℕ) (c : Chunk A) → k < length chunks → c ≡ get_or chunks k c → get_or (map shown chunks) k no_numbers ≡ shown c
shown_at chunks k c below is = get_or-map shown chunks k c no_numbers below ∙ ap shown (sym is)

some_of : {A : Type 0} (o : Option (Piece A)) (k : Kept) → option_map kept o ≡ Some k → IsSome o
some_of None k h = absurd (cc)
some_of (Some p) k h = search rules

-- a piece that is kept is in its slot, and it is what is kept
pub is_there : {A : Type 0} (slots : List (Option (Piece A))) (id : StmtId) (k : Kept) → slot (map (option_map kept) slots) id ≡ Some k → IsSome (get_or slots id.0 None)
is_there slots id k h = some_of (get_or slots id.0 None) k (sym (slot_map kept slots id.0) ∙ h)

pub kept_is : {A : Type 0} (slots : List (Option (Piece A))) (id : StmtId) (p : Piece A) → get_or slots id.0 None ≡ Some p → kept_at (map (option_map kept) slots) id ≡ kept p
kept_is slots id p h = ap kept_or (slot_map kept slots id.0 ∙ ap (option_map kept) h)

pub slot_is : {A : Type 0} (slots : List (Option (Piece A))) (id : StmtId) (o : Option (Piece A)) → get_or slots id.0 None ≡ o → slot (map (option_map kept) slots) id ≡ option_map kept o
slot_is slots id o h = slot_map kept slots id.0 ∙ ap (option_map kept) h
