-- What is made of the elements of a list, one after the other.
use Rattle.std.proofs.Common.{◌≡◌, ◌<◌, ◌+◌, ℕ, zero, suc, List, [], ◌∷◌, ◌++◌, length, get_or, map, take, Option, Some, None, sym, ap, ap₂, ◌∙◌, arith}
use Rattle.std.proofs.lemmas.List.{map-append, take_more}
use Rattle.design_model.specs.declared.identifier.StmtId.{StmtId}
use Rattle.text_pieces.specs.KeptRecords.{HasPiece, HavePieces}
use Rattle.text_pieces.specs.Tables.{Kept, kept_at, slot}

pub pushed : {X Y Z : Type 0} (f : Y → Z) (g : X → Z) (xs : List X) (i : ℕ) (d s : X) (ys new : List Y) (v : Y) → i < length xs → s ≡ get_or xs i d → new ≡ ys ++ v ∷ [] → f v ≡ g s
    → map f ys ≡ map g (take i xs) → map f new ≡ map g (take (i + 1) xs)
pushed f g xs i d s ys new v below is more own so_far =
    ap (map f) more
    ∙ map-append f ys (v ∷ [])
    ∙ ap₂ (λ zs z. zs ++ z ∷ []) so_far (own ∙ ap g is)
    ∙ sym (map-append g (take i xs) (get_or xs i d ∷ []))
    ∙ ap (map g) (sym (take_more xs i d below))

module _ (slots : List (Option Kept)) where
  pub has_piece : (ids : List StmtId) (i : ℕ) (d : StmtId) → HavePieces slots ids → i < length ids → HasPiece slots (get_or ids i d)
  has_piece [] i d h below = absurd (omega (arith, below))
  has_piece (x ∷ xs) zero d h below = h.0
  has_piece (x ∷ xs) (suc i) d h below = has_piece xs i d h.1 (omega (arith, below))

  pub is_held : (id : StmtId) → HasPiece slots id → slot slots id ≡ None → ⊥
  is_held id p none = let e = sym p.held ∙ none in absurd (cc)

  pub kept_is : (id : StmtId) (k : Kept) → HasPiece slots id → slot slots id ≡ Some k → k ≡ kept_at slots id
  kept_is id k p held = let e = sym held ∙ p.held in cc
