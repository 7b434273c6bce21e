-- Pieces that are taken out one after the other, or put in, from the last to the first.
use Rattle.std.proofs.Common.{◌≡◌, ◌∙◌, ◌+◌, ℕ, List, [], ◌∷◌, ◌++◌, append_assoc, sum_by, refl, sym, ap, arith, subst}
use Rattle.std.proofs.lemmas.List.Sums.{sum_by-append, sum_by-cons}
use Rattle.connection_rules.specs.NetLines.{Barrier, NetShape, short_of}
use Rattle.line_laws.specs.PairLaws.{IsSymmetric}
use Rattle.line_laws.specs.SortingLaws.{SameLinesSortAlike}
use Rattle.followed_nets.specs.Pieces.{AreOnPieces, ArePieces, IsPiece, Piece}
use Rattle.followed_nets.specs.Told.{Told}
use Rattle.followed_nets.proofs.PieceLemmas.{moved}

module _ (name_of : ℕ → List ℕ) (bars : List Barrier) where
  -- the last of them
  pub record LastPiece (pieces : List Piece) (ts : List Told) (t : Told) : Type 0 where
    pub earlier : List Piece
    pub piece : Piece
    pub pieces_are : pieces ≡ earlier ++ piece ∷ []
    pub told : ArePieces name_of bars earlier ts
    pub is : IsPiece name_of bars piece t

  pub last_piece : (pieces : List Piece) (ts : List Told) (t : Told) → ArePieces name_of bars pieces (ts ++ t ∷ []) → LastPiece pieces ts t
  last_piece [] [] t told = absurd told
  last_piece [] (u ∷ ts) t told = absurd told
  last_piece (p ∷ []) [] t told = record { earlier = []; piece = p; pieces_are = refl; told = tt; is = told.0 }
  last_piece (p ∷ (o ∷ ps)) [] t told = absurd told.1
  last_piece (p ∷ ps) (u ∷ ts) t told =
      let last = last_piece ps ts t told.1 in
      record { earlier = p ∷ last.earlier; piece = last.piece; pieces_are = ap (λ (l : List Piece). p ∷ l) last.pieces_are; told = (told.0, last.told); is = last.is }

  -- Some are still to be taken out of those that are there.
  pub record ToGo (rest : List Piece) (ts : List Told) (shapes : List NetShape) (lines : List (List ℕ)) : Type 0 where
    pub left : List Piece
    pub told : ArePieces name_of bars left ts
    pub had : AreOnPieces name_of bars (left ++ rest) shapes lines

  module _ (sorted : SameLinesSortAlike) (symmetric : IsSymmetric (short_of name_of)) (rest : List Piece) (all ts : List Told) (t : Told) (shapes : List NetShape) (lines : List (List ℕ))
      (go : ToGo rest all shapes lines) (all_are : all ≡ ts ++ t ∷ []) where
    abbrev pub last_to_go : LastPiece go.left ts t
    last_to_go = last_piece go.left ts t (subst (ArePieces name_of bars go.left) all_are go.told)

    pub goes_next : AreOnPieces name_of bars (last_to_go.piece ∷ (last_to_go.earlier ++ rest)) shapes lines
    goes_next =
        let last = last_to_go in
        moved name_of bars sorted symmetric (go.left ++ rest) (last.piece ∷ (last.earlier ++ rest))
        (record {
          sums = λ w.
              let is = ap (λ (ps : List Piece). sum_by w (ps ++ rest)) last.pieces_are in
              omega (
                arith,
                is,
                sum_by-append w (last.earlier ++ last.piece ∷ []) rest,
                sum_by-append w last.earlier (last.piece ∷ []),
                sum_by-cons w last.piece [],
                sum_by-cons w last.piece (last.earlier ++ rest),
                sum_by-append w last.earlier rest,
              );
        }) shapes lines go.had

  pub none_to_go : (rest : List Piece) (ts : List Told) (shapes : List NetShape) (lines : List (List ℕ)) → ts ≡ [] → ToGo rest ts shapes lines → AreOnPieces name_of bars rest shapes lines
  none_to_go rest ts shapes lines none go = these go.left (subst (ArePieces name_of bars go.left) none go.told) go.had
    where
      these : (left : List Piece) → ArePieces name_of bars left [] → AreOnPieces name_of bars (left ++ rest) shapes lines → AreOnPieces name_of bars rest shapes lines
      these [] told had = had
      these (p ∷ left) told had = absurd told

  -- Some are still to be put in, with which all are there.
  pub record ToCome (all : List Piece) (ts : List Told) (shapes : List NetShape) (lines : List (List ℕ)) : Type 0 where
    pub left : List Piece
    pub there : List Piece
    pub all_are : left ++ there ≡ all
    pub told : ArePieces name_of bars left ts
    pub had : AreOnPieces name_of bars there shapes lines

  module _ (pieces : List Piece) (all ts : List Told) (t : Told) (shapes : List NetShape) (lines : List (List ℕ)) (come : ToCome pieces all shapes lines) (all_are : all ≡ ts ++ t ∷ []) where
    abbrev pub last_to_come : LastPiece come.left ts t
    last_to_come = last_piece come.left ts t (subst (ArePieces name_of bars come.left) all_are come.told)

    pub comes_next : (now : List NetShape) (then_lines : List (List ℕ)) → AreOnPieces name_of bars (last_to_come.piece ∷ come.there) now then_lines → ToCome pieces ts now then_lines
    comes_next now then_lines had =
        let last = last_to_come in
        record {
          left = last.earlier;
          there = last.piece ∷ come.there;
          all_are = sym (append_assoc last.earlier (last.piece ∷ []) come.there) ∙ ap (λ (ps : List Piece). ps ++ come.there) (sym last.pieces_are) ∙ come.all_are;
          told = last.told;
          had = had;
        }

  pub none_to_come : (pieces : List Piece) (ts : List Told) (shapes : List NetShape) (lines : List (List ℕ)) → ts ≡ [] → ToCome pieces ts shapes lines → AreOnPieces name_of bars pieces shapes lines
  none_to_come pieces ts shapes lines none come = these come.left come.all_are (subst (ArePieces name_of bars come.left) none come.told)
    where
      these : (left : List Piece) → left ++ come.there ≡ pieces → ArePieces name_of bars left [] → AreOnPieces name_of bars pieces shapes lines
      these [] is told = subst (λ (ps : List Piece). AreOnPieces name_of bars ps shapes lines) is come.had
      these (p ∷ left) is told = absurd told
