-- What is left of a path, step by step.
use Rattle.std.proofs.Common.{◌≡◌, List, [], ◌∷◌, ◌++◌, Option, Some, None, ℤ, refl, ap, sym, ◌∙◌}
use Rattle.std.specs.Prelude.{IfSome, IsNone}
use Rattle.design_model.specs.declared.geometry.Point.{Point}
use Rattle.wire_rules.specs.Paths.{PathItem, PathPlace, Piece, WireMakings, past_of, pieces_at, pieces_from, place_after, segment_between, segment_to}
use Rattle.design_model.specs.Ranges.{IsSize}
use Rattle.wire_rules.specs.ViaShapes.{NamedShape}
use Rattle.wire_shapes.specs.PathLeft.{IsWalkInReach, found_list, left_of, place_view, via_part}
use Rattle.wire_shapes.specs.PieceViews.{GivesPiece, IsPieceNear}
use Rattle.wire_shapes.specs.declared.path_walk.PathWalk.{PathWalk}
use Rattle.wire_shapes.specs.declared.piece.Piece as code
use Rattle.wire_shapes.proofs.Bits.{size, sizes, word}

pub segment_made : (rules : WireMakings) (p : PathPlace) (b : Point) (past : Option ℤ) (piece : Piece) (width default past_a past_b : ℤ)
    → IsSize width → IsSize default → IsSize past_a → IsSize past_b
    → width ≡ rules.width p.layer → default ≡ rules.past_end (word width) → past_a ≡ past_of (word default) p.past → past_b ≡ past_of (word default) past
    → piece ≡ segment_between p.layer (word width) p.at (word past_a) b (word past_b)
    → piece ≡ segment_to rules p b past
segment_made rules p b past piece width default past_a past_b w d x y width_is default_is a_is b_is made =
    let end : default ≡ rules.past_end (rules.width p.layer) = default_is ∙ ap rules.past_end (size width w ∙ width_is) in
    let first : past_a ≡ past_of (rules.past_end (rules.width p.layer)) p.past = a_is ∙ ap (λ (z : ℤ). past_of z p.past) (size default d ∙ end) in
    let second : past_b ≡ past_of (rules.past_end (rules.width p.layer)) past = b_is ∙ ap (λ (z : ℤ). past_of z past) (size default d ∙ end) in
    sizes (λ (l m n : ℤ). piece ≡ segment_between p.layer n p.at l b m) past_a past_b width x y w made
    ∙ ap (λ (z : ℤ). segment_between p.layer z p.at past_a b past_b) width_is
    ∙ ap (λ (z : ℤ). segment_between p.layer (rules.width p.layer) p.at z b past_b) first
    ∙ ap (λ (z : ℤ). segment_between p.layer (rules.width p.layer) p.at (past_of (rules.past_end (rules.width p.layer)) p.past) b z) second

pub after_first : (old new rest : List Piece) (found : Option code.Piece) → GivesPiece old found new → found_list found ++ (new ++ rest) ≡ old ++ rest
after_first old new rest None gives = let e = gives.0 in let f = gives.1 in rw (e, f) refl
after_first old new rest (Some p) gives = let e = gives.0 in rw e refl

pub none_after : (old new : List Piece) (found : Option code.Piece) → GivesPiece old found new → IsNone found → new ≡ []
none_after old new None gives none = gives.1
none_after old new (Some p) gives none = cc

pub no_list : (found : Option code.Piece) → IsNone found → found_list found ≡ []
no_list None none = refl
no_list (Some p) none = cc

pub near_first : (old new : List Piece) (found : Option code.Piece) → GivesPiece old found new → IfSome found IsPieceNear
near_first old new None gives = tt
near_first old new (Some p) gives = gives.1

module _ {I R S : Type 0} (items : I → List PathItem) (rules : R → WireMakings) (shapes : S → List NamedShape) where
  -- where a path is after some calls: what a call found comes first of what was left, and then what is left now
  pub record Going (old : PathWalk I R S) (found : Option code.Piece) (now : PathWalk I R S) : Type 0 where
    pub same : found_list found ++ left_of items rules shapes now ≡ left_of items rules shapes old
    pub done : IsNone found → via_part shapes now.via ≡ []
    pub near : IfSome found IsPieceNear
    pub reach : IsWalkInReach now

  module _ (old now : PathWalk I R S) (found : Option code.Piece) (going : Going old found now) (none : IsNone found) where
    nothing_found : found_list found ≡ []
    nothing_found = no_list found none

    all_left : left_of items rules shapes old ≡ pieces_from (rules now.rules) (place_view now.place) (items now.items)
    all_left =
        sym going.same ∙ ap (λ (ps : List Piece). ps ++ left_of items rules shapes now) nothing_found
        ∙ ap (λ (ps : List Piece). ps ++ pieces_from (rules now.rules) (place_view now.place) (items now.items)) (going.done none)

    pub went_on : (new : PathWalk I R S) (item : PathItem) (later : List PathItem) (next : Option code.Piece) → items now.items ≡ item ∷ later
        → found_list next ++ left_of items rules shapes new ≡ pieces_at (rules now.rules) (place_view now.place) item ++ pieces_from (rules now.rules) (place_after (rules now.rules) (place_view now.place) item) later
        → (IsNone next → via_part shapes new.via ≡ []) → IfSome next IsPieceNear → IsWalkInReach new → Going old next new
    unfolding pieces_from
    went_on new item later next e entered done near reach = record {
      same = entered ∙ sym (all_left ∙ ap (λ (is : List PathItem). pieces_from (rules now.rules) (place_view now.place) is) e);
      done = done;
      near = near;
      reach = reach;
    }

    pub at_end : items now.items ≡ [] → left_of items rules shapes old ≡ []
    unfolding pieces_from
    at_end e = all_left ∙ ap (λ (is : List PathItem). pieces_from (rules now.rules) (place_view now.place) is) e

    pub end_left : (later : List PathItem) → later ≡ [] → via_part shapes now.via ++ pieces_from (rules now.rules) (place_view now.place) later ≡ []
    unfolding pieces_from
    end_left later e = rw (going.done none, e) refl
