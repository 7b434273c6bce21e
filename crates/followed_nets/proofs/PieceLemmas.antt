-- Pieces of nets that are taken out and put in, one at a time.
use Rattle.std.proofs.Common.{◌≡◌, ◌∙◌, ◌+◌, ◌≤◌, ℕ, List, [], ◌∷◌, ◌++◌, append_assoc, map, sum_by, Option, Some, None, Result, Ok, Err, refl, sym, ap, ap₂, arith, subst}
use Rattle.std.specs.Prelude.{IfOk, IfSome, flat_map}
use Rattle.std.proofs.lemmas.List.{append-nil, map-append}
use Rattle.std.proofs.lemmas.List.Concat.{flat_map-append}
use Rattle.std.proofs.lemmas.List.Sums.{sum_by-append, sum_by-cons}
use Rattle.design_model.specs.Families.{cross_lines, pair_lines}
use Rattle.design_model.specs.Order.{sorted_by_bytes}
use Rattle.connection_rules.specs.NetLines.{Barrier, NetShape, routeblock_of, short_of}
use Rattle.following_laws.specs.Following.{LinesFollow}
use Rattle.kept_lines.specs.Kept.{Kept}
use Rattle.line_laws.specs.Lines.{SameLines, SameThings, times}
use Rattle.line_laws.specs.PairLaws.{IsSymmetric}
use Rattle.line_laws.specs.SortingLaws.{SameLinesSortAlike}
use Rattle.line_laws.proofs.PairSums.{pairs_are_unordered, times-append, times-flat_map}
use Rattle.named_shapes.specs.Named.{by_name, named}
use Rattle.net_queries.specs.ShortLaws.{ShortIsSymmetric}
use Rattle.followed_nets.specs.Pieces.{AreOnPieces, ArePieces, IsPiece, Piece, classes_of, lines_on, shapes_of}
use Rattle.followed_nets.specs.Told.{Told}
use Rattle.followed_nets.proofs.ShortLines.{by_names, in_any_order}

pair-append : {A : Type 0} (q : List ℕ) (compare : A → A → List (List ℕ)) (xs ys : List A)
    → times q (pair_lines compare (xs ++ ys)) ≡ (times q (pair_lines compare xs) + times q (cross_lines compare xs ys)) + times q (pair_lines compare ys)
pair-append q compare [] ys = omega arith
pair-append {A = A} q compare (x ∷ xs) ys =
    let r = pair-append q compare xs ys in
    let w = λ (y : A). times q (compare x y) in
    omega (
      arith,
      r,
      times-append q (flat_map (compare x) (xs ++ ys)) (pair_lines compare (xs ++ ys)),
      times-append q (flat_map (compare x) xs) (pair_lines compare xs),
      times-append q (flat_map (compare x) ys) (cross_lines compare xs ys),
      times-flat_map q (compare x) (xs ++ ys),
      times-flat_map q (compare x) xs,
      times-flat_map q (compare x) ys,
      sum_by-append w xs ys,
    )

-- the shapes of pieces, and the lines on how their nets hang together
pub sum_shapes : (w : NetShape → ℕ) (ps : List Piece) → sum_by w (shapes_of ps) ≡ sum_by (λ (p : Piece). sum_by w p.shapes) ps
sum_shapes w [] = refl
sum_shapes w (p ∷ ps) =
    let r = sum_shapes w ps in
    omega (arith, r, sum_by-append w p.shapes (shapes_of ps), sum_by-cons (λ (p : Piece). sum_by w p.shapes) p ps)

pub sum_named : (w : NetShape → ℕ) (ps : List NetShape) → sum_by w (map by_name ps) ≡ sum_by (λ (s : NetShape). w (by_name s)) ps
sum_named w [] = refl
sum_named w (s ∷ ss) = let r = sum_named w ss in omega (arith, r, sum_by-cons w (by_name s) (map by_name ss), sum_by-cons (λ (s : NetShape). w (by_name s)) s ss)

pub same_named : (xs ys : List NetShape) → SameThings xs ys → SameThings (map by_name xs) (map by_name ys)
same_named xs ys same = record { sums = λ w. sum_named w xs ∙ same.sums (λ (s : NetShape). w (by_name s)) ∙ sym (sum_named w ys) }

module _ (name_of : ℕ → List ℕ) (bars : List Barrier) where
  abbrev shorts : NetShape → NetShape → List (List ℕ)
  shorts = short_of name_of

  abbrev barred : List NetShape → List (List ℕ)
  barred ss = cross_lines (routeblock_of name_of) ss bars

  times-barred : (q : List ℕ) (ss : List NetShape) → times q (barred ss) ≡ sum_by (λ (s : NetShape). times q (flat_map (routeblock_of name_of s) bars)) ss
  times-barred q ss = times-flat_map q (λ (s : NetShape). flat_map (routeblock_of name_of s) bars) ss

  -- the lines on pieces, by their parts
  pub times-lines : (q : List ℕ) (ps : List Piece)
      → times q (lines_on name_of ps bars) ≡ times q (pair_lines shorts (shapes_of ps)) + (sum_by (λ (s : NetShape). times q (flat_map (routeblock_of name_of s) bars)) (shapes_of ps) + times q (classes_of ps))
  times-lines q ps =
      omega (arith, times-append q (pair_lines shorts (shapes_of ps)) (barred (shapes_of ps) ++ classes_of ps), times-append q (barred (shapes_of ps)) (classes_of ps), times-barred q (shapes_of ps))

  -- the lines on pieces hang on nothing but their shapes and their lines, in whatever order
  pub same_lines : IsSymmetric shorts → (ps qs : List Piece) → SameThings (shapes_of ps) (shapes_of qs) → SameLines (classes_of ps) (classes_of qs) → SameLines (lines_on name_of ps bars) (lines_on name_of qs bars)
  same_lines symmetric ps qs shapes classes = record {
    often = λ q.
        let pairs = (pairs_are_unordered NetShape shorts (shapes_of ps) (shapes_of qs) symmetric shapes).often q in
        let walls = shapes.sums (λ (s : NetShape). times q (flat_map (routeblock_of name_of s) bars)) in
        let own = classes.often q in
        omega (arith, pairs, walls, own, times-lines q ps, times-lines q qs);
  }

  pub alike : SameLinesSortAlike → IsSymmetric shorts → (ps qs : List Piece) → SameThings (shapes_of ps) (shapes_of qs) → SameLines (classes_of ps) (classes_of qs)
      → (shapes : List NetShape) (lines : List (List ℕ)) → AreOnPieces name_of bars ps shapes lines → AreOnPieces name_of bars qs shapes lines
  alike sorted symmetric ps qs same classes shapes lines had = record {
    shapes_are = record { sums = λ w. had.shapes_are.sums w ∙ (same_named (shapes_of ps) (shapes_of qs) same).sums w };
    lines_are = had.lines_are ∙ sorted (lines_on name_of ps bars) (lines_on name_of qs bars) (same_lines symmetric ps qs same classes);
  }

  -- pieces in another order
  pub moved : SameLinesSortAlike → IsSymmetric shorts → (ps qs : List Piece) → SameThings ps qs → (shapes : List NetShape) (lines : List (List ℕ)) → AreOnPieces name_of bars ps shapes lines
      → AreOnPieces name_of bars qs shapes lines
  moved sorted symmetric ps qs same =
      alike sorted symmetric ps qs
      (record { sums = λ w. sum_shapes w ps ∙ same.sums (λ (p : Piece). sum_by w p.shapes) ∙ sym (sum_shapes w qs) })
      (record { often = λ q. times-flat_map q (λ (p : Piece). p.lines) ps ∙ same.sums (λ (p : Piece). times q p.lines) ∙ sym (times-flat_map q (λ (p : Piece). p.lines) qs) })

  -- a piece among others: its lines, and those of its shapes with the others'
  module _ (piece : Piece) (rest : List Piece) (t : Told) (told : IsPiece name_of bars piece t) (middle : List NetShape) (left : SameThings middle (map by_name (shapes_of rest)))
      (lines : List (List ℕ)) (lines_are : SameLines lines (t.lines ++ cross_lines shorts (map (named t.name) t.shapes) middle)) where
    pub one_apart : SameLines (lines_on name_of (piece ∷ rest) bars) (lines ++ lines_on name_of rest bars)
    one_apart = record {
      often = λ q.
          let own = piece.shapes in
          let others = shapes_of rest in
          let given = lines_are.often q in
          let mine = told.lines_are.often q in
          let crosses = cross_lines shorts (map (named t.name) t.shapes) middle in
          let w = λ (s : NetShape). times q (flat_map (routeblock_of name_of s) bars) in
          let met : times q crosses ≡ times q (cross_lines shorts own others) =
          ap (λ (ss : List NetShape). times q (cross_lines shorts ss middle)) told.shapes_are
          ∙ in_any_order name_of q (map by_name own) middle (map by_name others) left
          ∙ ap (times q) (by_names name_of own others) in
          let one : shapes_of (piece ∷ []) ≡ own = append-nil own in
          let alone = ap (λ (ss : List NetShape). times q (pair_lines shorts ss)) one in
          let walls = ap (sum_by w) one in
          let classes : times q (classes_of (piece ∷ [])) ≡ times q piece.lines = ap (times q) (append-nil piece.lines) in
          omega (
            arith,
            given,
            mine,
            met,
            alone,
            walls,
            classes,
            times-append q t.lines crosses,
            times-append q lines (lines_on name_of rest bars),
            times-lines q (piece ∷ rest),
            times-lines q (piece ∷ []),
            times-lines q rest,
            pair-append q shorts own others,
            sum_by-append w own others,
            times-append q piece.lines (classes_of rest),
          );
    }

    pub goes : LinesFollow (lines_on name_of (piece ∷ rest) bars) (lines_on name_of rest bars) lines []
    goes = record { stay = lines_on name_of rest bars; old_is = one_apart; new_is = record { often = λ q. refl } }

    pub comes : LinesFollow (lines_on name_of rest bars) (lines_on name_of (piece ∷ rest) bars) [] lines
    comes = record { stay = lines_on name_of rest bars; old_is = record { often = λ q. refl }; new_is = one_apart }

  -- the shapes that are left where a piece is taken out, and those where it is put in
  pub left_are : (piece : Piece) (rest : List Piece) (t : Told) → IsPiece name_of bars piece t → (shapes middle : List NetShape) → SameThings shapes (map by_name (shapes_of (piece ∷ rest)))
      → SameThings shapes (map (named t.name) t.shapes ++ middle) → SameThings middle (map by_name (shapes_of rest))
  left_are piece rest t told shapes middle had removed = record {
    sums = λ w.
        let a = had.sums w in
        let b = removed.sums w in
        let c = ap (sum_by w) told.shapes_are in
        let d = ap (sum_by w) (map-append by_name piece.shapes (shapes_of rest)) in
        omega (arith, a, b, c, d, sum_by-append w (map (named t.name) t.shapes) middle, sum_by-append w (map by_name piece.shapes) (map by_name (shapes_of rest)));
  }

  pub more_are : (piece : Piece) (rest : List Piece) (t : Told) → IsPiece name_of bars piece t → (shapes now : List NetShape) → SameThings shapes (map by_name (shapes_of rest))
      → SameThings now (map (named t.name) t.shapes ++ shapes) → SameThings now (map by_name (shapes_of (piece ∷ rest)))
  more_are piece rest t told shapes now had inserted = record {
    sums = λ w.
        let a = had.sums w in
        let b = inserted.sums w in
        let c = ap (sum_by w) told.shapes_are in
        let d = ap (sum_by w) (map-append by_name piece.shapes (shapes_of rest)) in
        omega (arith, a, b, c, d, sum_by-append w (map (named t.name) t.shapes) shapes, sum_by-append w (map by_name piece.shapes) (map by_name (shapes_of rest)));
  }
