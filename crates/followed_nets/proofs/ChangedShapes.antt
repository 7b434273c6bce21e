-- What is kept is on nets that go or come, and then on their changed shapes and those that stay.
use Rattle.std.proofs.Common.{◌≡◌, ◌∙◌, ◌+◌, ◌≤◌, ℕ, true, List, [], ◌∷◌, ◌++◌, map, sum_by, refl, sym, ap, ap₂, arith, subst}
use Rattle.std.specs.Prelude.{flat_map}
use Rattle.std.specs.Str.{bytes_eq}
use Rattle.std.proofs.lemmas.List.{append-nil, map-append}
use Rattle.std.proofs.lemmas.List.Sums.{sum_by-append, sum_by-cons}
use Rattle.std.proofs.lemmas.Slice.Eq.{bytes_eq-Decides}
use Rattle.design_model.specs.Families.{cross_lines, pair_lines}
use Rattle.lef_grammar.specs.Measures.{Shape}
use Rattle.connection_rules.specs.NetLines.{Barrier, NetShape, routeblock_of, short_of}
use Rattle.line_laws.specs.Lines.{SameLines, SameThings, times}
use Rattle.line_laws.specs.PairLaws.{IsSymmetric}
use Rattle.line_laws.specs.SortingLaws.{SameLinesSortAlike}
use Rattle.line_laws.proofs.PairSums.{times-append}
use Rattle.named_shapes.specs.Named.{by_name, named}
use Rattle.shape_index.specs.Near.{near_shapes}
use Rattle.followed_nets.specs.Lacking.{Lacks, lines_in, named_in}
use Rattle.followed_nets.specs.Pieces.{AreOnPieces, ArePieces, IsPiece, Piece, classes_of, lines_on, shapes_of}
use Rattle.followed_nets.specs.Tests.{near_each, near_told, plain}
use Rattle.followed_nets.specs.Told.{Told}
use Rattle.followed_nets.proofs.PieceLemmas.{alike, moved, one_apart, sum_shapes}

-- no more shapes are near those that are changed
near_named : (shapes : List NetShape) (n : List ℕ) (ss : List Shape) → sum_by (λ (s : NetShape). near_shapes s.shape (plain shapes)) (map (named n) ss) ≡ near_each ss shapes
near_named shapes n [] = refl
near_named shapes n (s ∷ ss) =
    let r = near_named shapes n ss in
    omega (arith, r, sum_by-cons (λ (x : NetShape). near_shapes x.shape (plain shapes)) (named n s) (map (named n) ss), sum_by-cons (λ (x : Shape). near_shapes x (plain shapes)) s ss)

near_all : (shapes : List NetShape) (ts : List Told) → sum_by (λ (s : NetShape). near_shapes s.shape (plain shapes)) (named_in ts) ≡ near_told ts shapes
near_all shapes [] = refl
near_all shapes (t ∷ ts) =
    let r = near_all shapes ts in
    omega (
      arith,
      r,
      near_named shapes t.name t.shapes,
      sum_by-append (λ (s : NetShape). near_shapes s.shape (plain shapes)) (map (named t.name) t.shapes) (named_in ts),
      sum_by-cons (λ (u : Told). near_each u.shapes shapes) t ts,
    )

pub fewer_near : (some all : List Told) (stay : List NetShape) → Lacks some all stay → (shapes : List NetShape) → near_told some shapes ≤ near_told all shapes
fewer_near some all stay lacks shapes =
    let w = λ (s : NetShape). near_shapes s.shape (plain shapes) in
    let h = lacks.shapes_are.sums w in
    omega (arith, h, near_all shapes some, near_all shapes all, sum_by-append w (named_in some) stay)

module _ (name_of : ℕ → List ℕ) (bars : List Barrier) where
  abbrev shorts : NetShape → NetShape → List (List ℕ)
  shorts = short_of name_of

  -- what is told as a piece by itself, with all its lines
  abbrev pub whole : Told → Piece
  whole t = record { shapes = map (named t.name) t.shapes; lines = t.lines }

  none_with : (n : List ℕ) (s : Shape) (bs : List Barrier) → flat_map (routeblock_of name_of (named n s)) bs ≡ []
  none_with n s [] = refl
  none_with n s (b ∷ bs) = none_with n s bs

  not_barred : (n : List ℕ) (ss : List Shape) → cross_lines (routeblock_of name_of) (map (named n) ss) bars ≡ []
  not_barred n [] = refl
  not_barred n (s ∷ ss) = ap₂ (λ (a b : List (List ℕ)). a ++ b) (none_with n s bars) (not_barred n ss)

  same_name : (n : List ℕ) → bytes_eq n n ≡ true
  same_name n = (bytes_eq-Decides n n).1 refl

  none_of_two : (n : List ℕ) (s t : Shape) → shorts (named n s) (named n t) ≡ []
  none_of_two n s t = rw (same_name n) refl

  none_of_one : (n : List ℕ) (s : Shape) (ss : List Shape) → flat_map (shorts (named n s)) (map (named n) ss) ≡ []
  none_of_one n s [] = refl
  none_of_one n s (t ∷ ss) = ap₂ (λ (a b : List (List ℕ)). a ++ b) (none_of_two n s t) (none_of_one n s ss)

  none_of_its_own : (n : List ℕ) (ss : List Shape) → pair_lines shorts (map (named n) ss) ≡ []
  none_of_its_own n [] = refl
  none_of_its_own n (s ∷ ss) = ap₂ (λ (a b : List (List ℕ)). a ++ b) (none_of_one n s ss) (none_of_its_own n ss)

  named_again : (n : List ℕ) (ss : List Shape) → map (named n) ss ≡ map by_name (map (named n) ss)
  named_again n [] = refl
  named_again n (s ∷ ss) = ap (λ (l : List NetShape). named n s ∷ l) (named_again n ss)

  whole_lines : (t : Told) → lines_on name_of (whole t ∷ []) bars ≡ t.lines
  whole_lines t =
      let own = map (named t.name) t.shapes in
      let one : shapes_of (whole t ∷ []) ≡ own = append-nil own in
      let pairs = ap (pair_lines shorts) one ∙ none_of_its_own t.name t.shapes in
      let walls = ap (λ (ss : List NetShape). cross_lines (routeblock_of name_of) ss bars) one ∙ not_barred t.name t.shapes in
      ap₂ (λ (a b : List (List ℕ)). a ++ b) pairs (ap₂ (λ (a b : List (List ℕ)). a ++ b) walls (append-nil t.lines))

  is_whole : (t : Told) → IsPiece name_of bars (whole t) t
  is_whole t = record {
    lines_are = record { often = λ q. ap (times q) (sym (whole_lines t)) };
    shapes_are = named_again t.name t.shapes;
  }

  pub are_whole : (ts : List Told) → ArePieces name_of bars (map whole ts) ts
  are_whole [] = tt
  are_whole (t ∷ ts) = (is_whole t, are_whole ts)

  module _ (sorted : SameLinesSortAlike) (symmetric : IsSymmetric shorts) where
    -- a piece in the place of another of which the same is told
    in_place : (p q : Piece) (rest : List Piece) (t : Told) → IsPiece name_of bars p t → IsPiece name_of bars q t → (shapes : List NetShape) (lines : List (List ℕ)) → AreOnPieces name_of bars (p ∷ rest) shapes lines
        → AreOnPieces name_of bars (q ∷ rest) shapes lines
    in_place p q rest t is other shapes lines had =
        let middle = map by_name (shapes_of rest) in
        let own = t.lines ++ cross_lines shorts (map (named t.name) t.shapes) middle in
        let a = one_apart name_of bars p rest t is middle (record { sums = λ w. refl }) own (record { often = λ r. refl }) in
        let b = one_apart name_of bars q rest t other middle (record { sums = λ w. refl }) own (record { often = λ r. refl }) in
        let same : map by_name (shapes_of (p ∷ rest)) ≡ map by_name (shapes_of (q ∷ rest)) =
        map-append by_name p.shapes (shapes_of rest)
        ∙ ap (λ (ss : List NetShape). ss ++ middle) (sym is.shapes_are ∙ other.shapes_are)
        ∙ sym (map-append by_name q.shapes (shapes_of rest)) in
        record {
          shapes_are = subst (λ (ss : List NetShape). SameThings shapes ss) same had.shapes_are;
          lines_are = had.lines_are ∙ sorted (lines_on name_of (p ∷ rest) bars) (lines_on name_of (q ∷ rest) bars) (record { often = λ r. a.often r ∙ sym (b.often r) });
        }

    one_behind : (p : Piece) (ps qs : List Piece) → SameThings (p ∷ (ps ++ qs)) (ps ++ p ∷ qs)
    one_behind p ps qs = record {
      sums = λ w. omega (arith, sum_by-cons w p (ps ++ qs), sum_by-append w ps qs, sum_by-append w ps (p ∷ qs), sum_by-cons w p qs);
    }

    pub all_in_place : (ps qs : List Piece) (ts : List Told) → ArePieces name_of bars ps ts → ArePieces name_of bars qs ts → (rest : List Piece) (shapes : List NetShape) (lines : List (List ℕ))
        → AreOnPieces name_of bars (ps ++ rest) shapes lines → AreOnPieces name_of bars (qs ++ rest) shapes lines
    all_in_place [] [] [] is other rest shapes lines had = had
    all_in_place [] (q ∷ qs) [] is other rest shapes lines had = absurd other
    all_in_place (p ∷ ps) qs [] is other rest shapes lines had = absurd is
    all_in_place [] qs (t ∷ ts) is other rest shapes lines had = absurd is
    all_in_place (p ∷ ps) [] (t ∷ ts) is other rest shapes lines had = absurd other
    all_in_place (p ∷ ps) (q ∷ qs) (t ∷ ts) is other rest shapes lines had =
        let first = in_place p q (ps ++ rest) t is.0 other.0 shapes lines had in
        let away = moved name_of bars sorted symmetric (q ∷ (ps ++ rest)) (ps ++ q ∷ rest) (one_behind q ps rest) shapes lines first in
        let others = all_in_place ps qs ts is.1 other.1 (q ∷ rest) shapes lines away in
        let back = one_behind q qs rest in
        moved name_of bars sorted symmetric (qs ++ q ∷ rest) (q ∷ (qs ++ rest)) (record { sums = λ w. sym (back.sums w) }) shapes lines others

    -- the shapes that stay as a piece
    abbrev pub staying : List NetShape → Piece
    staying stay = record { shapes = stay; lines = [] }

    shapes_told : (w : NetShape → ℕ) (ts : List Told) (rest : List Piece) → sum_by w (shapes_of (map whole ts ++ rest)) ≡ sum_by w (named_in ts) + sum_by w (shapes_of rest)
    shapes_told w [] rest = let none : sum_by w (named_in []) ≡ 0 = refl in omega (arith, none)
    shapes_told w (t ∷ ts) rest =
        let r = shapes_told w ts rest in
        let own = map (named t.name) t.shapes in
        omega (arith, r, sum_by-append w own (shapes_of (map whole ts ++ rest)), sum_by-append w own (named_in ts))

    lines_told : (q : List ℕ) (ts : List Told) (rest : List Piece) → times q (classes_of (map whole ts ++ rest)) ≡ times q (lines_in ts) + times q (classes_of rest)
    lines_told q [] rest = let none : times q (lines_in []) ≡ 0 = refl in omega (arith, none)
    lines_told q (t ∷ ts) rest =
        let r = lines_told q ts rest in
        omega (arith, r, times-append q t.lines (classes_of (map whole ts ++ rest)), times-append q t.lines (lines_in ts))

    module _ (some all : List Told) (stay : List NetShape) (lacks : Lacks some all stay) (rest : List Piece) (shapes : List NetShape) (lines : List (List ℕ)) where
      abbrev apart : List Piece
      apart = map whole some ++ staying stay ∷ rest

      abbrev together : List Piece
      together = map whole all ++ rest

      same_shapes : SameThings (shapes_of together) (shapes_of apart)
      same_shapes = record {
        sums = λ w.
            let h = lacks.shapes_are.sums w in
            omega (arith, h, shapes_told w all rest, shapes_told w some (staying stay ∷ rest), sum_by-append w (named_in some) stay, sum_by-append w stay (shapes_of rest));
      }

      same_classes : SameLines (classes_of together) (classes_of apart)
      same_classes = record {
        often = λ q. let h = lacks.lines_are.often q in omega (arith, h, lines_told q all rest, lines_told q some (staying stay ∷ rest));
      }

      -- what is kept on all, and on some with those that stay
      pub without : (pieces : List Piece) → ArePieces name_of bars pieces all → AreOnPieces name_of bars (pieces ++ rest) shapes lines → AreOnPieces name_of bars apart shapes lines
      without pieces told had =
          alike name_of bars sorted symmetric together apart same_shapes same_classes shapes lines (all_in_place pieces (map whole all) all told (are_whole all) rest shapes lines had)

      pub again : (pieces : List Piece) → ArePieces name_of bars pieces all → AreOnPieces name_of bars apart shapes lines → AreOnPieces name_of bars (pieces ++ rest) shapes lines
      again pieces told had =
          all_in_place (map whole all) pieces all (are_whole all) told rest shapes lines
          (alike name_of bars sorted symmetric apart together (record { sums = λ w. sym (same_shapes.sums w) }) (record { often = λ q. sym (same_classes.often q) }) shapes lines had)
