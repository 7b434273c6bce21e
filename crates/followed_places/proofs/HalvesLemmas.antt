-- The lines on components are those of each half by itself, and those of the lower half with the upper one.
use Rattle.std.proofs.Common.{◌≡◌, ◌+◌, ◌≤ℤ◌, ℕ, ℤ, Bool, true, false, not, List, [], ◌∷◌, ◌++◌, cond, filter, flat_map, map, sum_by, refl, sym, ap, ap₂, ◌∙◌, arith, ⊎_elim, if◌then◌else◌}
use Rattle.std.specs.Prelude.{int_lt}
use Rattle.std.proofs.lemmas.Bool.{cases_Bool as cases}
use Rattle.std.proofs.lemmas.Grind.{flat_map-append}
use Rattle.std.proofs.lemmas.Int.{ints}
use Rattle.std.proofs.lemmas.List.Sums.{sum_by-append, sum_by-cons}
use Rattle.design_model.specs.Families.{cross_lines, lines_with, pair_lines}
use Rattle.design_model.specs.Geometry.{Rectangle, overlap}
use Rattle.design_rules.specs.Boxes.{Boxed}
use Rattle.design_rules.specs.OverlapLines.{overlap_of}
use Rattle.design_rules.specs.PlaceLines.{blocked_of, lines_in}
use Rattle.design_rules.specs.Surroundings.{Surroundings}
use Rattle.line_laws.specs.Lines.{SameLines, SameThings, times}
use Rattle.line_laws.specs.OneLaws.{component_lines}
use Rattle.line_laws.proofs.EachSums.{crosses_are_unordered, each_is_unordered}
use Rattle.line_laws.proofs.Overlaps.{overlaps_are_symmetric}
use Rattle.line_laws.proofs.PairSums.{pairs_are_unordered, times-append}
use Rattle.place_checks.specs.declared.swept_box.SweptBox.{SweptBox}
use Rattle.place_checks.specs.Views.{bare, swept_view}
use Rattle.place_checks.proofs.SkipLemmas.{apart_above}
use Rattle.place_checks.proofs.SweepLemmas.{not_below_of}
use Rattle.followed_places.specs.Halves.{is_in}
use Rattle.followed_places.specs.declared.halves.Half.TheVariants.{Below, From}
use Rattle.followed_places.proofs.MetLemmas.{sum_by-filter}

abbrev Lines : Type 0
Lines = List (List ℕ)

-- the pairs of two lists behind one another
pairs_of_parts : (q : List ℕ) (xs ys : List Boxed)
    → times q (pair_lines overlap_of (xs ++ ys)) ≡ (times q (pair_lines overlap_of xs) + times q (cross_lines overlap_of xs ys)) + times q (pair_lines overlap_of ys)
pairs_of_parts q [] ys = omega arith
pairs_of_parts q (x ∷ xs) ys =
    let so = pairs_of_parts q xs ys in
    let with = ap (times q) (flat_map-append (overlap_of x) xs ys) in
    omega (
      arith,
      so,
      with,
      times-append q (lines_with overlap_of x (xs ++ ys)) (pair_lines overlap_of (xs ++ ys)),
      times-append q (lines_with overlap_of x xs) (lines_with overlap_of x ys),
      times-append q (lines_with overlap_of x xs) (pair_lines overlap_of xs),
      times-append q (lines_with overlap_of x ys) (cross_lines overlap_of xs ys),
    )

bare_with : (x : Boxed) (ys : List Boxed) → flat_map (overlap_of (bare x)) (map bare ys) ≡ flat_map (overlap_of x) ys
bare_with x [] = refl
bare_with x (y ∷ ys) = ap (λ (ls : Lines). overlap_of x y ++ ls) (bare_with x ys)

bare_across : (xs ys : List Boxed) → cross_lines overlap_of (map bare xs) (map bare ys) ≡ cross_lines overlap_of xs ys
bare_across [] ys = refl
bare_across (x ∷ xs) ys = ap₂ (λ (a b : Lines). a ++ b) (bare_with x ys) (bare_across xs ys)

module _ (m : ℤ) where
  abbrev pub low : List Boxed → List Boxed
  low bs = filter (is_in (Below m)) bs

  abbrev pub high : List Boxed → List Boxed
  high bs = filter (is_in (From m)) bs

  -- it reaches above the ordinate
  abbrev pub up : Boxed → Bool
  up b = int_lt m b.box.y2

  in_parts : (w : Boxed → ℕ) (bs : List Boxed) → sum_by w (low bs) + sum_by w (high bs) ≡ sum_by w bs
  in_parts w [] = refl
  in_parts w (b ∷ bs) = one (int_lt b.box.y1 m) (in_parts w bs)
    where
      one : (t : Bool) → sum_by w (low bs) + sum_by w (high bs) ≡ sum_by w bs
          → sum_by w (if t then b ∷ low bs else low bs) + sum_by w (if not t then b ∷ high bs else high bs) ≡ sum_by w (b ∷ bs)
      one true so = omega (arith, so, sum_by-cons w b (low bs), sum_by-cons w b bs)
      one false so = omega (arith, so, sum_by-cons w b (high bs), sum_by-cons w b bs)

  halves : (bs : List Boxed) → SameThings bs (low bs ++ high bs)
  halves bs = record { sums = λ w. sym (sum_by-append w (low bs) (high bs) ∙ in_parts w bs) }

  -- one that doesn't reach above it shares no area with the upper half
  none_with : (a : Boxed) (bs : List Boxed) → a.box.y2 ≤ℤ m → flat_map (overlap_of a) (high bs) ≡ []
  none_with a [] under = refl
  none_with a (b ∷ bs) under = ⊎_elim
      (λ (t : int_lt b.box.y1 m ≡ true). rw t (none_with a bs under))
      (λ (f : int_lt b.box.y1 m ≡ false).
      let over : m ≤ℤ b.box.y1 = not_below_of b.box.y1 m f in
      let apart : overlap a.box b.box ≡ false = apart_above a.box b.box (omega (arith, ints)) in
      rw (f, apart) (none_with a bs under))
      (cases (int_lt b.box.y1 m))

  only_up : (xs bs : List Boxed) → cross_lines overlap_of (filter up xs) (high bs) ≡ cross_lines overlap_of xs (high bs)
  only_up [] bs = refl
  only_up (a ∷ xs) bs = ⊎_elim
      (λ (t : int_lt m a.box.y2 ≡ true). rw t (ap (λ (ls : Lines). flat_map (overlap_of a) (high bs) ++ ls) (only_up xs bs)))
      (λ (f : int_lt m a.box.y2 ≡ false). rw (f, none_with a bs (not_below_of m a.box.y2 f)) (only_up xs bs))
      (cases (int_lt m a.box.y2))

  bare_up : (bs : List Boxed) → filter up (map bare bs) ≡ map bare (filter up bs)
  bare_up [] = refl
  bare_up (b ∷ bs) = one (up b) (bare_up bs)
    where
      one : (t : Bool) → filter up (map bare bs) ≡ map bare (filter up bs) → (if t then bare b ∷ filter up (map bare bs) else filter up (map bare bs)) ≡ map bare (if t then b ∷ filter up bs else filter up bs)
      one true so = ap (λ (l : List Boxed). bare b ∷ l) so
      one false so = so

  same_up : (xs ys : List Boxed) → SameThings xs ys → SameThings (filter up xs) (filter up ys)
  same_up xs ys same = record { sums = λ w. sum_by-filter w up xs ∙ same.sums (λ b. cond (up b) (w b) 0) ∙ sym (sum_by-filter w up ys) }

  -- the lines of the lower half with the upper one, as a sweep has them
  across : (bs : List Boxed) (lower upper reach : List SweptBox) → SameThings (map bare (low bs)) (map swept_view lower) → SameThings (map bare (high bs)) (map swept_view upper)
      → map swept_view reach ≡ filter up (map swept_view lower)
      → SameLines (cross_lines overlap_of (map swept_view reach) (map swept_view upper)) (cross_lines overlap_of (low bs) (high bs))
  across bs lower upper reach below above those =
      let some : SameThings (filter up (map bare (low bs))) (filter up (map swept_view lower)) = same_up _ _ below in
      let turned = crosses_are_unordered Boxed Boxed overlap_of (filter up (map bare (low bs))) (filter up (map swept_view lower)) (map bare (high bs)) (map swept_view upper) some above in
      let plain : cross_lines overlap_of (filter up (map bare (low bs))) (map bare (high bs)) ≡ cross_lines overlap_of (low bs) (high bs) =
      ap (λ (l : List Boxed). cross_lines overlap_of l (map bare (high bs))) (bare_up (low bs)) ∙ bare_across (filter up (low bs)) (high bs) ∙ only_up (low bs) bs in
      record { often = λ q. ap (λ (l : List Boxed). times q (cross_lines overlap_of l (map swept_view upper))) those ∙ sym (turned.often q) ∙ ap (times q) plain }

  pub all_in_halves : (s : Surroundings) (outs : List Rectangle) (bs : List Boxed) (lower upper reach : List SweptBox) (first second all : Lines)
      → SameThings (map bare (low bs)) (map swept_view lower) → SameThings (map bare (high bs)) (map swept_view upper) → map swept_view reach ≡ filter up (map swept_view lower)
      → SameLines first (component_lines s outs (low bs)) → SameLines second (first ++ component_lines s outs (high bs))
      → all ≡ second ++ cross_lines overlap_of (map swept_view reach) (map swept_view upper) → SameLines all (component_lines s outs bs)
  all_in_halves s outs bs lower upper reach first second all below above those one two is =
      let both = halves bs in
      let l = low bs in
      let h = high bs in
      let xs = cross_lines overlap_of (map swept_view reach) (map swept_view upper) in
      let pairs = pairs_are_unordered Boxed overlap_of bs (l ++ h) overlaps_are_symmetric both in
      let own = each_is_unordered Boxed (lines_in s) bs (l ++ h) both in
      let blocked = crosses_are_unordered Boxed Rectangle blocked_of bs (l ++ h) outs outs both (record { sums = λ w. refl }) in
      let between = across bs lower upper reach below above those in
      let own_parts = flat_map-append (lines_in s) l h in
      let blocked_parts = flat_map-append (λ x. flat_map (blocked_of x) outs) l h in
      record {
        often = λ q.
            omega (
              arith,
              ap (times q) is,
              one.often q,
              two.often q,
              pairs.often q,
              own.often q,
              blocked.often q,
              between.often q,
              ap (times q) own_parts,
              ap (times q) blocked_parts,
              pairs_of_parts q l h,
              times-append q second xs,
              times-append q first (component_lines s outs h),
              times-append q (pair_lines overlap_of l) (flat_map (lines_in s) l ++ cross_lines blocked_of l outs),
              times-append q (flat_map (lines_in s) l) (cross_lines blocked_of l outs),
              times-append q (pair_lines overlap_of h) (flat_map (lines_in s) h ++ cross_lines blocked_of h outs),
              times-append q (flat_map (lines_in s) h) (cross_lines blocked_of h outs),
              times-append q (pair_lines overlap_of bs) (flat_map (lines_in s) bs ++ cross_lines blocked_of bs outs),
              times-append q (flat_map (lines_in s) bs) (cross_lines blocked_of bs outs),
              times-append q (flat_map (lines_in s) l) (flat_map (lines_in s) h),
              times-append q (cross_lines blocked_of l outs) (cross_lines blocked_of h outs),
            );
      }
