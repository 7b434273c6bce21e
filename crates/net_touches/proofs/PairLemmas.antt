-- The lines of pairs: of two kinds of things, and by a test.
use Rattle.std.proofs.Common.{◌≡◌, ◌+◌, ℕ, Bool, true, false, not, List, [], ◌∷◌, ◌++◌, map, filter, refl, ap, ap₂, ◌∙◌, arith}
use Rattle.std.specs.List.{flat_map}
use Rattle.std.proofs.lemmas.Grind.{flat_map-append}
use Rattle.design_model.specs.Families.{cross_lines, pair_lines}
use Rattle.connection_rules.specs.NetLines.{Barrier, NetShape, routeblock_of, short_of}
use Rattle.line_laws.specs.Lines.{SameLines, times}
use Rattle.line_laws.proofs.PairSums.{times-append}
use Rattle.net_touches.specs.Things.{Thing, all_things, barrier, lines_of_two, shape_of_net}
use Rattle.net_touches.proofs.BoolLemmas.{split}

abbrev pub TheLines : Type 0
TheLines = List (List ℕ)

lines_none : {A : Type 0} (f : A → TheLines) → ((x : A) → f x ≡ []) → (xs : List A) → flat_map f xs ≡ []
lines_none f none [] = refl
lines_none f none (x ∷ xs) = rw (none x) (lines_none f none xs)

lines_same : {A : Type 0} (f g : A → TheLines) → ((x : A) → f x ≡ g x) → (xs : List A) → flat_map f xs ≡ flat_map g xs
lines_same f g h [] = refl
lines_same f g h (x ∷ xs) = ap₂ (λ (a b : TheLines). a ++ b) (h x) (lines_same f g h xs)

lines_mapped : {A B : Type 0} (f : B → TheLines) (g : A → B) (xs : List A) → flat_map f (map g xs) ≡ flat_map (λ x. f (g x)) xs
lines_mapped f g [] = refl
lines_mapped f g (x ∷ xs) = ap (λ (ls : TheLines). f (g x) ++ ls) (lines_mapped f g xs)

-- what has no lines may be left out
lines_filter : {A : Type 0} (f : A → TheLines) (p : A → Bool) → ((x : A) → p x ≡ false → f x ≡ []) → (xs : List A) → flat_map f (filter p xs) ≡ flat_map f xs
lines_filter f p none [] = refl
lines_filter f p none (x ∷ xs) =
    let r = lines_filter f p none xs in
    split (p x) (λ t. rw t (ap (λ (ls : TheLines). f x ++ ls) r)) (λ t. rw (t, none x t) r)

pub pairs_same : {A : Type 0} (c d : A → A → TheLines) → ((x y : A) → c x y ≡ d x y) → (xs : List A) → pair_lines c xs ≡ pair_lines d xs
pairs_same c d h [] = refl
pairs_same c d h (x ∷ xs) = ap₂ (λ (a b : TheLines). a ++ b) (lines_same (c x) (d x) (h x) xs) (pairs_same c d h xs)

pub pairs_mapped : {A B : Type 0} (c : B → B → TheLines) (g : A → B) (xs : List A) → pair_lines c (map g xs) ≡ pair_lines (λ x y. c (g x) (g y)) xs
pairs_mapped c g [] = refl
pairs_mapped c g (x ∷ xs) = ap₂ (λ (a b : TheLines). a ++ b) (lines_mapped (c (g x)) g xs) (pairs_mapped c g xs)

module _ {A : Type 0} (c : A → A → TheLines) (p : A → Bool) (first : (x y : A) → p x ≡ true → p y ≡ false → c x y ≡ []) (second : (x y : A) → p x ≡ false → p y ≡ true → c x y ≡ []) (q : List ℕ) where
  abbrev fails : A → Bool
  fails x = not (p x)

  -- things on one side of a test have lines with one another alone
  pub times_parted : (xs : List A) → times q (pair_lines c xs) ≡ times q (pair_lines c (filter p xs)) + times q (pair_lines c (filter fails xs))
  times_parted [] = refl
  times_parted (x ∷ xs) =
      let r = times_parted xs in
      let whole = times-append q (flat_map (c x) xs) (pair_lines c xs) in
      split (p x)
      (λ (t : p x ≡ true).
      let e : filter p (x ∷ xs) ≡ x ∷ filter p xs = rw t refl in
      let f : filter fails (x ∷ xs) ≡ filter fails xs = rw t refl in
      let same : flat_map (c x) (filter p xs) ≡ flat_map (c x) xs = lines_filter (c x) p (λ y. first x y t) xs in
      let part = times-append q (flat_map (c x) (filter p xs)) (pair_lines c (filter p xs)) in
      let s : times q (flat_map (c x) (filter p xs)) ≡ times q (flat_map (c x) xs) = ap (times q) same in
      rw (e, f) (omega (arith, r, whole, part, s)))
      (λ (t : p x ≡ false).
      let e : filter p (x ∷ xs) ≡ filter p xs = rw t refl in
      let f : filter fails (x ∷ xs) ≡ x ∷ filter fails xs = rw t refl in
      let same : flat_map (c x) (filter fails xs) ≡ flat_map (c x) xs =
      lines_filter (c x) fails (λ y n. second x y t (split (p y) (λ yes. yes) (λ no. absurd (let m : not false ≡ false = rw no at n in cc)))) xs
      in
      let part = times-append q (flat_map (c x) (filter fails xs)) (pair_lines c (filter fails xs)) in
      let s : times q (flat_map (c x) (filter fails xs)) ≡ times q (flat_map (c x) xs) = ap (times q) same in
      rw (e, f) (omega (arith, r, whole, part, s)))

module _ (name_of : ℕ → List ℕ) where
  abbrev two : Thing → Thing → TheLines
  two = lines_of_two name_of

  barriers_none : (bs : List Barrier) → pair_lines two (map barrier bs) ≡ []
  barriers_none [] = refl
  barriers_none (b ∷ bs) = rw (lines_none (two (barrier b)) (λ x. refl) (map barrier bs)) (barriers_none bs)

  with_all : (s : NetShape) (ss : List NetShape) (bs : List Barrier) → flat_map (two (shape_of_net s)) (all_things ss bs) ≡ flat_map (short_of name_of s) ss ++ flat_map (routeblock_of name_of s) bs
  with_all s ss bs =
      flat_map-append (two (shape_of_net s)) (map shape_of_net ss) (map barrier bs)
      ∙ ap₂ (λ (a b : TheLines). a ++ b) (lines_mapped (two (shape_of_net s)) shape_of_net ss) (lines_mapped (two (shape_of_net s)) barrier bs)

  times_all : (q : List ℕ) (ss : List NetShape) (bs : List Barrier)
      → times q (pair_lines two (all_things ss bs)) ≡ times q (pair_lines (short_of name_of) ss) + times q (cross_lines (routeblock_of name_of) ss bs)
  times_all q [] bs = ap (times q) (barriers_none bs)
  times_all q (s ∷ ss) bs =
      let r = times_all q ss bs in
      let whole = times-append q (flat_map (two (shape_of_net s)) (all_things ss bs)) (pair_lines two (all_things ss bs)) in
      let with_s : times q (flat_map (two (shape_of_net s)) (all_things ss bs)) ≡ times q (flat_map (short_of name_of s) ss ++ flat_map (routeblock_of name_of s) bs) =
      ap (times q) (with_all s ss bs)
      in
      let parts = times-append q (flat_map (short_of name_of s) ss) (flat_map (routeblock_of name_of s) bs) in
      let shorts = times-append q (flat_map (short_of name_of s) ss) (pair_lines (short_of name_of) ss) in
      let crosses = times-append q (flat_map (routeblock_of name_of s) bs) (cross_lines (routeblock_of name_of) ss bs) in
      omega (arith, r, whole, with_s, parts, shorts, crosses)

  -- the lines of all things are those of shapes, and those of each shape with each barrier
  pub all_lines : (old l : TheLines) (ss : List NetShape) (bs : List Barrier) → SameLines l (old ++ pair_lines two (all_things ss bs))
      → SameLines l (old ++ (pair_lines (short_of name_of) ss ++ cross_lines (routeblock_of name_of) ss bs))
  all_lines old l ss bs h = record {
    often = λ q.
        let e = h.often q in
        let r = times_all q ss bs in
        let whole = times-append q old (pair_lines two (all_things ss bs)) in
        let parts = times-append q (pair_lines (short_of name_of) ss) (cross_lines (routeblock_of name_of) ss bs) in
        let more = times-append q old (pair_lines (short_of name_of) ss ++ cross_lines (routeblock_of name_of) ss bs) in
        omega (arith, e, r, whole, parts, more);
  }
