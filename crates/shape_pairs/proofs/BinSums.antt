-- Pairs of the things of each bin: each pair that meets is told in one bin, its home.
use Rattle.std.proofs.Common.{◌≡◌, ℕ, Bool, true, false, cond, ◌&&◌, List, [], ◌∷◌, filter, refl, sym, ap, ◌∙◌, arith, sum_by}
use Rattle.std.specs.Prelude.{◌==◌}
use Rattle.std.specs.List.{flat_map}
use Rattle.line_laws.proofs.PairSums.{sum_by-same, sum_by-plus}
use Rattle.shape_rules.specs.Meeting.{pairs_of}
use Rattle.shape_pairs.proofs.Calls.{split}
use Rattle.shape_pairs.proofs.PairSums.{nothing, sum_of_filter, sum_of_flat_map, sums_turn, pair_sum, over_pairs, pairs_same}

-- a number stands once in a list: what weighs only there is counted once
abbrev pub Once : ℕ → List ℕ → Type 0
Once h bs = (m : ℕ) → sum_by (λ b. cond (h == b) m 0) bs ≡ m

kept : (first second here : Bool) (m : ℕ) → (here ≡ true → first ≡ true) → (here ≡ true → second ≡ true) → cond first (cond second (cond here m 0) 0) 0 ≡ cond here m 0
kept first second true m f g = ap (λ (b : Bool). cond b (cond second m 0) 0) (f refl) ∙ ap (λ (b : Bool). cond b m 0) (g refl)
kept true true false m f g = refl
kept true false false m f g = refl
kept false second false m f g = refl

module _ {A : Type 0} where
  -- the pairs of what a test leaves of a list
  pair_sum_filter : (w : A → A → ℕ) (c : A → Bool) (xs : List A) → pair_sum w (filter c xs) ≡ pair_sum (λ x y. cond (c x) (cond (c y) (w x y) 0) 0) xs
  pair_sum_filter w c [] = refl
  pair_sum_filter w c (x ∷ xs) =
      let r = pair_sum_filter w c xs in
      split (c x)
      (λ t.
      let e : pair_sum w (filter c (x ∷ xs)) ≡ pair_sum w (x ∷ filter c xs) = ap (λ (b : Bool). pair_sum w (cond b (x ∷ filter c xs) (filter c xs))) t in
      let f : sum_by (λ y. cond (c x) (cond (c y) (w x y) 0) 0) xs ≡ sum_by (λ y. cond (c y) (w x y) 0) xs = ap (λ (b : Bool). sum_by (λ y. cond b (cond (c y) (w x y) 0) 0) xs) t in
      omega (arith, r, e, f, sum_of_filter (w x) c xs))
      (λ t.
      let e : pair_sum w (filter c (x ∷ xs)) ≡ pair_sum w (filter c xs) = ap (λ (b : Bool). pair_sum w (cond b (x ∷ filter c xs) (filter c xs))) t in
      let f : sum_by (λ y. cond (c x) (cond (c y) (w x y) 0) 0) xs ≡ sum_by (λ y. 0) xs = ap (λ (b : Bool). sum_by (λ y. cond b (cond (c y) (w x y) 0) 0) xs) t in
      omega (arith, r, e, f, nothing (λ (y : A). 0) (λ y. refl) xs))

  -- sums of sums of pairs, in either order
  pair_sums_turn : {B : Type 0} (w : B → A → A → ℕ) (bs : List B) (xs : List A) → sum_by (λ b. pair_sum (w b) xs) bs ≡ pair_sum (λ x y. sum_by (λ b. w b x y) bs) xs
  pair_sums_turn w bs [] = nothing (λ b. 0) (λ b. refl) bs
  pair_sums_turn w bs (x ∷ xs) =
      let r = pair_sums_turn w bs xs in
      let p = sum_by-plus (λ b. sum_by (w b x) xs) (λ b. pair_sum (w b) xs) bs in
      let s = sums_turn (λ b y. w b x y) bs xs in
      omega (arith, r, p, s)

  module _ (meet : A × A → Bool) (home : A → A → ℕ) (covers : ℕ → A → Bool) (bins : List ℕ) where
    pub record AreAtHome : Type 0 where
      pub once : (x y : A) → meet (x, y) ≡ true → Once (home x y) bins
      pub first : (x y : A) → meet (x, y) ≡ true → covers (home x y) x ≡ true
      pub second : (x y : A) → meet (x, y) ≡ true → covers (home x y) y ≡ true

    abbrev pub at_home : ℕ → A × A → Bool
    at_home b p = meet p && (home p.0 p.1 == b)

    -- the pairs that are told in each bin
    abbrev pub told : List A → List (A × A)
    told xs = flat_map (λ b. filter (at_home b) (pairs_of (filter (covers b) xs))) bins

    module _ (at : AreAtHome) (w : A × A → ℕ) where
      -- the weight of two things where they are told in a bin
      weight : ℕ → A → A → ℕ
      weight b x y = cond (covers b x) (cond (covers b y) (cond (at_home b (x, y)) (w (x, y)) 0) 0) 0

      one_bin : (x y : A) → sum_by (λ b. weight b x y) bins ≡ cond (meet (x, y)) (w (x, y)) 0
      unfolding weight
      one_bin x y =
          split (meet (x, y))
          (λ t.
          sum_by-same (λ b. weight b x y) (λ b. cond (home x y == b) (w (x, y)) 0)
          (λ b.
          let h : at_home b (x, y) ≡ (home x y == b) = ap (λ (s : Bool). s && (home x y == b)) t in
          ap (λ (s : Bool). cond (covers b x) (cond (covers b y) (cond s (w (x, y)) 0) 0) 0) h
          ∙ kept (covers b x) (covers b y) (home x y == b) (w (x, y))
          (λ s. let same : home x y ≡ b = grind (arith, s) in sym (ap (λ (b : ℕ). covers b x) same) ∙ at.first x y t)
          (λ s. let same : home x y ≡ b = grind (arith, s) in sym (ap (λ (b : ℕ). covers b y) same) ∙ at.second x y t)) bins
          ∙ at.once x y t (w (x, y)) ∙ sym (ap (λ (s : Bool). cond s (w (x, y)) 0) t))
          (λ t.
          nothing (λ b. weight b x y)
          (λ b.
          let h : at_home b (x, y) ≡ false = ap (λ (s : Bool). s && (home x y == b)) t in
          ap (λ (s : Bool). cond (covers b x) (cond (covers b y) (cond s (w (x, y)) 0) 0) 0) h
          ∙ kept (covers b x) (covers b y) false (w (x, y)) (λ s. absurd (cc)) (λ s. absurd (cc))) bins
          ∙ sym (ap (λ (s : Bool). cond s (w (x, y)) 0) t))

      in_bin : (b : ℕ) (xs : List A) → sum_by w (filter (at_home b) (pairs_of (filter (covers b) xs))) ≡ pair_sum (weight b) xs
      unfolding weight
      in_bin b xs =
          sum_of_filter w (at_home b) (pairs_of (filter (covers b) xs))
          ∙ over_pairs (λ x y. cond (at_home b (x, y)) (w (x, y)) 0) (filter (covers b) xs)
          ∙ pair_sum_filter (λ x y. cond (at_home b (x, y)) (w (x, y)) 0) (covers b) xs

      -- they weigh what the pairs that meet do
      pub told_weigh : (xs : List A) → sum_by w (told xs) ≡ sum_by w (filter meet (pairs_of xs))
      told_weigh xs =
          sum_of_flat_map w (λ b. filter (at_home b) (pairs_of (filter (covers b) xs))) bins
          ∙ sum_by-same (λ b. sum_by w (filter (at_home b) (pairs_of (filter (covers b) xs)))) (λ b. pair_sum (weight b) xs) (λ b. in_bin b xs) bins
          ∙ pair_sums_turn weight bins xs
          ∙ pairs_same (λ x y. sum_by (λ b. weight b x y) bins) (λ x y. cond (meet (x, y)) (w (x, y)) 0) one_bin xs
          ∙ sym (over_pairs (λ x y. cond (meet (x, y)) (w (x, y)) 0) xs)
          ∙ sym (sum_of_filter w meet (pairs_of xs))
