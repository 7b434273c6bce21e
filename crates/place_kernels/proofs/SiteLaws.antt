-- The laws of rows of sites.
use Rattle.std.proofs.Common.{◌≡◌, ℕ, suc, ◌+◌, ◌*◌, ◌<◌, ◌≤◌, Bool, true, ℤ, pos, negsuc, neg_ℤ, ◌+ℤ◌, ◌-ℤ◌, ◌*ℤ◌, ◌≤ℤ◌, arith, refl, sym, ◌∙◌, ap, inl, inr, ⊎_elim}
use Rattle.std.specs.Prelude.{◌⊎◌, ◌||◌, ◌&&◌, int_lt}
use Rattle.std.specs.Int.{int_min, int_max}
use Rattle.std.specs.Int.Signed.{le_z}
use Rattle.std.specs.List.{list_any, range_with_len}
use Rattle.std.specs.Ordering.{int_eq}
use Rattle.std.proofs.Math.IntN.{neg_ℤ-neg_ℤ}
use Rattle.std.proofs.Math.Nat.{mul-le-mul_right}
use Rattle.std.proofs.lemmas.Bool.{false≢true, and_from, or_right, eq-eqb, cases_cond}
use Rattle.std.proofs.lemmas.Bool.Decides.{Decides-int_eq}
use Rattle.std.proofs.lemmas.List.Folds.{Any-from_list_any}
use Rattle.std.proofs.lemmas.List.FromFn.{length-range_with_len, get_or-range_with_len}
use Rattle.std.proofs.lemmas.Int.{ints, clamps}
use Rattle.design_model.specs.declared.geometry.Orient.{Orient}
use Rattle.design_model.specs.declared.geometry.Orient.TheVariants.{N, W, S, E, FN, FS, FW, FE}
use Rattle.design_model.specs.declared.geometry.Point.{Point}
use Rattle.design_model.specs.Geometry.{turned_point}
use Rattle.place_rules.specs.Sites.{places, spans, holds, is_on_sites, is_row_orient}
use Rattle.place_kernels.specs.Laws.{SitesAreHeld, SpansBetweenEnds, RowOrients, TurnedSizes, flipped}
use Rattle.place_kernels.proofs.Steps.{any_at, any_map, Decides-le_z, same_answer}

-- a place in its list
at_place : (p : ℤ → Bool) (first step : ℤ) (count i : ℕ) → i < count → p (first +ℤ (pos i *ℤ step)) ≡ true → list_any p (places first step count) ≡ true
at_place p first step count i below is = sym (any_map p (λ k. first +ℤ (pos k *ℤ step)) (range_with_len 0 count)) ∙ any_at (λ k. p (first +ℤ (pos k *ℤ step))) count i below is

same_int : (x : ℤ) → int_eq x x ≡ true
same_int x = (Decides-int_eq x x).1 refl

le_itself : (x : ℤ) → le_z x x ≡ true
le_itself x = (Decides-le_z x x).1 (omega (arith, ints))

pub sites_are_held : SitesAreHeld
unfolding holds spans is_on_sites
sites_are_held row i j column line =
    let x : ℤ = row.origin.x +ℤ (pos i *ℤ row.step.x) in
    let y : ℤ = row.origin.y +ℤ (pos j *ℤ row.step.y) in
    let on_edge = at_place (λ z. int_eq z y) row.origin.y row.step.y row.rows j line (same_int y) in
    let left = at_place (λ z. le_z z x) row.origin.x row.step.x row.columns i column (le_itself x) in
    let right = at_place (λ z. le_z (x +ℤ row.size.x) (z +ℤ row.size.x)) row.origin.x row.step.x row.columns i column (le_itself (x +ℤ row.size.x)) in
    (and_from _ _ on_edge (and_from _ _ left right), at_place (λ z. int_eq z x) row.origin.x row.step.x row.columns i column (same_int x))

-- orientations
abbrev point : ℤ → ℤ → Point
point x y = record { x = x; y = y }

twice : (x y : ℤ) → point x y ≡ point (neg_ℤ (neg_ℤ x)) y
twice x y = ap (λ z. point z y) (sym (neg_ℤ-neg_ℤ x))

takes : (row component : Orient) → is_row_orient row component ≡ true → (component ≡ row) ⊎ ((p : Point) → turned_point component p ≡ flipped (turned_point row p))
takes N N h = inl refl
takes N FN h = inr (λ p. refl)
takes N _ h = absurd (false≢true h)
takes W W h = inl refl
takes W FW h = inr (λ p. twice p.y _)
takes W _ h = absurd (false≢true h)
takes S S h = inl refl
takes S FS h = inr (λ p. twice p.x _)
takes S _ h = absurd (false≢true h)
takes E E h = inl refl
takes E FE h = inr (λ p. refl)
takes E _ h = absurd (false≢true h)
takes FN FN h = inl refl
takes FN N h = inr (λ p. twice p.x _)
takes FN _ h = absurd (false≢true h)
takes FW FW h = inl refl
takes FW W h = inr (λ p. refl)
takes FW _ h = absurd (false≢true h)
takes FS FS h = inl refl
takes FS S h = inr (λ p. refl)
takes FS _ h = absurd (false≢true h)
takes FE FE h = inl refl
takes FE E h = inr (λ p. twice p.y _)
takes FE _ h = absurd (false≢true h)

-- a point that tells orientations apart
abbrev mark : Point
mark = point (pos 1) (pos 2)

abbrev is_at : Point → Point → Bool
is_at a b = int_eq a.x b.x && int_eq a.y b.y

told : (row component : Orient) → is_row_orient row component ≡ (is_at (turned_point component mark) (turned_point row mark) || is_at (turned_point component mark) (flipped (turned_point row mark)))
told N N = refl
told N _ = refl
told W N = refl
told W _ = refl
told S N = refl
told S _ = refl
told E N = refl
told E _ = refl
told FN N = refl
told FN _ = refl
told FW N = refl
told FW _ = refl
told FS N = refl
told FS _ = refl
told FE N = refl
told FE _ = refl

at_itself : (p : Point) → is_at p p ≡ true
at_itself p = and_from _ _ (same_int p.x) (same_int p.y)

pub row_orients : RowOrients
row_orients row component = (
  takes row component,
  λ either.
      ⊎_elim
      (λ (same : component ≡ row). ap (is_row_orient row) same ∙ eq-eqb _ _ refl)
      (λ (flips : (p : Point) → turned_point component p ≡ flipped (turned_point row p)).
      told row component ∙ or_right _ _ (ap (λ p. is_at p (flipped (turned_point row mark))) (flips mark) ∙ at_itself (flipped (turned_point row mark))))
      either,
)

-- a length from 0, and one to 0
upward : (w : ℤ) → pos 0 ≤ℤ w → w ≡ int_max (pos 0) w -ℤ int_min (pos 0) w
upward w h = omega (arith, ints, clamps)

downward : (w : ℤ) → pos 0 ≤ℤ w → w ≡ int_max (pos 0) (neg_ℤ w) -ℤ int_min (pos 0) (neg_ℤ w)
downward w h = omega (arith, ints, clamps)

both : (a b c d : ℤ) → a ≡ c → b ≡ d → point a b ≡ point c d
both a b c d h k = cc

pub turned_sizes : TurnedSizes
turned_sizes N size wide high = both _ _ _ _ (upward size.x wide) (upward size.y high)
turned_sizes W size wide high = both _ _ _ _ (downward size.y high) (upward size.x wide)
turned_sizes S size wide high = both _ _ _ _ (downward size.x wide) (downward size.y high)
turned_sizes E size wide high = both _ _ _ _ (upward size.y high) (downward size.x wide)
turned_sizes FN size wide high = both _ _ _ _ (downward size.x wide) (upward size.y high)
turned_sizes FS size wide high = both _ _ _ _ (upward size.x wide) (downward size.y high)
turned_sizes FW size wide high = both _ _ _ _ (upward size.y high) (upward size.x wide)
turned_sizes FE size wide high = both _ _ _ _ (downward size.y high) (downward size.x wide)

-- the ends of a line of places
any_says : (p : ℕ → Bool) (n : ℕ) → list_any p (range_with_len 0 n) ≡ true → (k : ℕ) × (k < n) × (p k ≡ true)
any_says p n h =
    let found = Any-from_list_any p (range_with_len 0 n) h in
    let inside : found.0 < n = rw (length-range_with_len 0 n) at found.2 in
    let is : 0 + found.0 ≡ found.1 = sym (get_or-range_with_len 0 n found.0 found.1 inside) ∙ found.3 in
    (found.1, omega arith, found.4)

place_says : (p : ℤ → Bool) (first step : ℤ) (count : ℕ) → list_any p (places first step count) ≡ true → (k : ℕ) × (k < count) × (p (first +ℤ (pos k *ℤ step)) ≡ true)
place_says p first step count h = any_says (λ k. p (first +ℤ (pos k *ℤ step))) count (any_map p (λ k. first +ℤ (pos k *ℤ step)) (range_with_len 0 count) ∙ h)

low_end : (n k : ℕ) (f s : ℤ) → k ≤ n → int_min f (f +ℤ (pos n *ℤ s)) ≤ℤ (f +ℤ (pos k *ℤ s))
low_end n k f (pos t) le = let h : k * t ≤ n * t = mul-le-mul_right t le in omega (arith, ints, clamps)
low_end n k f (negsuc t) le = let h : k * suc t ≤ n * suc t = mul-le-mul_right (suc t) le in omega (arith, ints, clamps)

high_end : (n k : ℕ) (f s : ℤ) → k ≤ n → (f +ℤ (pos k *ℤ s)) ≤ℤ int_max f (f +ℤ (pos n *ℤ s))
high_end n k f (pos t) le = let h : k * t ≤ n * t = mul-le-mul_right t le in omega (arith, ints, clamps)
high_end n k f (negsuc t) le = let h : k * suc t ≤ n * suc t = mul-le-mul_right (suc t) le in omega (arith, ints, clamps)

no_steps : (f s : ℤ) → f +ℤ (pos 0 *ℤ s) ≡ f
no_steps f (pos t) = omega (arith, ints)
no_steps f (negsuc t) = omega (arith, ints)

at_most : (a b c : ℤ) → a ≤ℤ b → b ≤ℤ c → a ≤ℤ c
at_most a b c h k = omega (arith, ints)

moved_by : (a b w : ℤ) → a ≤ℤ b → (a +ℤ w) ≤ℤ (b +ℤ w)
moved_by a b w h = omega (arith, ints)

min_is_one : (a c : ℤ) → (int_min a c ≡ a) ⊎ (int_min a c ≡ c)
min_is_one a c = ⊎_elim (λ h. inr h) (λ h. inl h) (cases_cond (int_lt c a) c a (int_min a c) refl)

max_is_one : (a c : ℤ) → (int_max a c ≡ a) ⊎ (int_max a c ≡ c)
max_is_one a c = cases_cond (int_lt c a) a c (int_max a c) refl

-- a test that each place between the ends passes where an end does
from_ends : (p : ℤ → Bool) (f s end : ℤ) (n : ℕ) → (end ≡ f) ⊎ (end ≡ f +ℤ (pos n *ℤ s)) → p end ≡ true → list_any p (places f s (suc n)) ≡ true
from_ends p f s end n either h =
    ⊎_elim
    (λ (first : end ≡ f). at_place p f s (suc n) 0 (omega arith) (ap p (no_steps f s ∙ sym first) ∙ h))
    (λ (last : end ≡ f +ℤ (pos n *ℤ s)). at_place p f s (suc n) n (omega arith) (ap p (sym last) ∙ h))
    either

leftmost : (f s b : ℤ) (n : ℕ) → list_any (λ x. le_z x b) (places f s (suc n)) ≡ le_z (int_min f (f +ℤ (pos n *ℤ s))) b
leftmost f s b n =
    let last : ℤ = f +ℤ (pos n *ℤ s) in
    same_answer _ _
    (λ h.
    let place = place_says (λ x. le_z x b) f s (suc n) h in
    let end : int_min f last ≤ℤ (f +ℤ (pos place.0 *ℤ s)) = low_end n place.0 f s (omega arith) in
    let under : (f +ℤ (pos place.0 *ℤ s)) ≤ℤ b = (Decides-le_z _ _).0 place.2 in
    (Decides-le_z (int_min f last) b).1 (at_most _ _ _ end under))
    (λ h. from_ends (λ x. le_z x b) f s (int_min f last) n (min_is_one f last) h)

rightmost : (f s b w : ℤ) (n : ℕ) → list_any (λ x. le_z b (x +ℤ w)) (places f s (suc n)) ≡ le_z b (int_max f (f +ℤ (pos n *ℤ s)) +ℤ w)
rightmost f s b w n =
    let last : ℤ = f +ℤ (pos n *ℤ s) in
    same_answer _ _
    (λ h.
    let place = place_says (λ x. le_z b (x +ℤ w)) f s (suc n) h in
    let end : (f +ℤ (pos place.0 *ℤ s)) ≤ℤ int_max f last = high_end n place.0 f s (omega arith) in
    let under : b ≤ℤ ((f +ℤ (pos place.0 *ℤ s)) +ℤ w) = (Decides-le_z _ _).0 place.2 in
    (Decides-le_z b (int_max f last +ℤ w)).1 (at_most _ _ _ under (moved_by _ _ w end)))
    (λ h. from_ends (λ x. le_z b (x +ℤ w)) f s (int_max f last) n (max_is_one f last) h)

pub spans_between_ends : SpansBetweenEnds
unfolding spans
spans_between_ends row n box columns =
    let f : ℤ = row.origin.x in
    let s : ℤ = row.step.x in
    ap (λ m. list_any (λ x. le_z x box.x1) (places f s m) && list_any (λ x. le_z box.x2 (x +ℤ row.size.x)) (places f s m)) columns
    ∙ ap (λ t. t && list_any (λ x. le_z box.x2 (x +ℤ row.size.x)) (places f s (suc n))) (leftmost f s box.x1 n)
    ∙ ap (λ t. le_z (int_min f (f +ℤ (pos n *ℤ s))) box.x1 && t) (rightmost f s box.x2 row.size.x n)
