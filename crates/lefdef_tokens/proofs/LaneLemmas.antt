-- What the operations on vectors of 16 bytes hold at each lane.
use Rattle.std.proofs.Common.{◌≡◌, ◌↔◌, ℕ, ◌%◌, ◌^◌, ◌≤◌, List, [], ◌∷◌, Bool, true, false, cond, leb, length, get_or, map, replicate, refl, sym, ap, ◌∙◌, arith, w8}
use Rattle.std.specs.Int.{bit_at}
use Rattle.std.specs.Simd.Lanes.{zip2, sel_l, mask_l, top}
use Rattle.std.proofs.lemmas.Simd.{length-zip2, get_or-zip2, get_or-replicate, length-sel_l, get_or-sel_l, bit_mask_l, tops_compared, mask_l-mod}
use Rattle.std.proofs.lemmas.Bool.{leb-true, leb-false}
use Rattle.std.proofs.lemmas.List.{length-map}
use Rattle.std.proofs.Math.ListN.{get_or-map}
use Rattle.lefdef_tokens.specs.Runs.{HasLanes}

-- an operator on two vectors
pub HasLanes-zip2 : (f : ℕ → ℕ → ℕ) (a b : List ℕ) → length a ≡ 16 → length b ≡ 16 → HasLanes (zip2 f a b) (λ k. f (get_or a k 0) (get_or b k 0))
HasLanes-zip2 f a b p q = record {
  long = length-zip2 f a b (p ∙ sym q) ∙ p;
  each = λ k l. get_or-zip2 f a b k 0 0 0 (omega arith) (omega arith);
}

-- a choice of two splats by the comparison with a splat
pub HasLanes-select : (t : ℕ → ℕ → Bool) (a : List ℕ) (x y z : ℕ) → length a ≡ 16
    → HasLanes (sel_l (zip2 t a (replicate 16 x)) (replicate 16 y) (replicate 16 z)) (λ k. cond (t (get_or a k 0) x) y z)
HasLanes-select t a x y z p =
    let long : length (zip2 t a (replicate 16 x)) ≡ 16 = length-zip2 t a (replicate 16 x) p ∙ p in
    record {
      long = length-sel_l _ (replicate 16 y) (replicate 16 z) long long ∙ long;
      each = λ k l.
          get_or-sel_l _ (replicate 16 y) (replicate 16 z) k 0 (omega arith) l l
          ∙ (λ i. cond ((get_or-zip2 t a (replicate 16 x) k 0 0 false (omega arith) l ∙ ap (t (get_or a k 0)) (get_or-replicate 16 k x 0 l)) i) (get_or-replicate 16 k y 0 l i) (get_or-replicate 16 k z 0 l i));
    }

-- the test of a lane's top bit
abbrev pub is_set : ℕ → Bool
is_set x = leb 128 x

set_tells : (x : ℕ) (b : Bool) → leb 128 x ≡ b → (cond {A = ℕ} b 1 0 ≡ 1) ↔ (128 ≤ x)
set_tells x true e = (λ h. leb-true 128 x e, λ h. refl)
set_tells x false e = (λ h. absurd (omega arith), λ h. omega (arith, leb-false 128 x e))

-- a bit of the mask of the lanes' top bits
pub bit_at-mask_l : (v : List ℕ) (k : ℕ) → (bit_at (mask_l (map is_set v)) k ≡ 1) ↔ (128 ≤ get_or v k 0)
bit_at-mask_l v k =
    let e : bit_at (mask_l (map is_set v)) k ≡ cond (is_set (get_or v k 0)) 1 0 = bit_mask_l (map is_set v) k ∙ ap (λ b. cond b 1 0) (get_or-map is_set v k 0) in
    let t = set_tells (get_or v k 0) _ refl in
    (λ h. t.0 (sym e ∙ h), λ h. e ∙ t.1 h)

splat_zip2 : {Z : Type 0} (f : ℕ → ℕ → Z) (x : ℕ) (ys : List ℕ) → zip2 f (replicate (length ys) x) ys ≡ map (f x) ys
splat_zip2 f x [] = refl
splat_zip2 f x (y ∷ ys) = ap (λ rest. f x y ∷ rest) (splat_zip2 f x ys)

-- `to_bitmask` of `simd_ge` with 128
pub top_bitmask : (v : List ℕ) (n : ℕ) → length v ≡ n → n ≤ 64
    → mask_l (map (top 7) (zip2 (λ a b. cond (leb a b) 255 0) (replicate n 128) v)) % 2 ^ 64 ≡ mask_l (map is_set v)
top_bitmask v n long small =
    ap (λ ms. mask_l ms % 2 ^ 64) (tops_compared w8 leb (replicate n 128) v ∙ ap (λ m. zip2 leb (replicate m 128) v) (sym long) ∙ splat_zip2 leb 128 v)
    ∙ mask_l-mod (map is_set v) 64 (omega (arith, length-map v is_set))
