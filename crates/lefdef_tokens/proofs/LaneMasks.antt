-- Masks of vectors of bytes: each lane is 255 or 0, and its top bit is a bit of the mask.
use Rattle.std.proofs.Common.{◌≡◌, ℕ, ◌-◌, ◌%◌, ◌^◌, Bool, true, false, not, ◌&&◌, ◌||◌, cond, eqb, leb, List, [], ◌∷◌, length, map, replicate, bit_and, bit_or, refl, sym, ap, ap₂, ◌∙◌, arith}
use Rattle.std.specs.Simd.Lanes.{zip2, mask_l, top}
use Rattle.std.proofs.lemmas.Simd.{zip2_splat, zip2_of_maps, length-zip2, map-map, mask_l-mod}
use Rattle.std.proofs.lemmas.List.{length-map}
use Rattle.lefdef_tokens.specs.Skipping.{begins_after, is_special}

abbrev pub lane : Bool → ℕ
lane b = cond b 255 0

top_lane : (b : Bool) → top 7 (lane b) ≡ b
top_lane true = refl
top_lane false = refl

or_lanes : (p q : Bool) → bit_or (lane p) (lane q) ≡ lane (p || q)
or_lanes true true = refl
or_lanes true false = refl
or_lanes false true = refl
or_lanes false false = refl

and_lanes : (p q : Bool) → bit_and (lane p) (lane q) ≡ lane (p && q)
and_lanes true true = refl
and_lanes true false = refl
and_lanes false true = refl
and_lanes false false = refl

not_lane : (p : Bool) → 255 - lane p ≡ lane (not p)
not_lane true = refl
not_lane false = refl

white_lane : (p q r s : Bool) → bit_or (bit_or (bit_or (lane p) (lane q)) (lane r)) (lane s) ≡ lane (p || q || r || s)
white_lane p q r s = ap (λ n. bit_or (bit_or n (lane r)) (lane s)) (or_lanes p q) ∙ ap (λ n. bit_or n (lane s)) (or_lanes (p || q) r) ∙ or_lanes (p || q || r) s

special_lane : (low p q r s d e : Bool) → bit_or (bit_or (bit_and (lane low) (255 - bit_or (bit_or (bit_or (lane p) (lane q)) (lane r)) (lane s))) (lane d)) (lane e) ≡ lane ((low && not (p || q || r || s)) || d || e)
special_lane low p q r s d e =
    let w = p || q || r || s in
    ap (λ n. bit_or (bit_or (bit_and (lane low) (255 - n)) (lane d)) (lane e)) (white_lane p q r s)
    ∙ ap (λ n. bit_or (bit_or (bit_and (lane low) n) (lane d)) (lane e)) (not_lane w)
    ∙ ap (λ n. bit_or (bit_or n (lane d)) (lane e)) (and_lanes low (not w))
    ∙ ap (λ n. bit_or n (lane e)) (or_lanes (low && not w) d)
    ∙ or_lanes ((low && not w) || d) e

-- the lanes of two vectors
abbrev zipped : (ℕ → ℕ → ℕ) → (ℕ → ℕ) → (ℕ → ℕ) → List ℕ → List ℕ → List ℕ
zipped f g h xs ys = zip2 (λ x y. f (g x) (h y)) xs ys

pub zip_maps : (f : ℕ → ℕ → ℕ) (g h : ℕ → ℕ) (xs ys : List ℕ) → zip2 f (map g xs) (map h ys) ≡ zipped f g h xs ys
zip_maps f g h [] ys = refl
zip_maps f g h (x ∷ xs) [] = refl
zip_maps f g h (x ∷ xs) (y ∷ ys) = ap (λ r. f (g x) (h y) ∷ r) (zip_maps f g h xs ys)

tops_of : (f : ℕ → ℕ) (p : ℕ → Bool) → ((b : ℕ) → f b ≡ lane (p b)) → (v : List ℕ) → map (top 7) (map f v) ≡ map p v
tops_of f p is [] = refl
tops_of f p is (x ∷ v) = ap₂ (λ b r. b ∷ r) (ap (top 7) (is x) ∙ top_lane (p x)) (tops_of f p is v)

tops_of_two : (f : ℕ → ℕ → ℕ) (p : ℕ → ℕ → Bool) → ((a b : ℕ) → f a b ≡ lane (p a b)) → (u v : List ℕ) → map (top 7) (zip2 f u v) ≡ zip2 p u v
tops_of_two f p is [] v = refl
tops_of_two f p is (x ∷ u) [] = refl
tops_of_two f p is (x ∷ u) (y ∷ v) = ap₂ (λ b r. b ∷ r) (ap (top 7) (is x y) ∙ top_lane (p x y)) (tops_of_two f p is u v)

abbrev pub at_most : ℕ → ℕ → ℕ
at_most a b = lane (leb a b)

abbrev pub equal_to : ℕ → ℕ → ℕ
equal_to a b = lane (eqb a b)

module _ (v : List ℕ) (long : length v ≡ 64) where
  eq_splat : (y : ℕ) → zip2 equal_to v (replicate 64 y) ≡ map (λ x. equal_to x y) v
  eq_splat y = zip2_splat equal_to v 64 y long

  le_splat : (y : ℕ) → zip2 at_most v (replicate 64 y) ≡ map (λ x. at_most x y) v
  le_splat y = zip2_splat at_most v 64 y long

  not_lanes : (f : ℕ → ℕ) {a : List ℕ} → a ≡ map f v → map (λ x. 255 - x) a ≡ map (λ x. 255 - f x) v
  not_lanes f p = ap (map (λ x. 255 - x)) p ∙ map-map (λ x. 255 - x) f v

  or_maps : (f g : ℕ → ℕ) {a b : List ℕ} → a ≡ map f v → b ≡ map g v → zip2 bit_or a b ≡ map (λ x. bit_or (f x) (g x)) v
  or_maps f g p q = zip2_of_maps bit_or f g v p q

  and_maps : (f g : ℕ → ℕ) {a b : List ℕ} → a ≡ map f v → b ≡ map g v → zip2 bit_and a b ≡ map (λ x. bit_and (f x) (g x)) v
  and_maps f g p q = zip2_of_maps bit_and f g v p q

  abbrev pub white_lanes : List ℕ
  white_lanes = zip2 bit_or (zip2 bit_or (zip2 bit_or (zip2 equal_to v (replicate 64 32)) (zip2 equal_to v (replicate 64 9))) (zip2 equal_to v (replicate 64 13))) (zip2 equal_to v (replicate 64 10))

  white_of : white_lanes ≡ map (λ x. bit_or (bit_or (bit_or (equal_to x 32) (equal_to x 9)) (equal_to x 13)) (equal_to x 10)) v
  white_of = or_maps _ _ (or_maps _ _ (or_maps _ _ (eq_splat 32) (eq_splat 9)) (eq_splat 13)) (eq_splat 10)

  abbrev pub special_lanes : List ℕ
  special_lanes = zip2 bit_or (zip2 bit_or (zip2 bit_and (zip2 at_most v (replicate 64 35)) (map (λ x. 255 - x) white_lanes)) (zip2 equal_to v (replicate 64 127))) (zip2 equal_to v (replicate 64 59))

  is_special_lane : (x : ℕ) → bit_or (bit_or (bit_and (at_most x 35) (255 - bit_or (bit_or (bit_or (equal_to x 32) (equal_to x 9)) (equal_to x 13)) (equal_to x 10))) (equal_to x 127)) (equal_to x 59) ≡ lane (is_special x)
  is_special_lane x = special_lane (leb x 35) (eqb x 32) (eqb x 9) (eqb x 13) (eqb x 10) (eqb x 127) (eqb x 59)

  special_tops : map (top 7) special_lanes ≡ map is_special v
  special_tops =
      ap (map (top 7)) (or_maps _ _ (or_maps _ _ (and_maps _ _ (le_splat 35) (not_lanes _ white_of)) (eq_splat 127)) (eq_splat 59))
      ∙ tops_of _ is_special is_special_lane v

  pub special_mask : mask_l (map (top 7) special_lanes) % 2 ^ 64 ≡ mask_l (map is_special v)
  special_mask = ap (λ ms. mask_l ms % 2 ^ 64) special_tops ∙ mask_l-mod (map is_special v) 64 (omega (arith, length-map v is_special))

-- a word begins: white space in one vector, and none in the other
pub begun_mask : (u v : List ℕ) → length u ≡ 64 → length v ≡ 64
    → mask_l (map (top 7) (zip2 bit_and (zip2 at_most u (replicate 64 32)) (map (λ x. 255 - x) (zip2 at_most v (replicate 64 32))))) % 2 ^ 64 ≡ mask_l (zip2 begins_after u v)
begun_mask u v p q =
    let lanes = ap₂ (zip2 bit_and) (le_splat u p 32) (not_lanes v q _ (le_splat v q 32)) ∙ zip_maps bit_and (λ x. at_most x 32) (λ x. 255 - at_most x 32) u v in
    let is : (a b : ℕ) → bit_and (at_most a 32) (255 - at_most b 32) ≡ lane (begins_after a b) = λ a b. ap (bit_and (at_most a 32)) (not_lane (leb b 32)) ∙ and_lanes (leb a 32) (not (leb b 32)) in
    let long = length-zip2 begins_after u v (p ∙ sym q) in
    ap (λ ms. mask_l (map (top 7) ms) % 2 ^ 64) lanes ∙ ap (λ ms. mask_l ms % 2 ^ 64) (tops_of_two _ begins_after is u v) ∙ mask_l-mod (zip2 begins_after u v) 64 (omega arith)
