-- Where the sum of a cell stands among blocks.
use Rattle.std.proofs.Common.{◌≡◌, ◌+◌, ◌*◌, ◌/◌, ◌%◌, ◌-◌, ◌<◌, ◌≤◌, ℕ, zero, suc, Bool, true, false, not, cond, if◌then◌else◌, nat_lt, ◌==◌, List, [], ◌∷◌, ◌++◌, length, get_or, take, replicate, Option, Some, None, refl, sym, ap, ap₂, ◌∙◌, arith, length-append, length-take}
use Rattle.std.proofs.lemmas.Bool.Decides.{nat_tests}
use Rattle.std.proofs.lemmas.List.{get_or_append_left, get_or-append_right, get_or-replicate, get_or-take, get_or_past, length-replicate}
use Rattle.std.proofs.lemmas.List.Folds.{position_or_len_push}
use Rattle.std.proofs.lemmas.List.Quantifiers.{position-Some}
use Rattle.std.proofs.lemmas.List.Sums.{prefix_len-le-length}
use Rattle.std.specs.List.{AllByRecursion, IsDistinct, position_or_len}
use Rattle.cell_sums.specs.Blocks.{AreInBlocks, AreSame, BlockSums, Key, block_at, is_key, sum_at, sum_in}

-- one more key goes last
place_step : (p n : ℕ) (hit : Bool) → p ≤ n → (here : ℕ) → here ≡ cond (p == n) (n + cond hit 0 1) p
    → cond (nat_lt here (n + 1)) (Some here) None ≡ (if nat_lt p n then Some p else (if hit then Some n else None))
place_step p n hit le here is = grind (arith, nat_tests)

pub block_at_pushed : (keys : List Key) (k j : Key) → block_at (keys ++ k ∷ []) j ≡ (if nat_lt (position_or_len (is_key j) keys) (length keys) then Some (position_or_len (is_key j) keys) else (if is_key j k then Some (length keys) else None))
block_at_pushed keys k j =
    ap (λ n. cond (nat_lt (position_or_len (is_key j) (keys ++ k ∷ [])) n) (Some (position_or_len (is_key j) (keys ++ k ∷ []))) None) (length-append keys (k ∷ []))
    ∙ place_step (position_or_len (is_key j) keys) (length keys) (is_key j k) (prefix_len-le-length (λ x. not (is_key j x)) keys) (position_or_len (is_key j) (keys ++ k ∷ [])) (position_or_len_push (is_key j) keys k)

-- keys that are found at one place are one
same_key : (a b : Key) (c : Key) → is_key a c ≡ true → is_key b c ≡ true → a ≡ b
same_key (a0, a1, a2) (b0, b1, b2) (c0, c1, c2) h k =
    let first : a0 ≡ b0 = grind (arith, nat_tests) in
    let next : a1 ≡ b1 = grind (arith, nat_tests) in
    let last : a2 ≡ b2 = grind (arith, nat_tests) in
    cc

itself : (k : Key) → is_key k k ≡ true
itself (k0, k1, k2) = grind (arith, nat_tests)

pub one_key : (keys : List Key) (a b : Key) (n : ℕ) → block_at keys a ≡ Some n → block_at keys b ≡ Some n → a ≡ b
one_key keys a b n h k = same_key a b (get_or keys n a) (position-Some (is_key a) keys n a h).1 (position-Some (is_key b) keys n a k).1

pub within_keys : (keys : List Key) (k : Key) (n : ℕ) → block_at keys k ≡ Some n → n < length keys
within_keys keys k n h = (position-Some (is_key k) keys n k h).0

either_way : (a b : Key) → is_key a b ≡ is_key b a
either_way (a0, a1, a2) (b0, b1, b2) = grind (arith, nat_tests)

-- a key that is found behind another isn't that one
other_before : (x k : Key) (xs : List Key) (n : ℕ) (d : Key) → AllByRecursion (λ y. is_key x y ≡ false) xs → n < length xs → is_key (get_or xs n d) k ≡ true → is_key k x ≡ false
other_before x k [] n d apart within h = absurd (omega (arith, within))
other_before x k (y ∷ ys) zero d apart within h = either_way k x ∙ ap (is_key x) (sym (same_key y k k h (itself k))) ∙ apart.0
other_before x k (y ∷ ys) (suc n) d apart within h = other_before x k ys n d apart.1 (omega (arith, within)) h

stands_at : (keys : List Key) (k : Key) (n : ℕ) (d : Key) → IsDistinct is_key keys → n < length keys → is_key (get_or keys n d) k ≡ true → position_or_len (is_key k) keys ≡ n
unfolding IsDistinct
stands_at [] k n d apart within h = absurd (omega (arith, within))
stands_at (x ∷ xs) k zero d apart within h = ap (λ b. cond (not b) (1 + position_or_len (is_key k) xs) 0) (either_way k x ∙ h)
stands_at (x ∷ xs) k (suc n) d apart within h =
    ap (λ b. cond (not b) (1 + position_or_len (is_key k) xs) 0) (other_before x k xs n d apart.0 (omega (arith, within)) h) ∙ ap (λ m. 1 + m) (stands_at xs k n d apart.1 (omega (arith, within)) h) ∙ omega arith

-- keys that are apart: one that is read at a place is found there
pub found_at : (keys : List Key) (k : Key) (n : ℕ) (d : Key) → IsDistinct is_key keys → n < length keys → is_key (get_or keys n d) k ≡ true → block_at keys k ≡ Some n
found_at keys k n d apart within h =
    let at = stands_at keys k n d apart within h in
    let is_within : nat_lt n (length keys) ≡ true = grind (arith, nat_tests) in
    ap (λ m. cond (nat_lt m (length keys)) (Some m) None) at ∙ ap (λ b. cond b (Some n) None) is_within

-- the place of a key that wasn't there, behind all
pub new_place : (keys : List Key) (k : Key) → block_at keys k ≡ None → block_at (keys ++ k ∷ []) k ≡ Some (length keys)
new_place keys k none = block_at_pushed keys k k ∙ by (nat_lt (position_or_len (is_key k) keys) (length keys)) (is_key k k) none (itself k)
  where
    by : (b c : Bool) → cond b (Some (position_or_len (is_key k) keys)) None ≡ None → c ≡ true → (if b then Some (position_or_len (is_key k) keys) else (if c then Some (length keys) else None)) ≡ Some (length keys)
    by true c e f = cc
    by false true e f = refl
    by false false e f = cc

module _ (old new : BlockSums) (same : (m : ℕ) → m < length old.keys * 64 → get_or new.sums m 0 + get_or new.spilled m 0 ≡ get_or old.sums m 0 + get_or old.spilled m 0) where
  same_at : (k : Key) (offset : ℕ) → offset < 64 → (o : Option ℕ) → block_at old.keys k ≡ o → sum_in new.sums new.spilled offset o ≡ sum_in old.sums old.spilled offset o
  same_at k offset small None e = refl
  same_at k offset small (Some n) e = let within = within_keys old.keys k n e in same (n * 64 + offset) (omega (arith, within, small))

  -- no sum changes where the sums of all blocks stay,
  pub front_same : new.keys ≡ old.keys → (l i j : ℕ) → sum_at new l i j ≡ sum_at old l i j
  front_same keys l i j =
      ap (λ ks. sum_in new.sums new.spilled (i % 64) (block_at ks (l, j, i / 64))) keys
      ∙ same_at (l, j, i / 64) (i % 64) (omega arith) (block_at old.keys (l, j, i / 64)) refl

  -- or where a block of nothing comes behind them
  pub pushed_same : (k : Key) → new.keys ≡ old.keys ++ k ∷ [] → ((o : ℕ) → o < 64 → get_or new.sums (length old.keys * 64 + o) 0 + get_or new.spilled (length old.keys * 64 + o) 0 ≡ 0) → (l i j : ℕ) → sum_at new l i j ≡ sum_at old l i j
  pushed_same k pushed zeros l i j =
      ap (λ ks. sum_in new.sums new.spilled (i % 64) (block_at ks (l, j, i / 64))) pushed
      ∙ ap (λ (o : Option ℕ). sum_in new.sums new.spilled (i % 64) o) (block_at_pushed old.keys k (l, j, i / 64))
      ∙ by (position_or_len (is_key (l, j, i / 64)) old.keys) (nat_lt (position_or_len (is_key (l, j, i / 64)) old.keys) (length old.keys)) refl (is_key (l, j, i / 64) k)
    where
      by : (p : ℕ) (b : Bool) → nat_lt p (length old.keys) ≡ b → (hit : Bool)
          → sum_in new.sums new.spilled (i % 64) (if b then Some p else (if hit then Some (length old.keys) else None)) ≡ sum_in old.sums old.spilled (i % 64) (cond b (Some p) None)
      by p true e hit = let within : p < length old.keys = grind (arith, nat_tests) in same (p * 64 + i % 64) (omega arith)
      by p false e true = zeros (i % 64) (omega arith)
      by p false e false = refl

-- the same sums in other parts
pub stay : (old new : BlockSums) → AreSame old new → (l i j : ℕ) → sum_at new l i j ≡ sum_at old l i j
stay old new h = front_same old new (λ m within. h.sums m) h.keys

zeros_long : length (replicate {A = ℕ} 64 0) ≡ 64
zeros_long = length-replicate {A = ℕ} 64 0

module _ (n : ℕ) (sums : List ℕ) where
  -- a block of nothing behind so many sums
  zeros_front : n ≤ length sums → (m : ℕ) → m < n → get_or (take n sums ++ replicate 64 0) m 0 ≡ get_or sums m 0
  zeros_front room m within = get_or_append_left (take n sums) (replicate 64 0) 0 m (omega (arith, within, room, length-take n sums)) ∙ get_or-take n sums m 0 within

  zeros_behind : n ≤ length sums → (m : ℕ) → n ≤ m → get_or (take n sums ++ replicate 64 0) m 0 ≡ 0
  zeros_behind room m past = get_or-append_right (take n sums) (replicate 64 0) n m 0 (omega (arith, room, length-take n sums)) past ∙ zero_at (m - n) (nat_lt (m - n) 64) refl
    where
      zero_at : (k : ℕ) (b : Bool) → nat_lt k 64 ≡ b → get_or (replicate {A = ℕ} 64 0) k 0 ≡ 0
      zero_at k true e = get_or-replicate {A = ℕ} 64 k 0 0 (grind (arith, nat_tests))
      zero_at k false e = get_or_past (replicate {A = ℕ} 64 0) k 0 (grind (arith, nat_tests, zeros_long))

  -- and what a list has past its end
  taken_front : (m : ℕ) → m < n → get_or (take n sums) m 0 ≡ get_or sums m 0
  taken_front m within = get_or-take n sums m 0 within

  taken_behind : (m : ℕ) → n ≤ m → get_or (take n sums) m 0 ≡ 0
  taken_behind m past = get_or_past (take n sums) m 0 (omega (arith, past, length-take n sums))

module _ (keys : List Key) (sums spilled next past : List ℕ) (most : ℕ) (was : AreInBlocks keys sums spilled most)
    (next_is : next ≡ take (length keys * 64) sums ++ replicate 64 0) (past_is : past ≡ take (length keys * 64) spilled) where
  front : (m : ℕ) → m < length keys * 64 → get_or next m 0 + get_or past m 0 ≡ get_or sums m 0 + get_or spilled m 0
  front m within =
      ap₂ (λ xs ys. get_or xs m 0 + get_or ys m 0) next_is past_is
      ∙ ap₂ (λ x y. x + y) (zeros_front (length keys * 64) sums was.stand m within) (taken_front (length keys * 64) spilled m within)

  behind : (m : ℕ) → length keys * 64 ≤ m → get_or next m 0 + get_or past m 0 ≡ 0
  behind m beyond =
      ap₂ (λ xs ys. get_or xs m 0 + get_or ys m 0) next_is past_is
      ∙ ap₂ (λ x y. x + y) (zeros_behind (length keys * 64) sums was.stand m beyond) (taken_behind (length keys * 64) spilled m beyond)

  no_more : (m : ℕ) (b : Bool) → nat_lt m (length keys * 64) ≡ b → (get_or next m 0 ≤ get_or sums m 0) × (get_or next m 0 + get_or past m 0 ≤ get_or sums m 0 + get_or spilled m 0)
  no_more m true e =
      let within : m < length keys * 64 = grind (arith, nat_tests) in
      let is = ap (λ xs. get_or xs m 0) next_is ∙ zeros_front (length keys * 64) sums was.stand m within in
      let both = front m within in
      (omega (arith, is), omega (arith, both))
  no_more m false e =
      let beyond : length keys * 64 ≤ m = grind (arith, nat_tests) in
      let both = behind m beyond in
      (omega (arith, both), omega (arith, both))

  -- a block of nothing that was put behind all others has room there,
  pub block_made : (more : List Key) → length more ≤ length keys + 1 → AreInBlocks more next past most
  block_made more one = record {
    stand = omega (arith, one, length_is);
    within = omega (arith, length_is, past_length);
    bounded = λ m. let le = (no_more m (nat_lt m (length keys * 64)) refl).0 in let before = was.bounded m in omega (arith, le, before);
    fit = λ m. let le = (no_more m (nat_lt m (length keys * 64)) refl).1 in let before = was.fit m in omega (arith, le, before);
  }
    where
      length_is : length next ≡ length keys * 64 + 64
      length_is =
          ap length next_is
          ∙ length-append (take (length keys * 64) sums) (replicate 64 0)
          ∙ omega (arith, was.stand, length-take (length keys * 64) sums, zeros_long)

      past_length : length past ≤ length keys * 64
      past_length = let is = ap length past_is in omega (arith, is, length-take (length keys * 64) spilled)

  -- and changes no sum
  pub none_changed : (k : Key) (most_next : ℕ) (more : List Key) → more ≡ keys ++ k ∷ [] → (l i j : ℕ)
      → sum_at (record { keys = more; sums = next; spilled = past; most = most_next }) l i j ≡ sum_at (record { keys = keys; sums = sums; spilled = spilled; most = most }) l i j
  none_changed k most_next more pushed = pushed_same (record { keys = keys; sums = sums; spilled = spilled; most = most }) (record { keys = more; sums = next; spilled = past; most = most_next }) front k pushed (λ o small. behind (length keys * 64 + o) (omega arith))
