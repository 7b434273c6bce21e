-- Entries in the order of their tiles.
use Rattle.std.proofs.Common.{◌≡◌, ◌≤◌, ◌<◌, ◌+◌, ◌-◌, ℕ, List, [], ◌∷◌, ◌++◌, ◌∙◌, subst, arith, get_or, length, take, drop, inl, inr, length-append, length-drop, length-take-le, get_or-take, get_or-drop}
use Rattle.std.specs.List.{insert, remove}
use Rattle.std.proofs.lemmas.Bool.{cases_lt}
use Rattle.std.proofs.lemmas.List.{get_or-append_right, get_or_append_left}
use Rattle.std.proofs.lemmas.List.Edits.{get_or-insert_at, get_or-insert_below, get_or-insert_above, get_or-remove_below, get_or-remove_above, length-insert, length-remove}
use Rattle.design_model.specs.declared.identifier.ShapeId.{ShapeId}
use Rattle.shape_index.specs.declared.shape.Shape.{Shape}
use Rattle.shape_index.specs.declared.tile.TileKey.{TileKey}
use Rattle.shape_index.specs.Tiles.{key}
use Rattle.shape_index.specs.TileOrder.{Before, AreInOrder}

abbrev Entry : Type 0
Entry = ShapeId × Shape

-- what doesn't come after one that comes before a third comes before that
pub chained : (a b c : TileKey) → ¬ Before b a → Before b c → Before a c
chained a b c h k = grind arith

pub not_itself : (a : TileKey) → ¬ Before a a
not_itself a h = omega (arith, h)

pub not_both : (a b : TileKey) → Before a b → ¬ Before b a
not_both a b h k = omega (arith, h, k)

-- where neither comes before the other, they are of one number
pub tied : (a b : TileKey) → ¬ Before a b → ¬ Before b a → a.id ≡ b.id
tied a b h k = grind arith

pub not_later : (a b c : TileKey) → ¬ Before b a → ¬ Before a c → ¬ Before b c
not_later a b c h k m = k (chained a b c h m)

abbrev at : List Entry → ℕ → Entry → TileKey
at es i d = key (get_or es i d)

pub order_of_removed : (es : List Entry) (p : ℕ) → AreInOrder es → p < length es → AreInOrder (remove es p)
order_of_removed es p sorted below i j d low high =
    let len = length-remove es p below in
    elim (cases_lt j p) [
      | inl jp ↦ rw (get_or-remove_below es p d j jp below, get_or-remove_below es p d i (omega (arith, low, jp)) below) (sorted i j d low (omega (arith, jp, below)))
      | inr jp ↦ elim (cases_lt i p) [
        | inl ip ↦ rw (get_or-remove_above es p d j jp below, get_or-remove_below es p d i ip below) (sorted i (j + 1) d (omega (arith, low)) (omega (arith, high, len)))
        | inr ip ↦ rw (get_or-remove_above es p d j jp below, get_or-remove_above es p d i ip below) (sorted (i + 1) (j + 1) d (omega (arith, low)) (omega (arith, high, len)))
      ]
    ]

-- where an entry is put: behind those that come before it
pub record IsItsPlace (es : List Entry) (p : ℕ) (t : TileKey) : Type 0 where
  pub within : p ≤ length es
  pub passed : (k : ℕ) (d : Entry) → k < p → Before (at es k d) t
  pub left : (k : ℕ) (d : Entry) → p ≤ k → k < length es → ¬ Before (at es k d) t

-- where an entry can be put: none before it comes after it, and none behind it before it
pub record Fits (es : List Entry) (p : ℕ) (t : TileKey) : Type 0 where
  pub within : p ≤ length es
  pub passed : (k : ℕ) (d : Entry) → k < p → ¬ Before t (at es k d)
  pub left : (k : ℕ) (d : Entry) → p ≤ k → k < length es → ¬ Before (at es k d) t

pub place_fits : (es : List Entry) (p : ℕ) (t : TileKey) → IsItsPlace es p t → Fits es p t
place_fits es p t place = record { within = place.within; passed = λ k d low. not_both _ _ (place.passed k d low); left = place.left }

-- the same place where an entry before it is taken out
pub place_before : (es : List Entry) (p g : ℕ) (t : TileKey) → g < p → IsItsPlace es p t → IsItsPlace (remove es g) (p - 1) t
place_before es p g t low place =
    let within = place.within in
    let below : g < length es = omega (arith, low, within) in
    let len = length-remove es g below in
    record {
      within = omega (arith, len, within, low);
      passed = λ k d under. elim (cases_lt k g) [
        | inl h ↦ rw (get_or-remove_below es g d k h below) (place.passed k d (omega (arith, h, low)))
        | inr h ↦ rw (get_or-remove_above es g d k h below) (place.passed (k + 1) d (omega (arith, under)))
      ];
      left = λ k d over inside. rw (get_or-remove_above es g d k (omega (arith, over, low)) below) (place.left (k + 1) d (omega (arith, over, low)) (omega (arith, inside, len)));
    }

-- and where one from it on is
pub place_behind : (es : List Entry) (p g : ℕ) (t : TileKey) → p ≤ g → g < length es → IsItsPlace es p t → IsItsPlace (remove es g) p t
place_behind es p g t high below place =
    let len = length-remove es g below in
    record {
      within = omega (arith, len, high, below);
      passed = λ k d under. rw (get_or-remove_below es g d k (omega (arith, under, high)) below) (place.passed k d under);
      left = λ k d over inside. elim (cases_lt k g) [
        | inl h ↦ rw (get_or-remove_below es g d k h below) (place.left k d over (omega (arith, h, below)))
        | inr h ↦ rw (get_or-remove_above es g d k h below) (place.left (k + 1) d (omega (arith, over)) (omega (arith, inside, len)))
      ];
    }

-- entries from a place on and before another are taken out
pub order_of_cut : (es : List Entry) (p q : ℕ) → AreInOrder es → p ≤ q → q ≤ length es → AreInOrder (take p es ++ drop q es)
order_of_cut es p q sorted low within i j d le below =
    let front : length (take p es) ≡ p = length-take-le p es (omega (arith, low, within)) in
    let len : length (take p es ++ drop q es) ≡ p + (length es - q) = omega (arith, length-append (take p es) (drop q es), front, length-drop q es) in
    let first : (k : ℕ) → k < p → get_or (take p es ++ drop q es) k d ≡ get_or es k d =
    λ k under. get_or_append_left (take p es) (drop q es) d k (omega (arith, under, front)) ∙ get_or-take p es k d under
    in
    let last : (k : ℕ) → p ≤ k → get_or (take p es ++ drop q es) k d ≡ get_or es (q + (k - p)) d =
    λ k over. get_or-append_right (take p es) (drop q es) p k d front over ∙ get_or-drop q es (k - p) d
    in
    elim (cases_lt j p) [
      | inl jp ↦ rw (first j jp, first i (omega (arith, jp, le))) (sorted i j d le (omega (arith, jp, low, within)))
      | inr jp ↦ elim (cases_lt i p) [
        | inl ip ↦ rw (last j jp, first i ip) (sorted i (q + (j - p)) d (omega (arith, ip, low)) (omega (arith, below, len, jp)))
        | inr ip ↦ rw (last j jp, last i ip) (sorted (q + (i - p)) (q + (j - p)) d (omega (arith, le)) (omega (arith, below, len, jp)))
      ]
    ]

above : (es : List Entry) (p : ℕ) (e d : Entry) (k : ℕ) → p < k → p ≤ length es → get_or (insert es p e) k d ≡ get_or es (k - 1) d
above es p e d k over within =
    let same : (k - 1) + 1 ≡ k = omega (arith, over) in
    subst (λ (n : ℕ). get_or (insert es p e) n d ≡ get_or es (k - 1) d) same (get_or-insert_above es p e d (k - 1) (omega (arith, over)) within)

pub order_of_inserted : (es : List Entry) (p : ℕ) (e : Entry) → AreInOrder es → Fits es p (key e) → AreInOrder (insert es p e)
order_of_inserted es p e sorted place i j d low high =
    let len = length-insert es p e place.within in
    let within = place.within in
    elim (cases_lt j p) [
      | inl jp ↦ rw (get_or-insert_below es p e d j jp within, get_or-insert_below es p e d i (omega (arith, low, jp)) within) (sorted i j d low (omega (arith, jp, within)))
      | inr jp ↦ elim (cases_lt p j) [
        | inl pj ↦ elim (cases_lt i p) [
          | inl ip ↦ rw (above es p e d j pj within, get_or-insert_below es p e d i ip within) (sorted i (j - 1) d (omega (arith, ip, pj)) (omega (arith, high, len, pj)))
          | inr ip ↦ elim (cases_lt p i) [
            | inl pi ↦ rw (above es p e d j pj within, above es p e d i pi within) (sorted (i - 1) (j - 1) d (omega (arith, low)) (omega (arith, high, len, pj)))
            | inr pi ↦
                let same : i ≡ p = omega (arith, ip, pi) in
                rw (above es p e d j pj within, same, get_or-insert_at es p e d within) (place.left (j - 1) d (omega (arith, pj)) (omega (arith, high, len, pj)))
          ]
        ]
        | inr pj ↦
            let same : j ≡ p = omega (arith, jp, pj) in
            elim (cases_lt i p) [
              | inl ip ↦ rw (same, get_or-insert_at es p e d within, get_or-insert_below es p e d i ip within) (place.passed i d ip)
              | inr ip ↦
                  let also : i ≡ p = omega (arith, ip, low, same) in
                  rw (same, also, get_or-insert_at es p e d within) (not_itself (key e))
            ]
      ]
    ]

-- what stands where it would be put, where an entry of that key stands
pub record IsFound (es : List Entry) (p : ℕ) (t : TileKey) : Type 0 where
  pub below : p < length es
  pub is : (d : Entry) → (get_or es p d).0.0 ≡ t.id

pub found_at : (es : List Entry) (p i : ℕ) (t : TileKey) → AreInOrder es → IsItsPlace es p t → i < length es → ((d : Entry) → at es i d ≡ t) → IsFound es p t
found_at es p i t sorted place below same =
    let low : p ≤ i = elim (cases_lt i p) [
      | inl h ↦ absurd (first_is es i t below same (place.passed i) h)
      | inr h ↦ h
    ] in
    record {
      below = omega (arith, low, below);
      is = λ d.
          let a = place.left p d (omega arith) (omega (arith, low, below)) in
          let b : ¬ Before t (at es p d) = subst (λ (k : TileKey). ¬ Before k (at es p d)) (same d) (sorted p i d low below) in
          tied (at es p d) t a b;
    }
  where
    first_is : (es : List Entry) (i : ℕ) (t : TileKey) → i < length es → ((d : Entry) → at es i d ≡ t) → ((d : Entry) → i < p → Before (at es i d) t) → i < p → ⊥
    first_is [] i t below same passed h = omega (arith, below)
    first_is (e ∷ es) i t below same passed h = not_itself t (subst (λ (k : TileKey). Before k t) (same e) (passed e h))
