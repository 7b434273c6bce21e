-- The pairs that are told along the places of a bin, and bin by bin.
use Rattle.std.proofs.Common.{◌≡◌, ◌<◌, ◌≤◌, ◌+◌, ℕ, zero, suc, Bool, List, [], ◌∷◌, map, filter, cond, length, refl, sym, ap, subst, ◌∙◌, arith}
use Rattle.std.specs.List.{All, flat_map}
use Rattle.shape_rules.specs.Classes.{numbers}
use Rattle.shape_pairs.specs.declared.grid.Grid.{Grid}
use Rattle.shape_pairs.specs.declared.pairs.Numbered.{Numbered}
use Rattle.shape_pairs.specs.Pairs.{CallsLead, one_if}
use Rattle.shape_pairs.specs.Grids.{bin_count}
use Rattle.shape_pairs.specs.Entries.{bin_places, covers, item_at, meet_at_home, pairs_at_home}
use Rattle.shape_pairs.proofs.Calls.{folds_append, split}
use Rattle.shape_pairs.proofs.MeetingSums.{told_in}
use Rattle.shape_pairs.proofs.PairSums.{at_places}
use Rattle.shape_pairs.proofs.PushLemmas.{up_to, more, none}
use Rattle.shape_pairs.proofs.DirectLemmas.{pairs_with, next_one, next_list}

module _ {X : Type 0} (P : X → Type 0) (x : X) (xs ys : List X) (is : ys ≡ x ∷ xs) where
  pub all_later : All P ys → All P xs
  all_later h = let k : All P (x ∷ xs) = subst (λ ys. All P ys) is h in λ i d low. k (suc i) d (omega (arith, low))

module _ (grid : Grid) (items : List Numbered) (other : Numbered) (bin : ℕ) where
  -- the pairs of one with the rectangles at some places
  abbrev pub with_places : Numbered → List ℕ → List (Numbered × Numbered)
  with_places first places = pairs_with (meet_at_home grid bin) first (map (item_at grid items other) places)

  abbrev pub within_places : List ℕ → List (Numbered × Numbered)
  within_places places = pairs_at_home grid bin (map (item_at grid items other) places)

  module _ {B : Type 0} (call : B → ℕ → ℕ → B → Type 0) where
    pub places_end : (a : B) (first : Numbered) (rest : List ℕ) → length rest ≡ 0 → CallsLead call a (with_places first rest) a
    places_end a first [] e = refl
    places_end a first (place ∷ places) e = absurd (omega (arith, e))

    pub next_place : (a b last : B) (first second : Numbered) (rest : List ℕ) (place : ℕ) (places : List ℕ) → rest ≡ place ∷ places → second ≡ item_at grid items other place
        → CallsLead call a (one_if (meet_at_home grid bin (first, second)) (first, second)) b
        → CallsLead call b (with_places first places) last → CallsLead call a (with_places first rest) last
    next_place a b last first second rest place places is is_second f g =
        subst (λ places. CallsLead call a (with_places first places) last) (sym is)
        (next_one (meet_at_home grid bin) call a b last first (item_at grid items other place) (map (item_at grid items other) places)
        (subst (λ y. CallsLead call a (one_if (meet_at_home grid bin (first, y)) (first, y)) b) is_second f) g)

    pub next_first : (a b last : B) (first : Numbered) (rest : List ℕ) (place : ℕ) (places : List ℕ) → rest ≡ place ∷ places → first ≡ item_at grid items other place
        → CallsLead call a (with_places first places) b → CallsLead call b (within_places places) last → CallsLead call a (within_places rest) last
    next_first a b last first rest place places is is_first f g =
        next_list (meet_at_home grid bin) call a b last (map (item_at grid items other) rest) (item_at grid items other place) (map (item_at grid items other) places)
        (ap (λ (places : List ℕ). map (item_at grid items other) places) is)
        (subst (λ x. CallsLead call a (with_places x places) b) is_first f) g

all_with : (P : ℕ → Type 0) (x : ℕ) (xs : List ℕ) → P x → All P xs → All P (x ∷ xs)
all_with P x xs p h zero d low = p
all_with P x xs p h (suc k) d low = h k d (omega (arith, low))

-- what a test leaves of numbers below another
few_numbers : (test : ℕ → Bool) (a n high : ℕ) → a + n ≤ high → All (λ k. k < high) (filter test (numbers a n))
unfolding numbers
few_numbers test a zero high h = λ k d low. absurd (omega (arith, low))
few_numbers test a (suc n) high h =
    let r = few_numbers test (suc a) n high (omega (arith, h)) in
    let here : a < high = omega (arith, h) in
    split (test a)
    (λ t. subst (λ (b : Bool). All (λ k. k < high) (cond b (a ∷ filter test (numbers (suc a) n)) (filter test (numbers (suc a) n)))) (sym t)
    (all_with (λ k. k < high) a (filter test (numbers (suc a) n)) here r))
    (λ t. subst (λ (b : Bool). All (λ k. k < high) (cond b (a ∷ filter test (numbers (suc a) n)) (filter test (numbers (suc a) n)))) (sym t) r)

filter_mapped : {A B : Type 0} (test : B → Bool) (f : A → B) (xs : List A) → map f (filter (λ x. test (f x)) xs) ≡ filter test (map f xs)
filter_mapped test f [] = refl
filter_mapped test f (x ∷ xs) =
    let r = filter_mapped test f xs in
    split (test (f x)) (λ t. rw t (ap (λ ys. f x ∷ ys) r)) (λ t. rw t r)

module _ (grid : Grid) (items : List Numbered) (other : Numbered) where
  pub placed_in : (bin : ℕ) (places : List ℕ) → places ≡ bin_places grid items other bin → All (λ place. place < length items) places
  placed_in bin places is = subst (λ places. All (λ place. place < length items) places) (sym is) (few_numbers (λ place. covers grid bin (item_at grid items other place)) 0 (length items) (length items) (omega arith))

  -- the rectangles at the places of a bin are those that cover it
  items_in : (bin : ℕ) (places : List ℕ) → places ≡ bin_places grid items other bin → map (item_at grid items other) places ≡ filter (covers grid bin) items
  items_in bin places is =
      ap (λ (places : List ℕ). map (item_at grid items other) places) is
      ∙ filter_mapped (covers grid bin) (item_at grid items other) (numbers 0 (length items))
      ∙ ap (λ (xs : List Numbered). filter (covers grid bin) xs) (at_places items other 0 (length items) (omega arith))

  module _ {B : Type 0} (call : B → ℕ → ℕ → B → Type 0) where
    pub next_bin : (a b last : B) (bin : ℕ) → bin < bin_count grid → (places : List ℕ) → places ≡ bin_places grid items other bin
        → CallsLead call a (pairs_at_home grid bin (map (item_at grid items other) places)) b
        → CallsLead call b (flat_map (told_in grid items) (up_to (bin + 1) (bin_count grid))) last
        → CallsLead call a (flat_map (told_in grid items) (up_to bin (bin_count grid))) last
    next_bin a b last bin low places is f g =
        subst (λ bins. CallsLead call a (flat_map (told_in grid items) bins) last) (sym (more bin (bin_count grid) low))
        (folds_append (λ a p b. call a p.0.id p.1.id b) a b last (told_in grid items bin) (flat_map (told_in grid items) (up_to (bin + 1) (bin_count grid)))
        (subst (λ xs. CallsLead call a (pairs_at_home grid bin xs) b) (items_in bin places is) f) g)

module _ (grid : Grid) (items : List Numbered) {B : Type 0} (call : B → ℕ → ℕ → B → Type 0) where
  pub bins_end : (a : B) (bin : ℕ) → bin_count grid ≤ bin → CallsLead call a (flat_map (told_in grid items) (up_to bin (bin_count grid))) a
  bins_end a bin high = subst (λ bins. CallsLead call a (flat_map (told_in grid items) bins) a) (sym (none bin (bin_count grid) high)) refl
