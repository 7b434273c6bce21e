-- What cells gain, block by block.
use Rattle.std.proofs.Common.{◌≡◌, ◌+◌, ◌*◌, ◌/◌, ◌%◌, ◌-◌, ◌^◌, ◌<◌, ◌≤◌, max, ℕ, Bool, true, false, if◌then◌else◌, ◌==◌, ◌&&◌, List, get_or, length, Option, Some, None, Result, Ok, Err, OnOk, OnErr, refl, sym, ap, ap₂, subst, ◌∙◌, arith}
use Rattle.std.proofs.lemmas.Bool.Decides.{nat_tests}
use Rattle.cell_sums.specs.Blocks.{AreInBlocks, BlockSums, Gains, HasGained, HasGainedAtMost, HasRoom, Key, block_at, one_of_two, run_gains, sum_at, sum_in}
use Rattle.cell_sums.specs.Lines.{is_from}
use Rattle.cell_sums.specs.declared.runs.Run.{Run}
use Rattle.cell_sums.proofs.BlockLemmas.{one_key}

-- places within a block, and in their run
in_block : (b q r s end : ℕ) → q * 64 + r < end → is_from (b * 64 + r) (b * 64 + r + (end - (q * 64 + r))) (b * 64 + s) ≡ is_from (q * 64 + r) end (q * 64 + s)
in_block b q r s end some = grind (arith, nat_tests)

other_block : (b m r s count : ℕ) → (m == b) ≡ false → r + count ≤ 64 → s < 64 → is_from (b * 64 + r) (b * 64 + r + count) (m * 64 + s) ≡ false
other_block b m r s count other small within = grind (arith, nat_tests)

-- what the tests of a strip say
on_row : (layer row l j : ℕ) (w t : Bool) → ((layer == l) && ((row == j) && w)) ≡ t → t ≡ true → (layer ≡ l) × (row ≡ j) × (w ≡ true)
on_row layer row l j w t is h = (grind (arith, nat_tests), grind (arith, nat_tests), grind (arith, nat_tests))

same_row : (layer row l j : ℕ) (w : Bool) → layer ≡ l → row ≡ j → ((layer == l) && ((row == j) && w)) ≡ w
same_row layer row l j w e f = grind (arith, nat_tests)

-- places of one block are of one run's block
one_block : (first end i : ℕ) → end ≤ first / 64 * 64 + 64 → is_from first end i ≡ true → first / 64 ≡ i / 64
one_block first end i together h = grind (arith, nat_tests)

if_same : (s t : Bool) (a b : ℕ) → s ≡ t → (t ≡ true → a ≡ b) → (if s then a else 0) ≡ (if t then b else 0)
if_same s true a b e h = ap (λ p. if p then a else 0) e ∙ h refl
if_same s false a b e h = ap (λ p. if p then a else 0) e

none_some : (b : ℕ) → None ≡ Some b → ⊥
none_some b e = cc

some_same : (m b : ℕ) → Some m ≡ Some b → m ≡ b
some_same m b e = cc

not_same : (m b : ℕ) → (m == b) ≡ false → m ≡ b → ⊥
not_same m b h e = grind (arith, nat_tests)

some_or_none : (t : Bool) (a bound : ℕ) → a ≤ bound → (if t then a else 0) ≤ bound
some_or_none true a bound h = h
some_or_none false a bound h = omega arith

from_low : (low high n : ℕ) → is_from low high n ≡ true → low ≤ n
from_low low high n h = grind (arith, nat_tests)

below_high : (low high n : ℕ) → is_from low high n ≡ true → n < high
below_high low high n h = grind (arith, nat_tests)

module _ (b : ℕ) where
  block_places : (q first i end : ℕ) → first / 64 ≡ q → q ≡ i / 64 → first < end
      → is_from (b * 64 + first % 64) (b * 64 + first % 64 + (end - first)) (b * 64 + i % 64) ≡ is_from first end i
  block_places q first i end e f some =
      let first_is : q * 64 + first % 64 ≡ first = omega arith in
      let i_is : q * 64 + i % 64 ≡ i = omega arith in
      ap (λ k. is_from (b * 64 + first % 64) (b * 64 + first % 64 + (end - k)) (b * 64 + i % 64)) (sym first_is)
      ∙ in_block b q (first % 64) (i % 64) end (omega arith)
      ∙ ap₂ (λ k n. is_from k end n) first_is i_is

  place_is : (q first i end : ℕ) → first / 64 ≡ q → q ≡ i / 64 → is_from first end i ≡ true → first + ((b * 64 + i % 64) - (b * 64 + first % 64)) ≡ i
  place_is q first i end e f h =
      let first_is : q * 64 + first % 64 ≡ first = omega arith in
      let i_is : q * 64 + i % 64 ≡ i = omega arith in
      let le : first ≤ i = grind (arith, nat_tests) in
      omega arith

-- where sums of one block have room, so have those at their places
fits_at : (b : BlockSums) (layer row first end m : ℕ) → block_at b.keys (layer, row, first / 64) ≡ Some m → end ≤ first / 64 * 64 + 64
    → ((i : ℕ) → first ≤ i → i < end → sum_at b layer i row + 2 ^ 64 ≤ 2 ^ 128)
    → (n : ℕ) → m * 64 + first % 64 ≤ n → n < m * 64 + first % 64 + (end - first) → get_or b.sums n 0 + get_or b.spilled n 0 + 2 ^ 64 ≤ 2 ^ 128
fits_at b layer row first end m found together fits n low high =
    let i : ℕ = first + (n - (m * 64 + first % 64)) in
    let quotient : i / 64 ≡ first / 64 = omega arith in
    let place : m * 64 + i % 64 ≡ n = omega arith in
    let is : sum_at b layer i row ≡ get_or b.sums n 0 + get_or b.spilled n 0 =
    ap (λ q. sum_in b.sums b.spilled (i % 64) (block_at b.keys (layer, row, q))) quotient ∙ ap (λ (o : Option ℕ). sum_in b.sums b.spilled (i % 64) o) found ∙ ap (λ k. get_or b.sums k 0 + get_or b.spilled k 0) place in
    let room = fits i (omega arith) (omega (arith, low, high)) in
    omega (arith, is, room)

module _ (cells : Run) (area : ℕ → ℕ) (keys : List Key) (old new spilled : List ℕ) (most b : ℕ) where
  module _ (found : block_at keys (cells.layer, cells.major, cells.first / 64) ≡ Some b) (some : cells.first < cells.end) (together : cells.end ≤ cells.first / 64 * 64 + 64)
      (added : (n : ℕ) → get_or new n 0 ≡ get_or old n 0 + (if is_from (b * 64 + cells.first % 64) (b * 64 + cells.first % 64 + (cells.end - cells.first)) n then area (cells.first + (n - (b * 64 + cells.first % 64))) else 0)) where
    -- the key of a cell among them
    own_key : (l i j : ℕ) (t : Bool) → ((cells.layer == l) && ((cells.major == j) && is_from cells.first cells.end i)) ≡ t → t ≡ true → block_at keys (l, j, i / 64) ≡ Some b
    own_key l i j t is h =
        let on = on_row cells.layer cells.major l j (is_from cells.first cells.end i) t is h in
        let same : (cells.layer, cells.major, cells.first / 64) ≡ (l, j, i / 64) = ap₂ (λ x y. (x, cells.major, y)) on.0 (one_block cells.first cells.end i together on.2) ∙ ap (λ y. (l, y, i / 64)) on.1 in
        ap (λ k. block_at keys k) (sym same) ∙ found

    no_gain : (l i j : ℕ) (t : Bool) → ((cells.layer == l) && ((cells.major == j) && is_from cells.first cells.end i)) ≡ t → (block_at keys (l, j, i / 64) ≡ Some b → t ≡ false) → (if t then area i else 0) ≡ 0
    no_gain l i j false is other = refl
    no_gain l i j true is other = let h = other (own_key l i j true is refl) in cc

    gains_same : (l i j : ℕ) → block_at keys (l, j, i / 64) ≡ Some b
        → (if is_from (b * 64 + cells.first % 64) (b * 64 + cells.first % 64 + (cells.end - cells.first)) (b * 64 + i % 64) then area (cells.first + ((b * 64 + i % 64) - (b * 64 + cells.first % 64))) else 0)
        ≡ run_gains cells area l i j
    gains_same l i j e =
        let own : (cells.layer, cells.major, cells.first / 64) ≡ (l, j, i / 64) = one_key keys (cells.layer, cells.major, cells.first / 64) (l, j, i / 64) b found e in
        let layer : cells.layer ≡ l = ap (λ (k : Key). k.0) own in
        let row : cells.major ≡ j = ap (λ (k : Key). k.1) own in
        let quotient : cells.first / 64 ≡ i / 64 = ap (λ (k : Key). k.2) own in
        if_same _ _ _ _
        (block_places b (cells.first / 64) cells.first i cells.end refl quotient some ∙ sym (same_row cells.layer cells.major l j (is_from cells.first cells.end i) layer row))
        (λ h. ap area (place_is b (cells.first / 64) cells.first i cells.end refl quotient (on_row cells.layer cells.major l j _ true h refl).2))

    gained_here : (l i j m : ℕ) → block_at keys (l, j, i / 64) ≡ Some m → (t : Bool) → (m == b) ≡ t → get_or new (m * 64 + i % 64) 0 ≡ get_or old (m * 64 + i % 64) 0 + run_gains cells area l i j
    gained_here l i j m e true h =
        let same : m ≡ b = grind (arith, nat_tests) in
        let own : block_at keys (l, j, i / 64) ≡ Some b = e ∙ ap (λ n. Some n) same in
        let step = added (m * 64 + i % 64) in
        step ∙ ap (λ n. get_or old (m * 64 + i % 64) 0 + n) (ap (λ k. if is_from (b * 64 + cells.first % 64) (b * 64 + cells.first % 64 + (cells.end - cells.first)) (k * 64 + i % 64) then area (cells.first + ((k * 64 + i % 64) - (b * 64 + cells.first % 64))) else 0) same ∙ gains_same l i j own)
    gained_here l i j m e false h =
        let step = added (m * 64 + i % 64) in
        let out = other_block b m (cells.first % 64) (i % 64) (cells.end - cells.first) h (omega (arith, some, together)) (omega arith) in
        let none : run_gains cells area l i j ≡ 0 = no_gain l i j _ refl (λ own. let other : m ≡ b = some_same m b (sym e ∙ own) in absurd (not_same m b h other)) in
        step ∙ ap (λ n. get_or old (m * 64 + i % 64) 0 + n) (ap (λ t. if t then area (cells.first + ((m * 64 + i % 64) - (b * 64 + cells.first % 64))) else 0) out ∙ sym none)

    gained_at : (l i j : ℕ) (o : Option ℕ) → block_at keys (l, j, i / 64) ≡ o → sum_in new spilled (i % 64) o ≡ sum_in old spilled (i % 64) o + run_gains cells area l i j
    gained_at l i j None e = let none : run_gains cells area l i j ≡ 0 = no_gain l i j _ refl (λ own. absurd (none_some b (sym e ∙ own))) in omega (arith, none)
    gained_at l i j (Some m) e = let here = gained_here l i j m e (m == b) refl in omega (arith, here)

    gained : (l i j : ℕ) → sum_at (record { keys = keys; sums = new; spilled = spilled; most = most }) l i j ≡ sum_at (record { keys = keys; sums = old; spilled = spilled; most = most }) l i j + run_gains cells area l i j
    gained l i j = gained_at l i j (block_at keys (l, j, i / 64)) refl

    -- where there was room for it, none is more than the most, and each fits
    still_in_blocks : (bound : ℕ) → ((i : ℕ) → area i ≤ bound) → HasRoom (record { keys = keys; sums = old; spilled = spilled; most = most }) bound
        → ((n : ℕ) → b * 64 + cells.first % 64 ≤ n → n < b * 64 + cells.first % 64 + (cells.end - cells.first) → get_or old n 0 + get_or spilled n 0 + 2 ^ 64 ≤ 2 ^ 128)
        → length new ≡ length old → AreInBlocks keys old spilled most → AreInBlocks keys new spilled most
    still_in_blocks bound small room fits same was = record {
      stand = omega (arith, same, was.stand);
      within = omega (arith, same, was.within);
      bounded = λ n. let step = added n in let no_more = some_or_none (is_from (b * 64 + cells.first % 64) (b * 64 + cells.first % 64 + (cells.end - cells.first)) n) (area (cells.first + (n - (b * 64 + cells.first % 64)))) bound (small (cells.first + (n - (b * 64 + cells.first % 64)))) in let less = room.sums n in omega (arith, step, no_more, less);
      fit = λ n. let step = added n in by n (is_from (b * 64 + cells.first % 64) (b * 64 + cells.first % 64 + (cells.end - cells.first)) n) refl step;
    }
      where
        by : (n : ℕ) (t : Bool) → is_from (b * 64 + cells.first % 64) (b * 64 + cells.first % 64 + (cells.end - cells.first)) n ≡ t
            → get_or new n 0 ≡ get_or old n 0 + (if t then area (cells.first + (n - (b * 64 + cells.first % 64))) else 0) → get_or new n 0 + get_or spilled n 0 < 2 ^ 128
        by n false e step = let before = was.fit n in omega (arith, step, before)
        by n true e step =
            let free = fits n (from_low _ _ n e) (below_high _ _ n e) in
            let gain = small (cells.first + (n - (b * 64 + cells.first % 64))) in
            let less = room.sums n in
            omega (arith, step, free, gain, less, room.most)

-- a block as a call gave it, and its sums as they are lent
module _ (cells : Run) (area : ℕ → ℕ) (bound : ℕ) (small : (i : ℕ) → area i ≤ bound) (some : cells.first < cells.end) (together : cells.end ≤ cells.first / 64 * 64 + 64)
    (before now : BlockSums) (b : ℕ) (place : block_at now.keys (cells.layer, cells.major, cells.first / 64) ≡ Some b) (room : HasRoom now bound)
    (same : (l i j : ℕ) → sum_at now l i j ≡ sum_at before l i j) (fits : (i : ℕ) → cells.first ≤ i → i < cells.end → sum_at before cells.layer i cells.major + 2 ^ 64 ≤ 2 ^ 128)
    (keys : List Key) (old new spilled : List ℕ) (most : ℕ) (is : record { keys = keys; sums = old; spilled = spilled; most = most } ≡ now) (long : length new ≡ length old)
    (added : (n : ℕ) → get_or new n 0 ≡ get_or old n 0 + (if is_from (b * 64 + cells.first % 64) (b * 64 + cells.first % 64 + (cells.end - cells.first)) n then area (cells.first + (n - (b * 64 + cells.first % 64))) else 0)) where
  abbrev lent : BlockSums
  lent = record { keys = keys; sums = old; spilled = spilled; most = most }

  found : block_at keys (cells.layer, cells.major, cells.first / 64) ≡ Some b
  found = ap (λ (s : BlockSums). block_at s.keys (cells.layer, cells.major, cells.first / 64)) is ∙ place

  sum_is : (l i j : ℕ) → sum_at lent l i j ≡ sum_at before l i j
  sum_is l i j = ap (λ (s : BlockSums). sum_at s l i j) is ∙ same l i j

  lent_fits : (i : ℕ) → cells.first ≤ i → i < cells.end → sum_at lent cells.layer i cells.major + 2 ^ 64 ≤ 2 ^ 128
  lent_fits i low high = let stays = sum_is cells.layer i cells.major in let free = fits i low high in omega (arith, stays, free)

  pub kept_in_blocks : AreInBlocks keys old spilled most → AreInBlocks keys new spilled most
  kept_in_blocks was =
      still_in_blocks cells area keys old new spilled most b found some together added bound small (subst (λ (s : BlockSums). HasRoom s bound) (sym is) room)
      (fits_at lent cells.layer cells.major cells.first cells.end b found together lent_fits) long was

  pub gained_in_blocks : HasGained before (record { keys = keys; sums = new; spilled = spilled; most = most }) (run_gains cells area)
  gained_in_blocks = record {
    sums = λ l i j.
        let step = gained cells area keys old new spilled most b found some together added l i j in
        let stays = sum_is l i j in
        omega (arith, step, stays);
  }

-- the cells of a run up to a number
abbrev pub cells_to : Run → ℕ → Run
cells_to cells end = record cells { end = end }

abbrev pub cells_from : Run → ℕ → ℕ → Run
cells_from cells first end = record cells { first = first; end = end }

pub part_step : (s t : Bool) (f0 f e i a : ℕ) → f0 ≤ f → f ≤ e
    → (if s && (t && is_from f0 e i) then a else 0) ≡ (if s && (t && is_from f0 f i) then a else 0) + (if s && (t && is_from f e i) then a else 0)
part_step false t f0 f e i a low high = refl
part_step true false f0 f e i a low high = refl
part_step true true f0 f e i a low high = grind (arith, nat_tests)

part_none : (s t : Bool) (f0 f i a : ℕ) → f ≤ i → (if s && (t && is_from f0 f i) then a else 0) ≡ 0
part_none false t f0 f i a past = refl
part_none true false f0 f i a past = refl
part_none true true f0 f i a past = grind (arith, nat_tests)

part_empty : (s t : Bool) (f0 f i a : ℕ) → f ≤ f0 → (if s && (t && is_from f0 f i) then a else 0) ≡ 0
part_empty false t f0 f i a none = refl
part_empty true false f0 f i a none = refl
part_empty true true f0 f i a none = grind (arith, nat_tests)

part_all : (s t : Bool) (f0 f e i a : ℕ) → e ≤ f → f ≤ max f0 e → (if s && (t && is_from f0 f i) then a else 0) ≡ (if s && (t && is_from f0 e i) then a else 0)
part_all false t f0 f e i a past upto = refl
part_all true false f0 f e i a past upto = refl
part_all true true f0 f e i a past upto = grind (arith, nat_tests)

-- how far a loop over the cells of a run has come
pub record Going (old now : BlockSums) (cells : Run) (area : ℕ → ℕ) (first : ℕ) : Type 0 where
  pub behind : cells.first ≤ first
  pub upto : first ≤ max cells.first cells.end
  pub gained : HasGained old now (run_gains (cells_to cells first) area)

module _ (cells : Run) (area : ℕ → ℕ) (old : BlockSums) where
  pub going_first : Going old old cells area cells.first
  going_first = record {
    behind = omega arith;
    upto = omega arith;
    gained = record { sums = λ l i j. let none = part_empty (cells.layer == l) (cells.major == j) cells.first cells.first i (area i) (omega arith) in omega (arith, none) };
  }

  module _ (now : BlockSums) (first : ℕ) (going : Going old now cells area first) where
    -- sums that come still have room
    pub still_fit : ((i : ℕ) → cells.first ≤ i → i < cells.end → sum_at old cells.layer i cells.major + 2 ^ 64 ≤ 2 ^ 128) → (i : ℕ) → first ≤ i → i < cells.end → sum_at now cells.layer i cells.major + 2 ^ 64 ≤ 2 ^ 128
    still_fit fits i past below =
        let is = going.gained.sums cells.layer i cells.major in
        let none = part_none (cells.layer == cells.layer) (cells.major == cells.major) cells.first first i (area i) past in
        let room = fits i (omega (arith, going.behind)) below in
        omega (arith, is, none, room)

    pub going_on : (next : BlockSums) (end : ℕ) → first ≤ end → end ≤ cells.end → HasGained now next (run_gains (cells_from cells first end) area) → Going old next cells area end
    going_on next end more within step = record {
      behind = omega (arith, going.behind);
      upto = omega arith;
      gained = record {
        sums = λ l i j.
            let was = going.gained.sums l i j in
            let is = step.sums l i j in
            let both = part_step (cells.layer == l) (cells.major == j) cells.first first end i (area i) going.behind more in
            omega (arith, was, is, both);
      };
    }

    -- where no cells are left, all have gained,
    pub all_gained : cells.end ≤ first → HasGained old now (run_gains cells area)
    all_gained past = record { sums = λ l i j. going.gained.sums l i j ∙ ap (λ n. sum_at old l i j + n) (by l i j) }
      where
        by : (l i j : ℕ) → run_gains (cells_to cells first) area l i j ≡ run_gains cells area l i j
        by l i j = part_all (cells.layer == l) (cells.major == j) cells.first first cells.end i (area i) past going.upto

    -- and where the next can't, none has gained more
    pub some_gained : (next : BlockSums) → first < cells.end → ((l i j : ℕ) → sum_at next l i j ≡ sum_at now l i j) → HasGainedAtMost old next (run_gains cells area)
    some_gained next more same = record {
      sums = λ l i j.
          let was = going.gained.sums l i j in
          let is = same l i j in
          let both = part_step (cells.layer == l) (cells.major == j) cells.first first cells.end i (area i) going.behind (omega (arith, more)) in
          omega (arith, was, is, both);
    }

pub gained_at_most : (old new : BlockSums) (gains : Gains) → HasGained old new gains → HasGainedAtMost old new gains
gained_at_most old new gains h = record { sums = λ l i j. let is = h.sums l i j in omega (arith, is) }

-- what gains nothing where it is refused gains no more than that
pub either_at_most : {X E : Type 0} (r : Result X E) (old new : BlockSums) (gains : Gains) → OnOk r (HasGained old new gains) → OnErr r ((l i j : ℕ) → sum_at new l i j ≡ sum_at old l i j) → HasGainedAtMost old new gains
either_at_most (Ok _) old new gains h k = gained_at_most old new gains h
either_at_most (Err _) old new gains h k = record { sums = λ l i j. let is = k l i j in omega (arith, is) }

-- what two sums gain, by the numbers of their cells
pub pair_added : (old new : List ℕ) (place first end area next_area : ℕ) → end ≡ first + 2
    → ((n : ℕ) → get_or new n 0 ≡ get_or old n 0 + (if is_from place (place + 2) n then one_of_two area next_area (n - place) else 0))
    → (n : ℕ) → get_or new n 0 ≡ get_or old n 0 + (if is_from place (place + (end - first)) n then one_of_two area next_area ((first + (n - place)) - first) else 0)
pair_added old new place first end area next_area two step n =
    let count : 2 ≡ end - first = omega (arith, two) in
    let offset : n - place ≡ (first + (n - place)) - first = omega arith in
    step n
    ∙ ap (λ k. get_or old n 0 + (if is_from place (place + k) n then one_of_two area next_area (n - place) else 0)) count
    ∙ ap (λ k. get_or old n 0 + (if is_from place (place + (end - first)) n then one_of_two area next_area k else 0)) offset

-- neither of two areas is more than the greater
pub one_at_most : (area next_area n most : ℕ) → most ≡ max area next_area → one_of_two area next_area n ≤ most
one_at_most area next_area n most is = by (n == 0)
  where
    by : (t : Bool) → (if t then area else next_area) ≤ most
    by true = omega (arith, is)
    by false = omega (arith, is)
