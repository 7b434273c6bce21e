-- Sums that grow by a strip in parts: what it reaches over chunks as a whole, and its ends.
use Rattle.std.proofs.Common.{◌≡◌, ◌+◌, ◌-◌, ◌*◌, ◌/◌, ◌^◌, ◌<◌, ◌≤◌, ℕ, Bool, true, false, if◌then◌else◌, ◌==◌, ◌&&◌, List, ℤ, refl, sym, ap, ap₂, ◌∙◌, arith}
use Rattle.std.proofs.lemmas.Bool.Decides.{nat_tests}
use Rattle.cell_sums.specs.Blocks.{BlockSums, Gains, pair_gains, HasGained, HasGainedAtMost, run_gains, strip_area, strip_gains, sum_at}
use Rattle.cell_sums.specs.Covered.{AreFull, HoldAll}
use Rattle.cell_sums.specs.Lines.{AreLines, common_length, is_from, width}
use Rattle.cell_sums.specs.Sheets.{HasGrown, HasGrownAtMost, SheetSums, total}
use Rattle.cell_sums.specs.declared.runs.Run.{Run}
use Rattle.cell_sums.specs.declared.runs.Strip.{Strip}
use Rattle.cell_sums.specs.declared.stretch.Neighbours.{Neighbours}
use Rattle.cell_sums.proofs.CoverLemmas.{some_width}
use Rattle.cell_sums.proofs.GainLemmas.{cells_from, cells_to, part_step}

at_least : (w h : ℕ) → 1 ≤ w → h ≤ w * h
at_least w h some = grind arith

spread : (w a b : ℕ) → w * (a + b) ≡ w * a + w * b
spread w a b = omega arith

scaled : (w a b : ℕ) → a ≤ b → w * a ≤ w * b
scaled w a b le = grind arith

in_chunk : (begin end i : ℕ) → is_from begin end (i / 16) ≡ is_from (begin * 16) (end * 16) i
in_chunk begin end i = grind (arith, nat_tests)

by_height : (s t u : Bool) (w h a : ℕ) → (u ≡ true → w * h ≡ a) → w * (if s && (t && u) then h else 0) ≡ (if s && (t && u) then a else 0)
by_height false t u w h a is = omega arith
by_height true false u w h a is = omega arith
by_height true true false w h a is = omega arith
by_height true true true w h a is = is refl

low_of : (low high i : ℕ) → is_from low high i ≡ true → low ≤ i
low_of low high i h = grind (arith, nat_tests)

high_of : (low high i : ℕ) → is_from low high i ≡ true → i < high
high_of low high i h = grind (arith, nat_tests)

pub none_gained : (b : BlockSums) (gains : Gains) → HasGainedAtMost b b gains
none_gained b gains = record { sums = λ l i j. omega arith }

module _ (lines : List ℤ) (cells : Run) (strip : Strip) (begin end : ℕ) (full : AreFull lines strip.low strip.high cells.first cells.end)
    (some : begin < end) (behind : cells.first < begin * 16) (before : end * 16 < cells.end) where
  -- heights have room where sums have
  pub chunk_fits : AreLines lines → (b : SheetSums) → ((i : ℕ) → cells.first ≤ i → i < cells.end → total lines b cells.layer i cells.major + 2 ^ 64 ≤ 2 ^ 128)
      → (c : ℕ) → begin ≤ c → c < end → sum_at b.chunks cells.layer c cells.major + 2 ^ 64 ≤ 2 ^ 128
  chunk_fits are b fits c low high =
      let i : ℕ = c * 16 in
      let quotient : i / 16 ≡ c = omega arith in
      let room = fits i (omega (arith, behind, low)) (omega (arith, before, high)) in
      let within = full.within (omega (arith, some, behind, before)) in
      let more = some_width lines i are.rise (omega (arith, within, before, high)) in
      let is = ap (λ k. width lines i * sum_at b.chunks cells.layer k cells.major) quotient in
      let least = at_least (width lines i) (sum_at b.chunks cells.layer c cells.major) more in
      omega (arith, room, is, least)

  abbrev before_cells : Run
  before_cells = cells_to cells (begin * 16)

  abbrev chunk_cells : Run
  chunk_cells = cells_from cells begin end

  abbrev behind_cells : Run
  behind_cells = record cells { first = end * 16 }

  abbrev gain_by_height : ℕ → ℕ → ℕ → ℕ
  gain_by_height l i j = run_gains chunk_cells (λ k. strip.height) l (i / 16) j

  -- the three parts are the strip
  parts : (l i j : ℕ) → (width lines i * gain_by_height l i j + strip_gains lines before_cells strip l i j) + strip_gains lines behind_cells strip l i j ≡ strip_gains lines cells strip l i j
  parts l i j =
      let a : ℕ = strip_area lines strip i in
      let s : Bool = cells.layer == l in
      let t : Bool = cells.major == j in
      let chunk = ap (λ u. width lines i * (if s && (t && u) then strip.height else 0)) (in_chunk begin end i) in
      let middle = by_height s t (is_from (begin * 16) (end * 16) i) (width lines i) strip.height a
      (λ h.
      let low = low_of (begin * 16) (end * 16) i h in
      let high = high_of (begin * 16) (end * 16) i h in
      ap (λ n. n * strip.height) (sym (full.inside i (omega (arith, behind, low)) (omega (arith, before, high))))) in
      let first = part_step s t cells.first (begin * 16) cells.end i a (omega (arith, behind)) (omega (arith, some, before)) in
      let last = part_step s t (begin * 16) (end * 16) cells.end i a (omega (arith, some)) (omega (arith, before)) in
      omega (arith, chunk, middle, first, last)

  module _ (c0 c1 c2 d0 d1 : BlockSums) where
    pub grown : HasGained d0 d1 (run_gains chunk_cells (λ k. strip.height)) → HasGained c0 c1 (strip_gains lines before_cells strip) → HasGained c1 c2 (strip_gains lines behind_cells strip)
        → HasGrown lines (record { cells = c0; chunks = d0 }) (record { cells = c2; chunks = d1 }) (strip_gains lines cells strip)
    grown heights first last = record {
      totals = λ l i j.
          let w : ℕ = width lines i in
          let high = ap (λ n. w * n) (heights.sums l (i / 16) j) ∙ spread w (sum_at d0 l (i / 16) j) (gain_by_height l i j) in
          let one = first.sums l i j in
          let two = last.sums l i j in
          let all = parts l i j in
          omega (arith, high, one, two, all);
    }

    pub grown_at_most : HasGainedAtMost d0 d1 (run_gains chunk_cells (λ k. strip.height)) → HasGainedAtMost c0 c1 (strip_gains lines before_cells strip) → HasGainedAtMost c1 c2 (strip_gains lines behind_cells strip)
        → HasGrownAtMost lines (record { cells = c0; chunks = d0 }) (record { cells = c2; chunks = d1 }) (strip_gains lines cells strip)
    grown_at_most heights first last = record {
      totals = λ l i j.
          let w : ℕ = width lines i in
          let high = scaled w _ _ (heights.sums l (i / 16) j) in
          let split = spread w (sum_at d0 l (i / 16) j) (gain_by_height l i j) in
          let one = first.sums l i j in
          let two = last.sums l i j in
          let all = parts l i j in
          omega (arith, high, split, one, two, all);
    }

-- what two neighbours gain is what a strip has in common with them
module _ (ls : List ℤ) (n : Neighbours) (all : HoldAll ls n) (cells : Run) (strip : Strip) (first : cells.first ≡ n.first) (end : cells.end ≡ n.first + 2) (low : strip.low ≡ n.stretch.low) (high : strip.high ≡ n.stretch.high) where
  area_here : (i : ℕ) (b : Bool) → (i - cells.first == 0) ≡ b → is_from cells.first cells.end i ≡ true → (if b then n.length * strip.height else n.next_length * strip.height) ≡ strip_area ls strip i
  area_here i true e h =
      let is : i ≡ n.first = grind (arith, nat_tests) in
      ap (λ w. w * strip.height) (all.length ∙ ap₂ (λ a b. common_length ls a b n.first) (sym low) (sym high) ∙ ap (common_length ls strip.low strip.high) (sym is))
  area_here i false e h =
      let is : i ≡ n.first + 1 = grind (arith, nat_tests) in
      ap (λ w. w * strip.height) (all.next_length ∙ ap₂ (λ a b. common_length ls a b (n.first + 1)) (sym low) (sym high) ∙ ap (common_length ls strip.low strip.high) (sym is))

  same_if : (s t u : Bool) (a b : ℕ) → (u ≡ true → a ≡ b) → (if s && (t && u) then a else 0) ≡ (if s && (t && u) then b else 0)
  same_if false t u a b h = refl
  same_if true false u a b h = refl
  same_if true true false a b h = refl
  same_if true true true a b h = h refl

  pair_is : (l i j : ℕ) → pair_gains cells (n.length * strip.height) (n.next_length * strip.height) l i j ≡ strip_gains ls cells strip l i j
  pair_is l i j = same_if (cells.layer == l) (cells.major == j) (is_from cells.first cells.end i) _ _ (area_here i (i - cells.first == 0) refl)

  module _ (now next : SheetSums) (same : next.chunks ≡ now.chunks) where
    pub pair_grown : HasGained now.cells next.cells (pair_gains cells (n.length * strip.height) (n.next_length * strip.height)) → HasGrown ls now next (strip_gains ls cells strip)
    pair_grown step = record {
      totals = λ l i j.
          let is = step.sums l i j in
          let gains = pair_is l i j in
          let chunk = ap (λ (b : BlockSums). width ls i * sum_at b l (i / 16) j) same in
          omega (arith, is, gains, chunk);
    }

    pub pair_refused : ((l i j : ℕ) → sum_at next.cells l i j ≡ sum_at now.cells l i j) → HasGrownAtMost ls now next (strip_gains ls cells strip)
    pair_refused stay = record {
      totals = λ l i j.
          let is = stay l i j in
          let chunk = ap (λ (b : BlockSums). width ls i * sum_at b l (i / 16) j) same in
          omega (arith, is, chunk);
    }
