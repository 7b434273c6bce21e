use Rattle.std.proofs.Common.{◌≡◌, ◌+◌, ◌*◌, ◌-◌, ◌<◌, ◌≤◌, ◌==◌, ℕ, if◌then◌else◌, get_or, ap, ◌∙◌, arith}
use Rattle.std.proofs.lemmas.Bool.Decides.{nat_tests}
use Rattle.cell_sums.specs.Lines.{common_length, is_from, width}
use Rattle.cell_sums.proofs.blocks.add_areas.Goals as goal
use Rattle.cell_sums.proofs.blocks.add_areas.Goals.{then-others-gt1, else-others-gt1}

behind_first : (place n k area : ℕ) → n ≡ place + 1 + k → (if place == n then area else 0) ≡ 0
behind_first place n k area is = grind (arith, nat_tests)

module _ (common full : ℕ → ℕ) (place first count n : ℕ) where
  two_parts : 1 < count → count ≤ 2
      → (if place == n then common first else 0) + (if place + (count - 1) == n then common (first + (count - 1)) else 0) ≡ (if is_from place (place + count) n then common (first + (n - place)) else 0)
  two_parts more few = grind (arith, nat_tests)

  three_parts : 2 < count → ((i : ℕ) → first < i → i + 1 < first + count → common i ≡ full i)
      → (if place == n then common first else 0) + (if is_from (place + 1) (place + 1 + (count - 1 - 1)) n then full (first + 1 + (n - (place + 1))) else 0) + (if place + (count - 1) == n then common (first + (count - 1)) else 0)
      ≡ (if is_from place (place + count) n then common (first + (n - place)) else 0)
  three_parts more inside = grind (arith, nat_tests)

pub add_full_areas-requires-clause-fits : goal.add_full_areas-requires-clause-fits
add_full_areas-requires-clause-fits g c k less =
    let strip = c.args.strip.now in
    let n : ℕ = c.args.place + 1 + k in
    let same = c.add_area.ensures n in
    let none = behind_first c.args.place n k (common_length c.args.lines.now strip.low strip.high c.args.first * strip.height) (omega arith) in
    let place_is : c.args.place + (1 + k) ≡ n = omega arith in
    let number : c.args.first + (1 + k) ≡ c.args.first + 1 + k = omega arith in
    let was = ap (λ m. get_or c.args.sums.now m 0) place_is in
    let whole = ap (common_length c.args.lines.now strip.low strip.high) number ∙ c.requires.full.inside (c.args.first + 1 + k) (omega arith) (omega (arith, less)) in
    let area = ap (λ w. w * strip.height) whole in
    let room = c.requires.fits (1 + k) (omega (arith, less)) in
    omega (arith, same, none, was, area, room)

pub returns-after-others-gt1 : goal.returns-after-others-gt1
returns-after-others-gt1 g c n =
    let strip = c.args.strip.now in
    let common = λ (i : ℕ). common_length c.args.lines.now strip.low strip.high i * strip.height in
    let full = λ (i : ℕ). width c.args.lines.now i * strip.height in
    let first = c.add_area.ensures n in
    let last = c.add_area-then-others-gt0.ensures n in
    elim c.if-others-gt1.branch [
      | then-others-gt1 w ↦ let middle = w.add_full_areas.ensures n in
          let now = ap (λ xs. get_or xs n 0) w.sums-is in
          let parts = three_parts common full c.args.place c.args.first c.args.count n (omega arith) (λ i above below. ap (λ l. l * strip.height) (c.requires.full.inside i above below)) in
          omega (arith, first, middle, now, last, parts)
      | else-others-gt1 w ↦ let now = ap (λ xs. get_or xs n 0) w.sums-is in
          let parts = two_parts common full c.args.place c.args.first c.args.count n (omega arith) (omega arith) in
          omega (arith, first, now, last, parts)
    ]
