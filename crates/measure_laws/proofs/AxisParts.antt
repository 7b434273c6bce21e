-- What a stretch of an axis has in common with the spaces between lines is, together, the stretch.
use Rattle.std.proofs.Common.{◌≡◌, ℕ, zero, suc, ◌+◌, List, [], ◌∷◌, length, Option, ℤ, pos, ◌-ℤ◌, ◌<ℤ◌, ◌≤ℤ◌, refl, ap, ◌∙◌, arith, sum_by}
use Rattle.std.specs.Int.{int_min, int_max}
use Rattle.std.specs.List.{cons_option, filter_map}
use Rattle.std.proofs.lemmas.Int.{by_lt_z, ints, clamps}
use Rattle.std.proofs.lemmas.List.Sums.{sum_by-cons}
use Rattle.design_model.specs.Geometry.{Rectangle}
use Rattle.shape_rules.specs.Classes.{numbers}
use Rattle.measure_rules.specs.Density.{extent}
use Rattle.measure_rules.specs.GridCells.{between}
use Rattle.measure_laws.specs.CellLaws.{last_line, Reach}
use Rattle.measure_laws.specs.LineLaws.{RiseFrom, Rise}

-- lines next to one another
abbrev pub neighbours : List ℤ → List (ℤ × ℤ)
neighbours [] = []
neighbours (l ∷ []) = []
neighbours (l ∷ m ∷ ls) = (l, m) ∷ neighbours (m ∷ ls)

-- the cell between two lines and two others
abbrev pub cell_of : ℤ × ℤ → ℤ × ℤ → Rectangle
cell_of x y = record { x1 = x.0; y1 = y.0; x2 = x.1; y2 = y.1 }

-- counting from one more, for a function that begins one later
shifted : {A : Type 0} (f g : ℕ → Option A) → ((n : ℕ) → f (suc n) ≡ g n) → (a n : ℕ) → filter_map f (numbers (suc a) n) ≡ filter_map g (numbers a n)
unfolding numbers
shifted f g same a zero = refl
shifted {A = A} f g same a (suc n) =
    ap (λ (o : Option A). cons_option o (filter_map f (numbers (suc (suc a)) n))) (same a)
    ∙ ap (λ (xs : List A). cons_option (g a) xs) (shifted f g same (suc a) n)

later : (l : ℤ) (ls : List ℤ) (n : ℕ) → between (l ∷ ls) (suc n) ≡ between ls n
unfolding between
later l [] n = refl
later l (m ∷ ls) n = refl

-- the spaces between lines, by their numbers
pub spaces : (ls : List ℤ) → filter_map (between ls) (numbers 0 (length ls)) ≡ neighbours ls
unfolding between numbers
spaces [] = refl
spaces (l ∷ []) = refl
spaces (l ∷ m ∷ ls) =
    let more = shifted (between (l ∷ m ∷ ls)) (between (m ∷ ls)) (later l (m ∷ ls)) 0 (length (m ∷ ls)) in
    ap (λ ps. (l, m) ∷ ps) (more ∙ spaces (m ∷ ls))

-- what a stretch has in common with the space between two lines
abbrev pub common_part : ℤ → ℤ → ℤ × ℤ → ℕ
common_part low high p = extent (int_max p.0 low) (int_min p.1 high)

none_behind : (l low high : ℤ) → high ≤ℤ l → 0 ≡ extent (int_max l low) high
none_behind l low high h = omega (arith, ints, clamps)

min_left : (a b : ℤ) → a ≤ℤ b → int_min a b ≡ a
min_left a b h = omega (arith, ints, clamps)

min_right : (a b : ℤ) → b ≤ℤ a → int_min a b ≡ b
min_right a b h = omega (arith, ints, clamps)

weaker : (a b : ℤ) → a <ℤ b → a ≤ℤ b
weaker a b h = omega (arith, ints)

extent_is : (a b : ℤ) → a ≤ℤ b → pos (extent a b) ≡ b -ℤ a
extent_is a b h = omega (arith, ints, clamps)

extent_none : (a b : ℤ) → b ≤ℤ a → extent a b ≡ 0
extent_none a b h = omega (arith, ints, clamps)

through_both : (a b c : ℤ) → a ≤ℤ b → b ≤ℤ c → a ≤ℤ c
through_both a b c h k = omega (arith, ints)

sum_by_places : (n m k : ℕ) (a b c : ℤ) → pos n ≡ b -ℤ a → pos m ≡ c -ℤ b → pos k ≡ c -ℤ a → n + m ≡ k
sum_by_places n m k a b c e f g = omega (arith, ints)

-- a stretch from before a line to a place, cut at the line
cut_at : (a m high : ℤ) → a ≤ℤ m → extent a (int_min m high) + extent m high ≡ extent a high
cut_at a m high h = by_lt_z m high
    (λ (inside : m <ℤ high).
    let up = weaker m high inside in
    rw (min_left m high up) (sum_by_places (extent a m) (extent m high) (extent a high) a m high (extent_is a m h) (extent_is m high up) (extent_is a high (through_both a m high h up))))
    (λ (before : high ≤ℤ m). rw (min_right m high before, extent_none m high before) (omega arith))

max_left : (a b : ℤ) → b ≤ℤ a → int_max a b ≡ a
max_left a b h = omega (arith, ints, clamps)

max_right : (a b : ℤ) → a ≤ℤ b → int_max a b ≡ b
max_right a b h = omega (arith, ints, clamps)

-- a line that isn't behind the stretch
not_behind : (m low high : ℤ) → m ≤ℤ low → extent low (int_min m high) ≡ 0
not_behind m low high h = omega (arith, ints, clamps)

through : (a b c : ℤ) → a <ℤ b → b ≤ℤ c → a ≤ℤ c
through a b c h k = omega (arith, ints)

max_before : (a b c : ℤ) → a <ℤ c → b <ℤ c → int_max a b ≤ℤ c
max_before a b c h k = omega (arith, ints, clamps)

one_space : (l m low high : ℤ) → l <ℤ m → extent (int_max l low) (int_min m high) + extent (int_max m low) high ≡ extent (int_max l low) high
one_space l m low high h = by_lt_z low m
    (λ (inside : low <ℤ m). rw (max_left m low (weaker low m inside)) (cut_at (int_max l low) m high (max_before l low m h inside)))
    (λ (before : m ≤ℤ low). rw (max_right m low before, max_right l low (through l m low h before), not_behind m low high before) (omega arith))

parts_from : (l : ℤ) (ls : List ℤ) (low high : ℤ) → RiseFrom l ls → high ≤ℤ last_line l ls → sum_by (common_part low high) (neighbours (l ∷ ls)) ≡ extent (int_max l low) high
parts_from l [] low high rise end = none_behind l low high end
parts_from l (m ∷ ls) low high rise end =
    let here = one_space l m low high rise.0 in
    let rest = parts_from m ls low high rise.1 end in
    omega (arith, here, rest, sum_by-cons (common_part low high) (l, m) (neighbours (m ∷ ls)))

first_before : (l low high : ℤ) → l ≤ℤ low → extent (int_max l low) high ≡ extent low high
first_before l low high h = omega (arith, ints, clamps)

pub parts_add_up : (ls : List ℤ) (low high : ℤ) → Rise ls → Reach ls low high → sum_by (common_part low high) (neighbours ls) ≡ extent low high
parts_add_up [] low high rise reach = absurd reach
parts_add_up (l ∷ ls) low high rise reach = parts_from l ls low high rise reach.1 ∙ first_before l low high reach.0
