-- Lines along one axis, and lines that are put in one after the other.
use Rattle.std.proofs.Common.{◌≡◌, ℕ, zero, suc, ◌+◌, ◌-◌, ◌<◌, ◌≤◌, true, false, List, [], ◌∷◌, ◌++◌, flat_map, map, refl, sym, ap, ap₂, ◌∙◌, add-one, append_assoc, arith, ℤ, pos, negsuc, ◌+ℤ◌, ◌*ℤ◌, ◌^◌, to_z, of_z, w32, w64}
use Rattle.std.proofs.Math.Nat.{mul-le-mul}
use Rattle.std.proofs.lemmas.Int.{fits_signed_mul, ints, to_z-of_z, to_z_pos, unsigned_abs-mul}
use Rattle.std.specs.Int.RustNames.{unsigned_abs}
use mir.Val.{SFits}
use Rattle.std.proofs.lemmas.List.{append-nil}
use Rattle.def_grammar.specs.Grids.{Axis, along_x, along_y, GridLines}
use Rattle.def_grammar.specs.Records.{Record, top}
use Rattle.def_grammar.specs.Top as tops
use Rattle.shape_rules.specs.Classes.{numbers}
use Rattle.measure_rules.specs.GridCells.{lines_along_x, lines_along_y}
use Rattle.design_grid.specs.Along.{lines_along}

grid_x : (a : Axis) (lines : GridLines) → lines_along true (top (tops.gcell_grid (record { axis = a; lines = lines }))) ≡ lines_along_x (top (tops.gcell_grid (record { axis = a; lines = lines })))
grid_x along_x lines = refl
grid_x along_y lines = refl

grid_y : (a : Axis) (lines : GridLines) → lines_along false (top (tops.gcell_grid (record { axis = a; lines = lines }))) ≡ lines_along_y (top (tops.gcell_grid (record { axis = a; lines = lines })))
grid_y along_x lines = refl
grid_y along_y lines = refl

one_along_x : (r : Record) → lines_along true r ≡ lines_along_x r
one_along_x (top (tops.gcell_grid g)) = grid_x g.axis g.lines
one_along_x _ = refl

one_along_y : (r : Record) → lines_along false r ≡ lines_along_y r
one_along_y (top (tops.gcell_grid g)) = grid_y g.axis g.lines
one_along_y _ = refl

pub all_along_x : (rs : List Record) → flat_map (lines_along true) rs ≡ flat_map lines_along_x rs
all_along_x [] = refl
all_along_x (r ∷ rs) = ap₂ (λ (a b : List ℤ). a ++ b) (one_along_x r) (all_along_x rs)

pub all_along_y : (rs : List Record) → flat_map (lines_along false) rs ≡ flat_map lines_along_y rs
all_along_y [] = refl
all_along_y (r ∷ rs) = ap₂ (λ (a b : List ℤ). a ++ b) (one_along_y r) (all_along_y rs)

-- numbers from one that is below the end
numbers_from : (a k : ℕ) → 0 < k → numbers a k ≡ a ∷ numbers (a + 1) (k - 1)
unfolding numbers
numbers_from a zero some = elim some [ ]
numbers_from a (suc k) some = ap₂ (λ (n m : ℕ). a ∷ numbers n m) (sym (add-one a)) (omega arith)

module _ (f : ℕ → ℤ) (all : List ℤ) where
  pub next_line : (at n : ℕ) (lines now : List ℤ) → at < n → lines ++ map f (numbers at (n - at)) ≡ all → now ≡ lines ++ f at ∷ [] → now ++ map f (numbers (at + 1) (n - (at + 1))) ≡ all
  next_line at n lines now below going put =
      let rest = map f (numbers (at + 1) (n - (at + 1))) in
      let fewer : n - at - 1 ≡ n - (at + 1) = omega arith in
      ap (λ (ls : List ℤ). ls ++ rest) put
      ∙ append_assoc lines (f at ∷ []) rest
      ∙ ap (λ (k : ℕ). lines ++ f at ∷ map f (numbers (at + 1) k)) (sym fewer)
      ∙ ap (λ (ns : List ℕ). lines ++ map f ns) (sym (numbers_from at (n - at) (omega (arith, below))))
      ∙ going

  none_left : (k : ℕ) → k ≡ 0 → map f (numbers 0 k) ≡ []
  unfolding numbers
  none_left k is = ap (λ n. map f (numbers 0 n)) is

  none_from : (a k : ℕ) → k ≡ 0 → map f (numbers a k) ≡ []
  unfolding numbers
  none_from a k is = ap (λ n. map f (numbers a n)) is

  pub no_line_more : (at n : ℕ) (lines : List ℤ) → n ≤ at → lines ++ map f (numbers at (n - at)) ≡ all → lines ≡ all
  no_line_more at n lines past going = sym (append-nil lines) ∙ ap (λ (ls : List ℤ). lines ++ ls) (sym (none_from at (n - at) (omega (arith, past)))) ∙ going

-- a number as a wider one
wide : (z : ℤ) → SFits w32 z → to_z w64 (of_z w64 (to_z w32 (of_z w32 z))) ≡ z
wide z f = ap (λ (y : ℤ). to_z w64 (of_z w64 y)) (to_z-of_z w32 z f) ∙ to_z-of_z w64 z (search (arith, ints))

abs_near : (z : ℤ) → SFits w32 z → unsigned_abs z ≤ 2 ^ 31
abs_near (pos n) f = omega (arith, f.sfits)
abs_near (negsuc n) f = omega (arith, f.sfits)

sum_near : (a p : ℤ) → SFits w32 a → unsigned_abs p ≤ 2 ^ 62 → SFits w64 (a +ℤ p)
sum_near a p h k = search (arith, ints)

-- the line of a number, as it is computed
pub line_placed : (a b : ℤ) (n : ℕ) → SFits w32 a → SFits w32 b → n ≤ 2 ^ 31
    → to_z w64 (of_z w64 (to_z w64 (of_z w64 (to_z w32 (of_z w32 a))) +ℤ to_z w64 (of_z w64 (to_z w64 n *ℤ to_z w64 (of_z w64 (to_z w32 (of_z w32 b))))))) ≡ a +ℤ pos n *ℤ b
line_placed a b n fa fb few =
    let near = abs_near b fb in
    let fits : SFits w64 (pos n *ℤ b) = fits_signed_mul w64 (pos n) b (2 ^ 31) (2 ^ 31) few near (omega arith) in
    let small : unsigned_abs (pos n *ℤ b) ≤ 2 ^ 62 = omega (arith, unsigned_abs-mul (pos n) b, mul-le-mul few near) in
    let past : to_z w64 (of_z w64 (to_z w64 n *ℤ to_z w64 (of_z w64 (to_z w32 (of_z w32 b))))) ≡ pos n *ℤ b =
    ap (λ (x : ℤ). to_z w64 (of_z w64 x)) (ap₂ (λ (x y : ℤ). x *ℤ y) (to_z_pos w64 n (omega arith)) (wide b fb)) ∙ to_z-of_z w64 (pos n *ℤ b) fits in
    ap (λ (x : ℤ). to_z w64 (of_z w64 x)) (ap₂ (λ (x y : ℤ). x +ℤ y) (wide a fa) past) ∙ to_z-of_z w64 (a +ℤ pos n *ℤ b) (sum_near a (pos n *ℤ b) fa small)
