-- What a rectangle has in common with all cells among lines, and so the densities of all cells.
use Rattle.std.proofs.Common.{◌≡◌, ℕ, ◌+◌, ◌*◌, Bool, true, false, ◌==◌, List, [], ◌∷◌, length, Option, Some, None, ℤ, refl, sym, ap, ap₂, ◌∙◌, arith, sum_by, if◌then◌else◌}
use Rattle.std.specs.List.{All, cons_option, filter_map}
use Rattle.std.proofs.lemmas.List.Elements.{All-head, All-tail}
use Rattle.std.proofs.lemmas.List.Sums.{sum_by-cons}
use Rattle.design_model.specs.Geometry.{Rectangle}
use Rattle.shape_rules.specs.Classes.{numbers}
use Rattle.lef_grammar.specs.Measures.{Shape}
use Rattle.form_meanings.specs.Words.{◌>>=◌}
use Rattle.measure_rules.specs.Density.{area_of, common_area, area_on, density}
use Rattle.measure_rules.specs.GridCells.{between, cell_among}
use Rattle.measure_laws.specs.CellLaws.{cells_among, LiesAmong, CellsOfAGridAddUp, whole_area_on, DensitiesOfAGridAddUp}
use Rattle.measure_laws.specs.LineLaws.{Rise}
use Rattle.measure_laws.proofs.AxisParts.{cell_of, neighbours, spaces, common_part, parts_add_up}
use Rattle.measure_laws.proofs.Sums.{sum_by-same, sum_by-plus, none_sum, sum_by-flat_map}

-- what is made of a value, where there is one
abbrev value_if : {A : Type 0} → (A → ℕ) → Option A → ℕ
value_if w None = 0
value_if w (Some a) = w a

module _ {A B : Type 0} (w : B → ℕ) (f : A → Option B) where
  one_if : (o : Option B) (bs : List B) → sum_by w (cons_option o bs) ≡ value_if w o + sum_by w bs
  one_if None bs = omega arith
  one_if (Some b) bs = sum_by-cons w b bs

  sum_by-filter_map : (xs : List A) → sum_by w (filter_map f xs) ≡ sum_by (λ x. value_if w (f x)) xs
  sum_by-filter_map [] = refl
  sum_by-filter_map (x ∷ xs) = let later = sum_by-filter_map xs in omega (arith, later, one_if (f x) (filter_map f xs), sum_by-cons (λ x. value_if w (f x)) x xs)

plus_times : (a b c : ℕ) → (a + b) * c ≡ a * c + b * c
plus_times a b c = omega arith

times_plus : (a b c : ℕ) → a * (b + c) ≡ a * b + a * c
times_plus a b c = omega arith

sum_times : {A : Type 0} (f : A → ℕ) (k : ℕ) (xs : List A) → sum_by (λ x. f x * k) xs ≡ sum_by f xs * k
sum_times f k [] = omega arith
sum_times f k (x ∷ xs) = sum_by-cons (λ x. f x * k) x xs ∙ ap (λ n. f x * k + n) (sum_times f k xs) ∙ sym (plus_times (f x) (sum_by f xs) k) ∙ ap (λ n. n * k) (sym (sum_by-cons f x xs))

times_sum : {A : Type 0} (k : ℕ) (f : A → ℕ) (xs : List A) → sum_by (λ x. k * f x) xs ≡ k * sum_by f xs
times_sum k f [] = omega arith
times_sum k f (x ∷ xs) = sum_by-cons (λ x. k * f x) x xs ∙ ap (λ n. k * f x + n) (times_sum k f xs) ∙ sym (times_plus k (f x) (sum_by f xs)) ∙ ap (λ n. k * n) (sym (sum_by-cons f x xs))

module _ (w : Rectangle → ℕ) (columns rows : List ℤ) where
  -- a column of cells
  abbrev column : ℤ × ℤ → ℕ
  column x = sum_by (λ y. w (cell_of x y)) (neighbours rows)

  abbrev cell_if : Option (ℤ × ℤ) → Option (ℤ × ℤ) → Option Rectangle
  cell_if o p = o >>= λ x. (p >>= λ y. Some (cell_of x y))

  one_cell : (x : ℤ × ℤ) (p : Option (ℤ × ℤ)) → value_if w (cell_if (Some x) p) ≡ value_if (λ y. w (cell_of x y)) p
  one_cell x None = refl
  one_cell x (Some y) = refl

  one_column : (o : Option (ℤ × ℤ)) → sum_by w (filter_map (λ j. cell_if o (between rows j)) (numbers 0 (length rows))) ≡ value_if column o
  one_column None = sum_by-filter_map w (λ j. None) (numbers 0 (length rows)) ∙ none_sum (numbers 0 (length rows))
  one_column (Some x) =
      let js = numbers 0 (length rows) in
      sum_by-filter_map w (λ j. cell_if (Some x) (between rows j)) js
      ∙ sum_by-same (λ j. value_if w (cell_if (Some x) (between rows j))) (λ j. value_if (λ y. w (cell_of x y)) (between rows j)) (λ j. one_cell x (between rows j)) js
      ∙ sym (sum_by-filter_map (λ y. w (cell_of x y)) (between rows) js)
      ∙ ap (sum_by (λ y. w (cell_of x y))) (spaces rows)

  -- all cells are those of all columns
  by_columns : sum_by w (cells_among columns rows) ≡ sum_by column (neighbours columns)
  by_columns =
      let is = numbers 0 (length columns) in
      sum_by-flat_map w (λ i. filter_map (cell_among columns rows i) (numbers 0 (length rows))) is
      ∙ sum_by-same (λ i. sum_by w (filter_map (cell_among columns rows i) (numbers 0 (length rows)))) (λ i. value_if column (between columns i)) (λ i. one_column (between columns i)) is
      ∙ sym (sum_by-filter_map column (between columns) is)
      ∙ ap (sum_by column) (spaces columns)

pub cells_of_a_grid_add_up : CellsOfAGridAddUp
cells_of_a_grid_add_up columns rows r rise_x rise_y lies =
    let w = λ (cell : Rectangle). common_area cell r in
    let across = common_part r.x1 r.x2 in
    let up = common_part r.y1 r.y2 in
    by_columns w columns rows
    ∙ sum_by-same (column w columns rows) (λ x. across x * sum_by up (neighbours rows)) (λ x. times_sum (across x) up (neighbours rows)) (neighbours columns)
    ∙ sum_times across (sum_by up (neighbours rows)) (neighbours columns)
    ∙ ap₂ (λ n m. n * m) (parts_add_up columns r.x1 r.x2 rise_x lies.across) (parts_add_up rows r.y1 r.y2 rise_y lies.up)

module _ (columns rows : List ℤ) (layer : ℕ) (rise_x : Rise columns) (rise_y : Rise rows) where
  -- a shape in all cells
  one_shape : (s : Shape) → LiesAmong columns rows s.box → sum_by (λ cell. area_on layer cell s) (cells_among columns rows) ≡ whole_area_on layer s
  one_shape s lies = by (s.layer == layer)
    where
      by : (b : Bool) → sum_by (λ cell. if b then common_area cell s.box else 0) (cells_among columns rows) ≡ (if b then area_of s.box else 0)
      by true = cells_of_a_grid_add_up columns rows s.box rise_x rise_y lies
      by false = none_sum (cells_among columns rows)

  abbrev Lies : Shape → Type 0
  Lies s = LiesAmong columns rows s.box

  all_shapes : (ss : List Shape) → All Lies ss → sum_by (density ss layer) (cells_among columns rows) ≡ sum_by (whole_area_on layer) ss
  all_shapes [] lie = none_sum (cells_among columns rows)
  all_shapes (s ∷ ss) lie =
      let cells = cells_among columns rows in
      let each = sum_by-same (density (s ∷ ss) layer) (λ cell. area_on layer cell s + density ss layer cell) (λ cell. sum_by-cons (area_on layer cell) s ss) cells in
      let plus = sum_by-plus (λ cell. area_on layer cell s) (density ss layer) cells in
      let here = one_shape s (All-head Lies s ss lie) in
      let later = all_shapes ss (All-tail Lies s ss lie) in
      omega (arith, each, plus, here, later, sum_by-cons (whole_area_on layer) s ss)

pub densities_of_a_grid_add_up : DensitiesOfAGridAddUp
densities_of_a_grid_add_up columns rows ss layer rise_x rise_y lie = all_shapes columns rows layer rise_x rise_y ss lie
