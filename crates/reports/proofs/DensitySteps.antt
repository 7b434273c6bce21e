-- Densities of shapes that come and go one after the other.
use Rattle.std.proofs.Common.{◌≡◌, ℕ, ◌+◌, ◌<◌, ◌==◌, Bool, false, List, [], ◌∷◌, ◌++◌, Some, append_assoc, get_or, length, map, take, sym, ap, ap₂, ◌∙◌, subst, ℤ, if◌then◌else◌, arith}
use Rattle.std.proofs.lemmas.Bool.Decides.{nat_tests}
use Rattle.std.proofs.lemmas.List.{append-nil, map-append, take_more}
use Rattle.std.proofs.lemmas.List.Sums.{sum_by_push, sum_by-append, sum_by-cons}
use Rattle.design_model.specs.Geometry.{Rectangle}
use Rattle.lef_grammar.specs.Measures.{Shape}
use Rattle.line_laws.specs.Lines.{SameThings}
use Rattle.measure_rules.specs.Density.{area_on, common_area, density}
use Rattle.measure_rules.specs.GridCells.{cell_among}
use Rattle.cell_sums.specs.Tables.{Adds, CellTable, IsNew, sums}
use Rattle.reports.specs.Densities.{HasExchanged, HoldsDensities, HoldsLess, HoldsMore, came, went}

-- what came and what went is summed apart, layer by layer
same_came : (a b : ℕ) → (came a == came b) ≡ (a == b)
same_came a b = grind (arith, nat_tests)

same_went : (a b : ℕ) → (went a == went b) ≡ (a == b)
same_went a b = grind (arith, nat_tests)

came_apart : (a b : ℕ) → (came a == went b) ≡ false
came_apart a b = grind (arith, nat_tests)

went_apart : (a b : ℕ) → (went a == came b) ≡ false
went_apart a b = grind (arith, nat_tests)

-- in numbers: what came, what went and the density, before and after
none_yet : (x y : ℕ) → x ≡ 0 → y ≡ 0 → x ≡ 0 + y
none_yet x y e f = omega (arith, e, f)

grown : (x y d m x' y' d' : ℕ) → x ≡ d + y → x' ≡ x + m → y' ≡ y + 0 → d' ≡ d + m → x' ≡ d' + y'
grown x y d m x' y' d' e f g h = omega (arith, e, f, g, h)

shrunk : (x y d m x' y' d' : ℕ) → x ≡ d + y → x' ≡ x + 0 → y' ≡ y + m → d ≡ m + d' → x' ≡ d' + y'
shrunk x y d m x' y' d' e f g h = omega (arith, e, f, g, h)

-- densities know no order of the shapes
pub same_held : (columns rows : List ℤ) (xs ys : List Shape) (t : CellTable) → SameThings xs ys → HoldsDensities columns rows xs t → HoldsDensities columns rows ys t
same_held columns rows xs ys t same held = record {
  columns_are = held.columns_are;
  rows_are = held.rows_are;
  densities = λ layer i j cell e. held.densities layer i j cell e ∙ ap (λ n. n + sums t (went layer) i j) (same.sums (area_on layer cell));
}

module _ (columns rows : List ℤ) where
  -- nothing was added
  pub none_held : (t : CellTable) → IsNew columns rows t → HoldsDensities columns rows [] t
  none_held t new = record { columns_are = new.columns; rows_are = new.rows; densities = λ layer i j cell e. none_yet _ _ (new.sums (came layer) i j) (new.sums (went layer) i j) }

  module _ (s : Shape) (shapes : List Shape) (old new : CellTable) where
    -- what a number's sum of a cell has gained
    abbrev gained : ℕ → ℕ → ℕ → Rectangle → Bool → ℕ
    gained l i j cell b = sums old l i j + (if b then common_area cell s.box else 0)

    -- one more
    one_held : HoldsDensities columns rows shapes old → Adds (came s.layer) s.box old new → HoldsDensities columns rows (shapes ++ s ∷ []) new
    one_held held adds = record {
      columns_are = adds.columns ∙ held.columns_are;
      rows_are = adds.rows ∙ held.rows_are;
      densities = λ layer i j cell e.
          let there : cell_among old.columns old.rows i j ≡ Some cell = ap₂ (λ cs rs. cell_among cs rs i j) held.columns_are held.rows_are ∙ e in
          grown _ _ (density shapes layer cell) (area_on layer cell s) _ _ _ (held.densities layer i j cell e)
          (adds.sums (came layer) i j cell there ∙ ap (gained (came layer) i j cell) (same_came s.layer layer))
          (adds.sums (went layer) i j cell there ∙ ap (gained (went layer) i j cell) (came_apart s.layer layer))
          (sum_by_push (area_on layer cell) shapes s);
    }

    -- one less
    one_left : HoldsDensities columns rows (s ∷ shapes) old → Adds (went s.layer) s.box old new → HoldsDensities columns rows shapes new
    one_left held adds = record {
      columns_are = adds.columns ∙ held.columns_are;
      rows_are = adds.rows ∙ held.rows_are;
      densities = λ layer i j cell e.
          let there : cell_among old.columns old.rows i j ≡ Some cell = ap₂ (λ cs rs. cell_among cs rs i j) held.columns_are held.rows_are ∙ e in
          shrunk _ _ (density (s ∷ shapes) layer cell) (area_on layer cell s) _ _ _ (held.densities layer i j cell e)
          (adds.sums (came layer) i j cell there ∙ ap (gained (came layer) i j cell) (went_apart s.layer layer))
          (adds.sums (went layer) i j cell there ∙ ap (gained (went layer) i j cell) (same_went s.layer layer))
          (sum_by-cons (area_on layer cell) s shapes);
    }

pub more_by_one : (s : Shape) (old new : CellTable) → Adds (came s.layer) s.box old new → HoldsMore (s ∷ []) old new
more_by_one s old new adds = record { holds = λ columns rows shapes held. one_held columns rows s shapes old new held adds }

pub less_by_one : (s : Shape) (old new : CellTable) → Adds (went s.layer) s.box old new → HoldsLess (s ∷ []) old new
less_by_one s old new adds = record { holds = λ columns rows rest held. one_left columns rows s rest old new held adds }

pub none_more : (t : CellTable) → HoldsMore [] t t
none_more t = record { holds = λ columns rows shapes held. rw (append-nil shapes) held }

pub none_less : (t : CellTable) → HoldsLess [] t t
none_less t = record { holds = λ columns rows rest held. held }

pub more_after : (more others : List Shape) (old now new : CellTable) → HoldsMore more old now → HoldsMore others now new → HoldsMore (more ++ others) old new
more_after more others old now new a b = record {
  holds = λ columns rows shapes before. subst (λ ss. HoldsDensities columns rows ss new) (append_assoc shapes more others) (b.holds columns rows (shapes ++ more) (a.holds columns rows shapes before));
}

less_then : (less : List Shape) (s : Shape) (old now new : CellTable) → HoldsLess less old now → HoldsLess (s ∷ []) now new → HoldsLess (less ++ s ∷ []) old new
less_then less s old now new a b = record {
  holds = λ columns rows rest before. b.holds columns rows rest (a.holds columns rows (s ∷ rest) (subst (λ ss. HoldsDensities columns rows ss old) (append_assoc less (s ∷ []) rest) before));
}

-- shapes that are seen in a list, of which so many were added, or taken out
module _ {X : Type 0} (view : X → Shape) (xs : List X) (i : ℕ) where
  one_further : (x : X) → i < length xs → x ≡ get_or xs i x → map view (take (i + 1) xs) ≡ map view (take i xs) ++ view x ∷ []
  one_further x below is =
      let before = take i xs in
      let more : take (i + 1) xs ≡ before ++ x ∷ [] = take_more xs i x below ∙ ap (λ y. before ++ y ∷ []) (sym is) in
      ap (map view) more ∙ map-append view before (x ∷ [])

  pub next_more : (x : X) (old now new : CellTable) → i < length xs → x ≡ get_or xs i x → HoldsMore (map view (take i xs)) old now → HoldsMore (view x ∷ []) now new → HoldsMore (map view (take (i + 1) xs)) old new
  next_more x old now new below is a b = subst (λ ss. HoldsMore ss old new) (sym (one_further x below is)) (more_after (map view (take i xs)) (view x ∷ []) old now new a b)

  pub next_less : (x : X) (old now new : CellTable) → i < length xs → x ≡ get_or xs i x → HoldsLess (map view (take i xs)) old now → HoldsLess (view x ∷ []) now new → HoldsLess (map view (take (i + 1) xs)) old new
  next_less x old now new below is a b = subst (λ ss. HoldsLess ss old new) (sym (one_further x below is)) (less_then (map view (take i xs)) (view x) old now new a b)

-- some are taken out, and then others are added
swapped : (xs ys : List Shape) → SameThings (xs ++ ys) (ys ++ xs)
swapped xs ys = record { sums = λ w. omega (arith, sum_by-append w xs ys, sum_by-append w ys xs) }

pub exchanged : (gone come : List Shape) (old now new : CellTable) → HoldsLess gone old now → HoldsMore come now new → HasExchanged gone come old new
exchanged gone come old now new a b = record {
  holds = λ columns rows rest before. same_held columns rows (rest ++ come) (come ++ rest) new (swapped rest come) (b.holds columns rows rest (a.holds columns rows rest before));
}

-- The same in whatever order. Each of two lists holds others that stay beside those that go, or come.
pub exchanged_from : (gone come : List Shape) (old new : CellTable) → HasExchanged gone come old new → (columns rows : List ℤ) (before after stay : List Shape) → SameThings before (gone ++ stay) → SameThings after (come ++ stay)
    → HoldsDensities columns rows before old → HoldsDensities columns rows after new
exchanged_from gone come old new e columns rows before after stay old_is new_is held =
    same_held columns rows (come ++ stay) after new (record { sums = λ w. sym (new_is.sums w) }) (e.holds columns rows stay (same_held columns rows before (gone ++ stay) old old_is held))
