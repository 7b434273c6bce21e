-- Components have the same lines in surroundings whose rows and patterns stand in another order.
use Rattle.std.proofs.Common.{◌≡◌, ◌<◌, ◌+◌, append_assoc, drop, get_or, length, map, ℕ, Bool, true, false, ◌&&◌, ◌||◌, List, [], ◌∷◌, ◌++◌, flat_map, IsPermutation, refl, sym, ap, ap₂, ◌∙◌}
use Rattle.std.specs.List.{list_any}
use Rattle.std.specs.Str.{bytes_eq}
use Rattle.std.proofs.lemmas.List.Folds.{list_any-append}
use Rattle.std.proofs.lemmas.List.Sorted.{list_any-IsPermutation}
use Rattle.place_kernels.proofs.Steps.{any_map}
use Rattle.place_rules.specs.Patterns.{matches}
use Rattle.entry_rules.specs.Unknown.{is_same}
use Rattle.design_rules.specs.Boxes.{Boxed}
use Rattle.design_rules.specs.PlaceLines.{fence_lines, fence_lines_of, is_assigned, is_assigned_by, is_held_by, lines_in, outside_lines, row_lines}
use Rattle.design_rules.specs.Surroundings.{Assignment, Fence, PlacedRow, Surroundings}
use Rattle.place_checks.specs.FenceLines.{fence_lines_by, fence_lines_in}
use Rattle.place_checks.specs.Patterns.{by_pattern, by_patterns, AreRegionsOf}
use Rattle.place_checks.specs.RowFits.{is_on, takes}
use Rattle.place_checks.specs.SameSurroundings.{HaveSameLines}
use Rattle.place_checks.specs.Views.{boxed_view}
use Rattle.place_checks.specs.declared.placed_box.PlacedBox.{PlacedBox}
use Rattle.place_checks.proofs.FitLemmas.{row_lines_are}
use Rattle.place_checks.proofs.PatternLemmas.{any_never, or_false}
use Rattle.place_checks.proofs.SkipLemmas.{left_from}

flat_map_same : {X Y : Type 0} (f g : X → List Y) → ((x : X) → f x ≡ g x) → (xs : List X) → flat_map f xs ≡ flat_map g xs
flat_map_same f g h [] = refl
flat_map_same f g h (x ∷ xs) = ap₂ (λ u v. u ++ v) (h x) (flat_map_same f g h xs)

-- the fences' lines by the regions of a component
pub lines_by_regions : (all : List Assignment) (c : Boxed) (regions : List (List ℕ)) (fences : List Fence) → AreRegionsOf all c regions → fence_lines_in regions c fences ≡ flat_map (fence_lines_of all c) fences
lines_by_regions all c regions fences are = flat_map_same _ _ (λ (f : Fence). ap (λ b. fence_lines_by b c f) (are f.name)) fences

module _ (c : Boxed) where
  -- rows in another order
  same_rows : (rows moved : List PlacedRow) → IsPermutation rows moved → row_lines moved c ≡ row_lines rows c
  same_rows rows moved h =
      row_lines_are c moved
      ∙ rw (sym (list_any-IsPermutation (is_held_by c) rows moved h), sym (list_any-IsPermutation (is_on c) rows moved h), sym (list_any-IsPermutation (takes c) rows moved h)) (sym (row_lines_are c rows))

  module _ (region : List ℕ) where
    one_by_one : (b : Bool) (patterns : List (List ℕ)) → list_any (λ p. b && (matches p c.name || false)) patterns ≡ (b && list_any (λ p. matches p c.name) patterns)
    one_by_one false patterns = any_never patterns
    one_by_one true [] = refl
    one_by_one true (p ∷ patterns) = ap₂ (λ u v. u || v) (or_false (matches p c.name)) (one_by_one true patterns)

    each_pattern : (a : Assignment) → list_any (is_assigned_by c region) (by_pattern a) ≡ is_assigned_by c region a
    each_pattern a =
        sym (any_map (is_assigned_by c region) (λ p. record { region = a.region; patterns = p ∷ [] }) a.patterns)
        ∙ one_by_one (bytes_eq a.region region) a.patterns

    all_patterns : (all : List Assignment) → list_any (is_assigned_by c region) (by_patterns all) ≡ list_any (is_assigned_by c region) all
    all_patterns [] = refl
    all_patterns (a ∷ all) = list_any-append (is_assigned_by c region) (by_pattern a) (by_patterns all) ∙ ap₂ (λ u v. u || v) (each_pattern a) (all_patterns all)

    same_assigned : (all moved : List Assignment) → IsPermutation (by_patterns all) moved → is_assigned moved c region ≡ is_assigned all c region
    same_assigned all moved h = ap (λ z. is_same region c.region || z) (sym (list_any-IsPermutation (is_assigned_by c region) (by_patterns all) moved h) ∙ all_patterns all)

  same_fences : (all moved : List Assignment) (fences : List Fence) → IsPermutation (by_patterns all) moved → flat_map (fence_lines_of moved c) fences ≡ flat_map (fence_lines_of all c) fences
  same_fences all moved fences h = flat_map_same _ _ (λ (f : Fence). ap (λ b. fence_lines_by b c f) (same_assigned f.name all moved h)) fences

pub same_surroundings : (s t : Surroundings) → IsPermutation t.rows s.rows → s.die ≡ t.die → s.fences ≡ t.fences → IsPermutation (by_patterns t.assignments) s.assignments → HaveSameLines s t
same_surroundings s t rows die fences assignments = record {
  rows = λ c. same_rows c t.rows s.rows rows;
  die = die;
  fences = λ c. same_fences c t.assignments s.assignments s.fences assignments ∙ ap (λ z. flat_map (fence_lines_of t.assignments c) z) fences;
}

same_lines : (s t : Surroundings) → HaveSameLines s t → (c : Boxed) → lines_in s c ≡ lines_in t c
same_lines s t h c = ap₂ (λ u v. u ++ v) (ap₂ (λ u v. u ++ v) (h.rows c) (ap (λ d. outside_lines d c) h.die)) (h.fences c)

pub all_lines_same : (s t : Surroundings) (cs : List Boxed) → HaveSameLines s t → flat_map (lines_in s) cs ≡ flat_map (lines_in t) cs
all_lines_same s t cs h = flat_map_same _ _ (same_lines s t h) cs

-- the lines of a component in rows, and then those at the die and at the fences
pub rows_and_borders : (old rows r o f : List (List ℕ)) → rows ≡ old ++ r → rows ++ (o ++ f) ≡ old ++ ((r ++ o) ++ f)
rows_and_borders old rows r o f is = rw (is, append_assoc old r (o ++ f), append_assoc r o f) refl

-- one component more, by the rows that are looked up for it
pub one_component : (s : Surroundings) (boxes : List PlacedBox) (i : ℕ) (x : PlacedBox) (near : List PlacedRow) (old rows new all : List (List ℕ)) → i < length boxes → x ≡ get_or boxes i x
    → row_lines near (boxed_view x) ≡ row_lines s.rows (boxed_view x) → rows ≡ old ++ row_lines near (boxed_view x) → new ≡ rows ++ (outside_lines s.die (boxed_view x) ++ fence_lines s (boxed_view x))
    → old ++ flat_map (lines_in s) (map boxed_view (drop i boxes)) ≡ all → new ++ flat_map (lines_in s) (map boxed_view (drop (i + 1) boxes)) ≡ all
one_component s boxes i x near old rows new all below is same in_rows added so_far =
    rw (added, rows_and_borders old rows _ _ _ (in_rows ∙ ap (λ r. old ++ r) same), append_assoc) (rw (left_from boxes i x below is) at so_far)
