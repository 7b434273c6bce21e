-- How rows take a component: of more rows, of some of them that are looked up, and the lines that this gives.
use Rattle.std.proofs.Common.{◌≡◌, ℕ, ◌+◌, ◌<◌, add-one, drop, drop-cons, get_or, length, Bool, true, false, not, ◌&&◌, ◌||◌, ◌==◌, List, [], ◌∷◌, ◌++◌, map, Option, Some, None, ℤ, pos, negsuc, ◌+ℤ◌, ◌*ℤ◌, arith, refl, sym, subst, ap, ap₂, ◌∙◌, if◌then◌else◌}
use Rattle.std.specs.List.{filter, list_any}
use Rattle.std.specs.Ordering.{int_eq}
use Rattle.std.proofs.lemmas.Int.{ints}
use Rattle.std.proofs.lemmas.List.{map-append}
use Rattle.std.proofs.lemmas.List.Folds.{list_any-append}
use Rattle.std.proofs.lemmas.Bool.Decides.{Decides-eqb, Decides-int_eq}
use Rattle.design_model.specs.declared.diagnostic.DiagKind.{DiagKind}
use Rattle.design_model.specs.declared.diagnostic.DiagKind.TheVariants.{OffRow, OffSite, Flip}
use Rattle.design_model.specs.Lines.{line_text}
use Rattle.design_rules.specs.Boxes.{Boxed}
use Rattle.design_rules.specs.PlaceLines.{is_at_site, is_held_by, is_none, line_if, row_lines}
use Rattle.design_rules.specs.Surroundings.{PlacedRow}
use Rattle.place_rules.specs.Sites.{SiteRow, holds, is_row_orient, places}
use Rattle.place_checks.specs.RowEdges.{edge_of}
use Rattle.place_checks.specs.declared.row_index.TheConstants.{NO_EDGE}
use Rattle.place_checks.specs.RowFits.{best_fit, better, fit_by, is_on, kind_of, needs_row, row_fit, takes}
use Rattle.place_kernels.proofs.Steps.{any_map, any_same}
use Rattle.place_kernels.specs.Views.{site_row_of}
use Rattle.place_checks.specs.PlaceViews.{placed_row_view}
use Rattle.place_checks.specs.declared.placed_row.PlacedRow as code
use Rattle.place_checks.specs.declared.rows.Fit.{Fit}
use Rattle.place_checks.specs.declared.rows.Fit.TheVariants.{NotHeld, OffSite, Flipped, Fits}

-- the better of two fits, by what holds of either
better_by : (h o s i p t : Bool) → better (fit_by h o s) (fit_by i p t) ≡ fit_by (h || i) (o || p) (s || t)
better_by h o true i p t = refl
better_by h true false i p true = refl
better_by true false false i p true = refl
better_by false false false i p true = refl
better_by h true false i true false = refl
better_by h true false true false false = refl
better_by h true false false false false = refl
better_by true false false i true false = refl
better_by false false false i true false = refl
better_by true false false true false false = refl
better_by true false false false false false = refl
better_by false false false i false false = refl

or_assoc : (a b c : Bool) → ((a || b) || c) ≡ (a || (b || c))
or_assoc true b c = refl
or_assoc false b c = refl

better_by_assoc : (h o s i p t j q u : Bool) → better (better (fit_by h o s) (fit_by i p t)) (fit_by j q u) ≡ better (fit_by h o s) (better (fit_by i p t) (fit_by j q u))
better_by_assoc h o s i p t j q u =
    rw (better_by h o s i p t, better_by i p t j q u, better_by (h || i) (o || p) (s || t) j q u, better_by h o s (i || j) (p || q) (t || u), or_assoc h i j, or_assoc o p q, or_assoc s t u) refl

module _ (i p t j q u : Bool) where
  better_assoc : (b : Fit) → better (better b (fit_by i p t)) (fit_by j q u) ≡ better b (better (fit_by i p t) (fit_by j q u))
  better_assoc NotHeld = better_by_assoc false false false i p t j q u
  better_assoc OffSite = better_by_assoc true false false i p t j q u
  better_assoc Flipped = better_by_assoc false true false i p t j q u
  better_assoc Fits = better_by_assoc false false true i p t j q u

-- a row more
pub one_more : (c : Boxed) (b : Fit) (row : PlacedRow) (rows : List PlacedRow) → better (better b (row_fit c row)) (best_fit c rows) ≡ better b (best_fit c (row ∷ rows))
one_more c b row rows =
    better_assoc (is_held_by c row) (is_on c row) (takes c row) (list_any (is_held_by c) rows) (list_any (is_on c) rows) (list_any (takes c) rows) b
    ∙ ap (λ f. better b f) (better_by (is_held_by c row) (is_on c row) (takes c row) (list_any (is_held_by c) rows) (list_any (is_on c) rows) (list_any (takes c) rows))

-- the same, of rows of the program
pub row_more : (c : Boxed) (b : Fit) (row : code.PlacedRow) (rows : List code.PlacedRow) (i : ℕ) → i < length rows → row ≡ get_or rows i row
    → better (better b (row_fit c (placed_row_view row))) (best_fit c (map placed_row_view (drop (i + 1) rows))) ≡ better b (best_fit c (map placed_row_view (drop i rows)))
row_more c b row rows i below is =
    let left : drop i rows ≡ row ∷ drop (i + 1) rows = rw (add-one, drop-cons rows i row, ← is) refl in
    one_more c b (placed_row_view row) (map placed_row_view (drop (i + 1) rows)) ∙ ap (λ (z : List code.PlacedRow). better b (best_fit c (map placed_row_view z))) (sym left)

-- of elements that pass a test each passes one of two others
module _ {X : Type 0} (t p q : X → Bool) (either : (x : X) → t x ≡ true → (p x || q x) ≡ true) where
  any_filter : (p : X → Bool) (x : X) (xs : List X) (b : Bool) → p x ≡ b → list_any t (filter p (x ∷ xs)) ≡ ((b && t x) || list_any t (filter p xs))
  any_filter p x xs true e = rw e refl
  any_filter p x xs false e = rw e refl

  any_of_parts : (a b u v r : Bool) → (a ≡ true → (u || v) ≡ true) → (((u && a) || b) || ((v && a) || r)) ≡ (a || (b || r))
  any_of_parts false b true true r h = refl
  any_of_parts false b true false r h = refl
  any_of_parts false b false true r h = refl
  any_of_parts false b false false r h = refl
  any_of_parts true b true v r h = refl
  any_of_parts true true false true r h = refl
  any_of_parts true false false true r h = refl
  any_of_parts true b false false r h = absurd (let no : false ≡ true = h refl in cc)

  pub any_split : (xs : List X) → (list_any t (filter p xs) || list_any t (filter q xs)) ≡ list_any t xs
  any_split [] = refl
  any_split (x ∷ xs) =
      rw (any_filter p x xs (p x) refl, any_filter q x xs (q x) refl) (any_of_parts (t x) (list_any t (filter p xs)) (p x) (q x) (list_any t (filter q xs)) (either x))
      ∙ ap (λ z. t x || z) (any_split xs)

-- a component that a row holds is looked up where the row is
module _ (c : Boxed) where
  and_first : (a b : Bool) → (a && b) ≡ true → a ≡ true
  and_first true b h = refl
  and_first false b h = cc

  and_second : (a b : Bool) → (a && b) ≡ true → b ≡ true
  and_second true b h = h
  and_second false b h = cc

  or_false : (a : Bool) → (a || false) ≡ a
  or_false true = refl
  or_false false = refl

  or_right : (a b : Bool) → b ≡ true → (a || b) ≡ true
  or_right true b h = refl
  or_right false b h = h

  no_step : (y s : ℤ) → y +ℤ (pos 0 *ℤ s) ≡ y
  no_step y (pos n) = omega (arith, ints)
  no_step y (negsuc n) = omega (arith, ints)

  one_line : (row : SiteRow) → row.rows ≡ 1 → holds row c.box ≡ true → int_eq row.origin.y c.box.y1 ≡ true
  unfolding holds
  one_line row one h =
      let line = and_first _ _ h in
      let first = subst (λ n. list_any (λ y. int_eq y c.box.y1) (places row.origin.y row.step.y n) ≡ true) one line in
      let only : int_eq (row.origin.y +ℤ (pos 0 *ℤ row.step.y)) c.box.y1 ≡ true = sym (or_false _) ∙ first in
      subst (λ z. int_eq z c.box.y1 ≡ true) (no_step row.origin.y row.step.y) only

  abbrev at_edge : ℤ → code.PlacedRow → Bool
  at_edge edge row = int_eq (edge_of row) edge

  abbrev is_held : code.PlacedRow → Bool
  is_held row = is_held_by c (placed_row_view row)

  edge_known : (row : code.PlacedRow) (b : Bool) → (row.sites.rows == 1) ≡ b → is_held row ≡ true → (at_edge c.box.y1 row || at_edge NO_EDGE row) ≡ true
  edge_known row true e h =
      let here = one_line (site_row_of row.sites) ((Decides-eqb row.sites.rows 1).0 e) (and_second _ _ h) in
      rw e (ap (λ b. b || int_eq row.sites.origin.y NO_EDGE) here)
  edge_known row false e h = rw e (or_right _ _ ((Decides-int_eq NO_EDGE NO_EDGE).1 refl))

  edge_of_held : (t : PlacedRow → Bool) → ((row : PlacedRow) → t row ≡ true → is_held_by c row ≡ true) → (row : code.PlacedRow) → t (placed_row_view row) ≡ true
      → (at_edge c.box.y1 row || at_edge NO_EDGE row) ≡ true
  edge_of_held t held row h = edge_known row (row.sites.rows == 1) refl (held (placed_row_view row) h)

  -- a test that only rows pass which hold the component
  any_at_edges : (t : PlacedRow → Bool) → ((row : PlacedRow) → t row ≡ true → is_held_by c row ≡ true) → (rows : List code.PlacedRow)
      → (list_any t (map placed_row_view (filter (at_edge c.box.y1) rows)) || list_any t (map placed_row_view (filter (at_edge NO_EDGE) rows))) ≡ list_any t (map placed_row_view rows)
  any_at_edges t held rows =
      ap₂ (λ a b. a || b) (sym (any_map t placed_row_view (filter (at_edge c.box.y1) rows))) (sym (any_map t placed_row_view (filter (at_edge NO_EDGE) rows)))
      ∙ any_split (λ row. t (placed_row_view row)) (at_edge c.box.y1) (at_edge NO_EDGE) (edge_of_held t held) rows
      ∙ any_map t placed_row_view rows

  -- the rows that are looked up take the component as well as all do
  pub fit_at_edges : (rows : List code.PlacedRow)
      → better (best_fit c (map placed_row_view (filter (λ row. int_eq (edge_of row) c.box.y1) rows))) (best_fit c (map placed_row_view (filter (λ row. int_eq (edge_of row) NO_EDGE) rows)))
      ≡ best_fit c (map placed_row_view rows)
  fit_at_edges rows =
      better_by _ _ _ _ _ _
      ∙ rw (
        any_at_edges (is_held_by c) (λ row h. h) rows,
        any_at_edges (is_on c) (λ row h. and_first _ _ h) rows,
        any_at_edges (takes c) (λ row h. and_first _ _ (and_first _ _ h)) rows,
      ) refl

  -- what a filter keeps
  none_by_first : (p : PlacedRow → Bool) (row : PlacedRow) (rows : List PlacedRow) (b : Bool) → p row ≡ b → is_none (filter p rows) ≡ not (list_any p rows)
      → is_none (filter p (row ∷ rows)) ≡ not (list_any p (row ∷ rows))
  none_by_first p row rows true e rest = rw e refl
  none_by_first p row rows false e rest = rw e rest

  none_by_any : (p : PlacedRow → Bool) (rows : List PlacedRow) → is_none (filter p rows) ≡ not (list_any p rows)
  none_by_any p [] = refl
  none_by_any p (row ∷ rows) = none_by_first p row rows (p row) refl (none_by_any p rows)

  any_filtered_first : (p q : PlacedRow → Bool) (row : PlacedRow) (rows : List PlacedRow) (b : Bool) → p row ≡ b → list_any q (filter p rows) ≡ list_any (λ r. p r && q r) rows
      → list_any q (filter p (row ∷ rows)) ≡ list_any (λ r. p r && q r) (row ∷ rows)
  any_filtered_first p q row rows true e rest = rw e (ap (λ z. q row || z) rest)
  any_filtered_first p q row rows false e rest = rw e rest

  any_filtered : (p q : PlacedRow → Bool) (rows : List PlacedRow) → list_any q (filter p rows) ≡ list_any (λ row. p row && q row) rows
  any_filtered p q [] = refl
  any_filtered p q (row ∷ rows) = any_filtered_first p q row rows (p row) refl (any_filtered p q rows)

  follows_first : (a b u v : Bool) → (a ≡ true → b ≡ true) → (u ≡ true → v ≡ true) → (a || u) ≡ true → (b || v) ≡ true
  follows_first true b u v h k found = rw (h refl) refl
  follows_first false b u v h k found = or_right b v (k found)

  any_follows : (p q : PlacedRow → Bool) → ((row : PlacedRow) → p row ≡ true → q row ≡ true) → (rows : List PlacedRow) → list_any p rows ≡ true → list_any q rows ≡ true
  any_follows p q h [] found = cc
  any_follows p q h (row ∷ rows) found = follows_first (p row) (q row) _ _ (h row) (any_follows p q h rows) found

  and_assoc : (a b d : Bool) → ((a && b) && d) ≡ (a && (b && d))
  and_assoc true b d = refl
  and_assoc false b d = refl

  and_false : (a : Bool) → (a && false) ≡ false
  and_false true = refl
  and_false false = refl

  and_true : (a : Bool) → (a && true) ≡ a
  and_true true = refl
  and_true false = refl

  -- the lines by three facts, of which each follows from the next
  abbrev pub kind_lines : Option DiagKind → List (List ℕ)
  kind_lines None = []
  kind_lines (Some kind) = line_text kind (c.name ∷ []) [] ∷ []

  abbrev lines_by : Bool → Bool → Bool → List (List ℕ)
  lines_by held on so = line_if (needs_row c && not held) OffRow c ++ line_if (not (not held) && not on) OffSite c ++ line_if (not (not on) && not so) Flip c

  needed : (b : Bool) → b ≡ needs_row c → (line_if (b && true) OffRow c ++ [] ++ []) ≡ kind_lines (if b then Some OffRow else None)
  needed true h = refl
  needed false h = refl

  lines_are : (h o s : Bool) → (s ≡ true → o ≡ true) → (o ≡ true → h ≡ true) → lines_by h o s ≡ kind_lines (kind_of c (fit_by h o s))
  lines_are true true true so on = rw (and_false (needs_row c)) refl
  lines_are true true false so on = rw (and_false (needs_row c)) refl
  lines_are true false false so on = rw (and_false (needs_row c)) refl
  lines_are false false false so on = needed (needs_row c) refl
  lines_are h false true so on = absurd (let no : false ≡ true = so refl in cc)
  lines_are false true s so on = absurd (let no : false ≡ true = on refl in cc)

  pub row_lines_are : (rows : List PlacedRow) → row_lines rows c ≡ kind_lines (kind_of c (best_fit c rows))
  row_lines_are rows =
      rw (
        none_by_any (is_held_by c) rows,
        none_by_any (is_at_site c) (filter (is_held_by c) rows),
        any_filtered (is_held_by c) (is_at_site c) rows,
        any_filtered (is_at_site c) (λ row. is_row_orient row.orient c.orient) (filter (is_held_by c) rows),
        any_filtered (is_held_by c) (λ row. is_at_site c row && is_row_orient row.orient c.orient) rows,
        any_same (λ row. is_held_by c row && (is_at_site c row && is_row_orient row.orient c.orient)) (takes c) (λ row. sym (and_assoc (is_held_by c row) _ _)) rows,
      )
      (lines_are _ _ _ (any_follows (takes c) (is_on c) (λ row h. and_first _ _ h) rows) (any_follows (is_on c) (is_held_by c) (λ row h. and_first _ _ h) rows))

  -- of two lists of rows the better fit is that of both
  pub fit_in_both : (xs ys : List code.PlacedRow) → better (best_fit c (map placed_row_view xs)) (best_fit c (map placed_row_view ys)) ≡ best_fit c (map placed_row_view (xs ++ ys))
  fit_in_both xs ys =
      let first = map placed_row_view xs in
      let second = map placed_row_view ys in
      better_by _ _ _ _ _ _
      ∙ rw (sym (list_any-append (is_held_by c) first second), sym (list_any-append (is_on c) first second), sym (list_any-append (takes c) first second))
      (ap (best_fit c) (sym (map-append placed_row_view xs ys)))

  looked_up : (rows beside elsewhere : List code.PlacedRow) → beside ≡ filter (λ row. int_eq (edge_of row) c.box.y1) rows → elsewhere ≡ filter (λ row. int_eq (edge_of row) NO_EDGE) rows
      → better (best_fit c (map placed_row_view beside)) (best_fit c (map placed_row_view elsewhere)) ≡ best_fit c (map placed_row_view rows)
  looked_up rows beside elsewhere here others = rw (here, others) (fit_at_edges rows)

  -- the rows that are looked up give the lines that all give
  pub near_lines : (rows beside elsewhere : List code.PlacedRow) → beside ≡ filter (λ row. int_eq (edge_of row) c.box.y1) rows → elsewhere ≡ filter (λ row. int_eq (edge_of row) NO_EDGE) rows
      → row_lines (map placed_row_view (beside ++ elsewhere)) c ≡ row_lines (map placed_row_view rows) c
  near_lines rows beside elsewhere here others =
      let both = map placed_row_view (beside ++ elsewhere) in
      let all = map placed_row_view rows in
      let same : best_fit c both ≡ best_fit c all = sym (fit_in_both beside elsewhere) ∙ looked_up rows beside elsewhere here others in
      row_lines_are both ∙ ap (λ f. kind_lines (kind_of c f)) same ∙ sym (row_lines_are all)
