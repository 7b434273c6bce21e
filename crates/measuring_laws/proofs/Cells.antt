-- Columns, rows and boxes are told by the statements of the grid and by components.
use Rattle.std.proofs.Common.{◌≡◌, ◌∙◌, ◌+◌, ℕ, Bool, true, false, not, List, [], ◌∷◌, ◌++◌, filter, sum_by, Option, Some, None, refl, sym, ap, arith, subst, if◌then◌else◌}
use Rattle.std.specs.List.{cons_option, filter_map}
use Rattle.std.specs.Str.{bytes_eq}
use Rattle.std.proofs.lemmas.List.Sums.{sum_by-append, sum_by-cons}
use Rattle.def_grammar.specs.Components.{Component}
use Rattle.def_grammar.specs.Records as records
use Rattle.def_grammar.specs.Records.{Record, component_of, end_section, entry, in_properties, top}
use Rattle.def_grammar.specs.Top.{gcell_grid}
use Rattle.lef_grammar.specs.Library.{Library}
use Rattle.line_laws.specs.Lines.{SameThings}
use Rattle.design_rules.specs.Boxes.{Boxed, box_of, boxes, component_box, scale}
use Rattle.measure_rules.specs.GridCells.{in_order, lines_along_x, lines_along_y}
use Rattle.net_laws.specs.StarNets.{those_named}
use Rattle.net_laws.proofs.Selecting.{exchanged_alike, listed_alike, selected_of_those}
use Rattle.measuring_laws.proofs.FoundNets.{either_way}
use Rattle.measuring_laws.specs.Measuring.{OthersLeaveCells, ToldCellsFollow, is_of_cells, own_boxes}

no_column : (but : Option (List ℕ)) (r : Record) → is_of_cells but r ≡ false → lines_along_x r ≡ []
no_column but (top (gcell_grid g)) h = absurd (cc)
no_column but _ h = refl

no_row : (but : Option (List ℕ)) (r : Record) → is_of_cells but r ≡ false → lines_along_y r ≡ []
no_row but (top (gcell_grid g)) h = absurd (cc)
no_row but _ h = refl

no_box : (library : Library) (u : ℕ) (r : Record) → is_of_cells None r ≡ false → box_of library u r ≡ None
no_box library u (entry (records.component c)) h = absurd (cc)
no_box library u _ h = refl

-- what is selected has a weight, or nothing was
abbrev weight_of : {A : Type 0} → (A → ℕ) → Option A → ℕ
weight_of w None = 0
weight_of w (Some a) = w a

one_more : {A : Type 0} (w : A → ℕ) (o : Option A) (xs : List A) → sum_by w (cons_option o xs) ≡ weight_of w o + sum_by w xs
one_more w None xs = omega (arith)
one_more w (Some x) xs = sum_by-cons w x xs

module _ (library : Library) (u : ℕ) (name : List ℕ) (w : Boxed → ℕ) where
  abbrev of_name : List Record → ℕ
  of_name all = sum_by w (filter_map (component_box library u) (those_named name all))

  abbrev others : List Record → ℕ
  others all = sum_by w (filter_map (box_of library u) (filter (is_of_cells (Some name)) all))

  abbrev whole : List Record → ℕ
  whole all = sum_by w (filter_map (box_of library u) all)

  -- a component is of the name, or another
  one_of_both : (b d : Bool) → d ≡ b → (c : Component) (own : List Component) (left all : List Record) → sum_by w (filter_map (box_of library u) all) ≡ sum_by w (filter_map (component_box library u) own) + sum_by w (filter_map (box_of library u) left)
      → sum_by w (filter_map (box_of library u) (entry (records.component c) ∷ all))
      ≡ sum_by w (filter_map (component_box library u) (if b then c ∷ own else own)) + sum_by w (filter_map (box_of library u) (if not d then entry (records.component c) ∷ left else left))
  one_of_both true true is c own left all later =
      let o = component_box library u c in
      omega (arith, later, one_more w o (filter_map (box_of library u) all), one_more w o (filter_map (component_box library u) own))
  one_of_both true false is c own left all later = absurd (cc)
  one_of_both false true is c own left all later = absurd (cc)
  one_of_both false false is c own left all later =
      let o = component_box library u c in
      omega (arith, later, one_more w o (filter_map (box_of library u) all), one_more w o (filter_map (box_of library u) left))

  -- the boxes of all are those of the name, and the others
  in_two : (all : List Record) → whole all ≡ of_name all + others all
  in_two [] = omega (arith)
  in_two (entry (records.component c) ∷ all) = one_of_both (bytes_eq c.name name) (bytes_eq name c.name) (either_way name c.name) c (those_named name all) (filter (is_of_cells (Some name)) all) all (in_two all)
  in_two (top (gcell_grid g) ∷ all) = in_two all
  in_two (_ ∷ all) = in_two all

same_boxes : (library : Library) (u : ℕ) (but : Option (List ℕ)) (a : List Record) → scale a ≡ u → SameThings (boxes library a) (own_boxes library a but ++ filter_map (box_of library u) (filter (is_of_cells but) a))
same_boxes library u None a is = record {
  sums = λ w. ap (λ (v : ℕ). sum_by w (filter_map (box_of library v) a)) is ∙ ap (sum_by w) (selected_here a);
}
  where
    selected_here : (all : List Record) → filter_map (box_of library u) all ≡ filter_map (box_of library u) (filter (is_of_cells None) all)
    selected_here all = sym (selected_of_those (is_of_cells None) (box_of library u) (no_box library u) all)
same_boxes library u (Some name) a is = record {
  sums = λ w.
      let own = filter_map (component_box library (scale a)) (those_named name a) in
      let left = filter_map (box_of library u) (filter (is_of_cells (Some name)) a) in
      ap (λ (v : ℕ). sum_by w (filter_map (box_of library v) a)) is
      ∙ in_two library u name w a
      ∙ ap (λ (v : ℕ). sum_by w (filter_map (component_box library v) (those_named name a)) + sum_by w left) (sym is)
      ∙ sym (sum_by-append w own left);
}

pub told_cells_follow : ToldCellsFollow
told_cells_follow library a b but same scales = record {
  columns = ap in_order (listed_alike (is_of_cells but) lines_along_x (no_column but) a b same);
  rows = ap in_order (listed_alike (is_of_cells but) lines_along_y (no_row but) a b same);
  stay = filter_map (box_of library (scale a)) (filter (is_of_cells but) a);
  boxes = record {
    old_is = same_boxes library (scale a) but a refl;
    new_is = subst (λ (rs : List Record). SameThings (boxes library b) (own_boxes library b but ++ filter_map (box_of library (scale a)) rs)) (sym same) (same_boxes library (scale a) but b (sym scales));
  };
}

pub others_leave_cells : OthersLeaveCells
others_leave_cells front out put behind but = exchanged_alike (is_of_cells but) front out put behind
