-- Nets that are drawn are measured one after the other, and found by their names.
use Rattle.std.proofs.Common.{◌≡◌, ◌+◌, ◌<◌, ◌≤◌, ℕ, Bool, true, false, ◌||◌, List, [], ◌∷◌, drop, flat_map, get_or, length, map, sum, sum_by, take, refl, sym, ap, ap₂, ◌∙◌, Option, Some, None, ℤ, if◌then◌else◌}
use Rattle.std.specs.List.{list_any}
use Rattle.std.specs.Str.{bytes_eq}
use Rattle.std.proofs.lemmas.List.{drop_all, drop_more, take_more}
use Rattle.std.proofs.lemmas.List.Sums.{sum_by_push}
use Rattle.form_meanings.specs.Firsts.{find_named}
use Rattle.def_grammar.specs.Records.{Record}
use Rattle.lef_grammar.specs.Library.{Library}
use Rattle.connection_rules.specs.NetLines.{shapes_of_net}
use Rattle.connection_rules.specs.NetParts.{Net, all_nets, net_named, net_names}
use Rattle.drawn_parts.specs.DrawnLengths.{capped}
use Rattle.net_lists.specs.Counts.{shape_count}
use Rattle.net_lists.specs.NetViews.{net_view}
use Rattle.net_lists.specs.PartCuts.{shape_view}
use Rattle.net_lists.specs.declared.net_view.NetView.{NetView}
use Rattle.net_lists.specs.declared.parts.NetShape.{NetShape}
use Rattle.net_lists.proofs.ShapeLemmas.{bare, shapes_in_parts}
use Rattle.cell_sums.specs.Tables.{CellTable}
use Rattle.measure_rules.specs.NetBoxes.{rectangles_of}
use Rattle.reports.specs.Densities.{HoldsDensities, HoldsMore}
use Rattle.reports.specs.DrawnNets.{found_after, measured_net}
use Rattle.reports.specs.MeasuredNets.{MeasuredNet, measured, name_of, shape_box}
use Rattle.reports.proofs.MeasuredSteps.{capped_twice, rectangles_are, shapes_of_parts}
use Rattle.reports.proofs.TableLemmas.{bytes_eq_sym, same_bytes}

-- the rectangles of a net that is lent are those of its shapes
pub rectangles_lent : (v : NetView) → sum_by shape_count v.parts.now ≡ length v.shapes.now → map shape_box v.shapes.now ≡ rectangles_of (net_view v)
rectangles_lent v whole = rectangles_are (net_view v) v.shapes.now (sym (shapes_in_parts v.parts.now v.shapes.now whole) ∙ sym (shapes_of_parts (net_view v)))

abbrev pub find : List MeasuredNet → List ℕ → Option MeasuredNet
find table name = find_named name_of table name

-- what is left to be found once a net was put in
pub next_found : (old new : List Net) (n : Net) (ls : List ℕ) (i : ℕ) (table after : List MeasuredNet) (name : List ℕ) (all : Option MeasuredNet) → old ≡ n ∷ new → i < length ls
    → find after name ≡ (if bytes_eq n.name name then Some (measured_net n (get_or ls i 0)) else find table name)
    → found_after old (drop i ls) name (find table name) ≡ all
    → found_after new (drop (i + 1) ls) name (find after name) ≡ all
next_found old new n ls i table after name all is below put left =
    ap (found_after new (drop (i + 1) ls) name) put
    ∙ sym (ap₂ (λ ns ks. found_after ns ks name (find table name)) is (drop_more ls i 0 below))
    ∙ left

-- without lengths or without nets nothing more is found
no_more : (ns : List Net) (name : List ℕ) (before : Option MeasuredNet) → found_after ns [] name before ≡ before
no_more [] name before = refl
no_more (n ∷ ns) name before = refl

pub all_found : (ns : List Net) (ls : List ℕ) (i : ℕ) (name : List ℕ) (before all : Option MeasuredNet) → length ls ≤ i → found_after ns (drop i ls) name before ≡ all → before ≡ all
all_found ns ls i name before all past left = sym (no_more ns name before) ∙ ap (λ ks. found_after ns ks name before) (sym (drop_all i ls past)) ∙ left

-- lengths are summed one after the other
pub next_sum : (ls : List ℕ) (i total : ℕ) → i < length ls → total ≡ capped (sum (take i ls)) → capped (total + get_or ls i 0) ≡ capped (sum (take (i + 1) ls))
next_sum ls i total below so_far =
    let l = get_or ls i 0 in
    ap (λ k. capped (k + l)) so_far
    ∙ capped_twice (sum (take i ls)) l
    ∙ ap capped (sym (sum_by_push (λ k. k) (take i ls) l))
    ∙ ap (λ ks. capped (sum ks)) (sym (take_more ls i 0 below))

-- nets of a design by their names, with lengths that are told by their names
module _ (library : Library) (design : List Record) (u : ℕ) (length_by : List ℕ → ℕ) where
  abbrev measures : List ℕ → MeasuredNet
  measures name = measured_net (net_named library design u name) (length_by name)

  -- the last of a name is like the first
  last_step : (b t : Bool) (n name : List ℕ) (before : Option MeasuredNet) → (b ≡ true → n ≡ name)
      → (if t then Some (measures name) else (if b then Some (measures n) else before)) ≡ (if b || t then Some (measures name) else before)
  last_step true true n name before same = refl
  last_step true false n name before same = ap (λ k. Some (measures k)) (same refl)
  last_step false true n name before same = refl
  last_step false false n name before same = refl

  last_found : (names : List (List ℕ)) (name : List ℕ) (before : Option MeasuredNet)
      → found_after (map (net_named library design u) names) (map length_by names) name before ≡ (if list_any (bytes_eq name) names then Some (measures name) else before)
  last_found [] name before = refl
  last_found (n ∷ names) name before =
      last_found names name (if bytes_eq n name then Some (measures n) else before)
      ∙ last_step (bytes_eq n name) (list_any (bytes_eq name) names) n name before (same_bytes n name)
      ∙ ap (λ (b : Bool). if b || list_any (bytes_eq name) names then Some (measures name) else before) (bytes_eq_sym n name)

  first_step : (b t : Bool) (n name : List ℕ) (found : Option MeasuredNet) → (b ≡ true → n ≡ name) → found ≡ (if t then Some (measures name) else None)
      → (if b then Some (measures n) else found) ≡ (if b || t then Some (measures name) else None)
  first_step true t n name found same later = ap (λ k. Some (measures k)) (same refl)
  first_step false t n name found same later = later

  first_found : (names : List (List ℕ)) (name : List ℕ)
      → find (measured (map (net_named library design u) names) (map length_by names)) name ≡ (if list_any (bytes_eq name) names then Some (measures name) else None)
  first_found [] name = refl
  first_found (n ∷ names) name =
      first_step (bytes_eq n name) (list_any (bytes_eq name) names) n name (find (measured (map (net_named library design u) names) (map length_by names)) name) (same_bytes n name) (first_found names name)
      ∙ ap (λ (b : Bool). if b || list_any (bytes_eq name) names then Some (measures name) else None) (bytes_eq_sym n name)

  pub found_alike : (name : List ℕ) → found_after (all_nets library design u) (map length_by (net_names library design u)) name None ≡ find (measured (all_nets library design u) (map length_by (net_names library design u))) name
  found_alike name = last_found (net_names library design u) name None ∙ sym (first_found (net_names library design u) name)

-- the shapes of all nets in cells that had none
pub shapes_held : (columns rows : List ℤ) (ns all : List Net) (ss : List NetShape) (old new : CellTable) → map shape_view ss ≡ map bare (flat_map shapes_of_net ns) → ns ≡ all
    → HoldsDensities columns rows [] old → HoldsMore (map shape_view ss) old new → HoldsDensities columns rows (map bare (flat_map shapes_of_net all)) new
shapes_held columns rows ns all ss old new seen are held more = rw (seen ∙ ap (λ ks. map bare (flat_map shapes_of_net ks)) are) at (more.holds columns rows [] held)
