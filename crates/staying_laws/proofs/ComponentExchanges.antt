-- What components stand in is told by some statements, and the others are exchanged with the components that they are.
use Rattle.std.proofs.Common.{◌≡◌, ◌+◌, ℕ, Bool, true, false, List, [], ◌∷◌, ◌++◌, filter, flat_map, map, sum_by, Option, Some, None, refl, sym, ap, ap₂, ◌∙◌, arith, if◌then◌else◌}
use Rattle.std.specs.List.{cons_option, filter_map}
use Rattle.std.proofs.lemmas.List.Elements.{filter_map-append}
use Rattle.std.proofs.lemmas.List.Sums.{sum_by-append, sum_by-cons}
use Rattle.form_meanings.specs.Words.{first}
use Rattle.def_grammar.specs.Records as records
use Rattle.def_grammar.specs.Records.{Record, end_section, entry, in_properties, top, units_of}
use Rattle.def_grammar.specs.Top.{end_design, extension, floor, header, kept, properties, units}
use Rattle.lef_grammar.specs.Library.{Library}
use Rattle.design_rules.specs.Boxes.{box_of, boxes, scale, units_or_1}
use Rattle.design_rules.specs.Surroundings.{assignment_of, die, die_of, fence_of, keep_out_of, keep_outs, placed_row, placed_rows, row_of, surroundings}
use Rattle.line_laws.specs.Lines.{SameThings}
use Rattle.line_laws.proofs.OneOfAll.{design_has_component_lines}
use Rattle.following_laws.specs.DesignLaws.{ComponentLinesFollow}
use Rattle.following_laws.specs.Following.{Exchange}
use Rattle.staying_laws.specs.PlaceStatements.{SurroundingsAreTold, PlacesFollow, ComponentsAreExchanged, boxes_among, is_surrounding, surrounds_or_blocks}

-- what is selected of statements of which some say nothing
module _ {A B : Type 0} (says : A → Bool) (select : A → Option B) where
  kept_or_not : (b : Bool) (a : A) (left all : List A) → (b ≡ false → select a ≡ None) → filter_map select left ≡ filter_map select all
      → filter_map select (if b then a ∷ left else left) ≡ filter_map select (a ∷ all)
  kept_or_not true a left all none later = ap (cons_option (select a)) later
  kept_or_not false a left all none later = later ∙ ap (λ (b : Option B). cons_option b (filter_map select all)) (sym (none refl))

  pub selected_of_those : ((a : A) → says a ≡ false → select a ≡ None) → (all : List A) → filter_map select (filter says all) ≡ filter_map select all
  selected_of_those none [] = refl
  selected_of_those none (a ∷ all) = kept_or_not (says a) a (filter says all) all (none a) (selected_of_those none all)

module _ {A B : Type 0} (says : A → Bool) (parts : A → List B) where
  listed_or_not : (b : Bool) (a : A) (left all : List A) → (b ≡ false → parts a ≡ []) → flat_map parts left ≡ flat_map parts all
      → flat_map parts (if b then a ∷ left else left) ≡ flat_map parts (a ∷ all)
  listed_or_not true a left all none later = ap (λ bs. parts a ++ bs) later
  listed_or_not false a left all none later = later ∙ ap (λ bs. bs ++ flat_map parts all) (sym (none refl))

  pub listed_of_those : ((a : A) → says a ≡ false → parts a ≡ []) → (all : List A) → flat_map parts (filter says all) ≡ flat_map parts all
  listed_of_those none [] = refl
  listed_of_those none (a ∷ all) = listed_or_not (says a) a (filter says all) all (none a) (listed_of_those none all)

no_units : (r : Record) → is_surrounding r ≡ false → units_of r ≡ None
no_units (top (units n)) h = absurd (cc)
no_units (top end_design) h = refl
no_units (top properties) h = refl
no_units (top (extension ws)) h = refl
no_units (top (floor f)) h = absurd (cc)
no_units (top (header s n)) h = refl
no_units (top (kept w ws)) h = refl
no_units (entry e) h = refl
no_units (in_properties p) h = refl
no_units (end_section s) h = refl

no_row : (r : Record) → is_surrounding r ≡ false → row_of r ≡ None
no_row (top (units n)) h = absurd (cc)
no_row (top end_design) h = refl
no_row (top properties) h = refl
no_row (top (extension ws)) h = refl
no_row (top (floor f)) h = absurd (cc)
no_row (top (header s n)) h = refl
no_row (top (kept w ws)) h = refl
no_row (entry e) h = refl
no_row (in_properties p) h = refl
no_row (end_section s) h = refl

no_die : (r : Record) → is_surrounding r ≡ false → die_of r ≡ None
no_die (top (units n)) h = absurd (cc)
no_die (top end_design) h = refl
no_die (top properties) h = refl
no_die (top (extension ws)) h = refl
no_die (top (floor f)) h = absurd (cc)
no_die (top (header s n)) h = refl
no_die (top (kept w ws)) h = refl
no_die (entry e) h = refl
no_die (in_properties p) h = refl
no_die (end_section s) h = refl

no_fence : (r : Record) → is_surrounding r ≡ false → fence_of r ≡ None
no_fence (top t) h = refl
no_fence (entry (records.component x)) h = refl
no_fence (entry (records.pin x)) h = refl
no_fence (entry (records.region x)) h = absurd (cc)
no_fence (entry (records.group x)) h = refl
no_fence (entry (records.blockage x)) h = refl
no_fence (entry (records.net x)) h = refl
no_fence (entry (records.special_net x)) h = refl
no_fence (entry (records.via x)) h = refl
no_fence (entry (records.rule x)) h = refl
no_fence (entry (records.skipped s x)) h = refl
no_fence (in_properties p) h = refl
no_fence (end_section s) h = refl

no_assignment : (r : Record) → is_surrounding r ≡ false → assignment_of r ≡ None
no_assignment (top t) h = refl
no_assignment (entry (records.component x)) h = refl
no_assignment (entry (records.pin x)) h = refl
no_assignment (entry (records.region x)) h = refl
no_assignment (entry (records.group x)) h = absurd (cc)
no_assignment (entry (records.blockage x)) h = refl
no_assignment (entry (records.net x)) h = refl
no_assignment (entry (records.special_net x)) h = refl
no_assignment (entry (records.via x)) h = refl
no_assignment (entry (records.rule x)) h = refl
no_assignment (entry (records.skipped s x)) h = refl
no_assignment (in_properties p) h = refl
no_assignment (end_section s) h = refl

-- what isn't one of these or a blockage isn't one of these
not_round : (r : Record) → surrounds_or_blocks r ≡ false → is_surrounding r ≡ false
not_round (top t) h = h
not_round (entry (records.component x)) h = h
not_round (entry (records.pin x)) h = h
not_round (entry (records.region x)) h = h
not_round (entry (records.group x)) h = h
not_round (entry (records.blockage x)) h = refl
not_round (entry (records.net x)) h = h
not_round (entry (records.special_net x)) h = h
not_round (entry (records.via x)) h = h
not_round (entry (records.rule x)) h = h
not_round (entry (records.skipped s x)) h = h
not_round (in_properties p) h = h
not_round (end_section s) h = h

no_keep_out : (r : Record) → surrounds_or_blocks r ≡ false → keep_out_of r ≡ []
no_keep_out (top t) h = refl
no_keep_out (entry (records.component x)) h = refl
no_keep_out (entry (records.pin x)) h = refl
no_keep_out (entry (records.region x)) h = refl
no_keep_out (entry (records.group x)) h = refl
no_keep_out (entry (records.blockage x)) h = absurd (cc)
no_keep_out (entry (records.net x)) h = refl
no_keep_out (entry (records.special_net x)) h = refl
no_keep_out (entry (records.via x)) h = refl
no_keep_out (entry (records.rule x)) h = refl
no_keep_out (entry (records.skipped s x)) h = refl
no_keep_out (in_properties p) h = refl
no_keep_out (end_section s) h = refl

-- what stands round components, by statements among which are all of those that tell it
module _ (says : Record → Bool) (only : (r : Record) → says r ≡ false → is_surrounding r ≡ false) (library : Library) (design : List Record) where
  abbrev around : List Record
  around = filter says design

  same_scale : scale around ≡ scale design
  same_scale = ap (λ ns. units_or_1 (first ns)) (selected_of_those says units_of (λ r h. no_units r (only r h)) design)

  same_rows : placed_rows library around ≡ placed_rows library design
  same_rows = ap₂ (λ u rs. map (placed_row library u) rs) same_scale (selected_of_those says row_of (λ r h. no_row r (only r h)) design)

  same_die : die around ≡ die design
  same_die = ap first (selected_of_those says die_of (λ r h. no_die r (only r h)) design)

  same_surroundings : surroundings library around ≡ surroundings library design
  same_surroundings =
      rw (
        same_rows,
        same_die,
        selected_of_those says fence_of (λ r h. no_fence r (only r h)) design,
        selected_of_those says assignment_of (λ r h. no_assignment r (only r h)) design,
      )
      refl

pub surroundings_are_told : SurroundingsAreTold
surroundings_are_told library design = record {
  surroundings = same_surroundings surrounds_or_blocks not_round library design;
  keep_outs = listed_of_those surrounds_or_blocks keep_out_of no_keep_out design;
  scale = same_scale surrounds_or_blocks not_round library design;
}

-- what is selected of things in another order
module _ {A B : Type 0} (select : A → Option B) where
  abbrev weight : (B → ℕ) → Option B → ℕ
  weight w None = 0
  weight w (Some b) = w b

  one_more : (w : B → ℕ) (b : Option B) (bs : List B) → sum_by w (cons_option b bs) ≡ weight w b + sum_by w bs
  one_more w None bs = omega arith
  one_more w (Some b) bs = sum_by-cons w b bs

  sum_of_selected : (w : B → ℕ) (xs : List A) → sum_by w (filter_map select xs) ≡ sum_by (λ a. weight w (select a)) xs
  sum_of_selected w [] = refl
  sum_of_selected w (a ∷ xs) =
      let later = sum_of_selected w xs in
      omega (arith, later, one_more w (select a) (filter_map select xs), sum_by-cons (λ a. weight w (select a)) a xs)

  selected_parts : (all some rest : List A) → SameThings all (some ++ rest) → SameThings (filter_map select all) (filter_map select some ++ filter_map select rest)
  selected_parts all some rest same = record {
    sums = λ w.
        let v = λ (a : A). weight w (select a) in
        sum_of_selected w all ∙ same.sums v ∙ sym (sum_of_selected w (some ++ rest)) ∙ ap (sum_by w) (filter_map-append select some rest);
  }

-- and what is listed of them
module _ {A B : Type 0} (parts : A → List B) where
  sum_of_listed : (w : B → ℕ) (xs : List A) → sum_by w (flat_map parts xs) ≡ sum_by (λ a. sum_by w (parts a)) xs
  sum_of_listed w [] = refl
  sum_of_listed w (a ∷ xs) =
      let later = sum_of_listed w xs in
      omega (arith, later, sum_by-append w (parts a) (flat_map parts xs), sum_by-cons (λ b. sum_by w (parts b)) a xs)

  listed_parts : (all some rest : List A) → SameThings all (some ++ rest) → SameThings (flat_map parts all) (flat_map parts some ++ flat_map parts rest)
  listed_parts all some rest same = record {
    sums = λ w.
        let v = λ (a : A). sum_by w (parts a) in
        let whole = sum_of_listed w all in
        let first = sum_of_listed w some in
        let others = sum_of_listed w rest in
        let sums = same.sums v in
        omega (arith, whole, first, others, sums, sum_by-append v some rest, sum_by-append w (flat_map parts some) (flat_map parts rest));
  }

module _ (component_lines_follow : ComponentLinesFollow) (library : Library) (old new out put stay : List Record) (exchange : Exchange old new out put stay) (same : filter is_surrounding old ≡ filter is_surrounding new) where
  scales : scale new ≡ scale old
  scales = sym (same_scale is_surrounding (λ r h. h) library new) ∙ ap scale (sym same) ∙ same_scale is_surrounding (λ r h. h) library old

  surroundings_stay : surroundings library new ≡ surroundings library old
  surroundings_stay = sym (same_surroundings is_surrounding (λ r h. h) library new) ∙ ap (surroundings library) (sym same) ∙ same_surroundings is_surrounding (λ r h. h) library old

  boxes_exchanged : Exchange (boxes library old) (boxes library new) (boxes_among library old out) (boxes_among library old put) (boxes_among library old stay)
  boxes_exchanged = record {
    old_is = selected_parts (box_of library (scale old)) old out stay exchange.old_is;
    new_is = rw (ap (λ u. filter_map (box_of library u) new) scales) (selected_parts (box_of library (scale old)) new put stay exchange.new_is);
  }

  keep_outs_exchanged : Exchange (keep_outs old) (keep_outs new) (keep_outs out) (keep_outs put) (keep_outs stay)
  keep_outs_exchanged = record { old_is = listed_parts keep_out_of old out stay exchange.old_is; new_is = listed_parts keep_out_of new put stay exchange.new_is }

  pub places_follow : PlacesFollow library old new out put stay
  places_follow =
      let follow = component_lines_follow (surroundings library old) (boxes library old) (boxes library new) (boxes_among library old out) (boxes_among library old put) (boxes_among library old stay)
      (keep_outs old) (keep_outs new) (keep_outs out) (keep_outs put) (keep_outs stay) boxes_exchanged keep_outs_exchanged in
      record {
        surroundings = sym surroundings_stay;
        scale = sym scales;
        boxes = boxes_exchanged;
        keep_outs = keep_outs_exchanged;
        lines = rw (design_has_component_lines library old, design_has_component_lines library new, surroundings_stay) follow;
      }

pub components_are_exchanged : ComponentLinesFollow → ComponentsAreExchanged
components_are_exchanged follow library old new out put stay exchange same = places_follow follow library old new out put stay exchange same
