-- What the statements of a via or of a pin say of shapes.
use Rattle.std.proofs.Common.{◌≡◌, ◌≤◌, ℕ, suc, Bool, true, false, cond, List, [], ◌∷◌, ◌++◌, map, filter, length, drop, refl, ap, Option, Some, None, IsTrue, is_some}
use Rattle.std.specs.List.{AllByRecursion, cons_option, filter_map}
use Rattle.std.specs.Option.{option_and_then, option_map}
use Rattle.std.proofs.lemmas.List.{append-nil}
use Rattle.std.proofs.Math.ListN.{drop_of_length-le}
use Rattle.form_meanings.specs.Firsts.{found_then, front, headed}
use Rattle.lef_grammar.specs.Definitions.{LayerShapes, corners_read, pin_record, port_record, shapes_by, unless_named, via_record}
use Rattle.lef_grammar.specs.Extents.{Corners}
use Rattle.lef_grammar.specs.LefRecords.{LefRecord, in_pin, in_port, in_via}
use Rattle.lef_grammar.specs.PortBlock.{is_unchecked, port_layer_of, port_rect_of}
use Rattle.lef_grammar.specs.ViaBlock.{is_via_polygon, via_layer_of, via_rect_of}
use Rattle.lef_reader.specs.StatementViews.{lef_view}
use Rattle.lef_reader.specs.declared.statement.LefStatement.{LefStatement}
use Rattle.cell_library.specs.Records.{AreIn}
use Rattle.cell_library.specs.ShapeViews.{corners_in, is_unchecked_in, layer_in, rectangles_behind}

abbrev pub shapes_in : List LefRecord → List LayerShapes
shapes_in rs = shapes_by layer_in corners_in rs

module _ (r : LefRecord) (rest : List LefRecord) where
  pub layer_first : (name : List ℕ) → layer_in r ≡ Some name → shapes_in (r ∷ rest) ≡ record { layer = name; rectangles = rectangles_behind rest } ∷ shapes_in rest
  unfolding headed
  layer_first name h = rw h refl

  pub no_layer_first : layer_in r ≡ None → shapes_in (r ∷ rest) ≡ shapes_in rest
  unfolding headed
  no_layer_first h = rw h refl

pub no_layer_left : (ss : List LefStatement) (i : ℕ) (xs : List LayerShapes) → length ss ≤ i → xs ++ shapes_in (map lef_view (drop i ss)) ≡ xs
unfolding headed
no_layer_left ss i xs above = rw (drop_of_length-le ss above) (append-nil xs)

abbrev is_so : {P : Type 0} → (P → Bool) → Option P → Bool
is_so test None = false
is_so test (Some p) = test p

module _ {P : Type 0} (part : LefRecord → Option P) (layer_of : P → Option (List ℕ)) (corners_of : P → Option Corners) (is_other : P → Bool) where
  -- a statement says of shapes what its part says
  pub record Says (r : LefRecord) : Type 0 where
    pub layer : layer_in r ≡ option_and_then layer_of (part r)
    pub corners : corners_in r ≡ option_and_then corners_of (part r)
    pub other : is_unchecked_in r ≡ is_so is_other (part r)

  abbrev behind : List P → List P
  behind ps = front (λ p. unless_named p (layer_of p)) ps

  corners_some : (r : LefRecord) (p : P) (l : Option (List ℕ)) (rs : List LefRecord) (ps : List P) → corners_in r ≡ corners_of p → filter_map corners_in rs ≡ filter_map corners_of ps
      → filter_map corners_in (found_then (unless_named r l) rs) ≡ filter_map corners_of (found_then (unless_named p l) ps)
  corners_some r p None rs ps c h = rw (c, h) refl
  corners_some r p (Some name) rs ps c h = refl

  corners_step : (r : LefRecord) (o : Option P) (rs : List LefRecord) (ps : List P) → corners_in r ≡ option_and_then corners_of o → filter_map corners_in rs ≡ filter_map corners_of (behind ps)
      → filter_map corners_in (found_then (unless_named r (option_and_then layer_of o)) rs) ≡ filter_map corners_of (behind (cons_option o ps))
  unfolding front
  corners_step r None rs ps c h = rw c h
  corners_step r (Some p) rs ps c h = corners_some r p (layer_of p) rs (behind ps) c h

  same_corners : (rs : List LefRecord) → AllByRecursion Says rs → filter_map corners_in (front (λ r. unless_named r (layer_in r)) rs) ≡ filter_map corners_of (behind (filter_map part rs))
  unfolding front
  same_corners [] s = refl
  same_corners (r ∷ rs) s = rw (s.0.layer) (corners_step r (part r) (front (λ q. unless_named q (layer_in q)) rs) (filter_map part rs) s.0.corners (same_corners rs s.1))

  shown : List (List ℕ × List LefRecord) → List LayerShapes
  shown xs = map (λ x. record { layer = x.0; rectangles = map corners_read (filter_map corners_in x.1) }) xs

  said : List (List ℕ × List P) → List LayerShapes
  said xs = map (λ x. record { layer = x.0; rectangles = map corners_read (filter_map corners_of x.1) }) xs

  named : (l : Option (List ℕ)) (rs : List LefRecord) (ps : List P) (xs : List (List ℕ × List LefRecord)) (ys : List (List ℕ × List P)) → filter_map corners_in rs ≡ filter_map corners_of ps → shown xs ≡ said ys
      → shown (cons_option (option_map (λ name. (name, rs)) l) xs) ≡ said (cons_option (option_map (λ name. (name, ps)) l) ys)
  unfolding shown said
  named None rs ps xs ys c h = h
  named (Some name) rs ps xs ys c h = rw (c, h) refl

  shapes_step : (o : Option P) (rs : List LefRecord) (ps : List P) → filter_map corners_in rs ≡ filter_map corners_of (behind ps) → (xs : List (List ℕ × List LefRecord)) → shown xs ≡ shapes_by layer_of corners_of ps
      → shown (cons_option (option_map (λ name. (name, rs)) (option_and_then layer_of o)) xs) ≡ shapes_by layer_of corners_of (cons_option o ps)
  unfolding headed shown said
  shapes_step None rs ps c xs h = h
  shapes_step (Some p) rs ps c xs h = named (layer_of p) rs (behind ps) xs (headed layer_of (λ q. unless_named q (layer_of q)) ps) c h

  -- the shapes that statements say are those of their parts
  pub same_shapes : (rs : List LefRecord) → AllByRecursion Says rs → shapes_in rs ≡ shapes_by layer_of corners_of (filter_map part rs)
  unfolding headed shown
  same_shapes [] s = refl
  same_shapes (r ∷ rs) s = rw (s.0.layer)
      (shapes_step (part r) (front (λ q. unless_named q (layer_in q)) rs) (filter_map part rs) (same_corners rs s.1) (headed layer_in (λ q. unless_named q (layer_in q)) rs) (same_shapes rs s.1))

  one_more : (b : Bool) (r : LefRecord) (p : P) (rs : List LefRecord) (ps : List P) → length rs ≡ length ps → length (cond b (r ∷ rs) rs) ≡ length (cond b (p ∷ ps) ps)
  one_more true r p rs ps h = ap suc h
  one_more false r p rs ps h = h

  count_step : (o : Option P) (r : LefRecord) (rs : List LefRecord) (ps : List P) → length rs ≡ length (filter is_other ps) → length (cond (is_so is_other o) (r ∷ rs) rs) ≡ length (filter is_other (cons_option o ps))
  count_step None r rs ps h = h
  count_step (Some p) r rs ps h = one_more (is_other p) r p rs (filter is_other ps) h

  pub same_count : (rs : List LefRecord) → AllByRecursion Says rs → length (filter is_unchecked_in rs) ≡ length (filter is_other (filter_map part rs))
  same_count [] s = refl
  same_count (r ∷ rs) s = rw (s.0.other) (count_step (part r) r (filter is_unchecked_in rs) (filter_map part rs) (same_count rs s.1))

  pub all_say : {K : Type 0} (keep : LefRecord → Option K) → ((r : LefRecord) → IsTrue (is_some (keep r)) → Says r) → (rs : List LefRecord) → AreIn keep rs → AllByRecursion Says rs
  all_say keep f [] h = tt
  all_say keep f (r ∷ rs) h = (f r h.0, all_say keep f rs h.1)

pub via_says : (r : LefRecord) → IsTrue (is_some (via_record r)) → Says via_record via_layer_of via_rect_of is_via_polygon r
via_says (in_via r) h = record { layer = refl; corners = refl; other = refl }
via_says _ h = absurd (cc)

pub pin_says : (r : LefRecord) → IsTrue (is_some (pin_record r)) → Says port_record port_layer_of port_rect_of is_unchecked r
pin_says (in_pin r) h = record { layer = refl; corners = refl; other = refl }
pin_says (in_port r) h = record { layer = refl; corners = refl; other = refl }
pin_says _ h = absurd (cc)
