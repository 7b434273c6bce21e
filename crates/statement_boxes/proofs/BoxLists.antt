-- Boxes and the shapes that stand for them.
use Rattle.std.proofs.Common.{◌≡◌, ◌≤◌, ℕ, Bool, true, false, cond, not, ◌&&◌, List, [], ◌∷◌, ◌++◌, Option, Some, None, Result, Ok, Err, refl, sym, ap, ◌∙◌, arith, map}
use Rattle.std.specs.Prelude.{sum_by, ◌==◌, ◌≢◌, IfOk, IfSome}
use Rattle.std.specs.List.{All}
use Rattle.std.proofs.lemmas.List.{map-append}
use Rattle.std.proofs.lemmas.List.Elements.{All-cons, All-nil, All-head, All-tail}
use Rattle.std.proofs.lemmas.List.Sums.{sum_by-cons, sum_by-le-sum_by}
use Rattle.line_laws.specs.Lines.{SameThings}
use Rattle.line_laws.proofs.SameSums.{maps_are_same}
use Rattle.design_model.specs.Geometry.{Rectangle}
use Rattle.design_model.specs.Views.{rectangle_of}
use Rattle.design_model.specs.declared.geometry.Rect.{Rect}
use Rattle.design_model.specs.declared.identifier.LayerId.{LayerId}
use Rattle.design_model.specs.declared.identifier.ShapeId.{ShapeId}
use Rattle.design_model.specs.declared.identifier.StmtId.{StmtId}
use Rattle.shape_rules.specs.Meeting.{meets}
use Rattle.shape_index.specs.declared.shape.Shape.{Shape}
use Rattle.shape_index.specs.Pushing.{Pushes}
use Rattle.shape_index.specs.Shapes.{AreSame, at, met_by as shapes_met, met_count as count_met}
use Rattle.shape_index.specs.Tiles.{near_count as shapes_near}
use Rattle.shape_index.proofs.Pushed.{Holds, pushed}
use Rattle.shape_index.proofs.TileFloors.{met_is_near}
use Rattle.statement_boxes.specs.declared.statement_box.StatementBox.{StatementBox}
use Rattle.statement_boxes.specs.Boxes.{box_view, met_by, met_count, is_near, near_count}
use Rattle.statement_boxes.specs.BoxLaws.{MetBoxesAreNear}
use Rattle.statement_boxes.specs.BoxShapes.{AreOnTheLayer, box_of, number_of, shape_of}

abbrev Entry : Type 0
Entry = ShapeId × Shape

abbrev the_layer : LayerId
the_layer = record { 0 = 0 }

sum_by-map : {A B : Type 0} (w : B → ℕ) (f : A → B) (xs : List A) → sum_by w (map f xs) ≡ sum_by (λ x. w (f x)) xs
sum_by-map w f [] = refl
sum_by-map w f (x ∷ xs) = let r = sum_by-map w f xs in omega (arith, r, sum_by-cons w (f x) (map f xs), sum_by-cons (λ y. w (f y)) x xs)

-- 1 for an entry on another layer
abbrev elsewhere : Shape → ℕ
elsewhere s = cond (not (s.layer.0 == 0)) 1 0

-- the layer stays where the same things stand
pub on_layer_as : (xs ys : List Entry) → SameThings xs ys → AreOnTheLayer ys → AreOnTheLayer xs
on_layer_as xs ys h o = record { none_elsewhere = h.sums (λ e. elsewhere e.1) ∙ o.none_elsewhere }

pub on_layer_more : (e : Entry) (es : List Entry) → e.1.layer.0 ≡ 0 → AreOnTheLayer es → AreOnTheLayer (e ∷ es)
on_layer_more e es on o =
    let t : (e.1.layer.0 == 0) ≡ true = grind (arith, on) in
    let v : elsewhere e.1 ≡ 0 = rw t refl in
    record { none_elsewhere = omega (arith, v, o.none_elsewhere, sum_by-cons (λ (e : Entry). elsewhere e.1) e es) }

-- and where one is taken out
pub on_layer_less : (e : Entry) (es : List Entry) → AreOnTheLayer (e ∷ es) → AreOnTheLayer es
on_layer_less e es o = record { none_elsewhere = omega (arith, o.none_elsewhere, sum_by-cons (λ (e : Entry). elsewhere e.1) e es) }

first_on : (e : Entry) (es : List Entry) → AreOnTheLayer (e ∷ es) → (e.1.layer.0 == 0) ≡ true
first_on e es o =
    elim (e.1.layer.0 == 0) as (λ b. (e.1.layer.0 == 0) ≡ b → b ≡ true) [
      | true ↦ λ t. refl
      | false ↦ λ t. let v : elsewhere e.1 ≡ 1 = rw t refl in absurd (omega (arith, v, o.none_elsewhere, sum_by-cons (λ (e : Entry). elsewhere e.1) e es))
    ] refl

none_of_boxes : (boxes : List StatementBox) → sum_by elsewhere (map shape_of boxes) ≡ 0
none_of_boxes [] = refl
none_of_boxes (b ∷ boxes) = omega (arith, none_of_boxes boxes, sum_by-cons elsewhere (shape_of b) (map shape_of boxes))

-- entries that were made of boxes
pub made_on_layer : (es : List Entry) (shapes : List Shape) (boxes : List StatementBox) → SameThings (map (λ e. e.1) es) shapes → shapes ≡ map shape_of boxes → AreOnTheLayer es
made_on_layer es shapes boxes h is = record {
  none_elsewhere = sym (sum_by-map elsewhere (λ (e : Entry). e.1) es) ∙ h.sums elsewhere ∙ ap (sum_by elsewhere) is ∙ none_of_boxes boxes;
}

-- the box of a shape
abbrev shape_box : Shape → StmtId × Rectangle
shape_box s = (number_of s, rectangle_of s.rect)

pub made_boxes : (es : List Entry) (shapes : List Shape) (boxes : List StatementBox) → SameThings (map (λ e. e.1) es) shapes → shapes ≡ map shape_of boxes → SameThings (map box_of es) (map box_view boxes)
made_boxes es shapes boxes h is = record {
  sums = λ w.
      sum_by-map w box_of es
      ∙ sym (sum_by-map (λ (s : Shape). w (shape_box s)) (λ (e : Entry). e.1) es)
      ∙ h.sums (λ s. w (shape_box s))
      ∙ ap (sum_by (λ (s : Shape). w (shape_box s))) is
      ∙ sum_by-map (λ (s : Shape). w (shape_box s)) shape_of boxes
      ∙ sym (sum_by-map w box_view boxes);
}

boxes_as : (xs ys : List Entry) → SameThings xs ys → SameThings (map box_of xs) (map box_of ys)
boxes_as xs ys h = maps_are_same Entry (StmtId × Rectangle) box_of xs ys h

-- a box that is put in
pub one_more : (old roomy new : List Entry) (id : ShapeId) (s : Shape) (b : StatementBox) → roomy ≡ old → s ≡ shape_of b → SameThings new ((id, s) ∷ roomy) → SameThings (map box_of new) (box_view b ∷ map box_of old)
one_more old roomy new id s b same is h = boxes_as new ((id, shape_of b) ∷ old) (rw (is, same) at h)

same_box : (s : Shape) (b : StatementBox) → AreSame s (shape_of b) → shape_box s ≡ box_view b
same_box s b h = let rect = h.rect in let net = h.net in rw (rect, net) refl

-- a box that is taken out
pub one_less : (old new : List Entry) (id : ShapeId) (r : Option Shape) (x : Shape) (b : StatementBox) → x ≡ shape_of b → r ≡ at id old → IfSome r (λ s. SameThings old ((id, s) ∷ new))
    → ((s : Shape) × (at id old ≡ Some s) × AreSame s x) → SameThings (map box_of old) (box_view b ∷ map box_of new)
one_less old new id None x b is value gone f = let e = f.1 in cc
one_less old new id (Some s) x b is value gone f =
    let e = f.1 in
    let one : f.0 ≡ s = cc in
    let same : AreSame s (shape_of b) = rw (one, is) at f.2 in
    rw (← same_box s b same) (boxes_as old ((id, s) ∷ new) gone)

-- a box that isn't there
none_is : (es : List Entry) (b : StatementBox) → AreOnTheLayer es → All (λ e. ¬ AreSame e.1 (shape_of b)) es → All (λ c. c ≢ box_view b) (map box_of es)
none_is [] b o none = All-nil _
none_is (e ∷ es) b o none =
    let on : e.1.layer.0 ≡ 0 = let t = first_on e es o in grind (arith, t) in
    All-cons (λ (c : StmtId × Rectangle). c ≢ box_view b) (box_of e) (map box_of es)
    (λ same. All-head (λ (e : Entry). ¬ AreSame e.1 (shape_of b)) e es none (record {
      layer = on;
      rect = ap (λ (c : StmtId × Rectangle). c.1) same;
      net = ap (λ (c : StmtId × Rectangle). c.0.0) same;
    }))
    (none_is es b (on_layer_less e es o) (All-tail (λ (e : Entry). ¬ AreSame e.1 (shape_of b)) e es none))

pub none_there : (es : List Entry) (x : Shape) (b : StatementBox) → x ≡ shape_of b → AreOnTheLayer es → All (λ e. ¬ AreSame e.1 x) es → All (λ c. c ≢ box_view b) (map box_of es)
none_there es x b is o none = none_is es b o (rw is at none)

-- one number more is pushed
pub one_pushed : {V E : Type 0} (items : V → List StmtId) (q r : Result V E) (e : Entry) (xs : List Entry) → Holds items (map (λ e. number_of e.1) xs) q → IfOk r (λ v. Pushes items q (number_of e.1) (items v))
    → Holds items (map (λ e. number_of e.1) (xs ++ e ∷ [])) r
one_pushed items q r e xs h k = rw (map-append (λ (e : Entry). number_of e.1) xs (e ∷ [])) (pushed items q r (number_of e.1) (map (λ e. number_of e.1) xs) h k)

-- the numbers of the shapes that are met
met_numbers : (r : Rect) (es : List Entry) → AreOnTheLayer es → map (λ e. number_of e.1) (shapes_met the_layer r es) ≡ map (λ b. b.0) (met_by (rectangle_of r) (map box_of es))
met_numbers r [] o = refl
met_numbers r (e ∷ es) o =
    let rest = met_numbers r es (on_layer_less e es o) in
    rw (first_on e es o) (elim (meets (rectangle_of e.1.rect) (rectangle_of r)) as (λ b. map (λ (e : Entry). number_of e.1) (cond b (e ∷ shapes_met the_layer r es) (shapes_met the_layer r es)) ≡ map (λ (b : StmtId × Rectangle). b.0) (cond b (box_of e ∷ met_by (rectangle_of r) (map box_of es)) (met_by (rectangle_of r) (map box_of es)))) [
      | true ↦ ap (λ (l : List StmtId). number_of e.1 ∷ l) rest
      | false ↦ rest
    ])

pub met_as : (r : Rect) (es met : List Entry) (boxes : List (StmtId × Rectangle)) → map box_of es ≡ boxes → AreOnTheLayer es → SameThings met (shapes_met the_layer r es)
    → SameThings (map (λ e. number_of e.1) met) (map (λ b. b.0) (met_by (rectangle_of r) boxes))
met_as r es met boxes is o h =
    rw (← is, ← met_numbers r es o) (maps_are_same Entry StmtId (λ e. number_of e.1) met (shapes_met the_layer r es) h)

-- one rectangle more is pushed
pub rect_pushed : {V E : Type 0} (items : V → List Rect) (q r : Result V E) (e : Entry) (xs : List Entry) → Holds items (map (λ e. e.1.rect) xs) q → IfOk r (λ v. Pushes items q e.1.rect (items v))
    → Holds items (map (λ e. e.1.rect) (xs ++ e ∷ [])) r
rect_pushed items q r e xs h k = rw (map-append (λ (e : Entry). e.1.rect) xs (e ∷ [])) (pushed items q r e.1.rect (map (λ e. e.1.rect) xs) h k)

-- the rectangles of the shapes that are met
met_rectangles : (r : Rect) (es : List Entry) → AreOnTheLayer es → map (λ e. rectangle_of e.1.rect) (shapes_met the_layer r es) ≡ map (λ b. b.1) (met_by (rectangle_of r) (map box_of es))
met_rectangles r [] o = refl
met_rectangles r (e ∷ es) o =
    let rest = met_rectangles r es (on_layer_less e es o) in
    rw (first_on e es o) (elim (meets (rectangle_of e.1.rect) (rectangle_of r)) as (λ b. map (λ (e : Entry). rectangle_of e.1.rect) (cond b (e ∷ shapes_met the_layer r es) (shapes_met the_layer r es)) ≡ map (λ (b : StmtId × Rectangle). b.1) (cond b (box_of e ∷ met_by (rectangle_of r) (map box_of es)) (met_by (rectangle_of r) (map box_of es)))) [
      | true ↦ ap (λ (l : List Rectangle). rectangle_of e.1.rect ∷ l) rest
      | false ↦ rest
    ])

-- what was pushed is seen as these
pub found_rects : {V E : Type 0} (items : V → List Rect) (q : Result V E) (r : Rect) (es met : List Entry) (boxes : List (StmtId × Rectangle)) → Holds items (map (λ e. e.1.rect) met) q
    → map box_of es ≡ boxes → AreOnTheLayer es → SameThings met (shapes_met the_layer r es)
    → IfOk q (λ v. SameThings (map rectangle_of (items v)) (map (λ b. b.1) (met_by (rectangle_of r) boxes)))
found_rects items (Err e) r es met boxes held is o h = tt
found_rects items (Ok v) r es met boxes held is o h = record {
  sums = λ w.
      ap (λ (l : List Rect). sum_by w (map rectangle_of l)) held
      ∙ sum_by-map w rectangle_of (map (λ (e : Entry). e.1.rect) met)
      ∙ sum_by-map (λ (x : Rect). w (rectangle_of x)) (λ (e : Entry). e.1.rect) met
      ∙ h.sums (λ (e : Entry). w (rectangle_of e.1.rect))
      ∙ sym (sum_by-map w (λ (e : Entry). rectangle_of e.1.rect) (shapes_met the_layer r es))
      ∙ ap (sum_by w) (met_rectangles r es o ∙ ap (λ (l : List (StmtId × Rectangle)). map (λ b. b.1) (met_by (rectangle_of r) l)) is);
}

-- how many they are
met_boxes : (r : Rect) (es : List Entry) → AreOnTheLayer es → count_met the_layer r es ≡ met_count (rectangle_of r) (map box_of es)
met_boxes r [] o = refl
met_boxes r (e ∷ es) o =
    let one : cond {A = ℕ} ((e.1.layer.0 == 0) && meets (rectangle_of e.1.rect) (rectangle_of r)) 1 0 ≡ cond {A = ℕ} (meets (rectangle_of e.1.rect) (rectangle_of r)) 1 0 = rw (first_on e es o) refl in
    omega (
      arith,
      one,
      met_boxes r es (on_layer_less e es o),
      sum_by-cons (λ (e : Entry). cond {A = ℕ} ((e.1.layer.0 == 0) && meets (rectangle_of e.1.rect) (rectangle_of r)) 1 0) e es,
      sum_by-cons (λ (b : StmtId × Rectangle). cond {A = ℕ} (meets b.1 (rectangle_of r)) 1 0) (box_of e) (map box_of es),
    )

pub met_compared : (r : Rect) (es : List Entry) (boxes : List (StmtId × Rectangle)) (n : ℕ) → map box_of es ≡ boxes → AreOnTheLayer es → count_met the_layer r es ≤ n → met_count (rectangle_of r) boxes ≤ n
met_compared r es boxes n is o h = rw (← is) (omega (arith, h, met_boxes r es o))

and_less : (a b : Bool) → cond (a && b) 1 0 ≤ cond b 1 0
and_less true b = omega arith
and_less false true = omega arith
and_less false false = omega arith

-- how many are near
near_boxes : (r : Rect) (es : List Entry) → shapes_near the_layer r es ≤ near_count (rectangle_of r) (map box_of es)
near_boxes r es =
    let fewer = sum_by-le-sum_by (λ (e : Entry). cond ((e.1.layer.0 == 0) && is_near (rectangle_of r) (box_of e)) 1 0) (λ (e : Entry). cond (is_near (rectangle_of r) (box_of e)) 1 0) es (λ e. and_less (e.1.layer.0 == 0) (is_near (rectangle_of r) (box_of e))) in
    omega (arith, fewer, sum_by-map (λ b. cond (is_near (rectangle_of r) b) 1 0) box_of es)

pub few_compared : (r : Rect) (es : List Entry) (boxes : List (StmtId × Rectangle)) (n : ℕ) → map box_of es ≡ boxes → n ≤ shapes_near the_layer r es → n ≤ near_count (rectangle_of r) boxes
few_compared r es boxes n is h = rw (← is) (omega (arith, h, near_boxes r es))

pub met_boxes_are_near : MetBoxesAreNear
met_boxes_are_near r b h = met_is_near the_layer r (record { 0 = 0 }, shape_of b) h
