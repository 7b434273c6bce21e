-- The least rectangle round others: in whatever order these are, and where some go that don't bound it.
use Rattle.std.proofs.Common.{◌≡◌, ◌∙◌, ◌+◌, ℕ, Bool, true, false, ◌&&◌, List, [], ◌∷◌, ◌++◌, Option, Some, None, ℤ, ◌≤ℤ◌, ◌<◌, append_assoc, get_or, length, map, refl, sym, ap, arith, sum_by, if◌then◌else◌}
use Rattle.std.specs.Prelude.{int_lt, take}
use Rattle.std.specs.Int.{int_min, int_max}
use Rattle.std.specs.Option.{option_map}
use Rattle.std.proofs.lemmas.List.{map-append, take_more}
use Rattle.std.proofs.lemmas.Int.{ints, clamps}
use Rattle.std.proofs.lemmas.List.Elements.{All-nil, All-cons, All-head, All-tail}
use Rattle.std.proofs.lemmas.List.Sums.{sum_by-append, sum_by-cons}
use Rattle.design_model.specs.Geometry.{Rectangle}
use Rattle.net_lists.specs.PartCuts.{shape_view}
use Rattle.net_lists.specs.declared.parts.NetShape.{NetShape}
use Rattle.line_laws.specs.Lines.{SameThings}
use Rattle.measure_rules.specs.NetBoxes.{around, around_all, box_round}
use Rattle.measure_laws.specs.BoxLaws.{HoldsAll, LiesIn}
use Rattle.measure_laws.proofs.BoxesRound.{a_box_is_the_least, boxes_grow, no_rectangles_no_box}
use Rattle.followed_measures.specs.Bounds.{AreInside, BoxFollows, boxes_in, is_inside}

pub around_is : (a b : Rectangle) (x1 y1 x2 y2 : ℤ) → x1 ≡ int_min a.x1 b.x1 → y1 ≡ int_min a.y1 b.y1 → x2 ≡ int_max a.x2 b.x2 → y2 ≡ int_max a.y2 b.y2
    → record { x1 = x1; y1 = y1; x2 = x2; y2 = y2 } ≡ around a b
around_is a b x1 y1 x2 y2 e f g h = rw (e, f, g, h) refl

-- how far one number is below another: at all or not
abbrev below : ℤ → ℤ → ℕ
below a b = if int_lt a b then 1 else 0

not_below : (a b : ℤ) → below a b ≡ 0 → b ≤ℤ a
not_below a b h = one (int_lt a b) refl h
  where
    one : (t : Bool) → int_lt a b ≡ t → ◌≡◌ {A = ℕ} (if t then 1 else 0) 0 → b ≤ℤ a
    one true is h = absurd (omega (arith, h))
    one false is h = omega (arith, ints, is)

above_none : (a b : ℤ) → b ≤ℤ a → below a b ≡ 0
above_none a b h = one (int_lt a b) refl
  where
    one : (t : Bool) → int_lt a b ≡ t → ◌≡◌ {A = ℕ} (if t then 1 else 0) 0
    one true is = absurd (omega (arith, ints, is, h))
    one false is = refl

-- on how many sides a rectangle goes past another
abbrev past : Rectangle → Rectangle → ℕ
past b r = (below r.x1 b.x1 + below r.y1 b.y1) + (below b.x2 r.x2 + below b.y2 r.y2)

none_past : (b r : Rectangle) → past b r ≡ 0 → LiesIn r b
none_past b r h = record {
  x1 = not_below r.x1 b.x1 (omega (arith, h));
  y1 = not_below r.y1 b.y1 (omega (arith, h));
  x2 = not_below b.x2 r.x2 (omega (arith, h));
  y2 = not_below b.y2 r.y2 (omega (arith, h));
}

inside_none : (b r : Rectangle) → LiesIn r b → past b r ≡ 0
inside_none b r l = omega (arith, above_none r.x1 b.x1 l.x1, above_none r.y1 b.y1 l.y1, above_none b.x2 r.x2 l.x2, above_none b.y2 r.y2 l.y2)

all_inside : (b : Rectangle) (rs : List Rectangle) → sum_by (past b) rs ≡ 0 → HoldsAll rs b
all_inside b [] h = All-nil (λ r. LiesIn r b)
all_inside b (r ∷ rs) h =
    let both = sum_by-cons (past b) r rs in
    All-cons (λ s. LiesIn s b) r rs (none_past b r (omega (arith, both, h))) (all_inside b rs (omega (arith, both, h)))

none_outside : (b : Rectangle) (rs : List Rectangle) → HoldsAll rs b → sum_by (past b) rs ≡ 0
none_outside b [] all = refl
none_outside b (r ∷ rs) all =
    omega (arith, sum_by-cons (past b) r rs, inside_none b r (All-head (λ s. LiesIn s b) r rs all), none_outside b rs (All-tail (λ s. LiesIn s b) r rs all))

same_inside : (b : Rectangle) (rs ss : List Rectangle) → SameThings rs ss → HoldsAll rs b → HoldsAll ss b
same_inside b rs ss same all = all_inside b ss (sym (same.sums (past b)) ∙ none_outside b rs all)

as_low : (a b : ℤ) → a ≤ℤ b → b ≤ℤ a → a ≡ b
as_low a b p q = omega (arith, ints, p, q)

each_in_each : (b c : Rectangle) → LiesIn b c → LiesIn c b → b ≡ c
each_in_each b c l m = rw (as_low b.x1 c.x1 m.x1 l.x1, as_low b.y1 c.y1 m.y1 l.y1, as_low b.x2 c.x2 l.x2 m.x2, as_low b.y2 c.y2 l.y2 m.y2) refl

-- where there are none there are none in another order
none_same : (rs ss : List Rectangle) → SameThings rs ss → box_round rs ≡ None → box_round ss ≡ None
none_same rs ss same none = (no_rectangles_no_box ss).1 (empty ss (sym (same.sums (λ (r : Rectangle). 1)) ∙ ap (sum_by (λ (r : Rectangle). 1)) ((no_rectangles_no_box rs).0 none)))
  where
    empty : (ts : List Rectangle) → sum_by (λ (r : Rectangle). 1) ts ≡ sum_by (λ (r : Rectangle). 1) [] → ts ≡ []
    empty [] h = refl
    empty (t ∷ ts) h = absurd (omega (arith, h, sum_by-cons (λ (r : Rectangle). 1) t ts))

turned : (rs ss : List Rectangle) → SameThings rs ss → SameThings ss rs
turned rs ss same = record { sums = λ w. sym (same.sums w) }

pub box_in_any_order : (rs ss : List Rectangle) → SameThings rs ss → box_round rs ≡ box_round ss
box_in_any_order rs ss same = by_boxes (box_round rs) (box_round ss) refl refl
  where
    by_boxes : (o p : Option Rectangle) → box_round rs ≡ o → box_round ss ≡ p → o ≡ p
    by_boxes None p is its = sym (none_same rs ss same is) ∙ its
    by_boxes (Some b) None is its = sym is ∙ none_same ss rs (turned rs ss same) its
    by_boxes (Some b) (Some c) is its =
        let l = a_box_is_the_least rs b is in
        let m = a_box_is_the_least ss c its in
        ap Some (each_in_each b c (l.least c (same_inside c ss rs (turned rs ss same) m.holds)) (m.least b (same_inside b rs ss same l.holds)))

both_true : (s t : Bool) → (s && t) ≡ true → (s ≡ true) × (t ≡ true)
both_true true t h = (refl, h)
both_true false t h = absurd (cc)

-- on each side
record IsWithin (b r : Rectangle) : Type 0 where
  x1 : int_lt b.x1 r.x1 ≡ true
  y1 : int_lt b.y1 r.y1 ≡ true
  x2 : int_lt r.x2 b.x2 ≡ true
  y2 : int_lt r.y2 b.y2 ≡ true

each_side : (b r : Rectangle) → is_inside b r ≡ true → IsWithin b r
each_side b r h =
    let both = both_true (int_lt b.x1 r.x1 && int_lt r.x2 b.x2) (int_lt b.y1 r.y1 && int_lt r.y2 b.y2) h in
    let x = both_true (int_lt b.x1 r.x1) (int_lt r.x2 b.x2) both.0 in
    let y = both_true (int_lt b.y1 r.y1) (int_lt r.y2 b.y2) both.1 in
    record { x1 = x.0; y1 = y.0; x2 = x.1; y2 = y.1 }

not_low : (a b c : ℤ) → int_lt c a ≡ true → int_min a b ≡ c → b ≡ c
not_low a b c low is = omega (arith, ints, clamps, low, is)

not_high : (a b c : ℤ) → int_lt a c ≡ true → int_max a b ≡ c → b ≡ c
not_high a b c high is = omega (arith, ints, clamps, high, is)

one_of_both : {A : Type 0} (a b : A) → Some a ≡ Some b → a ≡ b
one_of_both a b is = cc

without_one : (b r : Rectangle) (o : Option Rectangle) → IsWithin b r → around_all r o ≡ b → o ≡ Some b
without_one b r None inside is = absurd (itself (ap (λ (s : Rectangle). s.x1) is))
  where
    itself : r.x1 ≡ b.x1 → ⊥
    itself same = omega (arith, ints, same, inside.x1)
without_one b r (Some c) inside is = ap Some (each_is
    (not_low r.x1 c.x1 b.x1 inside.x1 (ap (λ (s : Rectangle). s.x1) is))
    (not_low r.y1 c.y1 b.y1 inside.y1 (ap (λ (s : Rectangle). s.y1) is))
    (not_high r.x2 c.x2 b.x2 inside.x2 (ap (λ (s : Rectangle). s.x2) is))
    (not_high r.y2 c.y2 b.y2 inside.y2 (ap (λ (s : Rectangle). s.y2) is)))
  where
    each_is : c.x1 ≡ b.x1 → c.y1 ≡ b.y1 → c.x2 ≡ b.x2 → c.y2 ≡ b.y2 → c ≡ b
    each_is e f g h = rw (e, f, g, h) refl

-- rectangles inside of the box round them and others don't bound it
pub box_without : (b : Rectangle) (gone rest : List Rectangle) → AreInside b gone → box_round (gone ++ rest) ≡ Some b → box_round rest ≡ Some b
unfolding box_round
box_without b [] rest inside is = is
box_without b (r ∷ gone) rest inside is = box_without b gone rest inside.1 (without_one b r (box_round (gone ++ rest)) (each_side b r inside.0) (one_of_both (around_all r (box_round (gone ++ rest))) b is))

-- the box round others and one shape more of some
module _ {X R : Type 0} (box_of : X → Rectangle) (view : R → Rectangle) (rest : List Rectangle) where
  pub one_grown : (xs : List X) (i : ℕ) (x : X) (old : Option R) (new : R) → i < length xs → x ≡ get_or xs i x → view new ≡ around_all (box_of x) (option_map view old)
      → option_map view old ≡ box_round (rest ++ map box_of (take i xs)) → option_map view (Some new) ≡ box_round (rest ++ map box_of (take (i + 1) xs))
  one_grown xs i x old new inside is round so_far =
      let before = take i xs in
      let more : take (i + 1) xs ≡ before ++ x ∷ [] = take_more xs i x inside ∙ ap (λ y. before ++ y ∷ []) (sym is) in
      ap Some (round ∙ ap (around_all (box_of x)) so_far)
      ∙ sym (boxes_grow (rest ++ map box_of before) (box_of x))
      ∙ ap box_round (append_assoc rest (map box_of before) (box_of x ∷ []))
      ∙ ap (λ (rs : List Rectangle). box_round (rest ++ rs)) (sym (map-append box_of before (x ∷ [])))
      ∙ ap (λ ys. box_round (rest ++ map box_of ys)) (sym more)

-- those behind others stand before them as well
pub turned_round : (rs ss : List Rectangle) → box_round (rs ++ ss) ≡ box_round (ss ++ rs)
turned_round rs ss = box_in_any_order (rs ++ ss) (ss ++ rs) (record { sums = λ w. omega (arith, sum_by-append w rs ss, sum_by-append w ss rs) })

-- what comes grows the box round the others, where there was none, or where nothing goes that bounds it
pub none_bounded : (gone come : List Rectangle) (new : Option Rectangle) → ((rest : List Rectangle) → None ≡ box_round rest → new ≡ box_round (rest ++ come)) → BoxFollows gone come None new
unfolding box_round
none_bounded [] come new grown rest is = grown rest is ∙ turned_round rest come
none_bounded (r ∷ gone) come new grown rest is = absurd (cc)

pub gone_inside : (gone come : List Rectangle) (b : Rectangle) (new : Option Rectangle) → AreInside b gone → ((rest : List Rectangle) → Some b ≡ box_round rest → new ≡ box_round (rest ++ come))
    → BoxFollows gone come (Some b) new
gone_inside gone come b new inside grown rest is = grown rest (sym (box_without b gone rest inside (sym is))) ∙ turned_round rest come

-- the boxes of shapes, as they are seen
abbrev pub shape_box : NetShape → Rectangle
shape_box s = (shape_view s).box

pub boxes_seen : (ss : List NetShape) → boxes_in (map shape_view ss) ≡ map shape_box ss
boxes_seen [] = refl
boxes_seen (s ∷ ss) = ap (λ (rs : List Rectangle). shape_box s ∷ rs) (boxes_seen ss)
