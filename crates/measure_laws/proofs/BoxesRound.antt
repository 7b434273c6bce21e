-- The least rectangle round others.
use Rattle.std.proofs.Common.{◌≡◌, List, [], ◌∷◌, Option, Some, None, ℤ, ◌≤ℤ◌, refl, ap, ◌∙◌, arith}
use Rattle.std.specs.Int.{int_min, int_max}
use Rattle.std.proofs.lemmas.Int.{ints, clamps}
use Rattle.std.proofs.lemmas.List.Elements.{All-nil, All-cons, All-head, All-tail, All-weaker}
use Rattle.form_meanings.proofs.Steps.{some_same}
use Rattle.design_model.specs.Geometry.{Rectangle}
use Rattle.measure_rules.specs.NetBoxes.{around, around_all, box_round}
use Rattle.measure_laws.specs.BoxLaws.{LiesIn, IsLeastRound, ABoxIsTheLeast, BoxesGrow, NoRectanglesNoBox}

min_left : (a b : ℤ) → int_min a b ≤ℤ a
min_left a b = omega (arith, ints, clamps)

min_right : (a b : ℤ) → int_min a b ≤ℤ b
min_right a b = omega (arith, ints, clamps)

max_left : (a b : ℤ) → a ≤ℤ int_max a b
max_left a b = omega (arith, ints, clamps)

max_right : (a b : ℤ) → b ≤ℤ int_max a b
max_right a b = omega (arith, ints, clamps)

min_above : (a b c : ℤ) → c ≤ℤ a → c ≤ℤ b → c ≤ℤ int_min a b
min_above a b c p q = omega (arith, ints, clamps)

max_below : (a b c : ℤ) → a ≤ℤ c → b ≤ℤ c → int_max a b ≤ℤ c
max_below a b c p q = omega (arith, ints, clamps)

itself : (r : Rectangle) → LiesIn r r
itself r = record { x1 = omega (arith, ints); y1 = omega (arith, ints); x2 = omega (arith, ints); y2 = omega (arith, ints) }

through : (a b c : ℤ) → a ≤ℤ b → b ≤ℤ c → a ≤ℤ c
through a b c p q = omega (arith, ints)

first_in : (r b : Rectangle) → LiesIn r (around r b)
first_in r b = record { x1 = min_left r.x1 b.x1; y1 = min_left r.y1 b.y1; x2 = max_left r.x2 b.x2; y2 = max_left r.y2 b.y2 }

others_in : (r b s : Rectangle) → LiesIn s b → LiesIn s (around r b)
others_in r b s l = record {
  x1 = through (int_min r.x1 b.x1) b.x1 s.x1 (min_right r.x1 b.x1) l.x1;
  y1 = through (int_min r.y1 b.y1) b.y1 s.y1 (min_right r.y1 b.y1) l.y1;
  x2 = through s.x2 b.x2 (int_max r.x2 b.x2) l.x2 (max_right r.x2 b.x2);
  y2 = through s.y2 b.y2 (int_max r.y2 b.y2) l.y2 (max_right r.y2 b.y2);
}

around_in : (r b c : Rectangle) → LiesIn r c → LiesIn b c → LiesIn (around r b) c
around_in r b c l m = record {
  x1 = min_above r.x1 b.x1 c.x1 l.x1 m.x1;
  y1 = min_above r.y1 b.y1 c.y1 l.y1 m.y1;
  x2 = max_below r.x2 b.x2 c.x2 l.x2 m.x2;
  y2 = max_below r.y2 b.y2 c.y2 l.y2 m.y2;
}

none_is_empty : (rs : List Rectangle) → box_round rs ≡ None → rs ≡ []
unfolding box_round
none_is_empty [] e = refl
none_is_empty (r ∷ rs) e = absurd (cc)

empty_is_none : (rs : List Rectangle) → rs ≡ [] → box_round rs ≡ None
unfolding box_round
empty_is_none [] e = refl
empty_is_none (r ∷ rs) e = absurd (cc)

pub no_rectangles_no_box : NoRectanglesNoBox
no_rectangles_no_box rs = (none_is_empty rs, empty_is_none rs)

one_more : (r : Rectangle) (rs : List Rectangle) (o : Option Rectangle) → box_round rs ≡ o → ((b : Rectangle) → box_round rs ≡ Some b → IsLeastRound rs b) → IsLeastRound (r ∷ rs) (around_all r o)
one_more r rs None e least = rw (none_is_empty rs e) (record {
  holds = All-cons (λ s. LiesIn s r) r [] (itself r) (All-nil (λ s. LiesIn s r));
  least = λ c all. All-head (λ s. LiesIn s c) r [] all;
})
one_more r rs (Some b) e least =
    let later = least b e in
    record {
      holds = All-cons (λ s. LiesIn s (around r b)) r rs (first_in r b) (All-weaker (λ s. LiesIn s b) (λ s. LiesIn s (around r b)) (others_in r b) rs later.holds);
      least = λ c all. around_in r b c (All-head (λ s. LiesIn s c) r rs all) (later.least c (All-tail (λ s. LiesIn s c) r rs all));
    }

pub a_box_is_the_least : ABoxIsTheLeast
unfolding box_round
a_box_is_the_least [] b e = absurd (cc)
a_box_is_the_least (r ∷ rs) b e = rw (← some_same (around_all r (box_round rs)) b e) (one_more r rs (box_round rs) refl (a_box_is_the_least rs))

min_turned : (a b : ℤ) → int_min a b ≡ int_min b a
min_turned a b = omega (arith, ints, clamps)

max_turned : (a b : ℤ) → int_max a b ≡ int_max b a
max_turned a b = omega (arith, ints, clamps)

min_exchanged : (a b c : ℤ) → int_min a (int_min b c) ≡ int_min b (int_min a c)
min_exchanged a b c = omega (arith, ints, clamps)

max_exchanged : (a b c : ℤ) → int_max a (int_max b c) ≡ int_max b (int_max a c)
max_exchanged a b c = omega (arith, ints, clamps)

exchanged : (r s : Rectangle) (o : Option Rectangle) → around s (around_all r o) ≡ around r (around_all s o)
exchanged r s None = rw (min_turned s.x1 r.x1, min_turned s.y1 r.y1, max_turned s.x2 r.x2, max_turned s.y2 r.y2) refl
exchanged r s (Some b) = rw (min_exchanged s.x1 r.x1 b.x1, min_exchanged s.y1 r.y1 b.y1, max_exchanged s.x2 r.x2 b.x2, max_exchanged s.y2 r.y2 b.y2) refl

pub boxes_grow : BoxesGrow
unfolding box_round
boxes_grow [] r = refl
boxes_grow (s ∷ rs) r = ap (λ o. Some (around_all s o)) (boxes_grow rs r) ∙ ap Some (exchanged r s (box_round rs))
