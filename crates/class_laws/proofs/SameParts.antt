-- The same parts hang together alike, in whatever order they stand.
use Rattle.std.proofs.Common.{◌≡◌, ◌<◌, ℕ, Bool, true, false, ◌&&◌, not, List, [], ◌∷◌, ◌++◌, append_assoc, refl, sym, ap, ap₂, arith, subst, sum_by, if◌then◌else◌}
use Rattle.std.specs.Prelude.{IsPermutation, ◌==◌, ℤ}
use Rattle.std.specs.Bool.{Decides}
use Rattle.std.specs.Ordering.{int_eq}
use Rattle.std.specs.Cmp.Lexicographic.{pointwise}
use Rattle.std.proofs.lemmas.Bool.Decides.{Decides-eqb, Decides-int_eq}
use Rattle.std.proofs.lemmas.List.Sorted.{IsPermutation-append_left, IsPermutation-cons, IsPermutation-refl, IsPermutation-sym, IsPermutation-to_front, IsPermutation-trans}
use Rattle.std.proofs.lemmas.List.Sums.{sum_by-append, sum_by-cons}
use Rattle.std.proofs.lemmas.Slice.Eq.{slice_eq-Decides}
use Rattle.lef_grammar.specs.Measures.{Shape}
use Rattle.connection_rules.specs.NetParts.{Part}
use Rattle.line_laws.specs.Lines.{SameThings}
use Rattle.net_queries.specs.PieceLaws.{PartsInAnyOrder}
use Rattle.class_laws.specs.OneMore.{SamePartsAreAlike}

-- the same things, of a kind that a test tells apart, are in an order that exchanges reach
module _ {A : Type 0} (test : A → A → Bool) (decides : (a b : A) → Decides (test a b) (a ≡ b)) where
  abbrev one_if : A → A → ℕ
  one_if x y = if test x y then 1 else 0

  record StandsIn (x : A) (ys : List A) : Type 0 where
    front : List A
    behind : List A
    is : ys ≡ front ++ x ∷ behind

  stands : (x : A) (ys : List A) → 0 < sum_by (one_if x) ys → StandsIn x ys
  stands x [] some = absurd (omega (arith, some))
  stands x (y ∷ ys) some = one (test x y) refl (stands x ys)
    where
      one : (b : Bool) → test x y ≡ b → (0 < sum_by (one_if x) ys → StandsIn x ys) → StandsIn x (y ∷ ys)
      one true is later = record { front = []; behind = ys; is = ap (λ (z : A). z ∷ ys) (sym ((decides x y).0 is)) }
      one false is later =
          let none : one_if x y ≡ 0 = ap (λ (b : Bool). if b then 1 else 0) is in
          let there = later (omega (arith, some, none, sum_by-cons (one_if x) y ys)) in
          record { front = y ∷ there.front; behind = there.behind; is = ap (λ (l : List A). y ∷ l) there.is }

  none_at_all : (ys : List A) → sum_by (λ (y : A). 1) ys ≡ 0 → ys ≡ []
  none_at_all [] h = refl
  none_at_all (y ∷ ys) h = absurd (omega (arith, h, sum_by-cons (λ (z : A). 1) y ys))

  permuted : (xs ys : List A) → SameThings xs ys → IsPermutation xs ys
  permuted [] ys same = subst (IsPermutation []) (sym (none_at_all ys (sym (same.sums (λ (y : A). 1))))) (IsPermutation-refl [])
  permuted (x ∷ xs) ys same =
      let own : one_if x x ≡ 1 = ap (λ (b : Bool). if b then 1 else 0) ((decides x x).1 refl) in
      let count = same.sums (one_if x) in
      let there = stands x ys (omega (arith, own, count, sum_by-cons (one_if x) x xs)) in
      let rest : SameThings xs (there.front ++ there.behind) = record {
        sums = λ w.
            let all = same.sums w in
            let is = ap (sum_by w) there.is in
            omega (arith, all, is, sum_by-cons w x xs, sum_by-append w there.front (x ∷ there.behind), sum_by-cons w x there.behind, sum_by-append w there.front there.behind);
      } in
      let first = IsPermutation-cons x xs (there.front ++ there.behind) (permuted xs (there.front ++ there.behind) rest) in
      let back = IsPermutation-sym (there.front ++ x ∷ []) (x ∷ there.front) (IsPermutation-to_front there.front x) in
      let moved = IsPermutation-append_left there.behind (x ∷ there.front) (there.front ++ x ∷ []) back in
      let placed = subst (IsPermutation (x ∷ (there.front ++ there.behind))) (append_assoc there.front (x ∷ []) there.behind) moved in
      subst (IsPermutation (x ∷ xs)) (sym there.is) (IsPermutation-trans (x ∷ xs) (x ∷ (there.front ++ there.behind)) (there.front ++ x ∷ there.behind) first placed)

-- parts are told apart
both : (b c : Bool) → (b && c) ≡ true → (b ≡ true) × (c ≡ true)
both true c h = (refl, h)
both false c h = absurd (cc)

both_are : (b c : Bool) → b ≡ true → c ≡ true → (b && c) ≡ true
both_are true c h g = g
both_are false c h g = absurd (cc)

abbrev same_box : Shape → Shape → Bool
same_box a b = int_eq a.box.x1 b.box.x1 && (int_eq a.box.y1 b.box.y1 && (int_eq a.box.x2 b.box.x2 && int_eq a.box.y2 b.box.y2))

abbrev same_shape : Shape → Shape → Bool
same_shape a b = (a.layer == b.layer) && same_box a b

abbrev shape_with : ℕ → (ℤ × ℤ) × (ℤ × ℤ) → Shape
shape_with layer ends = record { layer = layer; box = record { x1 = ends.0.0; y1 = ends.0.1; x2 = ends.1.0; y2 = ends.1.1 } }

shape_decides : (a b : Shape) → Decides (same_shape a b) (a ≡ b)
shape_decides a b = (
  λ yes.
      let parts = both (a.layer == b.layer) (same_box a b) yes in
      let x1 = both (int_eq a.box.x1 b.box.x1) (int_eq a.box.y1 b.box.y1 && (int_eq a.box.x2 b.box.x2 && int_eq a.box.y2 b.box.y2)) parts.1 in
      let y1 = both (int_eq a.box.y1 b.box.y1) (int_eq a.box.x2 b.box.x2 && int_eq a.box.y2 b.box.y2) x1.1 in
      let x2 = both (int_eq a.box.x2 b.box.x2) (int_eq a.box.y2 b.box.y2) y1.1 in
      let n = (Decides-eqb a.layer b.layer).0 parts.0 in
      let e = (Decides-int_eq a.box.x1 b.box.x1).0 x1.0 in
      let f = (Decides-int_eq a.box.y1 b.box.y1).0 y1.0 in
      let g = (Decides-int_eq a.box.x2 b.box.x2).0 x2.0 in
      let h = (Decides-int_eq a.box.y2 b.box.y2).0 x2.1 in
      ap₂ shape_with n (ap₂ (λ (p q : ℤ × ℤ). (p, q)) (ap₂ (λ (x y : ℤ). (x, y)) e f) (ap₂ (λ (x y : ℤ). (x, y)) g h)),
  λ same.
      both_are (a.layer == b.layer) _ ((Decides-eqb a.layer b.layer).1 (ap (λ (s : Shape). s.layer) same))
      (both_are (int_eq a.box.x1 b.box.x1) _ ((Decides-int_eq a.box.x1 b.box.x1).1 (ap (λ (s : Shape). s.box.x1) same))
      (both_are (int_eq a.box.y1 b.box.y1) _ ((Decides-int_eq a.box.y1 b.box.y1).1 (ap (λ (s : Shape). s.box.y1) same))
      (both_are (int_eq a.box.x2 b.box.x2) _ ((Decides-int_eq a.box.x2 b.box.x2).1 (ap (λ (s : Shape). s.box.x2) same))
      ((Decides-int_eq a.box.y2 b.box.y2).1 (ap (λ (s : Shape). s.box.y2) same))))),
)

abbrev same_bool : Bool → Bool → Bool
same_bool true b = b
same_bool false b = not b

bool_decides : (a b : Bool) → Decides (same_bool a b) (a ≡ b)
bool_decides true true = (λ yes. refl, λ same. refl)
bool_decides true false = (λ yes. absurd (cc), λ same. absurd (cc))
bool_decides false true = (λ yes. absurd (cc), λ same. absurd (cc))
bool_decides false false = (λ yes. refl, λ same. refl)

abbrev same_part : Part → Part → Bool
same_part p q = same_bool p.is_pin q.is_pin && pointwise same_shape p.shapes q.shapes

part_decides : (p q : Part) → Decides (same_part p q) (p ≡ q)
part_decides p q = (
  λ yes.
      let parts = both (same_bool p.is_pin q.is_pin) (pointwise same_shape p.shapes q.shapes) yes in
      let e = (bool_decides p.is_pin q.is_pin).0 parts.0 in
      let f = (slice_eq-Decides shape_decides p.shapes q.shapes (pointwise same_shape p.shapes q.shapes) refl).0 parts.1 in
      ap₂ (λ (b : Bool) (ss : List Shape). record { is_pin = b; shapes = ss }) e f,
  λ same.
      both_are (same_bool p.is_pin q.is_pin) _ ((bool_decides p.is_pin q.is_pin).1 (ap (λ (r : Part). r.is_pin) same))
      ((slice_eq-Decides shape_decides p.shapes q.shapes (pointwise same_shape p.shapes q.shapes) refl).1 (ap (λ (r : Part). r.shapes) same)),
)

pub same_parts : PartsInAnyOrder → SamePartsAreAlike
same_parts law ps qs same = law ps qs (permuted same_part part_decides ps qs same)
