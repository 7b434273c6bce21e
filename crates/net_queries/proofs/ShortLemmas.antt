-- The line on two shapes, whichever comes first.
use Rattle.std.proofs.Common.{◌≡◌, ℕ, ℤ, Bool, true, false, not, ◌&&◌, List, [], ◌∷◌, refl, sym, ap, ap₂, ◌∙◌, arith, if◌then◌else◌}
use Rattle.std.specs.Prelude.{◌==◌}
use Rattle.std.specs.Int.{int_min, int_max}
use Rattle.std.specs.Ordering.{is_lt, ordering_reverse}
use Rattle.std.specs.Str.{bytes_eq}
use Rattle.std.specs.declared.cmp.Ordering.{Ordering}
use Rattle.std.specs.declared.cmp.Ordering.TheVariants.{Less, Equal, Greater}
use Rattle.std.proofs.lemmas.Cmp.{nat_list_cmp_total}
use Rattle.std.proofs.lemmas.Int.{ints}
use Rattle.std.proofs.lemmas.Map.Lookups.{exact_bytes}
use Rattle.std.proofs.lemmas.Slice.Eq.{bytes_eq-Decides}
use Rattle.design_model.specs.Geometry.{Rectangle}
use Rattle.design_model.specs.Order.{byte_cmp, greater, lesser}
use Rattle.shape_rules.specs.Meeting.{meets, shared}
use Rattle.connection_rules.specs.NetLines.{NetShape, short_line}
use Rattle.connection_rules.specs.PartClasses.{touch}
use Rattle.net_queries.specs.ShortLaws.{ShortIsSymmetric}
use Rattle.net_queries.proofs.Joins.{split}
use Rattle.net_queries.proofs.Parted.{touch_turned}

abbrev Name : Type 0
Name = List ℕ

lesser_by : (r : Ordering) (a b : Name) → (r ≡ Equal → a ≡ b) → (if is_lt (ordering_reverse r) then b else a) ≡ (if is_lt r then a else b)
lesser_by Less a b h = refl
lesser_by Equal a b h = h refl
lesser_by Greater a b h = refl

lesser_turned : (a b : Name) → lesser a b ≡ lesser b a
lesser_turned a b = ap (λ (r : Ordering). if is_lt r then b else a) (nat_list_cmp_total.antisymm b a) ∙ lesser_by (byte_cmp a b) a b (exact_bytes a b)

greater_by : (r : Ordering) (a b : Name) → (r ≡ Equal → a ≡ b) → (if is_lt (ordering_reverse r) then a else b) ≡ (if is_lt r then b else a)
greater_by Less a b h = refl
greater_by Equal a b h = sym (h refl)
greater_by Greater a b h = refl

greater_turned : (a b : Name) → greater a b ≡ greater b a
greater_turned a b = ap (λ (r : Ordering). if is_lt r then a else b) (nat_list_cmp_total.antisymm b a) ∙ greater_by (byte_cmp a b) a b (exact_bytes a b)

min_turned : (x y : ℤ) → int_min x y ≡ int_min y x
min_turned x y = grind (arith, ints)

max_turned : (x y : ℤ) → int_max x y ≡ int_max y x
max_turned x y = grind (arith, ints)

shared_turned : (a b : Rectangle) → shared a b ≡ shared b a
shared_turned a b = cc (max_turned a.x1 b.x1, max_turned a.y1 b.y1, min_turned a.x2 b.x2, min_turned a.y2 b.y2)

same_name_turned : (a b : Name) → bytes_eq a b ≡ bytes_eq b a
same_name_turned a b =
    split (bytes_eq a b)
    (λ t. t ∙ sym ((bytes_eq-Decides b a).1 (sym ((bytes_eq-Decides a b).0 t))))
    (λ t. split (bytes_eq b a)
    (λ u. absurd (grind (arith, t, (bytes_eq-Decides a b).1 (sym ((bytes_eq-Decides b a).0 u)))))
    (λ u. t ∙ sym u))

and_second : (p q r : Bool) → (p && (q && r)) ≡ true → q ≡ true
and_second true true r h = refl
and_second true false r h = h
and_second false q r h = absurd (cc)

line_turned : (name_of : ℕ → Name) (a b : NetShape) → a.shape.layer ≡ b.shape.layer
    → short_line name_of a.net b.net a.shape.layer (shared a.shape.box b.shape.box) ≡ short_line name_of b.net a.net b.shape.layer (shared b.shape.box a.shape.box)
line_turned name_of a b layer =
    cc (lesser_turned a.net b.net, greater_turned a.net b.net, shared_turned a.shape.box b.shape.box, layer)

pub short_is_symmetric : ShortIsSymmetric
short_is_symmetric name_of a b =
    let test = not (bytes_eq a.net b.net) && touch a.shape b.shape in
    let turned : test ≡ (not (bytes_eq b.net a.net) && touch b.shape a.shape) =
    ap₂ (λ p q. not p && q) (same_name_turned a.net b.net) (touch_turned a.shape b.shape) in
    split test
    (λ t. let layer : a.shape.layer ≡ b.shape.layer = grind (arith, and_second (not (bytes_eq a.net b.net)) (a.shape.layer == b.shape.layer) (meets a.shape.box b.shape.box) t) in
    ap (λ p. if p then short_line name_of a.net b.net a.shape.layer (shared a.shape.box b.shape.box) ∷ [] else []) t
    ∙ ap (λ l. l ∷ []) (line_turned name_of a b layer)
    ∙ sym (ap (λ p. if p then short_line name_of b.net a.net b.shape.layer (shared b.shape.box a.shape.box) ∷ [] else []) (sym turned ∙ t)))
    (λ t. ap (λ p. if p then short_line name_of a.net b.net a.shape.layer (shared a.shape.box b.shape.box) ∷ [] else []) t
    ∙ sym (ap (λ p. if p then short_line name_of b.net a.net b.shape.layer (shared b.shape.box a.shape.box) ∷ [] else []) (sym turned ∙ t)))
