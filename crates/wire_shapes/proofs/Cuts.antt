-- The box of a generated via's cuts, and how far its shapes reach.
use Rattle.std.proofs.Common.{◌≡◌, ℕ, zero, suc, ◌+◌, ◌≤◌, ◌^◌, List, [], ◌∷◌, drop, slice_get, Some, ℤ, pos, ◌+ℤ◌, ◌-ℤ◌, ap, ◌∙◌, refl, arith}
use Rattle.std.proofs.lemmas.Int.{ints}
use Rattle.design_model.specs.declared.geometry.Point.{Point}
use Rattle.design_model.specs.Geometry.{IsNear, IsNearRectangle, Rectangle, lower_left, moved, spanned, upper_right}
use Rattle.design_model.specs.Ranges.{IsBoxWithin, IsPointWithin, IsSize, IsWithin}
use Rattle.wire_rules.specs.ViaShapes.{centred, extent_of, grown}
use Rattle.wire_shapes.specs.SpanViews.{box_of}
use Rattle.wire_shapes.proofs.Bits.{size, word}
use Rattle.wire_shapes.proofs.Turned.{lower, upper}

pub extent_is : (n length : ℕ) (cut space : ℤ) → IsSize cut → IsSize space → pos length ≡ extent_of (pos n) (word cut) (word space) → pos length ≡ extent_of (pos n) cut space
extent_is n length cut space c s is =
    is
    ∙ ap (λ (z : ℤ). extent_of (pos n) z (word space)) (size cut c)
    ∙ ap (λ (z : ℤ). extent_of (pos n) cut z) (size space s)

pub cuts_are : (across along : ℕ) (wide tall x_low x_high y_low y_high : ℤ) (box : Rectangle) → pos across ≡ wide → pos along ≡ tall
    → x_low ≡ (centred (pos across)).0 → x_high ≡ (centred (pos across)).1 → y_low ≡ (centred (pos along)).0 → y_high ≡ (centred (pos along)).1
    → box ≡ box_of (x_low, x_high) (y_low, y_high) → box ≡ box_of (centred wide) (centred tall)
cuts_are across along wide tall x_low x_high y_low y_high box w t a b c d e = rw (e, a, b, c, d, ← w, ← t) refl

more : (m n : ℕ) (a b : ℤ) → IsWithin m a → IsWithin n b → IsWithin (m + n) (a +ℤ b)
more m n a b v w = record { low = omega (arith, ints); high = omega (arith, ints) }

less : (m n : ℕ) (a b : ℤ) → IsWithin m a → IsWithin n b → IsWithin (m + n) (a -ℤ b)
less m n a b v w = record { low = omega (arith, ints); high = omega (arith, ints) }

pub within_grown : (m n : ℕ) (by : Point) (r box : Rectangle) → box ≡ grown by r → IsBoxWithin m r → IsPointWithin n by → IsBoxWithin (m + n) box
within_grown m n by r box e b p =
    let x1 = less m n r.x1 by.x b.x1 p.x in
    let y1 = less m n r.y1 by.y b.y1 p.y in
    let x2 = more m n r.x2 by.x b.x2 p.x in
    let y2 = more m n r.y2 by.y b.y2 p.y in
    rw e (record { x1 = lower (m + n) _ _ x1 x2; y1 = lower (m + n) _ _ y1 y2; x2 = upper (m + n) _ _ x1 x2; y2 = upper (m + n) _ _ y1 y2 })

pub within_moved : (m n : ℕ) (by : Point) (r box : Rectangle) → box ≡ moved by.x by.y r → IsBoxWithin m r → IsPointWithin n by → IsBoxWithin (m + n) box
within_moved m n by r box e b p =
    rw e (record { x1 = more m n r.x1 by.x b.x1 p.x; y1 = more m n r.y1 by.y b.y1 p.y; x2 = more m n r.x2 by.x b.x2 p.x; y2 = more m n r.y2 by.y b.y2 p.y })

wide : (m n : ℕ) (z : ℤ) → m ≤ n → IsWithin m z → IsWithin n z
wide m n z h w = record { low = omega (arith, ints); high = omega (arith, ints) }

pub box_wider : (m n : ℕ) (r : Rectangle) → m ≤ n → IsBoxWithin m r → IsBoxWithin n r
box_wider m n r h b = record { x1 = wide m n r.x1 h b.x1; y1 = wide m n r.y1 h b.y1; x2 = wide m n r.x2 h b.x2; y2 = wide m n r.y2 h b.y2 }

near : (m : ℕ) (z : ℤ) → m ≤ 2 ^ 61 → IsWithin m z → IsNear z
near m z h w = record { low = omega (arith, ints); high = omega (arith, ints) }

pub box_near : (m : ℕ) (r : Rectangle) → m ≤ 2 ^ 61 → IsBoxWithin m r → IsNearRectangle r
box_near m r h b = record { x1 = near m r.x1 h b.x1; y1 = near m r.y1 h b.y1; x2 = near m r.x2 h b.x2; y2 = near m r.y2 h b.y2 }

pub grown_is : (by low high back forth : Point) (r box : Rectangle) → low ≡ lower_left r → high ≡ upper_right r
    → back ≡ record { x = low.x -ℤ by.x; y = low.y -ℤ by.y } → forth ≡ record { x = high.x +ℤ by.x; y = high.y +ℤ by.y } → box ≡ spanned back forth → box ≡ grown by r
grown_is by low high back forth r box l h b f e = rw (e, b, f, l, h) refl

lift : (i : ℕ) → suc i + 1 ≡ suc (i + 1)
lift i = omega arith

pub drop_there : {X : Type 0} (xs : List X) (i : ℕ) (x : X) → slice_get xs i ≡ Some x → drop i xs ≡ x ∷ drop (i + 1) xs
drop_there [] zero x h = cc
drop_there [] (suc i) x h = cc
drop_there (y ∷ ys) zero x h = cc
drop_there (y ∷ ys) (suc i) x h = rw (lift i) (drop_there ys i x h)
