-- The shape of a wire between two points, from its spans.
use Rattle.std.proofs.Common.{◌≡◌, ℕ, true, false, List, ℤ, ◌-ℤ◌, nat_abs, refl, arith}
use Rattle.std.proofs.lemmas.Int.{ints}
use Rattle.design_model.specs.declared.geometry.Point.{Point}
use Rattle.design_model.specs.Geometry.{Rectangle}
use Rattle.wire_rules.specs.Paths.{across, along_x, along_y, same_z, segment, diagonal, segment_between, stretch}
use Rattle.wire_shapes.specs.SpanViews.{IsSpan, box_of}

pub box_is : (x y : ℤ × ℤ) (low high bottom top : ℤ) (box : Rectangle) → IsSpan x low high → IsSpan y bottom top → box ≡ box_of (low, high) (bottom, top) → box ≡ box_of x y
box_is x y low high bottom top box across up e = rw (e, across.from, across.to, up.from, up.to) refl

pub stretch_same : (a pa b pb c pc d pd low high : ℤ) → a ≡ c → pa ≡ pc → b ≡ d → pb ≡ pd → IsSpan (stretch a pa b pb) low high → IsSpan (stretch c pc d pd) low high
stretch_same a pa b pb c pc d pd low high e f g h s = rw (← e, ← f, ← g, ← h) s

pub across_same : (a w b v low high : ℤ) → a ≡ b → w ≡ v → IsSpan (across a w) low high → IsSpan (across b v) low high
across_same a w b v low high e f s = rw (← e, ← f) s

same_true : (a b : ℤ) → a ≡ b → same_z a b ≡ true
same_true a b e = grind (arith, ints)

same_false : (a b : ℤ) → (a ≡ b → ⊥) → same_z a b ≡ false
same_false a b differ = grind (arith, ints)

module _ (layer : List ℕ) (width : ℤ) (a : Point) (past_a : ℤ) (b : Point) (past_b : ℤ) where
  pub lies_in_x : (box : Rectangle) (length : ℕ) → a.y ≡ b.y → box ≡ along_x a past_a b past_b width → length ≡ nat_abs (b.x -ℤ a.x)
      → segment (record { layer = layer; box = box }) length ≡ segment_between layer width a past_a b past_b
  lies_in_x box length same e f = rw (same_true a.y b.y same, e, f) refl

  pub lies_in_y : (box : Rectangle) (length : ℕ) → (a.y ≡ b.y → ⊥) → a.x ≡ b.x → box ≡ along_y a past_a b past_b width → length ≡ nat_abs (b.y -ℤ a.y)
      → segment (record { layer = layer; box = box }) length ≡ segment_between layer width a past_a b past_b
  lies_in_y box length differ same e f = rw (same_false a.y b.y differ, same_true a.x b.x same, e, f) refl

  pub lies_across : (a.y ≡ b.y → ⊥) → (a.x ≡ b.x → ⊥) → diagonal ≡ segment_between layer width a past_a b past_b
  lies_across differ none = rw (same_false a.y b.y differ, same_false a.x b.x none) refl
