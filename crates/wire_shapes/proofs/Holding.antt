-- The rectangle of a wire holds the points that it is between; and vias are turned back.
use Rattle.std.proofs.Common.{◌≡◌, ℕ, suc, Bool, true, false, List, [], ◌∷◌, map, ℤ, pos, ◌+ℤ◌, ◌-ℤ◌, ◌≤ℤ◌, if◌then◌else◌, subst, refl, ap, ◌∙◌, arith}
use Rattle.std.specs.Int.Signed.{le_z}
use Rattle.std.specs.List.{All}
use Rattle.std.proofs.lemmas.Int.{ints}
use Rattle.design_model.specs.declared.geometry.Orient.{Orient}
use Rattle.design_model.specs.declared.geometry.Point.{Point}
use Rattle.design_model.specs.Geometry.{Rectangle, moved, turned}
use Rattle.orient_geom.specs.Laws.{inverse}
use Rattle.orient_geom.proofs.Turning.{turning_back}
use Rattle.wire_rules.specs.Paths.{across, along_x, along_y, diagonal, same_z, segment, stretch, turned_shape}
use Rattle.wire_rules.specs.ViaShapes.{NamedShape}
use Rattle.wire_shapes.specs.Laws.{Holds, IsOrdered, SegmentHoldsItsEnds, TurningViasBack, origin}

record Between (s : ℤ × ℤ) (z : ℤ) : Type 0 where
  low : s.0 ≤ℤ z
  high : z ≤ℤ s.1

stretched : (a pa b pb : ℤ) (t : Bool) → le_z a b ≡ t → pos 0 ≤ℤ pa → pos 0 ≤ℤ pb
    → Between (if t then (a -ℤ pa, b +ℤ pb) else (b -ℤ pb, a +ℤ pa)) a × Between (if t then (a -ℤ pa, b +ℤ pb) else (b -ℤ pb, a +ℤ pa)) b
stretched a pa b pb true e p q =
    let h : a ≤ℤ b = grind (arith, ints) in
    (record { low = omega (arith, ints); high = omega (arith, ints) }, record { low = omega (arith, ints); high = omega (arith, ints) })
stretched a pa b pb false e p q =
    let h : b ≤ℤ a = grind (arith, ints) in
    (record { low = omega (arith, ints); high = omega (arith, ints) }, record { low = omega (arith, ints); high = omega (arith, ints) })

in_stretch : (a pa b pb : ℤ) → pos 0 ≤ℤ pa → pos 0 ≤ℤ pb → Between (stretch a pa b pb) a × Between (stretch a pa b pb) b
in_stretch a pa b pb p q = stretched a pa b pb (le_z a b) refl p q

in_middle : (c w : ℤ) → pos 0 ≤ℤ w → Between (across c w) c
in_middle c w h = record { low = omega (arith, ints); high = omega (arith, ints) }

same_is : (a b : ℤ) → same_z a b ≡ true → a ≡ b
same_is a b e = grind (arith, ints)

module _ (layer : List ℕ) (width : ℤ) (a : Point) (pa : ℤ) (b : Point) (pb : ℤ) (wide : pos 0 ≤ℤ width) (past_a : pos 0 ≤ℤ pa) (past_b : pos 0 ≤ℤ pb) where
  lying : a.y ≡ b.y → Holds (along_x a pa b pb width) a × Holds (along_x a pa b pb width) b
  lying e =
      let x = in_stretch a.x pa b.x pb past_a past_b in
      let y = in_middle a.y width wide in
      let z : Between (across a.y width) b.y = subst (λ (v : ℤ). Between (across a.y width) v) e y in
      (record { left = (x.0).low; right = (x.0).high; below = y.low; above = y.high }, record { left = (x.1).low; right = (x.1).high; below = z.low; above = z.high })

  standing : a.x ≡ b.x → Holds (along_y a pa b pb width) a × Holds (along_y a pa b pb width) b
  standing e =
      let y = in_stretch a.y pa b.y pb past_a past_b in
      let x = in_middle a.x width wide in
      let z : Between (across a.x width) b.x = subst (λ (v : ℤ). Between (across a.x width) v) e x in
      (record { left = x.low; right = x.high; below = (y.0).low; above = (y.0).high }, record { left = z.low; right = z.high; below = (y.1).low; above = (y.1).high })

  holds : (s : NamedShape) (box : Rectangle) (length n : ℕ) → segment (record { layer = layer; box = box }) n ≡ segment s length → Holds box a × Holds box b → Holds s.box a × Holds s.box b
  holds s box length n e h =
      let shape : record { layer = layer; box = box } ≡ s = cc in
      subst (λ (r : NamedShape). Holds r.box a × Holds r.box b) shape h

  either : (t u : Bool) (n m length : ℕ) (s : NamedShape) → same_z a.y b.y ≡ t → same_z a.x b.x ≡ u
      → (if t then segment (record { layer = layer; box = along_x a pa b pb width }) n else (if u then segment (record { layer = layer; box = along_y a pa b pb width }) m else diagonal)) ≡ segment s length
      → Holds s.box a × Holds s.box b
  either true u n m length s e f is = holds s (along_x a pa b pb width) length n is (lying (same_is a.y b.y e))
  either false true n m length s e f is = holds s (along_y a pa b pb width) length m is (standing (same_is a.x b.x f))
  either false false n m length s e f is = cc

pub segment_holds_its_ends : SegmentHoldsItsEnds
segment_holds_its_ends layer width a pa b pb s length wide past_a past_b is =
    either layer width a pa b pb wide past_a past_b (same_z a.y b.y) (same_z a.x b.x) _ _ length s refl refl is

still : (z : ℤ) → z +ℤ pos 0 ≡ z
still z = omega (arith, ints)

not_moved : (r : Rectangle) → moved (pos 0) (pos 0) r ≡ r
not_moved r = rw (still r.x1, still r.y1, still r.x2, still r.y2) refl

turned_there : (o : Orient) (s : NamedShape) → turned_shape o origin s ≡ record { layer = s.layer; box = turned o s.box }
turned_there o s = ap (λ (r : Rectangle). record { layer = s.layer; box = r }) (not_moved (turned o s.box))

shape_back : (o : Orient) (s : NamedShape) → IsOrdered s → turned_shape (inverse o) origin (turned_shape o origin s) ≡ s
shape_back o s h =
    ap (turned_shape (inverse o) origin) (turned_there o s)
    ∙ turned_there (inverse o) (record { layer = s.layer; box = turned o s.box })
    ∙ ap (λ (r : Rectangle). record { layer = s.layer; box = r }) (turning_back o s.box h.wide h.high)

pub turning_vias_back : TurningViasBack
turning_vias_back o [] all = refl
turning_vias_back o (s ∷ ss) all =
    let first : IsOrdered s = all 0 s (omega arith) in
    let later : All IsOrdered ss = λ k d few. all (suc k) d (omega arith) in
    ap (λ (z : NamedShape). z ∷ map (turned_shape (inverse o) origin) (map (turned_shape o origin) ss)) (shape_back o s first)
    ∙ ap (λ (zs : List NamedShape). s ∷ zs) (turning_vias_back o ss later)
