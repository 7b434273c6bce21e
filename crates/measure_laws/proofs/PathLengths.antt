-- A segment of a path is at most 2 ^ 32 long, and there are no more of them than points that the path goes to.
use Rattle.std.proofs.Common.{◌≡◌, ◌≤◌, ℕ, zero, suc, ◌*◌, Bool, true, false, List, [], ◌∷◌, flat_map, Option, Some, None, Ok, Err, ℤ, ◌-ℤ◌, nat_abs, refl, arith, sum_by, if◌then◌else◌}
use Rattle.std.specs.Prelude.{nat_le}
use Rattle.std.proofs.lemmas.Bool.{leb-true}
use Rattle.std.proofs.lemmas.Int.{ints}
use Rattle.std.proofs.lemmas.List.Sums.{sum_by-cons, sum_by-append}
use Rattle.design_model.specs.Units.{are_digits, decimal_value, is_minus, signed, unsigned, whole}
use Rattle.design_model.specs.declared.geometry.Point.{Point}
use Rattle.design_model.specs.declared.number.NumFault.TheVariants.{Form, Range}
use Rattle.def_grammar.specs.Numbers.{int_of, number_or_0}
use Rattle.def_grammar.specs.Parts.{Coordinates}
use Rattle.def_grammar.specs.Points.{is_star, number_after, place_after, place_of}
use Rattle.def_grammar.specs.Wiring as wiring
use Rattle.def_grammar.specs.Wiring.{path_mask, path_virtual, path_rectangle, path_point, path_via, Path}
use Rattle.wire_rules.specs.Paths.{Piece, segment, diagonal, PathPlace, ViaUse, WireMakings, same_z, along_x, along_y, segment_between, array_of, shape_at, shapes_there, one_via, off_layer, other_layer, known_via, via_pieces, segment_to, past_at, or_same, layer_over, pieces_from}
use Rattle.wire_rules.specs.ViaShapes.{NamedShape}
use Rattle.entry_rules.specs.WireItems.{extension_of, items_after, start_of}
use Rattle.net_rules.specs.WirePieces.{path_pieces, place_at_start}
use Rattle.measure_rules.specs.Lengths.{piece_length}
use Rattle.measure_laws.proofs.Points.{item_points, path_points}

-- pieces together
abbrev pub lengths : List Piece → ℕ
lengths = sum_by piece_length

size_of_signed : (minus : Bool) (n : ℕ) → nat_abs (signed minus n) ≡ n
size_of_signed false n = refl
size_of_signed true zero = refl
size_of_signed true (suc n) = refl

read_within : (b c minus : Bool) (n m : ℕ) → nat_le n m ≡ c → nat_abs (number_or_0 (if b then (if c then Ok (signed minus n) else Err Range) else Err Form)) ≤ m
read_within true true minus n m e = let same = size_of_signed minus n in let small = leb-true n m e in omega (arith, same, small)
read_within true false minus n m e = omega arith
read_within false c minus n m e = omega arith

-- what a word is taken as, whatever it is
pub int_within : (w : List ℕ) → nat_abs (int_of w) ≤ 2147483647
unfolding whole
int_within w = read_within (are_digits (unsigned w)) (nat_le (decimal_value (unsigned w)) 2147483647) (is_minus w) (decimal_value (unsigned w)) 2147483647 refl

-- a point whose coordinates are in the range of numbers
pub record IsWithin (p : Point) : Type 0 where
  pub x : nat_abs p.x ≤ 2147483647
  pub y : nat_abs p.y ≤ 2147483647

after_within : (before : ℤ) (w : List ℕ) → nat_abs before ≤ 2147483647 → nat_abs (number_after before w) ≤ 2147483647
after_within before w small = by (is_star w)
  where
    by : (b : Bool) → nat_abs (if b then before else int_of w) ≤ 2147483647
    by true = small
    by false = int_within w

place_within : (before : Point) (at : Coordinates) → IsWithin before → IsWithin (place_after before at)
place_within before at small = record { x = after_within before.x at.x small.x; y = after_within before.y at.y small.y }

far : (a b : ℤ) → nat_abs a ≤ 2147483647 → nat_abs b ≤ 2147483647 → nat_abs (b -ℤ a) ≤ 4294967296
far a b small_a small_b = omega (arith, ints)

segment_by : (b c : Bool) (s t : NamedShape) (n m k : ℕ) → n ≤ k → m ≤ k → piece_length (if b then segment s n else (if c then segment t m else diagonal)) ≤ k
segment_by true c s t n m k small_n small_m = small_n
segment_by false true s t n m k small_n small_m = small_m
segment_by false false s t n m k small_n small_m = omega arith

segment_within : (layer : List ℕ) (width : ℤ) (a : Point) (past_a : ℤ) (b : Point) (past_b : ℤ) → IsWithin a → IsWithin b → piece_length (segment_between layer width a past_a b past_b) ≤ 4294967296
segment_within layer width a past_a b past_b small_a small_b =
    segment_by (same_z a.y b.y) (same_z a.x b.x) (record { layer = layer; box = along_x a past_a b past_b width }) (record { layer = layer; box = along_y a past_a b past_b width })
    (nat_abs (b.x -ℤ a.x)) (nat_abs (b.y -ℤ a.y)) 4294967296 (far a.x b.x small_a.x small_b.x) (far a.y b.y small_a.y small_b.y)

-- pieces of which none has a length
pub no_lengths : {A : Type 0} (f : A → List Piece) → ((a : A) → lengths (f a) ≡ 0) → (xs : List A) → lengths (flat_map f xs) ≡ 0
no_lengths f none [] = refl
no_lengths f none (x ∷ xs) = let here = none x in let later = no_lengths f none xs in omega (arith, here, later, sum_by-append piece_length (f x) (flat_map f xs))

shapes_none : (u : ViaUse) (at : Point) (is_first : Bool) (shapes : List NamedShape) → lengths (shapes_there u at is_first shapes) ≡ 0
shapes_none u at is_first [] = refl
shapes_none u at is_first (s ∷ shapes) = let later = shapes_none u at false shapes in omega (arith, later, sum_by-cons piece_length (shape_at u at is_first s) (shapes_there u at false shapes))

-- vias have none
pub via_none : (shapes : List NamedShape) (u : ViaUse) (at : Point) → lengths (one_via shapes u at) ≡ 0
via_none shapes u at = shapes_none u at true shapes

off_none : (name : List ℕ) (o : Option (List ℕ)) → lengths (off_layer name o) ≡ 0
off_none name None = refl
off_none name (Some other) = refl

module _ (rules : WireMakings) where
  known_none : (layer : List ℕ) (at : Point) (u : ViaUse) (o : Option (List (List ℕ))) → lengths (known_via rules layer at u o) ≡ 0
  known_none layer at u None = refl
  known_none layer at u (Some layers) =
      let here = no_lengths (one_via (rules.via_shapes u.name) u) (via_none (rules.via_shapes u.name) u) (array_of u at) in
      let off = off_none u.name (other_layer layer layers) in
      omega (arith, here, off, sum_by-append piece_length (flat_map (one_via (rules.via_shapes u.name) u) (array_of u at)) (off_layer u.name (other_layer layer layers)))

  module _ {Via : Type 0} (use_of : Via → ViaUse) where
    from_within : (p : PathPlace) (at : Point) (is : List (wiring.PathItem Via)) → IsWithin p.at → IsWithin at → lengths (pieces_from rules p (items_after use_of at is)) ≤ 4294967296 * sum_by item_points is
    unfolding pieces_from items_after
    from_within p at [] small_p small = omega arith
    from_within p at (path_mask word ∷ is) small_p small = from_within p at is small_p small
    from_within p at (path_virtual to ∷ is) small_p small =
        let there = place_after at to in
        let near = place_within at to small in
        from_within (record { layer = p.layer; at = there; past = None }) there is near near
    from_within p at (path_rectangle corners ∷ is) small_p small = from_within p at is small_p small
    from_within p at (path_point to ∷ is) small_p small =
        let there = place_after at to.at in
        let past = extension_of to in
        let near = place_within at to.at small in
        let after : PathPlace = record { layer = p.layer; at = there; past = past } in
        let later = from_within after there is near near in
        let here = segment_within p.layer (rules.width p.layer) p.at (past_at rules p.layer p.past) there (past_at rules p.layer past) small_p near in
        let left = sum_by-cons piece_length (segment_to rules p there past) (pieces_from rules after (items_after use_of there is)) in
        let right = sum_by-cons item_points (path_point {Via = Via} to) is in
        omega (arith, here, later, left, right)
    from_within p at (path_via via ∷ is) small_p small =
        let u = use_of via in
        let after : PathPlace = record { layer = or_same p.layer (layer_over p.layer (rules.via_layers u.name)); at = p.at; past = p.past } in
        let later = from_within after at is small_p small in
        let here = known_none p.layer p.at u (rules.via_layers u.name) in
        let left = sum_by-append piece_length (via_pieces rules p.layer p.at u) (pieces_from rules after (items_after use_of at is)) in
        omega (arith, here, later, left)

    -- the pieces of a path
    pub path_within : (layer : List ℕ) (p : Path Via) → lengths (path_pieces use_of rules layer p) ≤ 4294967296 * path_points p
    path_within layer p =
        let small : IsWithin (place_of p.start.at) = record { x = int_within p.start.at.x; y = int_within p.start.at.y } in
        from_within (place_at_start use_of layer p) (start_of use_of p) p.items small small
