-- What is left of a via, step by step.
use Rattle.std.proofs.Common.{◌≡◌, Bool, true, false, List, [], ◌∷◌, ◌++◌, flat_map, refl, ap, sym}
use Rattle.design_model.specs.declared.geometry.Point.{Point}
use Rattle.wire_rules.specs.Paths.{Piece, ViaUse, array_of, one_via, shape_at, shapes_there}
use Rattle.wire_rules.specs.ViaShapes.{NamedShape}
use Rattle.wire_shapes.specs.ViaLeft.{array_shapes}

module _ (u : ViaUse) where
  pub entered : (shapes : List NamedShape) (at : Point) (places : List Point) (note : List Piece) → array_of u at ≡ at ∷ places
      → (shapes_there u at true shapes ++ flat_map (one_via shapes u) places) ++ note ≡ array_shapes shapes u at ++ note
  entered shapes at places note e = ap (λ (ps : List Point). flat_map (one_via shapes u) ps ++ note) (sym e)

  no_shape : (places : List Point) → flat_map (one_via [] u) places ≡ []
  no_shape [] = refl
  no_shape (p ∷ ps) = no_shape ps

  module _ (all left : List NamedShape) (at : Point) (is_first : Bool) (places : List Point) where
    pub next_here : (s : NamedShape) (later : List NamedShape) (p : Piece) → left ≡ s ∷ later → p ≡ shape_at u at is_first s
        → shapes_there u at is_first left ++ flat_map (one_via all u) places ≡ p ∷ (shapes_there u at false later ++ flat_map (one_via all u) places)
    next_here s later p e f = rw (e, f) refl

    pub no_place : left ≡ [] → places ≡ [] → shapes_there u at is_first left ++ flat_map (one_via all u) places ≡ []
    no_place e f = rw (e, f) refl

    pub next_there : (there : Point) (later : List Point) (s : NamedShape) (others : List NamedShape) (p : Piece) → left ≡ [] → places ≡ there ∷ later → all ≡ s ∷ others → p ≡ shape_at u there true s
        → shapes_there u at is_first left ++ flat_map (one_via all u) places ≡ p ∷ (shapes_there u there false others ++ flat_map (one_via all u) later)
    next_there there later s others p e f g h = rw (e, f, h) (ap (λ (ss : List NamedShape). shapes_there u there true ss ++ flat_map (one_via all u) later) g)

    pub none_there : left ≡ [] → all ≡ [] → shapes_there u at is_first left ++ flat_map (one_via all u) places ≡ []
    none_there e f = rw (e, f) (no_shape places)
