-- How many shapes of a set are near one, and how many meet it.
use Rattle.std.proofs.Common.{◌≡◌, ◌∙◌, ℕ, zero, suc, true, nat_lt, List, [], ◌∷◌, length, map, Option, Some, refl, sym, ap, arith, slice_get}
use Rattle.std.specs.List.{cons_option}
use Rattle.std.specs.Option.{option_map}
use Rattle.design_model.specs.declared.identifier.ShapeId.{ShapeId}
use Rattle.lef_grammar.specs.Measures.{Shape}
use Rattle.connection_rules.specs.NetLines as net_lines
use Rattle.net_lists.specs.PartCuts.{shape_view}
use Rattle.net_lists.specs.declared.parts.NetShape.{NetShape}
use Rattle.shape_index.specs.Near.{met_shapes, near_shapes}
use Rattle.shape_index.specs.Shapes.{met_count}
use Rattle.shape_index.specs.Tiles.{near_count}
use Rattle.shape_index.specs.declared.shape.Shape.{Shape as Stored}
use Rattle.placed_shapes.specs.Placed.{placed_shapes}
use Rattle.placed_shapes.proofs.NearPlaces.{met_placed, near_placed}
use Rattle.named_shapes.specs.Named.{HaveNames, named, named_by, named_shapes}
use Rattle.named_shapes.proofs.NamedLists.{first_has}

place_has : (names : List (List ℕ)) (n : ℕ) → nat_lt n (length names) ≡ true → (net : List ℕ) × (slice_get names n ≡ Some net)
place_has [] n h = absurd (grind (arith, h))
place_has (m ∷ names) zero h = (m, refl)
place_has (m ∷ names) (suc n) h = place_has names n (grind (arith, h))

-- a shape whose place has a name is among those by their names
named_is_there : (names : List (List ℕ)) (p : ℕ × Shape) (rest : List net_lines.NetShape) → nat_lt p.0 (length names) ≡ true
    → map (λ (n : net_lines.NetShape). n.shape) (cons_option (named_by names p) rest) ≡ p.1 ∷ map (λ (n : net_lines.NetShape). n.shape) rest
named_is_there names p rest below =
    ap (λ (o : Option (List ℕ)). map (λ (n : net_lines.NetShape). n.shape) (cons_option (option_map (λ net. named net p.1) o) rest)) (place_has names p.0 below).1

-- the shapes by their names are those that are placed
pub plain_named : (names : List (List ℕ)) (placed : List (ℕ × Shape)) → HaveNames names placed → map (λ p. p.1) placed ≡ map (λ (n : net_lines.NetShape). n.shape) (named_shapes names placed)
plain_named names [] have = refl
plain_named names (p ∷ placed) have =
    let parts = first_has names p placed have in
    ap (λ (l : List Shape). p.1 ∷ l) (plain_named names placed parts.1) ∙ sym (named_is_there names p (named_shapes names placed) parts.0)

-- by their names as many are near as were stored, and as many meet
pub near_entries : (names : List (List ℕ)) (s : NetShape) (es : List (ShapeId × Stored)) → HaveNames names (placed_shapes es)
    → near_count s.layer s.rect es ≡ near_shapes (shape_view s) (map (λ n. n.shape) (named_shapes names (placed_shapes es)))
near_entries names s es have = near_placed s es ∙ ap (near_shapes (shape_view s)) (plain_named names (placed_shapes es) have)

pub met_entries : (names : List (List ℕ)) (s : NetShape) (es : List (ShapeId × Stored)) → HaveNames names (placed_shapes es)
    → met_count s.layer s.rect es ≡ met_shapes (shape_view s) (map (λ n. n.shape) (named_shapes names (placed_shapes es)))
met_entries names s es have = met_placed s es ∙ ap (met_shapes (shape_view s)) (plain_named names (placed_shapes es) have)
