-- Densities to which the boxes of statements are added one after the other.
use Rattle.std.proofs.Common.{◌≡◌, ℕ, ◌+◌, ◌<◌, List, [], ◌∷◌, ◌++◌, Option, Some, None, get_or, length, map, take, refl, sym, ap, ◌∙◌, subst}
use Rattle.std.specs.List.{cons_option, filter_map}
use Rattle.std.specs.Option.{option_map}
use Rattle.std.proofs.lemmas.List.{map-append, take_more}
use Rattle.std.proofs.lemmas.List.Elements.{filter_map-append}
use Rattle.design_model.specs.Geometry.{Rectangle}
use Rattle.design_rules.specs.Boxes.{Boxed}
use Rattle.lef_grammar.specs.Measures.{Shape}
use Rattle.cell_sums.specs.Tables.{CellTable}
use Rattle.reports.specs.Densities.{HoldsMore, box_shape, box_shapes}
use Rattle.reports.proofs.DensitySteps.{more_after}

shape_of_one : (o : Option Boxed) → box_shapes (option_map (λ b. b.box) o) ≡ map box_shape (cons_option o [])
shape_of_one None = refl
shape_of_one (Some b) = refl

-- things that are seen as others, of which some have a box
module _ {X R : Type 0} (view : X → R) (box_of : R → Option Boxed) (xs : List X) (i : ℕ) where
  abbrev shapes : List X → List Shape
  shapes ys = map box_shape (filter_map box_of (map view ys))

  -- the one at a place is added to those before it
  pub box_added : (x : X) (r : Option Rectangle) (old now new : CellTable) → i < length xs → x ≡ get_or xs i x → r ≡ option_map (λ b. b.box) (box_of (view x)) → HoldsMore (shapes (take i xs)) old now
      → HoldsMore (box_shapes r) now new → HoldsMore (shapes (take (i + 1) xs)) old new
  box_added x r old now new below is boxed before more =
      let so_far = take i xs in
      let added = ap box_shapes boxed ∙ shape_of_one (box_of (view x)) in
      let further : shapes (take (i + 1) xs) ≡ shapes so_far ++ box_shapes r =
      ap shapes (take_more xs i x below ∙ ap (λ y. so_far ++ y ∷ []) (sym is))
      ∙ ap (λ ys. map box_shape (filter_map box_of ys)) (map-append view so_far (x ∷ []))
      ∙ ap (map box_shape) (filter_map-append box_of (map view so_far) (view x ∷ []))
      ∙ map-append box_shape (filter_map box_of (map view so_far)) (cons_option (box_of (view x)) [])
      ∙ ap (λ ss. shapes so_far ++ ss) (sym added) in
      subst (λ ss. HoldsMore ss old new) (sym further) (more_after (shapes so_far) (box_shapes r) old now new before more)
