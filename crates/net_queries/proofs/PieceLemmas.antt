-- Classes by labels, and the labels after all joins.
use Rattle.std.proofs.Common.{◌≡◌, ℕ, suc, Bool, List, [], ◌∷◌, length, map, drop, refl, sym, ap, ap₂, subst, ◌∙◌}
use Rattle.std.specs.List.{flat_map}
use Rattle.std.proofs.lemmas.List.{length-map}
use Rattle.design_model.specs.declared.identifier.ShapeId.{ShapeId}
use Rattle.shape_rules.specs.Classes.{bare, holding, numbers}
use Rattle.connection_rules.specs.NetParts.{Part}
use Rattle.connection_rules.specs.PartClasses.{part_labels, pin_marks}
use Rattle.net_lists.specs.PartCuts.{parts_of}
use Rattle.net_lists.specs.declared.parts.NetShape.{NetShape}
use Rattle.net_lists.specs.declared.parts.PartHead.{PartHead}
use Rattle.part_classes.specs.Laws.{OrderIsOpen}
use Rattle.part_classes.proofs.LabelLaws.{length_numbers}
use Rattle.shape_index.specs.declared.shape.Shape.{Shape as Stored}
use Rattle.net_queries.specs.Held.{HoldsParts, shapes_from}
use Rattle.net_queries.specs.Joining.{JoinedBy, joins_of}
use Rattle.net_queries.specs.PieceLaws.{ShapesInAnyOrder}
use Rattle.net_queries.proofs.Joins.{same_length}
use Rattle.net_queries.proofs.Parted.{labels_found, labels_same}

pub alike : OrderIsOpen → ShapesInAnyOrder
alike law ps qs marks same =
    let size : length ps ≡ length qs = sym (length-map ps (λ (p : Part). p.is_pin)) ∙ ap length marks ∙ length-map qs (λ (p : Part). p.is_pin) in
    let labels = labels_same law ps qs size same in
    record { classes = ap₂ holding marks labels; floating = ap₂ bare marks labels }

marks_cut : (ps : List PartHead) (ss : List NetShape) → pin_marks (parts_of ps ss) ≡ map (λ p. p.is_pin) ps
marks_cut [] ss = refl
marks_cut (p ∷ ps) ss = ap (λ ms. p.is_pin ∷ ms) (marks_cut ps (drop p.shapes ss))

length_cut : (ps : List PartHead) (ss : List NetShape) → length (parts_of ps ss) ≡ length ps
length_cut [] ss = refl
length_cut (p ∷ ps) ss = ap suc (length_cut ps (drop p.shapes ss))

-- the labels after the joins that are found in a set, and the marks of the pins
module _ (first : ℕ) (ps : List PartHead) (ss : List NetShape) (entries : List (ShapeId × Stored)) (alone after : List ℕ) (marks : List Bool)
    (begun : alone ≡ numbers 0 (length ps)) (marked : marks ≡ map (λ p. p.is_pin) ps)
    (made : JoinedBy alone (flat_map (joins_of first (length alone) entries) (shapes_from 0 (parts_of ps ss))) after) where
  pub as_many : length marks ≡ length after
  as_many = ap length marked ∙ length-map ps (λ (p : PartHead). p.is_pin) ∙ sym (same_length _ _ _ made ∙ ap length begun ∙ length_numbers 0 (length ps))

  labels_of_net : OrderIsOpen → HoldsParts first (parts_of ps ss) entries → after ≡ part_labels (parts_of ps ss)
  labels_of_net law held =
      let n : length (parts_of ps ss) ≡ length ps = length_cut ps ss in
      let start : alone ≡ numbers 0 (length (parts_of ps ss)) = begun ∙ ap (numbers 0) (sym n) in
      let size : length alone ≡ length (parts_of ps ss) = ap length start ∙ length_numbers 0 (length (parts_of ps ss)) in
      let counted : JoinedBy alone (flat_map (joins_of first (length (parts_of ps ss)) entries) (shapes_from 0 (parts_of ps ss))) after =
      subst (λ n. JoinedBy alone (flat_map (joins_of first n entries) (shapes_from 0 (parts_of ps ss))) after) size made in
      labels_found law first (parts_of ps ss) entries after held
      (subst (λ ls. JoinedBy ls (flat_map (joins_of first (length (parts_of ps ss)) entries) (shapes_from 0 (parts_of ps ss))) after) start counted)
      (length_numbers 0 (length (parts_of ps ss)))

  pub pieces : OrderIsOpen → (count : List Bool → List ℕ → ℕ) (k : ℕ) → k ≡ count marks after → HoldsParts first (parts_of ps ss) entries → k ≡ count (pin_marks (parts_of ps ss)) (part_labels (parts_of ps ss))
  pieces law count k is held = is ∙ ap₂ count (marked ∙ sym (marks_cut ps ss)) (labels_of_net law held)
