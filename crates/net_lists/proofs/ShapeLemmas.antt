-- The shapes of all nets are those of the flat list.
use Rattle.std.proofs.Common.{◌≡◌, Bool, List, [], ◌∷◌, ◌++◌, length, map, flat_map, sum_by, drop, take, refl, sym, ap, ap₂, ◌∙◌}
use Rattle.std.proofs.lemmas.List.{map-append, nil_from_length, take-append-drop}
use Rattle.std.proofs.lemmas.Grind.{flat_map-append}
use Rattle.lef_grammar.specs.Measures.{Shape}
use Rattle.connection_rules.specs.NetLines as net_lines
use Rattle.connection_rules.specs.NetLines.{shapes_of_net, shapes_of_part}
use Rattle.connection_rules.specs.NetParts.{Net, Part}
use Rattle.net_lists.specs.Counts.{part_count, shape_count}
use Rattle.net_lists.specs.NetViews.{net_with}
use Rattle.net_lists.specs.PartCuts.{cut, parts_of, shape_view}
use Rattle.net_lists.specs.declared.parts.NetHead.{NetHead}
use Rattle.net_lists.specs.declared.parts.NetShape.{NetShape}
use Rattle.net_lists.specs.declared.parts.PartHead.{PartHead}
use Rattle.net_lists.proofs.CutLemmas.{others_counted}

abbrev pub shapes_in : Part → List Shape
shapes_in p = p.shapes

abbrev pub bare : net_lines.NetShape → Shape
bare s = s.shape

module _ (n : Net) where
  of_part : (is_pin : Bool) (ss : List Shape) → map bare (shapes_of_part n (record { is_pin = is_pin; shapes = ss })) ≡ ss
  of_part is_pin [] = refl
  of_part is_pin (s ∷ ss) = ap (λ xs. s ∷ xs) (of_part is_pin ss)

  pub of_parts : (ps : List Part) → map bare (flat_map (shapes_of_part n) ps) ≡ flat_map shapes_in ps
  of_parts [] = refl
  of_parts (p ∷ ps) =
      map-append bare (shapes_of_part n p) (flat_map (shapes_of_part n) ps)
      ∙ ap₂ (λ a b. a ++ b) (of_part p.is_pin p.shapes) (of_parts ps)

-- the shapes of nets are those of their parts
pub shapes_in_nets : (hs : List NetHead) (qs : List Part) → sum_by part_count hs ≡ length qs
    → map (λ (s : net_lines.NetShape). s.shape) (flat_map shapes_of_net (cut part_count net_with hs qs)) ≡ flat_map shapes_in qs
shapes_in_nets [] qs counted = ap (flat_map shapes_in) (sym (nil_from_length qs (sym counted)))
shapes_in_nets (h ∷ hs) qs counted =
    let front = take h.parts qs in
    let back = drop h.parts qs in
    map-append bare (shapes_of_net (net_with h front)) (flat_map shapes_of_net (cut part_count net_with hs back))
    ∙ ap₂ (λ a b. a ++ b) (of_parts (net_with h front) front) (shapes_in_nets hs back (others_counted part_count h hs qs counted))
    ∙ sym (flat_map-append shapes_in front back)
    ∙ ap (flat_map shapes_in) (take-append-drop h.parts qs)

-- those of parts are the ones that were cut
pub shapes_in_parts : (ps : List PartHead) (ss : List NetShape) → sum_by shape_count ps ≡ length ss → flat_map shapes_in (parts_of ps ss) ≡ map shape_view ss
shapes_in_parts [] ss counted = ap (map shape_view) (sym (nil_from_length ss (sym counted)))
shapes_in_parts (p ∷ ps) ss counted =
    let front = take p.shapes ss in
    let back = drop p.shapes ss in
    ap (λ xs. map shape_view front ++ xs) (shapes_in_parts ps back (others_counted shape_count p ps ss counted))
    ∙ sym (map-append shape_view front back)
    ∙ ap (map shape_view) (take-append-drop p.shapes ss)
