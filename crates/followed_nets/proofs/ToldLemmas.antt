-- What a drawing of the statements that tell a net tells of it.
use Rattle.std.proofs.Common.{◌≡◌, ◌∙◌, ℕ, Bool, List, [], ◌∷◌, ◌++◌, flat_map, map, Result, Ok, Err, refl, sym, ap, ap₂, append-nil}
use Rattle.std.specs.Prelude.{IfOk}
use Rattle.std.proofs.lemmas.List.{map-append}
use Rattle.def_grammar.specs.Records.{Record}
use Rattle.lef_grammar.specs.Library.{Library}
use Rattle.lef_grammar.specs.Measures.{Shape}
use Rattle.connection_rules.specs.NetLines.{Barrier, NetShape, layer_name, shapes_of_net, shapes_of_part}
use Rattle.connection_rules.specs.NetParts.{Net, Part, all_nets, net_named}
use Rattle.design_rules.specs.Boxes.{scale}
use Rattle.following_laws.specs.DesignLaws.{lines_on_nets}
use Rattle.line_laws.specs.Lines.{SameLines}
use Rattle.named_shapes.specs.Named.{by_name, named, shapes_by_name}
use Rattle.net_laws.specs.OneNet.{IsNetTold}
use Rattle.net_checks.specs.Drawings.{Drawing, IsBarredDrawing}
use Rattle.followed_nets.specs.Told.{IsTold, Told}

abbrev bare : NetShape → Shape
bare s = s.shape

-- the shapes of a net under its name
module _ (n : Net) where
  of_shapes : (p : Part) (ss : List Shape) → map (named n.name) ss ≡ map by_name (shapes_of_part n (record { is_pin = p.is_pin; shapes = ss }))
  of_shapes p [] = refl
  of_shapes p (s ∷ ss) = ap (λ (l : List NetShape). named n.name s ∷ l) (of_shapes p ss)

  bare_shapes : (p : Part) (ss : List Shape) → map bare (shapes_of_part n (record { is_pin = p.is_pin; shapes = ss })) ≡ ss
  bare_shapes p [] = refl
  bare_shapes p (s ∷ ss) = ap (λ (l : List Shape). s ∷ l) (bare_shapes p ss)

  of_parts : (ps : List Part) → map (named n.name) (map bare (flat_map (shapes_of_part n) ps)) ≡ map by_name (flat_map (shapes_of_part n) ps)
  of_parts [] = refl
  of_parts (p ∷ ps) =
      ap (map (named n.name)) (map-append bare (shapes_of_part n p) (flat_map (shapes_of_part n) ps))
      ∙ map-append (named n.name) (map bare (shapes_of_part n p)) (map bare (flat_map (shapes_of_part n) ps))
      ∙ ap₂ (λ (a b : List NetShape). a ++ b) (ap (map (named n.name)) (bare_shapes p p.shapes) ∙ of_shapes p p.shapes) (of_parts ps)
      ∙ sym (map-append by_name (shapes_of_part n p) (flat_map (shapes_of_part n) ps))

  pub shapes_named : map (named n.name) (map bare (flat_map shapes_of_net (n ∷ []))) ≡ shapes_by_name (n ∷ [])
  shapes_named = ap (λ (ss : List NetShape). map (named n.name) (map bare ss)) (append-nil (shapes_of_net n)) ∙ of_parts n.parts ∙ ap (map by_name) (sym (append-nil (shapes_of_net n)))

module _ (library : Library) (bars : List Barrier) (some design : List Record) (name : List ℕ) (told : IsNetTold library some design name) where
  abbrev one : Net
  one = net_named library design (scale design) name

  -- the lines on the nets of the statements are those on that net
  lines_told : lines_on_nets (layer_name library.layers) (all_nets library some (scale some)) bars ≡ lines_on_nets (layer_name library.layers) (one ∷ []) bars
  lines_told = ap (λ (ns : List Net). lines_on_nets (layer_name library.layers) ns bars) told.nets

  pub is_told : (own : List ℕ) (lines : List (List ℕ)) (nets : List Net) (shapes : List Shape) → own ≡ name → SameLines lines ([] ++ lines_on_nets (layer_name library.layers) (all_nets library some (scale some)) bars)
      → nets ≡ all_nets library some (scale some) → shapes ≡ map bare (flat_map shapes_of_net nets) → IsTold library bars one (record { name = own; lines = lines; shapes = shapes })
  is_told own lines nets shapes own_is same nets_are shapes_are = record {
    name_is = own_is;
    lines_are = rw lines_told at same;
    shapes_are = ap (map (named name)) (shapes_are ∙ ap (λ (ns : List Net). map bare (flat_map shapes_of_net ns)) (nets_are ∙ told.nets)) ∙ shapes_named one;
  }

  -- the same of a result, where the lines and the shapes are those of a drawing
  pub told_if : {T E : Type 0} (view : T → Told) (r : Result T E) (drawing : Drawing) → IsBarredDrawing library some bars drawing → IfOk r (λ t. (view t).name ≡ name)
      → IfOk r (λ t. SameLines (view t).lines ([] ++ lines_on_nets (layer_name library.layers) (all_nets library some (scale some)) bars)) → IfOk r (λ t. (view t).shapes ≡ map bare (flat_map shapes_of_net drawing.nets))
      → IfOk r (λ t. IsTold library bars one (view t))
  told_if view (Ok t) drawing drawn names_are lines_are shapes_are = is_told (view t).name (view t).lines drawing.nets (view t).shapes names_are lines_are drawn.nets shapes_are
  told_if view (Err e) drawing drawn names_are lines_are shapes_are = tt
