-- A net is built step by step.
use Rattle.std.proofs.Common.{◌≡◌, ℕ, ◌<◌, Bool, List, [], ◌∷◌, ◌++◌, length, refl, sym, ap, ◌∙◌, append_assoc, arith}
use Rattle.std.proofs.lemmas.List.{append-nil, length-append}
use Rattle.lef_grammar.specs.Measures.{Shape}
use Rattle.connection_rules.specs.NetParts.{Net, Part}
use Rattle.net_lists.specs.Building.{bare_part, IsBuilt, change_last, last_parts, part_added, shape_added, shape_in_last_part, with_part, with_parts, with_shape, with_shapes}
use Rattle.net_lists.specs.Laws.{BuildingANet, BuildingSteps, GrowingNets}
use Rattle.net_lists.proofs.CutLemmas.{change_at_end, change_length}

last_parts_are : (old : List Net) (n : Net) → last_parts (old ++ n ∷ []) ≡ n.parts
last_parts_are [] n = refl
last_parts_are (m ∷ []) n = refl
last_parts_are (m ∷ k ∷ ns) n = last_parts_are (k ∷ ns) n

module _ (old : List Net) (name : List ℕ) (is_power : Bool) where
  -- a net with these parts behind the others
  abbrev built : List Part → List Net
  built parts = old ++ record { name = name; is_power = is_power; parts = parts } ∷ []

  abbrev part : Bool → List Shape → Part
  part is_pin shapes = record { is_pin = is_pin; shapes = shapes }

  part_begun : (parts : List Part) (is_pin : Bool) → with_part is_pin (built parts) ≡ built (parts ++ bare_part is_pin ∷ [])
  part_begun parts is_pin = change_at_end (part_added is_pin) old (record { name = name; is_power = is_power; parts = parts })

  shape_pushed : (parts : List Part) (is_pin : Bool) (shapes : List Shape) (s : Shape)
      → with_shape s (built (parts ++ part is_pin shapes ∷ [])) ≡ built (parts ++ part is_pin (shapes ++ s ∷ []) ∷ [])
  shape_pushed parts is_pin shapes s =
      change_at_end (shape_in_last_part s) old (record { name = name; is_power = is_power; parts = parts ++ part is_pin shapes ∷ [] })
      ∙ ap built (change_at_end (shape_added s) parts (part is_pin shapes))

  shapes_pushed : (parts : List Part) (is_pin : Bool) (shapes ss : List Shape)
      → with_shapes ss (built (parts ++ part is_pin shapes ∷ [])) ≡ built (parts ++ part is_pin (shapes ++ ss) ∷ [])
  shapes_pushed parts is_pin shapes [] = ap (λ ss. built (parts ++ part is_pin ss ∷ [])) (sym (append-nil shapes))
  shapes_pushed parts is_pin shapes (s ∷ ss) =
      ap (with_shapes ss) (shape_pushed parts is_pin shapes s)
      ∙ shapes_pushed parts is_pin (shapes ++ s ∷ []) ss
      ∙ ap (λ zs. built (parts ++ part is_pin zs ∷ [])) (append_assoc shapes (s ∷ []) ss)

  parts_built : (parts ps : List Part) → with_parts ps (built parts) ≡ built (parts ++ ps)
  parts_built parts [] = ap built (sym (append-nil parts))
  parts_built parts (p ∷ ps) =
      ap (λ ns. with_parts ps (with_shapes p.shapes ns)) (part_begun parts p.is_pin)
      ∙ ap (with_parts ps) (shapes_pushed parts p.is_pin [] p.shapes)
      ∙ parts_built (parts ++ p ∷ []) ps
      ∙ ap built (append_assoc parts (p ∷ []) ps)

  pub building_steps : BuildingSteps old name is_power
  building_steps = record {
    begun = record { is = refl };
    part = λ parts now is_pin b. record { is = ap (with_part is_pin) b.is ∙ part_begun parts is_pin };
    shape = λ parts is_pin shapes now s b. record { is = ap (with_shape s) b.is ∙ shape_pushed parts is_pin shapes s };
    several_parts = λ parts more now b. record { is = ap (with_parts more) b.is ∙ parts_built parts more };
    several_shapes = λ parts is_pin shapes more now b. record { is = ap (with_shapes more) b.is ∙ shapes_pushed parts is_pin shapes more };
  }

  pub growing_nets : (parts : List Part) (now : List Net) → IsBuilt old name is_power parts now → GrowingNets old name is_power parts now
  growing_nets parts now b =
      let n : Net = record { name = name; is_power = is_power; parts = parts } in
      record {
        some = rw (b.is, length-append old (n ∷ [])) (omega arith);
        last = ap last_parts b.is ∙ last_parts_are old n;
      }

pub building_a_net : BuildingANet
building_a_net old name is_power parts = parts_built old name is_power [] parts

last_begun : (n : Net) (ns : List Net) → 0 < length (last_parts ns) → 0 < length (last_parts (n ∷ ns))
last_begun n [] some = absurd (omega (arith, some))
last_begun n (m ∷ ns) some = some

-- a net stays, and the last has a part
pub net_begun : (ns : List Net) (n : Net) → 0 < length (ns ++ n ∷ [])
net_begun ns n = rw (length-append ns (n ∷ [])) (omega arith)

pub net_stays : (f : Net → Net) (ns : List Net) → 0 < length ns → 0 < length (change_last f ns)
net_stays f ns some = rw (change_length f ns) some

pub part_there : (is_pin : Bool) (ns : List Net) → 0 < length ns → 0 < length (last_parts (with_part is_pin ns))
part_there is_pin [] some = absurd (omega (arith, some))
part_there is_pin (n ∷ []) some = rw (length-append n.parts (bare_part is_pin ∷ [])) (omega arith)
part_there is_pin (n ∷ m ∷ ns) some = last_begun n (change_last (part_added is_pin) (m ∷ ns)) (part_there is_pin (m ∷ ns) (omega arith))

pub part_stays : (s : Shape) (ns : List Net) → 0 < length (last_parts ns) → 0 < length (last_parts (with_shape s ns))
part_stays s [] some = absurd (omega (arith, some))
part_stays s (n ∷ []) some = rw (change_length (shape_added s) n.parts) some
part_stays s (n ∷ m ∷ ns) some = last_begun n (change_last (shape_in_last_part s) (m ∷ ns)) (part_stays s (m ∷ ns) some)

-- a part is some net's
pub has_net : (ns : List Net) → 0 < length (last_parts ns) → 0 < length ns
has_net [] some = some
has_net (n ∷ ns) some = omega arith
