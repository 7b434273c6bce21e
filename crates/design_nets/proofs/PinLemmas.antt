-- Nets with their pins alone.
use Rattle.std.proofs.Common.{◌≡◌, Bool, true, false, ℕ, List, [], ◌∷◌, ◌++◌, map, filter, refl, sym, ap, ap₂, ◌∙◌, if◌then◌else◌}
use Rattle.std.specs.Prelude.{flat_map}
use Rattle.std.proofs.lemmas.List.{append-nil}
use Rattle.std.proofs.lemmas.List.Elements.{filter-append}
use Rattle.lef_grammar.specs.Definitions as lef
use Rattle.wire_rules.specs.ViaShapes.{NamedShape}
use Rattle.connection_rules.specs.NetParts.{Net, Part, Wired, drawn, drawn_part, drawn_parts, has_shapes, parts_of, pin_part, pin_parts}
use Rattle.connection_rules.specs.Terminals.{NetPin, PinsByName, net_pins}
use Rattle.net_lists.specs.Building.{bare_net, with_parts}
use Rattle.net_lists.specs.Laws.{BuildingANet}
use Rattle.design_nets.specs.PinsAlone.{pins_alone}

-- what is made of things in two steps
pub in_two : {G H Y : Type 0} (second : H → Y) (first : G → H) (gs : List G) → map (λ g. second (first g)) gs ≡ map second (map first gs)
in_two second first [] = refl
in_two {Y = Y} second first (g ∷ gs) = ap (λ (ys : List Y). second (first g) ∷ ys) (in_two second first gs)

abbrev pins_among : List Part → List Part
pins_among ps = filter (λ (p : Part). p.is_pin) ps

all_pins : (ps : List NetPin) → pins_among (map pin_part ps) ≡ map pin_part ps
all_pins [] = refl
all_pins (p ∷ ps) = ap (λ (l : List Part). pin_part p ∷ l) (all_pins ps)

module _ (layers : List lef.Layer) where
  none_drawn : (all : List (List NamedShape)) → pins_among (filter has_shapes (map (drawn_part layers) all)) ≡ []
  none_drawn [] = refl
  none_drawn (ss ∷ all) = one (has_shapes (drawn_part layers ss)) (filter has_shapes (map (drawn_part layers) all)) (none_drawn all)
    where
      one : (b : Bool) (left : List Part) → pins_among left ≡ [] → pins_among (if b then drawn_part layers ss ∷ left else left) ≡ []
      one true left h = h
      one false left h = h

  -- the pins among a net's parts
  pins_are : (pins : PinsByName) (name : List ℕ) (ws : List Wired) → pins_among (parts_of layers pins name ws) ≡ pin_parts pins name ws
  pins_are pins name ws =
      filter-append (λ (p : Part). p.is_pin) (pin_parts pins name ws) (drawn_parts layers ws)
      ∙ ap₂ (λ (a b : List Part). a ++ b) (all_pins (filter (λ (p : NetPin). p.counts) (net_pins pins name (flat_map (λ (w : Wired). w.terminals) ws)))) (none_drawn (flat_map (λ (w : Wired). drawn w.pieces) ws))
      ∙ append-nil (pin_parts pins name ws)

  -- a net that is begun, and given its pins
  pub pins_built : BuildingANet → (old : List Net) (name : List ℕ) (pins : PinsByName) (ws : List Wired) (begun built : List Net)
      → begun ≡ old ++ bare_net name false ∷ [] → built ≡ with_parts (pin_parts pins name ws) begun
      → built ≡ old ++ pins_alone (record { name = name; is_power = false; parts = parts_of layers pins name ws }) ∷ []
  pins_built building old name pins ws begun built h1 h2 =
      h2
      ∙ ap (with_parts (pin_parts pins name ws)) h1
      ∙ building old name false (pin_parts pins name ws)
      ∙ ap (λ (ps : List Part). old ++ record { name = name; is_power = false; parts = ps } ∷ []) (sym (pins_are pins name ws))
