-- The lines on nets, of which one has some pins in the place of others.
use Rattle.std.specs.Prelude.{◌≡◌, ℕ, false, not, List, ◌∷◌, ◌++◌, flat_map}
use Rattle.std.specs.List.{list_any}
use Rattle.design_model.specs.Families.{cross_lines}
use Rattle.connection_rules.specs.NetLines.{Barrier, NetShape, class_lines, shapes_of_net, shapes_of_part, short_of}
use Rattle.connection_rules.specs.NetParts.{Net, Part}
use Rattle.line_laws.specs.PairLaws.{IsSymmetric}
use Rattle.following_laws.specs.DesignLaws.{lines_on_nets}
use Rattle.following_laws.specs.Following.{Exchange, LinesFollow}

abbrev pub ArePins : List Part → Type 0
ArePins ps = list_any (λ (p : Part). not p.is_pin) ps ≡ false

-- the shapes of some of its parts
abbrev pub shapes_of_parts : Net → List Part → List NetShape
shapes_of_parts n ps = flat_map (shapes_of_part n) ps

-- the lines of the shapes of some of its pins with those of its others and of other nets, and those on how it hangs together
abbrev pub lines_of_pins : (ℕ → List ℕ) → Net → List Part → List Part → List Net → List (List ℕ)
lines_of_pins name_of net pins stay others = cross_lines (short_of name_of) (shapes_of_parts net pins) (shapes_of_parts net stay ++ flat_map shapes_of_net others) ++ class_lines net

-- The lines on nets follow by these, as pins are no wires, and shapes of one net have no lines with one another.
abbrev pub PinLinesFollow : Type 0
PinLinesFollow = (name_of : ℕ → List ℕ) (old new : Net) (others : List Net) (barriers : List Barrier) (out put stay : List Part)
    → IsSymmetric (short_of name_of) → old.name ≡ new.name → old.is_power ≡ new.is_power → Exchange old.parts new.parts out put stay → ArePins out → ArePins put
    → LinesFollow (lines_on_nets name_of (old ∷ others) barriers) (lines_on_nets name_of (new ∷ others) barriers)
    (lines_of_pins name_of old out stay others)
    (lines_of_pins name_of new put stay others)
