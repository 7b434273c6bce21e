-- Nets that are put in one after the other, part by part and shape by shape.
use Rattle.std.specs.Prelude.{◌≡◌, ℕ, Bool, List, [], ◌∷◌, ◌++◌}
use Rattle.lef_grammar.specs.Measures.{Shape}
use Rattle.connection_rules.specs.NetParts.{Net, Part}

-- a list with its last element changed
abbrev pub change_last : {A : Type 0} → (A → A) → List A → List A
change_last f [] = []
change_last f (x ∷ []) = f x ∷ []
change_last f (x ∷ y ∷ ys) = x ∷ change_last f (y ∷ ys)

-- a net without parts
abbrev pub bare_net : List ℕ → Bool → Net
bare_net name is_power = record { name = name; is_power = is_power; parts = [] }

-- a part without shapes
abbrev pub bare_part : Bool → Part
bare_part is_pin = record { is_pin = is_pin; shapes = [] }

-- the parts of the last net
abbrev pub last_parts : List Net → List Part
last_parts [] = []
last_parts (n ∷ []) = n.parts
last_parts (n ∷ m ∷ ns) = last_parts (m ∷ ns)

abbrev pub part_added : Bool → Net → Net
part_added is_pin n = record { name = n.name; is_power = n.is_power; parts = n.parts ++ bare_part is_pin ∷ [] }

abbrev pub shape_added : Shape → Part → Part
shape_added s p = record { is_pin = p.is_pin; shapes = p.shapes ++ s ∷ [] }

abbrev pub shape_in_last_part : Shape → Net → Net
shape_in_last_part s n = record { name = n.name; is_power = n.is_power; parts = change_last (shape_added s) n.parts }

-- the last net has a part more, which has no shapes
abbrev pub with_part : Bool → List Net → List Net
with_part is_pin ns = change_last (part_added is_pin) ns

-- the last part of the last net has a shape more
abbrev pub with_shape : Shape → List Net → List Net
with_shape s ns = change_last (shape_in_last_part s) ns

-- shapes put in one after the other
abbrev pub with_shapes : List Shape → List Net → List Net
with_shapes [] ns = ns
with_shapes (s ∷ ss) ns = with_shapes ss (with_shape s ns)

-- parts put in one after the other, each with its shapes
abbrev pub with_parts : List Part → List Net → List Net
with_parts [] ns = ns
with_parts (p ∷ ps) ns = with_parts ps (with_shapes p.shapes (with_part p.is_pin ns))

-- so much of a net is built: behind the nets from before stands one with these parts
pub record IsBuilt (old : List Net) (name : List ℕ) (is_power : Bool) (parts : List Part) (now : List Net) : Type 0 where
  pub is : now ≡ old ++ record { name = name; is_power = is_power; parts = parts } ∷ []
