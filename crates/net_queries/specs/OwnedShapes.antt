-- The shapes of a set as shapes of nets, by the parts whose numbers they have.
use Rattle.std.specs.Prelude.{◌≡◌, ℕ, not, List, [], ◌++◌, Option, Some, None, Result, Ok, Err, slice_get}
use Rattle.std.specs.List.{filter_map}
use Rattle.std.specs.Option.{option_map, option_map_or}
use Rattle.design_model.specs.declared.identifier.ShapeId.{ShapeId}
use Rattle.connection_rules.specs.NetLines.{NetShape}
use Rattle.net_lists.specs.Heads.{Head}
use Rattle.shape_index.specs.declared.shape.Shape.{Shape as Stored}
use Rattle.net_queries.specs.declared.owner.PartOwner.{PartOwner}
use Rattle.net_queries.specs.Held.{shape_of}

abbrev pub with_head : List Head → Option PartOwner → Option (PartOwner × Head)
with_head heads None = None
with_head heads (Some p) = option_map (λ h. (p, h)) (slice_get heads p.net)

-- the part under a number, and the head of its net
abbrev pub owner_at : List Head → List PartOwner → ℕ → Option (PartOwner × Head)
owner_at heads parts n = with_head heads (slice_get parts n)

abbrev pub owned_by : Stored → PartOwner × Head → NetShape
owned_by s o = record { net = o.1.name; is_power = o.1.is_power; is_drawn = not o.0.is_pin; shape = shape_of s }

-- a shape of a set as one of the net that its part is of, if there is a part of its number
abbrev pub net_shape_of : (ℕ → Option (PartOwner × Head)) → Stored → Option NetShape
net_shape_of owner s = option_map (owned_by s) (owner s.net)

-- all of them
abbrev pub net_shapes_of : (ℕ → Option (PartOwner × Head)) → List (ShapeId × Stored) → List NetShape
net_shapes_of owner entries = filter_map (λ e. net_shape_of owner e.1) entries

-- the lines of one of them
abbrev pub lines_of : (NetShape → List (List ℕ)) → (ℕ → Option (PartOwner × Head)) → Stored → List (List ℕ)
lines_of f owner s = option_map_or f (net_shape_of owner s) []

-- lines are those that stood and more behind them; where memory was refused before, there are none
abbrev pub Adds : {E : Type 0} → Result (List (List ℕ)) E → List (List ℕ) → List (List ℕ) → Type 0
Adds (Ok old) more new = new ≡ old ++ more
Adds (Err e) more new = ⊥
