-- The classes of a net's parts: two are joined where a shape of the one touches a shape of the other (own).
use Rattle.std.specs.Prelude.{ℕ, Bool, ◌&&◌, ◌==◌, List, length, map, filter, zip}
use Rattle.std.specs.List.{list_any}
use Rattle.lef_grammar.specs.Measures.{Shape}
use Rattle.shape_rules.specs.Classes.{bare, holding, labels, numbers}
use Rattle.shape_rules.specs.Meeting.{meets, pairs_of}
use Rattle.connection_rules.specs.NetParts.{Part}

-- two shapes lie on one layer and share a point
abbrev pub touch : Shape → Shape → Bool
touch a b = (a.layer == b.layer) && meets a.box b.box

-- a shape of one part touches a shape of another
abbrev pub are_joined : Part → Part → Bool
are_joined p q = list_any (λ a. list_any (touch a) q.shapes) p.shapes

abbrev pub numbered : List Part → List (ℕ × Part)
numbered parts = zip (numbers 0 (length parts)) parts

-- the numbers of the parts that are joined
abbrev pub joins : List Part → List (ℕ × ℕ)
joins parts = map (λ p. (p.0.0, p.1.0)) (filter (λ p. are_joined p.0.1 p.1.1) (pairs_of (numbered parts)))

abbrev pub part_labels : List Part → List ℕ
part_labels parts = labels (length parts) (joins parts)

abbrev pub pin_marks : List Part → List Bool
pin_marks parts = map (λ (p : Part). p.is_pin) parts

-- how many classes hold a pin, and how many hold none
abbrev pub with_pins : List Part → ℕ
with_pins parts = holding (pin_marks parts) (part_labels parts)

abbrev pub without_pins : List Part → ℕ
without_pins parts = bare (pin_marks parts) (part_labels parts)
