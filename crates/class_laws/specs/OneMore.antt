-- One more pin among the parts of a net, which is in a class of others or is one by itself.
use Rattle.std.specs.Prelude.{◌≡◌, ◌≤◌, ◌<◌, ℕ, suc, true, ◌==◌, List, ◌∷◌, length, count_by, Some, slice_get}
use Rattle.std.specs.List.{filter_map}
use Rattle.connection_rules.specs.NetParts.{Part}
use Rattle.connection_rules.specs.PartClasses.{are_joined, with_pins, without_pins}
use Rattle.line_laws.specs.Lines.{SameThings}
use Rattle.net_queries.specs.PieceLaws.{HangTogetherAlike}

-- There are no more classes than parts.
abbrev pub ClassesAreFew : Type 0
ClassesAreFew = (ps : List Part) → (with_pins ps ≤ length ps) × (without_pins ps ≤ length ps)

-- How parts hang together doesn't depend on their order.
abbrev pub SamePartsAreAlike : Type 0
SamePartsAreAlike = (ps qs : List Part) → SameThings ps qs → HangTogetherAlike ps qs

-- a part is a class by itself, with a pin,
pub record IsAClass (p : Part) (ps : List Part) : Type 0 where
  pub classes : with_pins (p ∷ ps) ≡ suc (with_pins ps)
  pub floating : without_pins (p ∷ ps) ≡ without_pins ps

-- or it is in a class of others that has a pin: there are as many of each kind with it as without it
pub record IsInAClass (p : Part) (ps : List Part) : Type 0 where
  pub classes : with_pins (p ∷ ps) ≡ with_pins ps
  pub floating : without_pins (p ∷ ps) ≡ without_pins ps

-- how many parts are joined to one
abbrev pub joined_to : Part → List Part → ℕ
joined_to p ps = count_by (are_joined p) ps

-- A pin that is joined to no part is a class by itself.
abbrev pub AloneIsAClass : Type 0
AloneIsAClass = (p : Part) (ps : List Part) → p.is_pin ≡ true → joined_to p ps ≡ 0 → IsAClass p ps

-- parts by their places, of which one may stand several times
abbrev pub parts_at : List Part → List ℕ → List Part
parts_at ps places = filter_map (slice_get ps) places

-- all parts that are joined to one stand at some places
abbrev pub AreJoinedAt : Part → List Part → List ℕ → Type 0
AreJoinedAt p ps places = (i : ℕ) (q : Part) → slice_get ps i ≡ Some q → are_joined p q ≡ true → 0 < count_by (λ k. k == i) places

-- Where a pin is in a class of some parts, of which those are that it is joined to, it is in a class of all.
abbrev pub FewTell : Type 0
FewTell = (p : Part) (ps : List Part) (places : List ℕ) → p.is_pin ≡ true → AreJoinedAt p ps places → IsInAClass p (parts_at ps places) → IsInAClass p ps
