-- The pairs of a list that meet, and a fold over them.
use Rattle.std.specs.Prelude.{ℕ, Bool, List, [], ◌∷◌, filter, if◌then◌else◌}
use Rattle.std.specs.List.{FoldsTo}
use Rattle.design_model.specs.Views.{rectangle_of}
use Rattle.shape_rules.specs.Meeting.{meets, pairs_of}
use Rattle.line_laws.specs.Lines.{SameThings}
use Rattle.shape_pairs.specs.declared.pairs.Numbered.{Numbered}

-- the two rectangles of a pair share a point
abbrev pub is_meeting : Numbered × Numbered → Bool
is_meeting p = meets (rectangle_of p.0.rect) (rectangle_of p.1.rect)

-- the pairs that do, the earlier one first
abbrev pub meeting_pairs : List Numbered → List (Numbered × Numbered)
meeting_pairs items = filter is_meeting (pairs_of items)

-- calls at the numbers of each pair of a list, one after the other, led from one value to another
abbrev pub CallsLead : {B : Type 0} → (B → ℕ → ℕ → B → Type 0) → B → List (Numbered × Numbered) → B → Type 0
CallsLead call from pairs to = FoldsTo (λ a p b. call a p.0.id p.1.id b) from pairs to

-- the same, at the pairs that meet, in some order
abbrev pub LeadsOverMeetingPairs : {B : Type 0} → (B → ℕ → ℕ → B → Type 0) → List Numbered → B → B → Type 0
LeadsOverMeetingPairs call items from to = (met : List (Numbered × Numbered)) × SameThings met (meeting_pairs items) × CallsLead call from met to

-- a thing as a list, or nothing
abbrev pub one_if : {A : Type 0} → Bool → A → List A
one_if is x = if is then x ∷ [] else []
