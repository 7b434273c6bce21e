-- Laws of pairs, for callers.
use Rattle.std.specs.Prelude.{◌≡◌, ℕ, false, List, [], map, filter, flat_map}
use Rattle.design_model.specs.Geometry.{Rectangle}
use Rattle.shape_rules.specs.Meeting.{meets, pairs_of}
use Rattle.design_model.specs.Families.{pair_lines}
use Rattle.line_laws.specs.Lines.{SameLines, SameThings}

module _ {A : Type 0} (box : A → Rectangle) where
  -- the pairs of things whose boxes share a point
  abbrev pub boxes_meeting : List A → List (A × A)
  boxes_meeting xs = filter (λ p. meets (box p.0) (box p.1)) (pairs_of xs)

  -- two things whose boxes share no point have no lines
  abbrev pub ApartHaveNone : (A → A → List (List ℕ)) → Type 0
  ApartHaveNone compare = (a b : A) → meets (box a) (box b) ≡ false → compare a b ≡ []

-- the lines of each of some pairs
abbrev pub lines_of_pairs : {A : Type 0} → (A → A → List (List ℕ)) → List (A × A) → List (List ℕ)
lines_of_pairs compare ps = flat_map (λ p. compare p.0 p.1) ps

-- The lines of all pairs are those of the pairs that meet, where others have none.
abbrev pub MeetingPairsHaveTheLines : Type 0 → Type 0
MeetingPairsHaveTheLines A = (compare : A → A → List (List ℕ)) (box : A → Rectangle) (xs : List A)
    → ApartHaveNone box compare → pair_lines compare xs ≡ lines_of_pairs compare (boxes_meeting box xs)

-- So they are those of these pairs in any order.
abbrev pub SamePairsHaveTheLines : Type 0 → Type 0
SamePairsHaveTheLines A = (compare : A → A → List (List ℕ)) (box : A → Rectangle) (xs : List A) (met : List (A × A))
    → ApartHaveNone box compare → SameThings met (boxes_meeting box xs) → SameLines (pair_lines compare xs) (lines_of_pairs compare met)

-- The pairs of what a function gives are what it gives of the pairs.
abbrev pub PairsOfMapped : Type 0 → Type 0 → Type 0
PairsOfMapped A B = (g : A → B) (xs : List A) → pairs_of (map g xs) ≡ map (λ p. (g p.0, g p.1)) (pairs_of xs)
