-- Parts by their places, one after the other.
use Rattle.std.proofs.Common.{◌≡◌, ◌∙◌, ◌<◌, ◌≤◌, ◌+◌, ℕ, zero, suc, List, [], ◌∷◌, Some, None, refl, sym, ap, arith, drop, get_or, length, map}
use Rattle.std.specs.Prelude.{slice_get}
use Rattle.std.specs.List.{cons_option}
use Rattle.std.proofs.lemmas.List.{drop_more}
use Rattle.connection_rules.specs.NetParts.{Net, Part}
use Rattle.net_lists.specs.Building.{with_parts}
use Rattle.class_laws.specs.OneMore.{parts_at}
use Rattle.kept_nets.specs.Parts.{part_view}
use Rattle.kept_nets.specs.declared.part.KeptPart.{KeptPart}

-- a place of a list that a function makes of another
map_some : {X Y : Type 0} (f : X → Y) (xs : List X) (n : ℕ) (x : X) → n < length xs → x ≡ get_or xs n x → slice_get (map f xs) n ≡ Some (f x)
map_some f [] n x below is = absurd (omega (arith, below))
map_some f (y ∷ xs) zero x below is = ap (λ z. Some (f z)) (sym is)
map_some f (y ∷ xs) (suc n) x below is = map_some f xs n x (omega (arith, below)) is

map_none : {X Y : Type 0} (f : X → Y) (xs : List X) (n : ℕ) → length xs ≤ n → slice_get (map f xs) n ≡ None
map_none f [] n past = refl
map_none f (y ∷ xs) zero past = absurd (omega (arith, past))
map_none f (y ∷ xs) (suc n) past = map_none f xs n (omega (arith, past))

module _ {A : Type 0} (parts : List (KeptPart A)) (places : List ℕ) (i : ℕ) (below : i < length places) where
  abbrev left : ℕ → List Part
  left k = parts_at (map part_view parts) (drop k places)

  next : left i ≡ cons_option (slice_get (map part_view parts) (get_or places i 0)) (left (i + 1))
  next = ap (parts_at (map part_view parts)) (drop_more places i 0 below)

  -- the part at the next place is put in,
  pub next_put : (part : KeptPart A) (total now new : List Net) → get_or places i 0 < length parts → part ≡ get_or parts (get_or places i 0) part → new ≡ with_parts (part_view part ∷ []) now → with_parts (left i) now ≡ total
      → with_parts (left (i + 1)) new ≡ total
  next_put part total now new there is put h =
      let first = next ∙ ap (λ o. cons_option o (left (i + 1))) (map_some part_view parts (get_or places i 0) part there is) in
      ap (with_parts (left (i + 1))) put ∙ ap (λ l. with_parts l now) (sym first) ∙ h

  -- or there is none
  pub next_absent : (total now : List Net) → length parts ≤ get_or places i 0 → with_parts (left i) now ≡ total → with_parts (left (i + 1)) now ≡ total
  next_absent total now past h =
      let first = next ∙ ap (λ o. cons_option o (left (i + 1))) (map_none part_view parts (get_or places i 0) past) in
      ap (λ l. with_parts l now) (sym first) ∙ h
