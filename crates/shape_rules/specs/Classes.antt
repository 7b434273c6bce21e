-- Classes of numbered parts, of which some are joined: each part has the label of its class, the least number in it (own).
use Rattle.std.specs.Prelude.{◌≡◌, ◌<◌, ℕ, zero, suc, ◌-◌, ◌==◌, nat_lt, Bool, List, [], ◌∷◌, map, filter, zip, length, slice_index_or, if◌then◌else◌}
use Rattle.std.specs.List.{list_any}

abbrev pub lesser : ℕ → ℕ → ℕ
lesser a b = if nat_lt a b then a else b

abbrev pub greater : ℕ → ℕ → ℕ
greater a b = if nat_lt a b then b else a

abbrev pub label_at : List ℕ → ℕ → ℕ
label_at ls i = slice_index_or ls i 0

abbrev pub relabelled : ℕ → ℕ → ℕ → ℕ
relabelled a b l = if l == b then a else l

-- the labels after two parts are joined: the classes of both have the lesser of their labels
abbrev pub joined : ℕ × ℕ → List ℕ → List ℕ
joined e ls = map (relabelled (lesser (label_at ls e.0) (label_at ls e.1)) (greater (label_at ls e.0) (label_at ls e.1))) ls

-- the labels after joins, of which the last comes first
unfoldable pub all_joined : List (ℕ × ℕ) → List ℕ → List ℕ
all_joined [] ls = ls
all_joined (e ∷ es) ls = joined e (all_joined es ls)

-- n numbers from a on
unfoldable pub numbers : ℕ → ℕ → List ℕ
numbers a zero = []
numbers a (suc n) = a ∷ numbers (suc a) n

-- the labels of n parts, of which these pairs are joined
abbrev pub labels : ℕ → List (ℕ × ℕ) → List ℕ
labels n es = all_joined es (numbers 0 n)

-- how many different numbers there are
unfoldable pub distinct : List ℕ → ℕ
distinct [] = 0
distinct (l ∷ ls) = if list_any (λ k. k == l) ls then distinct ls else suc (distinct ls)

-- the labels of the parts that are marked
abbrev pub marked : List Bool → List ℕ → List ℕ
marked marks ls = map (λ x. x.0) (filter (λ x. x.1) (zip ls marks))

-- how many classes hold a marked part
abbrev pub holding : List Bool → List ℕ → ℕ
holding marks ls = distinct (marked marks ls)

-- how many classes hold none
abbrev pub bare : List Bool → List ℕ → ℕ
bare marks ls = distinct ls - holding marks ls

-- the closure of being joined: a labelling respects the joins where it gives the two of each one label,
abbrev pub Respects : (ℕ → ℕ) → List (ℕ × ℕ) → Type 0
Respects m [] = Unit {0}
Respects m (e ∷ es) = (m e.0 ≡ m e.1) × Respects m es

-- and two parts are of one class where no labelling that respects the joins parts them
abbrev pub InOneClass : List (ℕ × ℕ) → ℕ → ℕ → Type 0
InOneClass es i j = (m : ℕ → ℕ) → Respects m es → m i ≡ m j

-- the joins are of parts below n
abbrev pub AreBelow : ℕ → List (ℕ × ℕ) → Type 0
AreBelow n [] = Unit {0}
AreBelow n (e ∷ es) = (e.0 < n) × (e.1 < n) × AreBelow n es
