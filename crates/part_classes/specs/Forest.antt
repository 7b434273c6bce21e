-- Classes as a forest: each part stands over a part of its class with a lesser number, or is the root of its class.
use Rattle.std.specs.Prelude.{ℕ, zero, suc, List, map, length, nat_lt, slice_index_or, if◌then◌else◌}
use Rattle.shape_rules.specs.Classes.{numbers}

-- the part where the way over lesser and lesser numbers ends, after so many steps at most
unfoldable pub end_of : List ℕ → ℕ → ℕ → ℕ
end_of parents zero i = i
end_of parents (suc n) i = if nat_lt (slice_index_or parents i i) i then end_of parents n (slice_index_or parents i i) else i

-- the root of a part's class, which is the label of that class
abbrev pub root_of : List ℕ → ℕ → ℕ
root_of parents i = end_of parents i i

abbrev pub labels_of : List ℕ → List ℕ
labels_of parents = map (root_of parents) (numbers 0 (length parents))
