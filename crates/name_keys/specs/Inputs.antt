-- What keys give to a hasher, and that equal keys give the same.
use Rattle.std.specs.Prelude.{◌≡◌, ℕ, Bool, List, [], ◌∷◌, ◌&&◌, IsTrue}
use Rattle.std.specs.Cmp.{IsEquivalence, and_equiv, on_equiv, second_so}
use Rattle.std.specs.Cmp.Lexicographic.{bytes_decides, nat_list_eq_equiv}
use Rattle.std.specs.Str.{bytes_eq}
use Rattle.std.proofs.Common.{ap}

-- a name: all its bytes in one write
abbrev pub name_input : List ℕ → List (List ℕ)
name_input name = name ∷ []

pub same_input : (a b : List ℕ) → IsTrue (bytes_eq a b) → name_input a ≡ name_input b
same_input a b same = ap name_input ((bytes_decides a b).0 same)

-- the word of a section and a name in it: the name alone
abbrev pub entry_input : List ℕ × List ℕ → List (List ℕ)
entry_input entry = name_input entry.1

abbrev pub is_same_entry : List ℕ × List ℕ → List ℕ × List ℕ → Bool
is_same_entry a b = bytes_eq a.0 b.0 && bytes_eq a.1 b.1

pub same_entries : IsEquivalence is_same_entry
same_entries = and_equiv (on_equiv (λ (e : List ℕ × List ℕ). e.0) nat_list_eq_equiv) (on_equiv (λ (e : List ℕ × List ℕ). e.1) nat_list_eq_equiv)

pub same_entry_input : (a b : List ℕ × List ℕ) → IsTrue (is_same_entry a b) → entry_input a ≡ entry_input b
same_entry_input a b same = same_input a.1 b.1 (second_so (bytes_eq a.0 b.0) (bytes_eq a.1 b.1) same)
