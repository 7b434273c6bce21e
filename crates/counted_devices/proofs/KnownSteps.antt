-- Known bytes over several reads or writes.
use Rattle.std.proofs.Common.{◌≡◌, ◌-◌, ℕ, List, ◌++◌, Option, sym, ap, ◌∙◌, append_assoc, length, take, drop, take-append-drop}
use Rattle.std.specs.Io.KnownBytes.{Keeps, Appends}
use Rattle.std.proofs.KnownBytes.{Appends-trans, Appends-kept}
use Rattle.std.proofs.lemmas.List.{take_rest}
use Rattle.counted_devices.specs.Known.{WritesPart}

-- a write of n bytes from what is left
pub moves_front : (all done rest : List ℕ) (n : ℕ) → all ≡ done ++ rest → all ≡ (done ++ take n rest) ++ drop n rest
moves_front all done rest n e = e ∙ ap (λ l. done ++ l) (sym (take-append-drop n rest)) ∙ sym (append_assoc done (take n rest) (drop n rest))

pub writes_more : (a b c : Option (List ℕ)) (all done rest : List ℕ) (n : ℕ) → all ≡ done ++ rest → Appends a b done → Appends b c (take n rest)
    → (x : List ℕ) × (all ≡ x ++ drop n rest) × Appends a c x
writes_more a b c all done rest n e p q = (done ++ take n rest, moves_front all done rest n e, Appends-trans a b c done (take n rest) p q)

pub writes_kept : (a b c : Option (List ℕ)) (all done rest : List ℕ) → all ≡ done ++ rest → Appends a b done → Keeps b c → WritesPart a c all
writes_kept a b c all done rest e p q = (done, rest, e, Appends-kept a b c done p q)

-- the same, with what is left as a slice of it is seen
pub writes_more_left : (a b c : Option (List ℕ)) (all done rest : List ℕ) (n : ℕ) → all ≡ done ++ rest → Appends a b done → Appends b c (take n rest)
    → (x : List ℕ) × (all ≡ x ++ take (length rest - n) (drop n rest)) × Appends a c x
writes_more_left a b c all done rest n e p q =
    let w = writes_more a b c all done rest n e p q in
    (w.0, w.1 ∙ ap (λ l. w.0 ++ l) (sym (take_rest rest n)), w.2)
