-- What a search of the rest of a text says of the text.
use Rattle.std.proofs.Common.{◌≡◌, ℕ, ◌+◌, ◌-◌, ◌≤◌, Bool, List, length, length-drop, get_or, drop, take, sym, ap, ◌∙◌, arith, Some, None}
use Rattle.std.proofs.lemmas.List.{get_or-drop, take_all}
use Rattle.memchr.specs.Find.{IsFirst, Nowhere, Passes}

rest_is : (text : List ℕ) (from : ℕ) → take (length text - from) (drop from text) ≡ drop from text
rest_is text from = take_all _ _ (omega (arith, length-drop from text))

nowhere_on : (t : ℕ → Bool) (text : List ℕ) (from n : ℕ) → Nowhere (Passes t (drop from text)) 0 n → Nowhere (Passes t text) from (from + n)
nowhere_on t text from n h k low high p =
    let e : from + (k - from) ≡ k = omega arith in
    h (k - from) (omega arith) (omega arith) (ap t (get_or-drop from text (k - from) 0 ∙ ap (λ j. get_or text j 0) e) ∙ p)

pub found_from : (t : ℕ → Bool) (text : List ℕ) (from at : ℕ) → from ≤ length text
    → IsFirst (Passes t (take (length text - from) (drop from text))) 0 (length (take (length text - from) (drop from text))) (Some at)
    → IsFirst (Passes t text) from (length text) (Some (from + at))
found_from t text from at le found =
    let h = rw rest_is at found in
    let n = length-drop from text in
    let lt = h.0.high in
    (record { low = omega arith; high = omega arith; before = nowhere_on t text from at h.0.before }, ap t (sym (get_or-drop from text at 0)) ∙ h.1)

pub none_from : (t : ℕ → Bool) (text : List ℕ) (from : ℕ) → from ≤ length text
    → IsFirst (Passes t (take (length text - from) (drop from text))) 0 (length (take (length text - from) (drop from text))) None
    → IsFirst (Passes t text) from (length text) None
none_from t text from le found =
    let h = rw rest_is at found in
    let n = length-drop from text in
    let e : from + length (drop from text) ≡ length text = omega arith in
    rw e at (nowhere_on t text from (length (drop from text)) h)
