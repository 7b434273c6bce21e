-- Which bytes of a text stop, by marks.
use Rattle.std.proofs.Common.{⊎_elim, Some, ◌≡◌, ◌≢◌, ◌↔◌, ℕ, ◌+◌, ◌-◌, ◌<◌, ◌≤◌, Bool, true, false, List, length, get_or, nat_le, ◌==◌, ◌||◌, bit_or, refl, subst, sym, ◌∙◌, arith, if◌then◌else◌}
use Rattle.std.specs.Int.{bit_at}
use Rattle.std.proofs.lemmas.Bool.{cases_lt}
use Rattle.std.proofs.lemmas.List.{get_or_past}
use Rattle.std.proofs.Math.Nat.{lt_of_not-le}
use Rattle.std.proofs.lemmas.Nat.Bits.{bit_at-zero}
use Rattle.memchr.specs.Find.{IsFirst, Nowhere, Passes}
use Rattle.lefdef_tokens.specs.Runs.{HasLanes, Marks, stops}

marked_byte : (p q : Bool) → (128 ≤ bit_or (if p then 255 else 0) (if q then 255 else 0)) ↔ ((p || q) ≡ true)
marked_byte true true = (λ h. refl, λ h. omega arith)
marked_byte true false = (λ h. refl, λ h. omega arith)
marked_byte false true = (λ h. refl, λ h. omega arith)
marked_byte false false = (λ h. absurd (omega arith), λ h. absurd (cc))

within_lanes : (lanes : List ℕ) (k : ℕ) → length lanes ≡ 16 → 128 ≤ get_or lanes k 0 → k < 16
within_lanes lanes k long high = lt_of_not-le (λ (past : 16 ≤ k). let none = get_or_past lanes k 0 (omega arith) in absurd (omega arith))

pub marks_of_lanes : (low : ℕ) (text : List ℕ) (at marks : ℕ) (bytes small del both : List ℕ)
    → HasLanes bytes (λ k. get_or text (at + k) 0)
    → HasLanes small (λ k. if nat_le (get_or bytes k 0) low then 255 else 0)
    → HasLanes del (λ k. if get_or bytes k 0 == 127 then 255 else 0)
    → HasLanes both (λ k. bit_or (get_or small k 0) (get_or del k 0))
    → ((k : ℕ) → (bit_at marks k ≡ 1) ↔ (128 ≤ get_or both k 0))
    → Marks low text at marks
marks_of_lanes low text at marks bytes small del both b s d e m k =
    let byte = get_or text (at + k) 0 in
    let lane : k < 16 → get_or both k 0 ≡ bit_or (if nat_le byte low then 255 else 0) (if byte == 127 then 255 else 0) = λ inside. e.each k inside ∙ rw (s.each k inside, d.each k inside, b.each k inside) refl in
    let told = marked_byte (nat_le byte low) (byte == 127) in (
      λ set.
          let high : 128 ≤ get_or both k 0 = (m k).0 set in
          let inside : k < 16 = within_lanes both k e.long high in
          let here : 128 ≤ bit_or (if nat_le byte low then 255 else 0) (if byte == 127 then 255 else 0) = subst (λ (n : ℕ). 128 ≤ n) (lane inside) high in
          (inside, told.0 here),
      λ h.
          let here : 128 ≤ get_or both k 0 = subst (λ (n : ℕ). 128 ≤ n) (sym (lane h.0)) (told.1 h.1) in
          (m k).1 here,
    )

none_set : (k : ℕ) → bit_at 0 k ≡ 1 → ⊥
none_set k h = omega (arith, bit_at-zero k)

pub none_marked : (low : ℕ) (text : List ℕ) (from at marks : ℕ) → Marks low text at marks → marks ≡ 0
    → Nowhere (Passes (stops low) text) from at → Nowhere (Passes (stops low) text) from (at + 16)
none_marked low text from at marks m none before k a b stop = ⊎_elim
    (λ earlier. before k a earlier stop)
    (λ later.
    let e : at + (k - at) ≡ k = omega arith in
    let set = (m (k - at)).1 (omega arith, subst (λ (n : ℕ). stops low (get_or text n 0) ≡ true) (sym e) stop) in
    absurd (none_set (k - at) (subst (λ (n : ℕ). bit_at n (k - at) ≡ 1) none set)))
    (cases_lt k at)

pub first_marked : (low : ℕ) (text : List ℕ) (from at end marks r : ℕ) → Marks low text at marks → bit_at marks r ≡ 1 → ((k : ℕ) → k < r → bit_at marks k ≢ 1)
    → from ≤ at → at + 16 ≤ end → Nowhere (Passes (stops low) text) from at → IsFirst (Passes (stops low) text) from end (Some (at + r))
first_marked low text from at end marks r m set below ordered room before =
    let here = (m r).0 set in
    let inside = here.0 in (
      record {
        low = omega arith;
        high = omega arith;
        before = λ k a b stop. ⊎_elim
            (λ earlier. before k a earlier stop)
            (λ later.
            let e : at + (k - at) ≡ k = omega arith in
            below (k - at) (omega arith) ((m (k - at)).1 (omega arith, subst (λ (n : ℕ). stops low (get_or text n 0) ≡ true) (sym e) stop)))
            (cases_lt k at);
      },
      here.1,
    )
