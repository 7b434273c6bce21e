-- Windows with one segment more or less.
use Rattle.std.proofs.Common.{◌≡◌, ◌≤◌, ◌<◌, ℕ, zero, suc, ◌+◌, ◌-◌, List, [], ◌∷◌, ◌++◌, length, take, Some, None, sym, ap, ap₂, ◌∙◌, subst, append_assoc, append-nil, arith, length-append, take_at, ⊎_elim}
use Rattle.std.specs.Prelude.{slice_get}
use Rattle.std.proofs.lemmas.Bool.{cases_order}
use Rattle.std.proofs.lemmas.List.{length-take-le}
use Rattle.std.proofs.lemmas.Option.{slice_get-get_or, slice_get_within}
use Rattle.form_meanings.proofs.Steps.{some_same}
use Rattle.rereading.specs.Segments.{OldBytes, bytes_of}
use Rattle.rereading.specs.Windows.{Holds, IsTight}

-- the bytes of one segment more
one_longer : (segments : List OldBytes) (n : ℕ) (s : OldBytes) → slice_get segments n ≡ Some s → bytes_of (take (suc n) segments) ≡ bytes_of (take n segments) ++ s.bytes
one_longer [] n s at = absurd (cc)
one_longer (x ∷ xs) zero s at = let same = some_same x s at in append-nil x.bytes ∙ ap (λ (y : OldBytes). y.bytes) same
one_longer (x ∷ xs) (suc n) s at = ap (λ (t : List ℕ). x.bytes ++ t) (one_longer xs n s at) ∙ sym (append_assoc x.bytes (bytes_of (take n xs)) s.bytes)

one_more : (raw : List ℕ) (segments : List OldBytes) (n : ℕ) (window : List ℕ) (s : OldBytes) → slice_get segments n ≡ Some s → Holds raw segments n window → Holds raw segments (n + 1) (window ++ s.bytes)
one_more raw segments n window s at holds =
    let next : n + 1 ≡ suc n = omega arith in
    let within = slice_get_within segments n s at in
    record {
      within = omega (arith, within);
      is = ap (λ (t : List ℕ). t ++ s.bytes) holds.is
          ∙ append_assoc raw (bytes_of (take n segments)) s.bytes
          ∙ ap (λ (t : List ℕ). raw ++ t) (sym (one_longer segments n s at))
          ∙ ap (λ (k : ℕ). raw ++ bytes_of (take k segments)) (sym next);
    }

-- the last of some segments
last_of : (segments : List OldBytes) (n : ℕ) → 0 < n → n ≤ length segments → (s : OldBytes) × (slice_get segments (n - 1) ≡ Some s)
last_of segments n some within = (_, slice_get-get_or segments (n - 1) (record { bytes = []; mode = None }) (omega (arith, some, within)))

-- a window ends with its last segment
ends_with : (raw : List ℕ) (segments : List OldBytes) (n : ℕ) (window : List ℕ) (s : OldBytes) → 0 < n → slice_get segments (n - 1) ≡ Some s → Holds raw segments n window
    → window ≡ (raw ++ bytes_of (take (n - 1) segments)) ++ s.bytes
ends_with raw segments n window s some at holds =
    let is : n ≡ suc (n - 1) = omega (arith, some) in
    holds.is
    ∙ ap (λ (k : ℕ). raw ++ bytes_of (take k segments)) is
    ∙ ap (λ (t : List ℕ). raw ++ t) (one_longer segments (n - 1) s at)
    ∙ sym (append_assoc raw (bytes_of (take (n - 1) segments)) s.bytes)

one_less : (raw : List ℕ) (segments : List OldBytes) (n : ℕ) (window : List ℕ) (s : OldBytes) → 0 < n → slice_get segments (n - 1) ≡ Some s → Holds raw segments n window
    → Holds raw segments (n - 1) (take (length window - length s.bytes) window)
one_less raw segments n window s some at holds =
    let front = raw ++ bytes_of (take (n - 1) segments) in
    let ends = ends_with raw segments n window s some at holds in
    let long = ap (λ (t : List ℕ). length t) ends in
    let size : length front ≡ length window - length s.bytes = omega (arith, long, length-append front s.bytes) in
    record {
      within = omega (arith, holds.within);
      is = ap (take (length window - length s.bytes)) ends ∙ take_at front s.bytes (length window - length s.bytes) size;
    }

-- a window with one segment more, as the code has it
pub appended : (raw : List ℕ) (segments : List OldBytes) (n : ℕ) (window new : List ℕ) (s : OldBytes) → slice_get segments n ≡ Some s → new ≡ window ++ s.bytes → Holds raw segments n window
    → Holds raw segments (n + 1) new
appended raw segments n window new s at is holds = subst (Holds raw segments (n + 1)) (sym is) (one_more raw segments n window s at holds)

pub longer_still : (first window bytes new : List ℕ) → (more : List ℕ) × (window ≡ first ++ more) → new ≡ window ++ bytes → (more : List ℕ) × (new ≡ first ++ more)
longer_still first window bytes new low is = (low.0 ++ bytes, is ∙ ap (λ (t : List ℕ). t ++ bytes) low.1 ∙ append_assoc first low.0 bytes)

-- the size of the last segment
abbrev pub Sized : List OldBytes → ℕ → ℕ → Type 0
Sized segments n size = (s : OldBytes) → slice_get segments (n - 1) ≡ Some s → size ≡ length s.bytes

-- a window with one segment less
pub shortened : (raw : List ℕ) (segments : List OldBytes) (n len size : ℕ) (window new : List ℕ) → 0 < n → len ≡ length window → Sized segments n size → new ≡ take (len - size) window
    → Holds raw segments n window → Holds raw segments (n - 1) new
shortened raw segments n len size window new some long sized is holds =
    let last = last_of segments n some holds.within in
    let same : new ≡ take (length window - length last.0.bytes) window = is ∙ ap₂ (λ (j k : ℕ). take (j - k) window) long (sized last.0 last.1) in
    subst (Holds raw segments (n - 1)) (sym same) (one_less raw segments n window last.0 some last.1 holds)

pub pos_within : (pos len size : ℕ) (window new : List ℕ) → pos ≤ length window → len ≡ length window → size ≤ len - pos → new ≡ take (len - size) window → pos ≤ length new
pos_within pos len size window new within long few is =
    let all = ap (λ (t : List ℕ). length t) is ∙ length-take-le (len - size) window (omega (arith, long)) in
    omega (arith, all, long, few, within)

-- a last segment that is longer than what is behind a position begins before it
pub tight_end : (raw : List ℕ) (segments : List OldBytes) (n pos len size : ℕ) (window : List ℕ) → pos ≤ length window → len ≡ length window → Sized segments n size → len - pos < size
    → Holds raw segments n window → IsTight raw segments n pos
tight_end raw segments n pos len size window within is sized few holds = λ some.
    let last = last_of segments n some holds.within in
    let long = ap (λ (t : List ℕ). length t) (ends_with raw segments n window last.0 some last.1 holds) in
    let front = raw ++ bytes_of (take (n - 1) segments) in
    omega (arith, long, within, is, few, sized last.0 last.1, length-append front last.0.bytes, length-append raw (bytes_of (take (n - 1) segments)))

-- no segment is in the window
pub tight_none : (raw : List ℕ) (segments : List OldBytes) (n pos : ℕ) → n ≡ 0 → IsTight raw segments n pos
tight_none raw segments n pos none = λ some. absurd (omega (arith, none, some))

-- a segment that begins before a position isn't given back
pub still_kept : (raw : List ℕ) (segments : List OldBytes) (n pos len size : ℕ) (window : List ℕ) (k : ℕ) → pos ≤ length window → len ≡ length window → Sized segments n size → size ≤ len - pos
    → Holds raw segments n window → k < n → length raw + length (bytes_of (take k segments)) < pos → k < n - 1
still_kept raw segments n pos len size window k within is sized few holds low before =
    let some : 0 < n = omega (arith, low) in
    let last = last_of segments n some holds.within in
    let long = ap (λ (t : List ℕ). length t) (ends_with raw segments n window last.0 some last.1 holds) in
    let front = raw ++ bytes_of (take (n - 1) segments) in
    ⊎_elim
    (λ (here : k ≡ n - 1).
    let same = ap (λ (j : ℕ). length (bytes_of (take j segments))) here in
    absurd (omega (arith, before, same, long, within, is, few, sized last.0 last.1, length-append front last.0.bytes, length-append raw (bytes_of (take (n - 1) segments)))))
    (λ other. ⊎_elim (λ (less : k < n - 1). less) (λ (more : n - 1 < k). absurd (omega (arith, low, more))) other)
    (cases_order k (n - 1))
