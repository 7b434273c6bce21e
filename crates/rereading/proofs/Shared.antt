-- Boundaries that old and new statements share.
use Rattle.std.proofs.Common.{◌≡◌, ◌≢◌, ◌≤◌, ◌<◌, ℕ, zero, suc, ◌+◌, ◌-◌, List, [], ◌∷◌, ◌++◌, length, take, Some, sym, ap, ◌∙◌, subst, arith, add-zero, length-append, ⊎_elim}
use Rattle.std.specs.List.{concat}
use Rattle.std.proofs.lemmas.Bool.{cases_order}
use Rattle.design_model.specs.declared.mode.Mode.{Mode}
use Rattle.rereading.specs.Rereading.{NotShared, NoneShared, new_bytes}
use Rattle.rereading.specs.Segments.{OldBytes, AreFull, bytes_of, mode_at}
use Rattle.rereading.specs.Windows.{Holds, IsTight}
use Rattle.rereading.specs.declared.pieces.NewPiece.{NewPiece}

-- how many bytes so many segments have
abbrev size : ℕ → List OldBytes → ℕ
size k segments = length (bytes_of (take k segments))

fewer : (j k : ℕ) (segments : List OldBytes) → j ≤ k → size j segments ≤ size k segments
fewer zero k ss low = omega arith
fewer (suc j) zero ss low = absurd (omega (arith, low))
fewer (suc j) (suc k) [] low = omega arith
fewer (suc j) (suc k) (s ∷ ss) low =
    let less = fewer j k ss (omega (arith, low)) in
    omega (arith, less, length-append s.bytes (bytes_of (take j ss)), length-append s.bytes (bytes_of (take k ss)))

grows : (j k : ℕ) (segments : List OldBytes) → AreFull segments → j < k → k < length segments → size j segments < size k segments
grows j k [] full low high = absurd (omega (arith, high))
grows j zero (s ∷ ss) full low high = absurd (omega (arith, low))
grows j (suc k) (s ∷ []) full low high = absurd (omega (arith, high))
grows zero (suc k) (s ∷ t ∷ ss) full low high = omega (arith, full.0, length-append s.bytes (bytes_of (take k (t ∷ ss))))
grows (suc j) (suc k) (s ∷ t ∷ ss) full low high =
    let less = grows j k (t ∷ ss) full.1 (omega (arith, low)) (omega (arith, high)) in
    omega (arith, less, length-append s.bytes (bytes_of (take j (t ∷ ss))), length-append s.bytes (bytes_of (take k (t ∷ ss))))

stands_within : (k : ℕ) (segments : List OldBytes) (mode : Mode) → mode_at segments k ≡ Some mode → k < length segments
stands_within zero [] mode stands = absurd (cc)
stands_within zero (s ∷ ss) mode stands = omega arith
stands_within (suc k) [] mode stands = absurd (cc)
stands_within (suc k) (s ∷ ss) mode stands = let within = stands_within k ss mode stands in omega (arith, within)

-- a position from which reading goes on is shared with no old statement
pub not_shared : (raw : List ℕ) (segments : List OldBytes) (used pos : ℕ) (window : List ℕ) (mode : Mode) → Holds raw segments used window → IsTight raw segments used pos → AreFull segments → pos ≤ length window
    → (pos ≡ length window → mode_at segments used ≢ Some mode) → NotShared raw segments pos mode
not_shared raw segments used pos window mode holds tight full within none = λ k same stands.
    let long : length window ≡ length raw + size used segments = ap (λ (t : List ℕ). length t) holds.is ∙ length-append raw (bytes_of (take used segments)) in
    ⊎_elim
    (λ (here : k ≡ used).
    let at : pos ≡ length raw + size used segments = same ∙ ap (λ (j : ℕ). length raw + size j segments) here in
    none (at ∙ sym long) (ap (mode_at segments) (sym here) ∙ stands))
    (λ other. ⊎_elim
    (λ (before : k < used).
    let begun = tight (omega (arith, before)) in
    let less = fewer k (used - 1) segments (omega (arith, before)) in
    omega (arith, begun, less, same))
    (λ (behind : used < k).
    let more = grows used k segments full behind (stands_within k segments mode stands) in
    omega (arith, more, same, long, within))
    other)
    (cases_order k used)

-- one piece more
none_more : {A : Type 0} (raw : List ℕ) (segments : List OldBytes) (place : ℕ) (ps : List (NewPiece A)) (p : NewPiece A) → NoneShared raw segments place ps
    → NotShared raw segments (place + length (concat (new_bytes ps))) p.mode → NoneShared raw segments place (ps ++ p ∷ [])
none_more raw segments place [] p none here = (subst (λ (k : ℕ). NotShared raw segments k p.mode) (add-zero place) here, tt)
none_more raw segments place (q ∷ qs) p none here =
    let sum : place + length (q.bytes.items ++ concat (new_bytes qs)) ≡ place + length q.bytes.items + length (concat (new_bytes qs)) = omega (arith, length-append q.bytes.items (concat (new_bytes qs))) in
    (none.0, none_more raw segments (place + length q.bytes.items) qs p none.1 (subst (λ (k : ℕ). NotShared raw segments k p.mode) sum here))

pub unshared_more : {A : Type 0} (raw : List ℕ) (segments : List OldBytes) (ps : List (NewPiece A)) (p : NewPiece A) (pos : ℕ) (mode : Mode) → p.mode ≡ mode → pos ≡ length (concat (new_bytes ps))
    → NoneShared raw segments 0 ps → NotShared raw segments pos mode → NoneShared raw segments 0 (ps ++ p ∷ [])
unshared_more raw segments ps p pos mode same at none here =
    let place : pos ≡ 0 + length (concat (new_bytes ps)) = omega (arith, at) in
    let there = subst (λ (k : ℕ). NotShared raw segments k mode) place here in
    none_more raw segments 0 ps p none (subst (NotShared raw segments (0 + length (concat (new_bytes ps)))) (sym same) there)
