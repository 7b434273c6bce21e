-- A word that isn't next can't be read.
use Rattle.std.proofs.Common.{◌≡◌, ℕ, Bool, true, false, List, [], ◌∷◌, Option, Some, None, if◌then◌else◌, refl}
use Rattle.form_meanings.specs.Words.{◌>>=◌, Rest, first_passes, is_word, key, next_passes}

not_passed : (b : Bool) (p : List ℕ × Rest) → (if b then Some p else None) ≡ None → b ≡ false
not_passed false p e = refl
not_passed true p e = absurd (cc)

not_kept : (o : Option (List ℕ × Rest)) → (o >>= λ p. Some p.1) ≡ None → o ≡ None
not_kept None e = refl
not_kept (Some p) e = absurd (cc)

not_first : (w : List ℕ) (ws : List (List ℕ)) (bad : Option ℕ) → key w (record { words = ws; bad = bad }) ≡ None → first_passes (is_word w) ws ≡ false
not_first w [] bad e = refl
not_first w (v ∷ ws) bad e = not_passed (is_word w v) (v, record { words = ws; bad = bad }) (not_kept _ e)

pub not_next : (w : List ℕ) (r : Rest) → key w r ≡ None → next_passes (is_word w) r ≡ false
not_next w r e = not_first w r.words r.bad e
