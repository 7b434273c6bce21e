-- What is said of joins, as tests of each.
use Rattle.std.proofs.Common.{◌≡◌, ◌<◌, ℕ, Bool, true, false, not, ◌&&◌, ◌||◌, List, [], ◌∷◌, refl, sym, ap, ap₂, ◌∙◌, arith}
use Rattle.std.specs.Prelude.{nat_lt, ◌==◌, ◌↔◌}
use Rattle.std.specs.List.{list_any}
use Rattle.shape_rules.specs.Classes.{Respects, AreBelow}
use Rattle.part_classes.proofs.LabelLaws.{split}

-- a labelling parts the two of a join
abbrev pub parts_them : (ℕ → ℕ) → ℕ × ℕ → Bool
parts_them m e = not (m e.0 == m e.1)

-- a join is of parts below n
abbrev pub is_below : ℕ → ℕ × ℕ → Bool
is_below n e = nat_lt e.0 n && nat_lt e.1 n

other : {P : Type 0} → true ≡ false → P
other h = grind (arith, h)

or_first : (a b : Bool) → (a || b) ≡ false → a ≡ false
or_first true b h = other h
or_first false b h = refl

or_second : (a b : Bool) → (a || b) ≡ false → b ≡ false
or_second true b h = other h
or_second false b h = h

same_if : (a b : ℕ) → not (a == b) ≡ false → a ≡ b
same_if a b h = grind (arith, h)

same_test : (a b : ℕ) → a ≡ b → not (a == b) ≡ false
same_test a b h = grind (arith, h)

respects_tested : (m : ℕ → ℕ) (es : List (ℕ × ℕ)) → Respects m es → list_any (parts_them m) es ≡ false
respects_tested m [] r = refl
respects_tested m (e ∷ es) r = ap (λ (t : Bool). t || list_any (parts_them m) es) (same_test (m e.0) (m e.1) r.0) ∙ respects_tested m es r.1

tested_respects : (m : ℕ → ℕ) (es : List (ℕ × ℕ)) → list_any (parts_them m) es ≡ false → Respects m es
tested_respects m [] h = tt
tested_respects m (e ∷ es) h =
    let test = parts_them m e in
    (same_if (m e.0) (m e.1) (or_first test (list_any (parts_them m) es) h), tested_respects m es (or_second test (list_any (parts_them m) es) h))

-- joins of which a labelling parts some alike
pub respect_alike : (m : ℕ → ℕ) (es fs : List (ℕ × ℕ)) → list_any (parts_them m) es ≡ list_any (parts_them m) fs → Respects m es ↔ Respects m fs
respect_alike m es fs e = (λ r. tested_respects m fs (sym e ∙ respects_tested m es r), λ r. tested_respects m es (e ∙ respects_tested m fs r))

below_first : (n a b : ℕ) → not (nat_lt a n && nat_lt b n) ≡ false → a < n
below_first n a b h = split (nat_lt a n) (λ t. grind (arith, t)) (λ t. other (sym (ap (λ (u : Bool). not (u && nat_lt b n)) t) ∙ h))

below_second : (n a b : ℕ) → not (nat_lt a n && nat_lt b n) ≡ false → b < n
below_second n a b h =
    split (nat_lt b n) (λ t. grind (arith, t))
    (λ t. split (nat_lt a n) (λ u. other (sym (ap₂ (λ (x y : Bool). not (x && y)) u t) ∙ h)) (λ u. other (sym (ap (λ (x : Bool). not (x && nat_lt b n)) u) ∙ h)))

pub tested_below : (n : ℕ) (es : List (ℕ × ℕ)) → list_any (λ e. not (is_below n e)) es ≡ false → AreBelow n es
tested_below n [] h = tt
tested_below n (e ∷ es) h =
    let here = or_first (not (is_below n e)) (list_any (λ f. not (is_below n f)) es) h in
    (below_first n e.0 e.1 here, below_second n e.0 e.1 here, tested_below n es (or_second (not (is_below n e)) (list_any (λ f. not (is_below n f)) es) h))

kept : (below test : Bool) → not below ≡ false → (below && test) ≡ test
kept true test h = refl
kept false test h = other h

-- that they are below n need not be asked
pub all_below : (n : ℕ) (test : ℕ × ℕ → Bool) (es : List (ℕ × ℕ)) → list_any (λ e. not (is_below n e)) es ≡ false → list_any (λ e. is_below n e && test e) es ≡ list_any test es
all_below n test [] h = refl
all_below n test (e ∷ es) h =
    let out = λ (f : ℕ × ℕ). not (is_below n f) in
    ap₂ (λ (a b : Bool). a || b) (kept (is_below n e) (test e) (or_first (out e) (list_any out es) h)) (all_below n test es (or_second (out e) (list_any out es) h))
