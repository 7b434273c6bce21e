-- Matching, by what stands before and after a star.
use Rattle.std.proofs.Common.{◌≡◌, ℕ, suc, Bool, true, List, [], ◌∷◌, ◌++◌, arith, refl, sym, ◌∙◌, ap, ⊎_elim}
use Rattle.std.specs.Prelude.{◌≢◌}
use Rattle.std.specs.List.{list_any}
use Rattle.std.proofs.lemmas.Bool.{false≢true, and_parts, and_from, or_cases, or_left, or_right, eq-eqb, ne_eqb, eqb-true, cases_eq, cond-false}
use Rattle.std.proofs.lemmas.List.{append_assoc}
use Rattle.place_rules.specs.Patterns.{star, tails, byte_then, matches}
use Rattle.place_kernels.specs.Stars.{Starless}

-- one byte of a pattern
pub at_star : (ps name : List ℕ) → matches (star ∷ ps) name ≡ list_any (matches ps) (tails name)
unfolding matches
at_star ps name = refl

at_other : (p : ℕ) (ps name : List ℕ) → p ≢ star → matches (p ∷ ps) name ≡ byte_then p (matches ps) name
unfolding matches
at_other p ps name other = cond-false _ _ _ (ne_eqb p star other)

at_end : (name : List ℕ) → matches [] name ≡ true → name ≡ []
unfolding matches
at_end [] h = refl
at_end (b ∷ bs) h = absurd (false≢true h)

pub none_by_none : matches [] [] ≡ true
unfolding matches
none_by_none = refl

-- a byte and what follows it
byte_says : (p : ℕ) (test : List ℕ → Bool) (name : List ℕ) → byte_then p test name ≡ true → (bs : List ℕ) × (name ≡ p ∷ bs) × (test bs ≡ true)
byte_says p test [] h = absurd (false≢true h)
byte_says p test (b ∷ bs) h =
    let parts = and_parts _ _ h in
    let same : p ≡ b = eqb-true p b parts.0 in
    (bs, ap (λ c. c ∷ bs) (sym same), parts.1)

byte_from : (p : ℕ) (test : List ℕ → Bool) (bs : List ℕ) → test bs ≡ true → byte_then p test (p ∷ bs) ≡ true
byte_from p test bs h = and_from _ _ (eq-eqb p p refl) h

-- a front and what follows it
pub tails_say : (test : List ℕ → Bool) (name : List ℕ) → list_any test (tails name) ≡ true → (front rest : List ℕ) × (name ≡ front ++ rest) × (test rest ≡ true)
tails_say test [] h = ⊎_elim (λ here. ([], [], refl, here)) (λ no. absurd (false≢true no)) (or_cases _ _ h)
tails_say test (b ∷ bs) h =
    ⊎_elim
    (λ here. ([], b ∷ bs, refl, here))
    (λ later. let found = tails_say test bs later in (b ∷ found.0, found.1, ap (λ xs. b ∷ xs) found.2, found.3))
    (or_cases _ _ h)

tails_here : (test : List ℕ → Bool) (rest : List ℕ) → test rest ≡ true → list_any test (tails rest) ≡ true
tails_here test [] h = or_left _ _ h
tails_here test (b ∷ bs) h = or_left _ _ h

pub tails_from : (test : List ℕ → Bool) (front rest : List ℕ) → test rest ≡ true → list_any test (tails (front ++ rest)) ≡ true
tails_from test [] rest h = tails_here test rest h
tails_from test (b ∷ bs) rest h = or_right _ _ (tails_from test bs rest h)

-- a name that matches two patterns with a star between them
pub record Joined (a b name : List ℕ) : Type 0 where
  pub front : List ℕ
  pub between : List ℕ
  pub rest : List ℕ
  pub is : name ≡ front ++ (between ++ rest)
  pub first : matches a front ≡ true
  pub last : matches b rest ≡ true

pub join_says : (a b name : List ℕ) → matches (a ++ (star ∷ b)) name ≡ true → Joined a b name
join_says [] b name h =
    let found = tails_say (matches b) name (sym (at_star b name) ∙ h) in
    record { front = []; between = found.0; rest = found.1; is = found.2; first = none_by_none; last = found.3 }
join_says (p ∷ a) b name h =
    ⊎_elim
    (λ (same : p ≡ star).
    let starred : matches (star ∷ (a ++ (star ∷ b))) name ≡ true = ap (λ c. matches (c ∷ (a ++ (star ∷ b))) name) (sym same) ∙ h in
    let found = tails_say (matches (a ++ (star ∷ b))) name (sym (at_star _ name) ∙ starred) in
    let later = join_says a b found.1 found.3 in
    let first : matches (star ∷ a) (found.0 ++ later.front) ≡ true = at_star a _ ∙ tails_from (matches a) found.0 later.front later.first in
    record {
      front = found.0 ++ later.front;
      between = later.between;
      rest = later.rest;
      is = found.2 ∙ ap (λ xs. found.0 ++ xs) later.is ∙ sym (append_assoc found.0 later.front (later.between ++ later.rest));
      first = ap (λ c. matches (c ∷ a) (found.0 ++ later.front)) same ∙ first;
      last = later.last;
    })
    (λ (other : p ≢ star).
    let found = byte_says p (matches (a ++ (star ∷ b))) name (sym (at_other p _ name other) ∙ h) in
    let later = join_says a b found.0 found.2 in
    record {
      front = p ∷ later.front;
      between = later.between;
      rest = later.rest;
      is = found.1 ∙ ap (λ xs. p ∷ xs) later.is;
      first = at_other p a _ other ∙ byte_from p (matches a) later.front later.first;
      last = later.last;
    })
    (cases_eq p star)

pub join_from : (a b front between rest : List ℕ) → matches a front ≡ true → matches b rest ≡ true → matches (a ++ (star ∷ b)) (front ++ (between ++ rest)) ≡ true
join_from [] b front between rest first last =
    let none : front ≡ [] = at_end front first in
    ap (λ xs. matches (star ∷ b) (xs ++ (between ++ rest))) none ∙ at_star b _ ∙ tails_from (matches b) between rest last
join_from (p ∷ a) b front between rest first last =
    ⊎_elim
    (λ (same : p ≡ star).
    let starred : matches (star ∷ a) front ≡ true = ap (λ c. matches (c ∷ a) front) (sym same) ∙ first in
    let found = tails_say (matches a) front (sym (at_star a front) ∙ starred) in
    let later = join_from a b found.1 between rest found.3 last in
    ap (λ c. matches (c ∷ (a ++ (star ∷ b))) (front ++ (between ++ rest))) same
    ∙ at_star _ _
    ∙ ap (λ xs. list_any (matches (a ++ (star ∷ b))) (tails xs)) (ap (λ xs. xs ++ (between ++ rest)) found.2 ∙ append_assoc found.0 found.1 (between ++ rest))
    ∙ tails_from (matches (a ++ (star ∷ b))) found.0 (found.1 ++ (between ++ rest)) later)
    (λ (other : p ≢ star).
    let found = byte_says p (matches a) front (sym (at_other p a front other) ∙ first) in
    let later = join_from a b found.0 between rest found.2 last in
    ap (λ xs. matches (p ∷ (a ++ (star ∷ b))) (xs ++ (between ++ rest))) found.1
    ∙ at_other p _ _ other
    ∙ byte_from p (matches (a ++ (star ∷ b))) (found.0 ++ (between ++ rest)) later)
    (cases_eq p star)

-- a pattern without stars
starless_tail : (p : ℕ) (ps : List ℕ) → Starless (p ∷ ps) → Starless ps
starless_tail p ps starless k d below = starless (suc k) d (omega arith)

starless_head : (p : ℕ) (ps : List ℕ) → Starless (p ∷ ps) → p ≢ star
starless_head p ps starless = starless 0 0 (omega arith)

pub starless_says : (ps name : List ℕ) → Starless ps → matches ps name ≡ true → ps ≡ name
starless_says [] name starless h = sym (at_end name h)
starless_says (p ∷ ps) name starless h =
    let found = byte_says p (matches ps) name (sym (at_other p ps name (starless_head p ps starless)) ∙ h) in
    ap (λ xs. p ∷ xs) (starless_says ps found.0 (starless_tail p ps starless) found.2) ∙ sym found.1

pub starless_from : (ps : List ℕ) → Starless ps → matches ps ps ≡ true
starless_from [] starless = none_by_none
starless_from (p ∷ ps) starless =
    at_other p ps (p ∷ ps) (starless_head p ps starless) ∙ byte_from p (matches ps) ps (starless_from ps (starless_tail p ps starless))
