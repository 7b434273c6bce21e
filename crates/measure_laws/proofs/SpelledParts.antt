-- What a form counts of a value, where the value is spelled with no fewer words.
use Rattle.std.proofs.Common.{◌≤◌, ℕ, ◌+◌, Bool, List, [], ◌∷◌, length, Option, Some, None, arith, sum_by}
use Rattle.std.proofs.lemmas.List.{length-append}
use Rattle.std.proofs.lemmas.List.Sums.{sum_by-cons}
use Rattle.form_meanings.specs.Meaning.{Seen, Meaning, spell_all, behind_meaning, before_meaning, seq_meaning, opt_meaning, many_meaning, seen_meaning}

-- a value counts for no more than the words it is spelled with
pub record Counts {A : Type 0} (f : Meaning A) (n : A → ℕ) : Type 0 where
  pub few : (a : A) → n a ≤ length (f.spell a)

pub behind_counts : {A : Type 0} {n : A → ℕ} (w : List ℕ) (f : Meaning A) → Counts f n → Counts (behind_meaning w f) n
behind_counts w f c = record { few = λ a. let r = c.few a in omega (arith, r) }

pub before_counts : {A : Type 0} {n : A → ℕ} (f : Meaning A) (w : List ℕ) → Counts f n → Counts (before_meaning f w) n
before_counts f w c = record { few = λ a. let r = c.few a in omega (arith, r, length-append (f.spell a) (w ∷ [])) }

pub seq_counts : {A B : Type 0} {n : A → ℕ} {m : B → ℕ} (f : Meaning A) (g : Meaning B) → Counts f n → Counts g m → Counts (seq_meaning f g) (λ x. n x.0 + m x.1)
seq_counts f g c d = record { few = λ x. let r = c.few x.0 in let s = d.few x.1 in omega (arith, r, s, length-append (f.spell x.0) (g.spell x.1)) }

-- only the second of two forms counts
pub later_counts : {A B : Type 0} {m : B → ℕ} (f : Meaning A) (g : Meaning B) → Counts g m → Counts (seq_meaning f g) (λ x. m x.1)
later_counts f g d = record { few = λ x. let s = d.few x.1 in omega (arith, s, length-append (f.spell x.0) (g.spell x.1)) }

module _ {A : Type 0} {n : A → ℕ} (f : Meaning A) (c : Counts f n) where
  all_few : (all : List A) → sum_by n all ≤ length (spell_all f.spell all)
  all_few [] = omega arith
  all_few (a ∷ all) =
      let here = c.few a in
      let later = all_few all in
      omega (arith, here, later, sum_by-cons n a all, length-append (f.spell a) (spell_all f.spell all))

pub many_counts : {A : Type 0} {n : A → ℕ} (t : List ℕ → Bool) (f : Meaning A) → Counts f n → Counts (many_meaning t f) (sum_by n)
many_counts t f c = record { few = all_few f c }

-- what an optional value counts for
abbrev pub if_some : {A : Type 0} → (A → ℕ) → Option A → ℕ
if_some n None = 0
if_some n (Some a) = n a

pub opt_counts : {A : Type 0} {n : A → ℕ} (t : List ℕ → Bool) (f : Meaning A) → Counts f n → Counts (opt_meaning t f) (if_some n)
opt_counts t f c = record { few = elim [ Some a ↦ c.few a | None ↦ omega arith ] }

-- in other words
pub seen_counts : {A B : Type 0} {n : A → ℕ} {m : B → ℕ} (s : Seen A B) (f : Meaning A) → Counts f n → ((b : B) → m b ≤ n (s.from b)) → Counts (seen_meaning s f) m
seen_counts s f c so = record { few = λ b. let r = c.few (s.from b) in let t = so b in omega (arith, r, t) }
