-- What a form tells of the numbers of a value none of which is bad, and which numbers leave none bad.
use Rattle.std.proofs.Common.{◌≡◌, inl, inr, ℕ, ◌+◌, Bool, true, false, List, [], ◌∷◌, ◌++◌, length, Option, Some, None, refl, if◌then◌else◌}
use Rattle.std.specs.Prelude.{IfSome}
use Rattle.std.specs.List.{All}
use Rattle.std.specs.Option.{option_or}
use Rattle.std.proofs.lemmas.List.Elements.{All-nil, All-cons, All-head, All-tail}
use Rattle.form_meanings.specs.Meaning.{Seen, Meaning, spell_all, bad_of_all, empty_meaning, word_meaning, number_meaning, one_of_meaning, upto_meaning, behind_meaning, before_meaning, closed_meaning, seq_meaning, alt_meaning, opt_meaning, many_meaning, seen_meaning, limited_meaning}
use Rattle.number_laws.specs.PartNumbers.{Passes}

-- none of a value's numbers is bad, whatever stands after it, just where this holds of the value
pub record Tells {A : Type 0} (f : Meaning A) (P : A → Type 0) : Type 0 where
  pub tell : (a : A) (ws : List (List ℕ)) → f.bad a ws ≡ None → P a
  pub good : (a : A) (ws : List (List ℕ)) → P a → f.bad a ws ≡ None

-- a form without numbers
abbrev pub NoNumbers : {A : Type 0} → Meaning A → Type 0
NoNumbers f = Tells f (λ a. Unit {0})

both_none : {A : Type 0} (x y : Option A) → option_or x y ≡ None → (x ≡ None) × (y ≡ None)
both_none None y e = (refl, e)
both_none (Some a) y e = absurd (cc)

none_both : {A : Type 0} (x y : Option A) → x ≡ None → y ≡ None → option_or x y ≡ None
none_both x y e f = rw e f

none_if : {A : Type 0} (b : Bool) (a : A) → (if b then None else Some a) ≡ None → b ≡ true
none_if true a e = refl
none_if false a e = absurd (cc)

if_none : {A : Type 0} (b : Bool) (a : A) → b ≡ true → (if b then None else Some a) ≡ None
if_none b a e = rw e refl

-- numbers that always pass
pub no_numbers : {A : Type 0} {P : A → Type 0} (f : Meaning A) → Tells f P → ((a : A) → P a) → NoNumbers f
no_numbers f t all = record { tell = λ a ws e. tt; good = λ a ws p. t.good a ws (all a) }

pub empty_tells : NoNumbers empty_meaning
empty_tells = record { tell = λ a ws e. tt; good = λ a ws p. refl }

pub word_tells : (t : List ℕ → Bool) → NoNumbers (word_meaning t)
word_tells t = record { tell = λ a ws e. tt; good = λ a ws p. refl }

pub one_of_tells : {A : Type 0} (word_of : A → List ℕ) (all : List A) → NoNumbers (one_of_meaning word_of all)
one_of_tells word_of all = record { tell = λ a ws e. tt; good = λ a ws p. refl }

pub upto_tells : (t : List ℕ → Bool) → NoNumbers (upto_meaning t)
upto_tells t = record { tell = λ a ws e. tt; good = λ a ws p. refl }

pub number_tells : (t : List ℕ → Bool) → Tells (number_meaning t) (Passes t)
number_tells t = record { tell = λ w ws e. none_if (t w) (length (w ∷ ws)) e; good = λ w ws p. if_none (t w) (length (w ∷ ws)) p }

pub behind_tells : {A : Type 0} {P : A → Type 0} (w : List ℕ) (f : Meaning A) → Tells f P → Tells (behind_meaning w f) P
behind_tells w f t = record { tell = t.tell; good = t.good }

pub before_tells : {A : Type 0} {P : A → Type 0} (f : Meaning A) (w : List ℕ) → Tells f P → Tells (before_meaning f w) P
before_tells f w t = record { tell = λ a ws e. t.tell a (w ∷ ws) e; good = λ a ws p. t.good a (w ∷ ws) p }

pub closed_tells : {A : Type 0} {P : A → Type 0} (s : List ℕ → Bool) (f : Meaning A) → Tells f P → Tells (closed_meaning s f) P
closed_tells s f t = record { tell = t.tell; good = t.good }

pub seq_tells : {A B : Type 0} {P : A → Type 0} {Q : B → Type 0} (f : Meaning A) (g : Meaning B) → Tells f P → Tells g Q → Tells (seq_meaning f g) (λ x. P x.0 × Q x.1)
seq_tells f g t u = record {
  tell = λ x ws e. let n = both_none (f.bad x.0 (g.spell x.1 ++ ws)) (g.bad x.1 ws) e in (t.tell x.0 (g.spell x.1 ++ ws) n.0, u.tell x.1 ws n.1);
  good = λ x ws p. none_both (f.bad x.0 (g.spell x.1 ++ ws)) (g.bad x.1 ws) (t.good x.0 (g.spell x.1 ++ ws) p.0) (u.good x.1 ws p.1);
}

pub alt_tells : {A B : Type 0} (s : List ℕ → Bool) (f : Meaning A) (g : Meaning B) → NoNumbers f → NoNumbers g → NoNumbers (alt_meaning s f g)
alt_tells s f g t u = record { tell = λ x ws e. tt; good = elim [ inl a ↦ λ ws p. t.good a ws tt | inr b ↦ λ ws p. u.good b ws tt ] }

pub opt_tells : {A : Type 0} {P : A → Type 0} (s : List ℕ → Bool) (f : Meaning A) → Tells f P → Tells (opt_meaning s f) (λ o. IfSome o P)
opt_tells s f t = record { tell = elim [ Some a ↦ λ ws e. t.tell a ws e | None ↦ λ ws e. tt ]; good = elim [ Some a ↦ λ ws p. t.good a ws p | None ↦ λ ws p. refl ] }

pub opt_none : {A : Type 0} (s : List ℕ → Bool) (f : Meaning A) → NoNumbers f → NoNumbers (opt_meaning s f)
opt_none s f t = no_numbers _ (opt_tells s f t) (elim [ Some a ↦ tt | None ↦ tt ])

module _ {A : Type 0} {P : A → Type 0} (f : Meaning A) (t : Tells f P) where
  all_tell : (all : List A) (ws : List (List ℕ)) → bad_of_all f.spell f.bad all ws ≡ None → All P all
  all_tell [] ws e = All-nil P
  all_tell (a ∷ all) ws e =
      let n = both_none (f.bad a (spell_all f.spell all ++ ws)) (bad_of_all f.spell f.bad all ws) e in
      All-cons P a all (t.tell a (spell_all f.spell all ++ ws) n.0) (all_tell all ws n.1)

  all_good : (all : List A) (ws : List (List ℕ)) → All P all → bad_of_all f.spell f.bad all ws ≡ None
  all_good [] ws p = refl
  all_good (a ∷ all) ws p =
      none_both (f.bad a (spell_all f.spell all ++ ws)) (bad_of_all f.spell f.bad all ws) (t.good a (spell_all f.spell all ++ ws) (All-head P a all p)) (all_good all ws (All-tail P a all p))

pub many_tells : {A : Type 0} {P : A → Type 0} (s : List ℕ → Bool) (f : Meaning A) → Tells f P → Tells (many_meaning s f) (All P)
many_tells s f t = record { tell = all_tell f t; good = all_good f t }

pub many_none : {A : Type 0} (s : List ℕ → Bool) (f : Meaning A) → NoNumbers f → NoNumbers (many_meaning s f)
many_none s f t = no_numbers _ (many_tells s f t) (λ all k d less. tt)

-- in other words
pub seen_tells : {A B : Type 0} {P : A → Type 0} {Q : B → Type 0} (s : Seen A B) (f : Meaning A) → Tells f P
    → ((b : B) → P (s.from b) → Q b) → ((b : B) → Q b → P (s.from b)) → Tells (seen_meaning s f) Q
seen_tells s f t to from = record { tell = λ b ws e. to b (t.tell (s.from b) ws e); good = λ b ws q. t.good (s.from b) ws (from b q) }

pub limited_tells : {A : Type 0} {P : A → Type 0} (l : A → Bool) (n : ℕ) (f : Meaning A) → Tells f P → Tells (limited_meaning l n f) (λ a. P a × (l a ≡ true))
limited_tells l n f t = record {
  tell = λ a ws e. let m = both_none (f.bad a ws) (if l a then None else Some (n + length ws)) e in (t.tell a ws m.0, none_if (l a) (n + length ws) m.1);
  good = λ a ws p. none_both (f.bad a ws) (if l a then None else Some (n + length ws)) (t.good a ws p.0) (if_none (l a) (n + length ws) p.1);
}
