-- Reading a form and spelling it are inverse, and the first bad number is noted where it stands.
use Rattle.std.proofs.Common.{◌≡◌, ◌≤◌, ◌⊎◌, inl, inr, ℕ, zero, suc, ◌+◌, Bool, true, false, List, [], ◌∷◌, ◌++◌, length, Option, Some, None, refl, sym, ap, ◌∙◌, append_assoc, arith, if◌then◌else◌}
use Rattle.std.specs.List.{All}
use Rattle.std.proofs.lemmas.List.Elements.{All-nil, All-cons, All-head, All-tail}
use Rattle.std.specs.Option.{option_or}
use Rattle.form_meanings.specs.Words.{◌>>=◌, Rest, is_word, is_place, next_of, next_word, word_that, key, number_at, noted, first_bad, first_passes, next_passes, split_at, split_rest, start}
use Rattle.std.proofs.lemmas.Bool.{cases_Bool as cases}
use Rattle.std.proofs.lemmas.Slice.Eq.{bytes_eq-Decides}
use Rattle.form_meanings.specs.Meaning.{Seen, Meaning, Shown, Exact, find, repeat, or_other, spell_all, first_or_end, FitAll, bad_of_all, empty_meaning, word_meaning, number_meaning, one_of_meaning, upto_meaning, behind_meaning, before_meaning, closed_meaning, seq_meaning, alt_meaning, opt_meaning, many_meaning, or_else_meaning, seen_meaning, none_meaning, left_meaning, right_meaning, limited_meaning, given_meaning}
use Rattle.form_meanings.proofs.Steps.{some_same, both_read, then_reads, if_cases, or_none, or_assoc}

-- a word that is this very word
same_word : (word w : List ℕ) → is_word word w ≡ true → word ≡ w
same_word word w e = sym ((bytes_eq-Decides w word).0 e)

-- the next word, from the words
first_reads : (w : List ℕ) (r r2 : Rest) → r.words ≡ w ∷ r2.words → r2.bad ≡ r.bad → next_word r ≡ Some (w, r2)
first_reads w r r2 words bad = rw (words, ← bad) refl

first_shows : (r : Rest) (p : List ℕ × Rest) → next_word r ≡ Some p → (r.words ≡ p.0 ∷ p.1.words) × (p.1.bad ≡ r.bad)
first_shows r p e = elim r.words as (λ ws. next_of ws r.bad ≡ Some p → (ws ≡ p.0 ∷ p.1.words) × (p.1.bad ≡ r.bad)) [
  | [] ↦ λ e. absurd (cc)
  | w ∷ ws ↦ λ e. let same = some_same (w, record { words = ws; bad = r.bad }) p e in
      (ap (λ (q : List ℕ × Rest). q.0 ∷ q.1.words) same, ap (λ (q : List ℕ × Rest). q.1.bad) (sym same))
] e

that_reads : (t : List ℕ → Bool) (w : List ℕ) (r r2 : Rest) → r.words ≡ w ∷ r2.words → t w ≡ true → r2.bad ≡ r.bad → word_that t r ≡ Some (w, r2)
that_reads t w r r2 words passes bad = then_reads (next_word r) _ (w, r2) (first_reads w r r2 words bad) ∙ rw passes refl

that_shows : (t : List ℕ → Bool) (r : Rest) (p : List ℕ × Rest) → word_that t r ≡ Some p → (r.words ≡ p.0 ∷ p.1.words) × (t p.0 ≡ true) × (p.1.bad ≡ r.bad)
that_shows t r p e =
    let x = both_read (next_word r) _ p e in
    let k = first_shows r x.0 x.1 in
    if_cases (t x.0.0) (Some x.0) None p ((r.words ≡ p.0 ∷ p.1.words) × (t p.0 ≡ true) × (p.1.bad ≡ r.bad))
    (λ is h. let same = some_same x.0 p h in rw (← same) (k.0, is, k.1)) (λ others h. absurd (cc)) x.2

key_reads : (w : List ℕ) (r r2 : Rest) → is_word w w ≡ true → r.words ≡ w ∷ r2.words → r2.bad ≡ r.bad → key w r ≡ Some r2
key_reads w r r2 self words bad = then_reads (word_that (is_word w) r) _ (w, r2) (that_reads (is_word w) w r r2 words self bad)

key_shows : (w : List ℕ) (r r2 : Rest) → key w r ≡ Some r2 → (r.words ≡ w ∷ r2.words) × (r2.bad ≡ r.bad)
key_shows w r r2 e =
    let x = both_read (word_that (is_word w) r) _ r2 e in
    let k = that_shows (is_word w) r x.0 x.1 in
    let same : x.0.1 ≡ r2 = some_same x.0.1 r2 x.2 in
    let first : w ≡ x.0.0 = same_word w x.0.0 k.1 in
    rw (← same) (k.0 ∙ ap (λ (v : List ℕ). v ∷ x.0.1.words) (sym first), k.2)

pub empty_exact : Exact empty_meaning
empty_exact = record {
  shows = λ r p e. let same = some_same (tt, r) p e in rw (← same) (record { words = refl; fits = tt; bad = sym (or_none r.bad) });
  reads = λ r r2 u s. let words = s.words in let bad = s.bad ∙ or_none r.bad in rw (← words, ← bad) refl;
}

pub word_exact : (t : List ℕ → Bool) → Exact (word_meaning t)
word_exact t = record {
  shows = λ r p e. let k = that_shows t r p e in record { words = k.0; fits = k.1; bad = k.2 ∙ sym (or_none r.bad) };
  reads = λ r r2 w s. that_reads t w r r2 s.words s.fits (s.bad ∙ or_none r.bad);
}

bad_or : (good : Bool) (left : ℕ) (bad : Option ℕ) → first_bad good left bad ≡ option_or bad (if good then None else Some left)
bad_or true left bad = sym (or_none bad)
bad_or false left None = refl
bad_or false left (Some n) = refl

bad_noted : (good : Bool) (all words : List (List ℕ)) (bad later : Option ℕ) → all ≡ words → later ≡ bad
    → first_bad good (length all) later ≡ option_or bad (if good then None else Some (length words))
bad_noted good all words bad later same kept = bad_or good (length all) later ∙ rw (kept, same) refl

pub number_exact : (t : List ℕ → Bool) → Exact (number_meaning t)
unfolding number_at
number_exact t = record {
  shows = λ r p e.
      let x = both_read (word_that is_place r) _ p e in
      let k = that_shows is_place r x.0 x.1 in
      let same = some_same (x.0.0, noted (t x.0.0) (length r.words) x.0.1) p x.2 in
      let n = bad_noted (t x.0.0) r.words (x.0.0 ∷ x.0.1.words) r.bad x.0.1.bad k.0 k.2 in
      rw (← same) (record { words = k.0; fits = k.1; bad = n });
  reads = λ r r2 w s.
      let r1 : Rest = record { words = r2.words; bad = r.bad } in
      let n : first_bad (t w) (length r.words) r.bad ≡ r2.bad = bad_or (t w) (length r.words) r.bad ∙ rw s.words (sym s.bad) in
      then_reads (word_that is_place r) _ (w, r1) (that_reads is_place w r r1 s.words s.fits refl) ∙ rw n refl;
}

pub seq_exact : {A B : Type 0} (f : Meaning A) (g : Meaning B) → Exact f → Exact g → Exact (seq_meaning f g)
seq_exact f g ef eg = record {
  shows = λ r p e.
      let a = both_read (f.read r) _ p e in
      let b = both_read (g.read a.0.1) _ p a.2 in
      let same = some_same ((a.0.0, b.0.0), b.0.1) p b.2 in
      let k1 = ef.shows r a.0 a.1 in
      let k2 = eg.shows a.0.1 b.0 b.1 in
      rw (← same) (record {
        words = k1.words ∙ ap (λ (ws : List (List ℕ)). f.spell a.0.0 ++ ws) k2.words ∙ sym (append_assoc (f.spell a.0.0) (g.spell b.0.0) b.0.1.words);
        fits = (rw k2.words at k1.fits, k2.fits);
        bad = k2.bad ∙ ap (λ (o : Option ℕ). option_or o (g.bad b.0.0 b.0.1.words)) (k1.bad ∙ ap (λ (ws : List (List ℕ)). option_or r.bad (f.bad a.0.0 ws)) k2.words) ∙ or_assoc r.bad (f.bad a.0.0 (g.spell b.0.0 ++ b.0.1.words)) (g.bad b.0.0 b.0.1.words);
      });
  reads = λ r r2 x s.
      let r1 : Rest = record { words = g.spell x.1 ++ r2.words; bad = option_or r.bad (f.bad x.0 (g.spell x.1 ++ r2.words)) } in
      let k1 = ef.reads r r1 x.0 (record { words = s.words ∙ append_assoc (f.spell x.0) (g.spell x.1) r2.words; fits = s.fits.0; bad = refl }) in
      let k2 = eg.reads r1 r2 x.1 (record { words = refl; fits = s.fits.1; bad = s.bad ∙ sym (or_assoc r.bad (f.bad x.0 (g.spell x.1 ++ r2.words)) (g.bad x.1 r2.words)) }) in
      then_reads (f.read r) _ (x.0, r1) k1 ∙ then_reads (g.read r1) _ (x.1, r2) k2;
}

same_self : (w : List ℕ) → is_word w w ≡ true
same_self w = (bytes_eq-Decides w w).1 refl

pub behind_exact : {A : Type 0} (w : List ℕ) (f : Meaning A) → Exact f → Exact (behind_meaning w f)
behind_exact w f ef = record {
  shows = λ r p e.
      let a = both_read (key w r) _ p e in
      let k1 = key_shows w r a.0 a.1 in
      let k2 = ef.shows a.0 p a.2 in
      record { words = k1.0 ∙ ap (λ (ws : List (List ℕ)). w ∷ ws) k2.words; fits = k2.fits; bad = k2.bad ∙ ap (λ (o : Option ℕ). option_or o (f.bad p.0 p.1.words)) k1.1 };
  reads = λ r r2 a s.
      let r1 : Rest = record { words = f.spell a ++ r2.words; bad = r.bad } in
      then_reads (key w r) _ r1 (key_reads w r r1 (same_self w) s.words refl) ∙ ef.reads r1 r2 a (record { words = refl; fits = s.fits; bad = s.bad });
}

pub before_exact : {A : Type 0} (f : Meaning A) (w : List ℕ) → Exact f → Exact (before_meaning f w)
before_exact f w ef = record {
  shows = λ r p e.
      let a = both_read (f.read r) _ p e in
      let b = both_read (key w a.0.1) _ p a.2 in
      let same = some_same (a.0.0, b.0) p b.2 in
      let k1 = ef.shows r a.0 a.1 in
      let k2 = key_shows w a.0.1 b.0 b.1 in
      rw (← same) (record {
        words = k1.words ∙ ap (λ (ws : List (List ℕ)). f.spell a.0.0 ++ ws) k2.0 ∙ sym (append_assoc (f.spell a.0.0) (w ∷ []) b.0.words);
        fits = rw k2.0 at k1.fits;
        bad = k2.1 ∙ k1.bad ∙ ap (λ (ws : List (List ℕ)). option_or r.bad (f.bad a.0.0 ws)) k2.0;
      });
  reads = λ r r2 a s.
      let r1 : Rest = record { words = w ∷ r2.words; bad = r2.bad } in
      let k1 = ef.reads r r1 a (record { words = s.words ∙ append_assoc (f.spell a) (w ∷ []) r2.words; fits = s.fits; bad = s.bad }) in
      then_reads (f.read r) _ (a, r1) k1 ∙ then_reads (key w r1) _ r2 (key_reads w r1 r2 (same_self w) refl refl);
}

pub closed_exact : {A : Type 0} (t : List ℕ → Bool) (f : Meaning A) → Exact f → Exact (closed_meaning t f)
closed_exact t f ef = record {
  shows = λ r p e.
      let a = both_read (f.read r) _ p e in
      if_cases (next_passes t a.0.1) (Some a.0) None p (Shown (closed_meaning t f) r p.0 p.1)
      (λ is h. let same = some_same a.0 p h in let k = ef.shows r a.0 a.1 in rw (← same) (record { words = k.words; fits = (is, k.fits); bad = k.bad })) (λ others h. absurd (cc)) a.2;
  reads = λ r r2 a s.
      then_reads (f.read r) _ (a, r2) (ef.reads r r2 a (record { words = s.words; fits = s.fits.1; bad = s.bad })) ∙ rw s.fits.0 refl;
}

pub seen_exact : {A B : Type 0} (v : Seen A B) (f : Meaning A) → Exact f → Exact (seen_meaning v f)
seen_exact v f ef = record {
  shows = λ r p e.
      let a = both_read (f.read r) _ p e in
      let same = some_same (v.to a.0.0, a.0.1) p a.2 in
      let k = ef.shows r a.0 a.1 in
      let back = sym (v.from_to a.0.0) in
      rw (← same) (record {
        words = k.words ∙ ap (λ x. f.spell x ++ a.0.1.words) back;
        fits = rw back at k.fits;
        bad = k.bad ∙ ap (λ x. option_or r.bad (f.bad x a.0.1.words)) back;
      });
  reads = λ r r2 b s.
      then_reads (f.read r) _ (v.from b, r2) (ef.reads r r2 (v.from b) (record { words = s.words; fits = s.fits; bad = s.bad })) ∙ ap (λ x. Some (x, r2)) (v.to_from b);
}

alt_reads : {A B : Type 0} (t : List ℕ → Bool) (f : Meaning A) (g : Meaning B) → Exact f → Exact g → (r r2 : Rest) (x : A ⊎ B) → Shown (alt_meaning t f g) r x r2 → (alt_meaning t f g).read r ≡ Some (x, r2)
alt_reads t f g ef eg r r2 (inl a) s =
    let is = s.fits.0 in let words = s.words in let here : first_passes t r.words ≡ true = rw words is in
    rw here (then_reads (f.read r) _ (a, r2) (ef.reads r r2 a (record { words = s.words; fits = s.fits.1; bad = s.bad })))
alt_reads t f g ef eg r r2 (inr b) s =
    let is = s.fits.0 in let words = s.words in let here : first_passes t r.words ≡ false = rw words is in
    rw here (then_reads (g.read r) _ (b, r2) (eg.reads r r2 b (record { words = s.words; fits = s.fits.1; bad = s.bad })))

opt_reads : {A : Type 0} (t : List ℕ → Bool) (f : Meaning A) → Exact f → (r r2 : Rest) (x : Option A) → Shown (opt_meaning t f) r x r2 → (opt_meaning t f).read r ≡ Some (x, r2)
opt_reads t f ef r r2 (Some a) s =
    let is = s.fits.0 in let words = s.words in let here : first_passes t r.words ≡ true = rw words is in
    rw here (then_reads (f.read r) _ (a, r2) (ef.reads r r2 a (record { words = s.words; fits = s.fits.1; bad = s.bad })))
opt_reads t f ef r r2 None s =
    let words = s.words in let here : first_passes t r.words ≡ false = rw words s.fits in
    let bad = or_none r.bad in
    rw here (rw (← words, ← (s.bad ∙ bad)) refl)

alt_first : {A B : Type 0} (t : List ℕ → Bool) (f : Meaning A) (g : Meaning B) → Exact f → (r : Rest) (p : (A ⊎ B) × Rest) → first_passes t r.words ≡ true
    → (f.read r >>= λ a. Some (inl a.0, a.1)) ≡ Some p → Shown (alt_meaning t f g) r p.0 p.1
alt_first {A = A} {B = B} t f g ef r p is h =
    let a = both_read (f.read r) (λ a. Some (inl a.0, a.1)) p h in
    let k = ef.shows r a.0 a.1 in
    let x : (A ⊎ B) × Rest = (inl a.0.0, a.0.1) in
    let same = some_same x p a.2 in
    rw (← same) (record { words = k.words; fits = (rw k.words at is, k.fits); bad = k.bad })

alt_second : {A B : Type 0} (t : List ℕ → Bool) (f : Meaning A) (g : Meaning B) → Exact g → (r : Rest) (p : (A ⊎ B) × Rest) → first_passes t r.words ≡ false
    → (g.read r >>= λ b. Some (inr b.0, b.1)) ≡ Some p → Shown (alt_meaning t f g) r p.0 p.1
alt_second {A = A} {B = B} t f g eg r p is h =
    let b = both_read (g.read r) (λ b. Some (inr b.0, b.1)) p h in
    let k = eg.shows r b.0 b.1 in
    let x : (A ⊎ B) × Rest = (inr b.0.0, b.0.1) in
    let same = some_same x p b.2 in
    rw (← same) (record { words = k.words; fits = (rw k.words at is, k.fits); bad = k.bad })

pub alt_exact : {A B : Type 0} (t : List ℕ → Bool) (f : Meaning A) (g : Meaning B) → Exact f → Exact g → Exact (alt_meaning t f g)
alt_exact t f g ef eg = record {
  shows = λ r p e. if_cases (next_passes t r) (f.read r >>= λ a. Some (inl a.0, a.1)) (g.read r >>= λ b. Some (inr b.0, b.1)) p (Shown (alt_meaning t f g) r p.0 p.1)
      (alt_first t f g ef r p) (alt_second t f g eg r p) e;
  reads = alt_reads t f g ef eg;
}

opt_some : {A : Type 0} (t : List ℕ → Bool) (f : Meaning A) → Exact f → (r : Rest) (p : Option A × Rest) → first_passes t r.words ≡ true
    → (f.read r >>= λ a. Some (Some a.0, a.1)) ≡ Some p → Shown (opt_meaning t f) r p.0 p.1
opt_some {A = A} t f ef r p is h =
    let a = both_read (f.read r) (λ a. Some (Some a.0, a.1)) p h in
    let k = ef.shows r a.0 a.1 in
    let x : Option A × Rest = (Some a.0.0, a.0.1) in
    let same = some_same x p a.2 in
    rw (← same) (record { words = k.words; fits = (rw k.words at is, k.fits); bad = k.bad })

opt_none : {A : Type 0} (t : List ℕ → Bool) (f : Meaning A) (r : Rest) (p : Option A × Rest) → first_passes t r.words ≡ false
    → Some (None, r) ≡ Some p → Shown (opt_meaning t f) r p.0 p.1
opt_none {A = A} t f r p is h =
    let x : Option A × Rest = (None, r) in
    let same = some_same x p h in
    rw (← same) (record { words = refl; fits = is; bad = sym (or_none r.bad) })

pub opt_exact : {A : Type 0} (t : List ℕ → Bool) (f : Meaning A) → Exact f → Exact (opt_meaning t f)
opt_exact t f ef = record {
  shows = λ r p e. if_cases (next_passes t r) (f.read r >>= λ a. Some (Some a.0, a.1)) (Some (None, r)) p (Shown (opt_meaning t f) r p.0 p.1)
      (opt_some t f ef r p) (opt_none t f r p) e;
  reads = opt_reads t f ef;
}

-- where a form doesn't read, it doesn't read with any other bad number before
still_none : {A : Type 0} (f : Meaning A) → Exact f → (r r2 : Rest) (o : Option (A × Rest)) → r2.words ≡ r.words → f.read r ≡ None → f.read r2 ≡ o → o ≡ None
still_none f ef r r2 None same none e = refl
still_none f ef r r2 (Some a) same none e =
    let k = ef.shows r2 a e in
    let r1 : Rest = record { words = a.1.words; bad = option_or r.bad (f.bad a.0 a.1.words) } in
    let h = ef.reads r r1 a.0 (record { words = sym same ∙ k.words; fits = k.fits; bad = refl }) in
    absurd (cc)

else_cases : {A B : Type 0} (o : Option (A × Rest)) (other : Option (B × Rest)) (p : (A ⊎ B) × Rest) (P : Type 0)
    → ((a : A × Rest) → o ≡ Some a → Some (inl a.0, a.1) ≡ Some p → P) → (o ≡ None → (other >>= λ b. Some (inr b.0, b.1)) ≡ Some p → P)
    → or_other o other ≡ Some p → P
else_cases (Some a) other p P this others e = this a refl e
else_cases None other p P this others e = others refl e

else_first : {A B : Type 0} (f : Meaning A) (g : Meaning B) → Exact f → (r : Rest) (p : (A ⊎ B) × Rest) (a : A × Rest) → f.read r ≡ Some a → Some (inl a.0, a.1) ≡ Some p → Shown (or_else_meaning f g) r p.0 p.1
else_first {A = A} {B = B} f g ef r p a e h =
    let k = ef.shows r a e in
    let x : (A ⊎ B) × Rest = (inl a.0, a.1) in
    let same = some_same x p h in
    rw (← same) (record { words = k.words; fits = k.fits; bad = k.bad })

else_second : {A B : Type 0} (f : Meaning A) (g : Meaning B) → Exact f → Exact g → (r : Rest) (p : (A ⊎ B) × Rest) → f.read r ≡ None
    → (g.read r >>= λ b. Some (inr b.0, b.1)) ≡ Some p → Shown (or_else_meaning f g) r p.0 p.1
else_second {A = A} {B = B} f g ef eg r p none h =
    let b = both_read (g.read r) (λ b. Some (inr b.0, b.1)) p h in
    let k = eg.shows r b.0 b.1 in
    let x : (A ⊎ B) × Rest = (inr b.0.0, b.0.1) in
    let same = some_same x p b.2 in
    let here : Rest = start (g.spell b.0.0 ++ b.0.1.words) in
    rw (← same) (record { words = k.words; fits = (still_none f ef r here (f.read here) (sym k.words) none refl, k.fits); bad = k.bad })

else_reads : {A B : Type 0} (f : Meaning A) (g : Meaning B) → Exact f → Exact g → (r r2 : Rest) (x : A ⊎ B) → Shown (or_else_meaning f g) r x r2 → (or_else_meaning f g).read r ≡ Some (x, r2)
else_reads {A = A} {B = B} f g ef eg r r2 (inl a) s = ap (λ (o : Option (A × Rest)). or_other {B = B} o (g.read r)) (ef.reads r r2 a (record { words = s.words; fits = s.fits; bad = s.bad }))
else_reads {A = A} {B = B} f g ef eg r r2 (inr b) s =
    let none = still_none f ef (start (g.spell b ++ r2.words)) r (f.read r) s.words s.fits.0 refl in
    ap (λ (o : Option (A × Rest)). or_other {B = B} o (g.read r)) none
    ∙ then_reads (g.read r) (λ b. Some (inr b.0, b.1)) (b, r2) (eg.reads r r2 b (record { words = s.words; fits = s.fits.1; bad = s.bad }))

pub else_exact : {A B : Type 0} (f : Meaning A) (g : Meaning B) → Exact f → Exact g → Exact (or_else_meaning f g)
else_exact f g ef eg = record {
  shows = λ r p e. else_cases (f.read r) (g.read r) p (Shown (or_else_meaning f g) r p.0 p.1) (else_first f g ef r p) (else_second f g ef eg r p) e;
  reads = else_reads f g ef eg;
}

find_shows : {A : Type 0} (word_of : A → List ℕ) (all : List A) (w : List ℕ) (a : A) → find word_of all w ≡ Some a → word_of a ≡ w
find_shows word_of [] w a e = absurd (cc)
find_shows word_of (b ∷ all) w a e = if_cases (is_word (word_of b) w) (Some b) (find word_of all w) a (word_of a ≡ w)
    (λ is h. ap word_of (sym (some_same b a h)) ∙ same_word (word_of b) w is)
    (λ others h. find_shows word_of all w a h) e

pub one_of_exact : {A : Type 0} (word_of : A → List ℕ) (all : List A) → Exact (one_of_meaning word_of all)
one_of_exact {A = A} word_of all = record {
  shows = λ r p e.
      let w = both_read (next_word r) _ p e in
      let a = both_read (find word_of all w.0.0) _ p w.2 in
      let x : A × Rest = (a.0, w.0.1) in
      let same = some_same x p a.2 in
      let k = first_shows r w.0 w.1 in
      let named = find_shows word_of all w.0.0 a.0 a.1 in
      rw (← same) (record {
        words = k.0 ∙ ap (λ (v : List ℕ). v ∷ w.0.1.words) (sym named);
        fits = ap (find word_of all) named ∙ a.1;
        bad = k.1 ∙ sym (or_none r.bad);
      });
  reads = λ r r2 a s.
      then_reads (next_word r) (λ w. find word_of all w.0 >>= λ a. Some (a, w.1)) (word_of a, r2) (first_reads (word_of a) r r2 s.words (s.bad ∙ or_none r.bad))
      ∙ then_reads (find word_of all (word_of a)) (λ a. Some (a, r2)) a s.fits;
}

split_shows : (t : List ℕ → Bool) (ws : List (List ℕ)) → (ws ≡ (split_at t ws).0 ++ (split_at t ws).1) × All (λ v. t v ≡ false) (split_at t ws).0 × (first_or_end t (split_at t ws).1 ≡ true)
unfolding split_at
split_shows t [] = (refl, All-nil (λ v. t v ≡ false), refl)
split_shows t (w ∷ ws) =
    let k = split_shows t ws in
    elim (cases (t w)) [
      | inl stop ↦ rw stop (refl, All-nil (λ v. t v ≡ false), stop)
      | inr more ↦ rw more (ap (λ (x : List (List ℕ)). w ∷ x) k.0, All-cons (λ v. t v ≡ false) w (split_at t ws).0 more k.1, k.2)
    ]

split_reads : (t : List ℕ → Bool) (vs ws : List (List ℕ)) → All (λ v. t v ≡ false) vs → first_or_end t ws ≡ true → split_at t (vs ++ ws) ≡ (vs, ws)
unfolding split_at
split_reads t [] [] none stop = refl
split_reads t [] (w ∷ ws) none stop = rw stop refl
split_reads t (v ∷ vs) ws none stop =
    rw (All-head (λ v. t v ≡ false) v vs none) (ap (λ (x : List (List ℕ) × List (List ℕ)). (v ∷ x.0, x.1)) (split_reads t vs ws (All-tail (λ v. t v ≡ false) v vs none) stop))

pub upto_exact : (t : List ℕ → Bool) → Exact (upto_meaning t)
upto_exact t = record {
  shows = λ r p e.
      let k = split_shows t r.words in
      let same = some_same (split_rest t r) p e in
      rw (← same) (record { words = k.0; fits = (k.1, k.2); bad = sym (or_none r.bad) });
  reads = λ r r2 vs s.
      let k : split_at t r.words ≡ (vs, r2.words) = ap (split_at t) s.words ∙ split_reads t vs r2.words s.fits.0 s.fits.1 in
      rw (k, ← (s.bad ∙ or_none r.bad)) refl;
}

-- several values stand first, and what is left comes behind them
record ShownAll {A : Type 0} (t : List ℕ → Bool) (f : Meaning A) (n : ℕ) (r : Rest) (xs : List A) (r2 : Rest) : Type 0 where
  words : r.words ≡ spell_all f.spell xs ++ r2.words
  few : length xs ≤ n
  fit : FitAll t f.spell f.Fits xs r2.words
  bad : r2.bad ≡ option_or r.bad (bad_of_all f.spell f.bad xs r2.words)

none_shown : {A : Type 0} (t : List ℕ → Bool) (f : Meaning A) (n : ℕ) (r : Rest) (p : List A × Rest) → first_passes t r.words ≡ false → Some ([], r) ≡ Some p → ShownAll t f n r p.0 p.1
none_shown {A = A} t f n r p is e =
    let x : List A × Rest = ([], r) in
    let same = some_same x p e in
    rw (← same) (record { words = refl; few = omega arith; fit = is; bad = sym (or_none r.bad) })

some_shown : {A : Type 0} (t : List ℕ → Bool) (f : Meaning A) (n : ℕ) (r r1 r2 : Rest) (x : A) (xs : List A) → first_passes t r.words ≡ true → Shown f r x r1 → ShownAll t f n r1 xs r2
    → ShownAll t f (suc n) r (x ∷ xs) r2
some_shown t f n r r1 r2 x xs is k1 k2 =
    let words : r.words ≡ f.spell x ++ (spell_all f.spell xs ++ r2.words) = k1.words ∙ ap (λ (ws : List (List ℕ)). f.spell x ++ ws) k2.words in
    record {
      words = words ∙ sym (append_assoc (f.spell x) (spell_all f.spell xs) r2.words);
      few = let few = k2.few in omega arith;
      fit = (rw words at is, rw k2.words at k1.fits, k2.fit);
      bad = k2.bad ∙ ap (λ (o : Option ℕ). option_or o (bad_of_all f.spell f.bad xs r2.words)) (k1.bad ∙ ap (λ (ws : List (List ℕ)). option_or r.bad (f.bad x ws)) k2.words)
          ∙ or_assoc r.bad (f.bad x (spell_all f.spell xs ++ r2.words)) (bad_of_all f.spell f.bad xs r2.words);
    }

repeat_shows : {A : Type 0} (t : List ℕ → Bool) (f : Meaning A) → Exact f → (n : ℕ) (r : Rest) (p : List A × Rest) → repeat n t f.read r ≡ Some p → ShownAll t f n r p.0 p.1
unfolding repeat
repeat_shows t f ef zero r p e = if_cases (next_passes t r) None (Some ([], r)) p (ShownAll t f zero r p.0 p.1) (λ is h. absurd (cc)) (none_shown t f zero r p) e
repeat_shows {A = A} t f ef (suc n) r p e = if_cases (next_passes t r) (f.read r >>= λ first. repeat n t f.read first.1 >>= λ others. Some (first.0 ∷ others.0, others.1)) (Some ([], r)) p (ShownAll t f (suc n) r p.0 p.1)
    (λ is h.
    let a = both_read (f.read r) (λ first. repeat n t f.read first.1 >>= λ others. Some (first.0 ∷ others.0, others.1)) p h in
    let b = both_read (repeat n t f.read a.0.1) (λ others. Some (a.0.0 ∷ others.0, others.1)) p a.2 in
    let x : List A × Rest = (a.0.0 ∷ b.0.0, b.0.1) in
    let same = some_same x p b.2 in
    rw (← same) (some_shown t f n r a.0.1 b.0.1 a.0.0 b.0.0 is (ef.shows r a.0 a.1) (repeat_shows t f ef n a.0.1 b.0 b.1)))
    (none_shown t f (suc n) r p) e

repeat_reads : {A : Type 0} (t : List ℕ → Bool) (f : Meaning A) → Exact f → (n : ℕ) (r r2 : Rest) (xs : List A) → ShownAll t f n r xs r2 → repeat n t f.read r ≡ Some (xs, r2)
unfolding repeat
repeat_reads t f ef zero r r2 [] s =
    let words = s.words in let fit = s.fit in let here : first_passes t r.words ≡ false = rw words fit in
    let bad = s.bad ∙ or_none r.bad in
    rw here (rw (← words, ← bad) refl)
repeat_reads t f ef (suc n) r r2 [] s =
    let words = s.words in let fit = s.fit in let here : first_passes t r.words ≡ false = rw words fit in
    let bad = s.bad ∙ or_none r.bad in
    rw here (rw (← words, ← bad) refl)
repeat_reads t f ef zero r r2 (x ∷ xs) s = let few = s.few in absurd (omega arith)
repeat_reads t f ef (suc n) r r2 (x ∷ xs) s =
    let later = spell_all f.spell xs ++ r2.words in
    let words : r.words ≡ f.spell x ++ later = s.words ∙ append_assoc (f.spell x) (spell_all f.spell xs) r2.words in
    let is = s.fit.0 in
    let here : first_passes t r.words ≡ true = rw words is in
    let few = s.few in
    let r1 : Rest = record { words = later; bad = option_or r.bad (f.bad x later) } in
    let k1 = ef.reads r r1 x (record { words = words; fits = s.fit.1; bad = refl }) in
    let k2 = repeat_reads t f ef n r1 r2 xs (record { words = refl; few = omega arith; fit = s.fit.2; bad = s.bad ∙ sym (or_assoc r.bad (f.bad x later) (bad_of_all f.spell f.bad xs r2.words)) }) in
    rw here (then_reads (f.read r) (λ first. repeat n t f.read first.1 >>= λ others. Some (first.0 ∷ others.0, others.1)) (x, r1) k1
    ∙ then_reads (repeat n t f.read r1) (λ others. Some (x ∷ others.0, others.1)) (xs, r2) k2)

pub many_exact : {A : Type 0} (t : List ℕ → Bool) (f : Meaning A) → Exact f → Exact (many_meaning t f)
many_exact t f ef = record {
  shows = λ r p e.
      let k = repeat_shows t f ef (length r.words) r p e in
      let words = k.words in
      record { words = k.words; fits = (rw words at k.few, k.fit); bad = k.bad };
  reads = λ r r2 xs s.
      let words = s.words in
      repeat_reads t f ef (length r.words) r r2 xs (record { words = s.words; few = rw words s.fits.0; fit = s.fits.1; bad = s.bad });
}

pub none_exact : {A : Type 0} → Exact (none_meaning {A = A})
none_exact {A = A} = record { shows = λ r p e. absurd (cc); reads = λ r r2 a s. absurd (s.fits) }

left_reads : {A B : Type 0} (f : Meaning A) → Exact f → (r r2 : Rest) (x : A ⊎ B) → Shown (left_meaning {A = A} {B = B} f) r x r2 → (left_meaning {A = A} {B = B} f).read r ≡ Some (x, r2)
left_reads {A = A} {B = B} f ef r r2 (inl a) s = then_reads (f.read r) _ (a, r2) (ef.reads r r2 a (record { words = s.words; fits = s.fits; bad = s.bad }))
left_reads {A = A} {B = B} f ef r r2 (inr b) s = absurd (s.fits)

pub left_exact : {A B : Type 0} (f : Meaning A) → Exact f → Exact (left_meaning {A = A} {B = B} f)
left_exact {A = A} {B = B} f ef = record {
  shows = λ r p e.
      let a = both_read (f.read r) (λ a. Some (inl a.0, a.1)) p e in
      let k = ef.shows r a.0 a.1 in
      let x : (A ⊎ B) × Rest = (inl a.0.0, a.0.1) in
      let same = some_same x p a.2 in
      rw (← same) (record { words = k.words; fits = k.fits; bad = k.bad });
  reads = left_reads f ef;
}

right_reads : {A B : Type 0} (g : Meaning B) → Exact g → (r r2 : Rest) (x : A ⊎ B) → Shown (right_meaning {A = A} {B = B} g) r x r2 → (right_meaning {A = A} {B = B} g).read r ≡ Some (x, r2)
right_reads {A = A} {B = B} g eg r r2 (inl a) s = absurd (s.fits)
right_reads {A = A} {B = B} g eg r r2 (inr b) s = then_reads (g.read r) _ (b, r2) (eg.reads r r2 b (record { words = s.words; fits = s.fits; bad = s.bad }))

pub right_exact : {A B : Type 0} (g : Meaning B) → Exact g → Exact (right_meaning {A = A} {B = B} g)
right_exact {A = A} {B = B} g eg = record {
  shows = λ r p e.
      let b = both_read (g.read r) (λ b. Some (inr b.0, b.1)) p e in
      let k = eg.shows r b.0 b.1 in
      let x : (A ⊎ B) × Rest = (inr b.0.0, b.0.1) in
      let same = some_same x p b.2 in
      rw (← same) (record { words = k.words; fits = k.fits; bad = k.bad });
  reads = right_reads g eg;
}

pub limited_exact : {A : Type 0} (t : A → Bool) (n : ℕ) (f : Meaning A) → Exact f → Exact (limited_meaning t n f)
limited_exact {A = A} t n f ef = record {
  shows = λ r p e.
      let a = both_read (f.read r) (λ a. Some (a.0, noted (t a.0) (n + length a.1.words) a.1)) p e in
      let left = n + length a.0.1.words in
      let x : A × Rest = (a.0.0, noted (t a.0.0) left a.0.1) in
      let same = some_same x p a.2 in
      let k = ef.shows r a.0 a.1 in
      let over : Option ℕ = if t a.0.0 then None else Some left in
      let bad = bad_or (t a.0.0) left a.0.1.bad ∙ ap (λ (o : Option ℕ). option_or o over) k.bad ∙ or_assoc r.bad (f.bad a.0.0 a.0.1.words) over in
      rw (← same) (record { words = k.words; fits = k.fits; bad = bad });
  reads = λ r r2 a s.
      let left = n + length r2.words in
      let over : Option ℕ = if t a then None else Some left in
      let r1 : Rest = record { words = r2.words; bad = option_or r.bad (f.bad a r2.words) } in
      let k = ef.reads r r1 a (record { words = s.words; fits = s.fits; bad = refl }) in
      let bad : first_bad (t a) left r1.bad ≡ r2.bad = bad_or (t a) left r1.bad ∙ or_assoc r.bad (f.bad a r2.words) over ∙ sym s.bad in
      then_reads (f.read r) (λ a. Some (a.0, noted (t a.0) (n + length a.1.words) a.1)) (a, r1) k ∙ rw bad refl;
}

pub given_exact : {A : Type 0} (a : A) → Exact (given_meaning a)
given_exact {A = A} a = record {
  shows = λ r p e.
      let x : A × Rest = (a, r) in
      let same = some_same x p e in
      rw (← same) (record { words = refl; fits = refl; bad = sym (or_none r.bad) });
  reads = λ r r2 b s.
      let words = s.words in
      let bad = s.bad ∙ or_none r.bad in
      let same = s.fits in
      rw (same, ← words, ← bad) refl;
}
