-- What a form reads at the end of some words it reads before a ; behind them too, where none of its words can be that ;
use Rattle.std.proofs.Common.{◌≡◌, ◌≤◌, ◌<◌, inl, inr, ℕ, zero, suc, ◌+◌, Bool, true, false, List, [], ◌∷◌, ◌++◌, length, Option, Some, None, if◌then◌else◌, arith, refl, ap, ◌∙◌, ⊎_elim, codes, length-append}
use Rattle.std.proofs.lemmas.Bool.{cases_Bool as cases}
use Rattle.form_meanings.specs.Words.{◌>>=◌, Rest, is_word, is_place, word_that, key, number_at, noted, first_bad, next_passes}
use Rattle.form_meanings.specs.Meaning.{Seen, Meaning, find, repeat, empty_meaning, word_meaning, number_meaning, one_of_meaning, behind_meaning, before_meaning, seq_meaning, alt_meaning, opt_meaning, many_meaning, seen_meaning, limited_meaning}
use Rattle.statement_model.specs.Form.{Form, spell}
use Rattle.net_wiring.specs.WiringViews.{closed_rest, one_more}

abbrev pub end : List (List ℕ)
end = codes ";" ∷ []

abbrev pub closed_read : {A : Type 0} → Option (A × Rest) → Option (A × Rest)
closed_read None = None
closed_read (Some p) = Some (p.0, closed_rest p.1)

pub record Closes {A : Type 0} (f : Meaning A) : Type 0 where
  pub closes : (r : Rest) → f.read (closed_rest r) ≡ closed_read (f.read r)

-- one reading after another
pub then_at : {A B : Type 0} (o : Option (A × Rest)) (g h : A × Rest → Option (B × Rest)) → ((p : A × Rest) → o ≡ Some p → g (p.0, closed_rest p.1) ≡ closed_read (h p)) → (closed_read o >>= g) ≡ closed_read (o >>= h)
then_at None g h later = refl
then_at (Some p) g h later = later p refl

pub then_closed : {A B : Type 0} (o now : Option (A × Rest)) (g h : A × Rest → Option (B × Rest)) → now ≡ closed_read o → ((p : A × Rest) → g (p.0, closed_rest p.1) ≡ closed_read (h p)) → (now >>= g) ≡ closed_read (o >>= h)
then_closed o now g h is later = ap (λ (x : Option _). x >>= g) is ∙ then_at o g h (λ p _. later p)

pub if_closed : {A : Type 0} (b c : Bool) (f g : Option (A × Rest)) (now later : Option (A × Rest)) → b ≡ c → now ≡ closed_read f → later ≡ closed_read g → (if b then now else later) ≡ closed_read (if c then f else g)
if_closed b true f g now later same is other = rw same is
if_closed b false f g now later same is other = rw same other

pub passes_closed : (t : List ℕ → Bool) → t (codes ";") ≡ false → (r : Rest) → next_passes t (closed_rest r) ≡ next_passes t r
passes_closed t stop r = by_words r.words r.bad
  where
    by_words : (ws : List (List ℕ)) (bad : Option ℕ) → next_passes t (closed_rest (record { words = ws; bad = bad })) ≡ next_passes t (record { words = ws; bad = bad })
    by_words [] bad = stop
    by_words (w ∷ ws) bad = refl

pub one_longer : (ws : List (List ℕ)) → length (ws ++ end) ≡ suc (length ws)
one_longer ws = omega (arith, length-append ws end)

bad_more : (good : Bool) (n m : ℕ) (bad : Option ℕ) → m ≡ suc n → first_bad good m (one_more bad) ≡ one_more (first_bad good n bad)
bad_more true n m bad more = refl
bad_more false n m None more = ap (λ (k : ℕ). Some k) more
bad_more false n m (Some k) more = refl

noted_more : {A : Type 0} (a : A) (good : Bool) (n m : ℕ) (r : Rest) → m ≡ suc n → ◌≡◌ {A = Option (A × Rest)} (Some (a, noted good m (closed_rest r))) (Some (a, closed_rest (noted good n r)))
noted_more a good n m r more = ap (λ (bad : Option ℕ). Some (a, record { words = r.words ++ end; bad = bad })) (bad_more good n m r.bad more)

pub empty_closes : Closes empty_meaning
empty_closes = record { closes = λ r. refl }

pub word_closes : (t : List ℕ → Bool) → t (codes ";") ≡ false → Closes (word_meaning t)
word_closes t stop = record { closes = λ r. by_words r.words r.bad }
  where
    by_words : (ws : List (List ℕ)) (bad : Option ℕ) → word_that t (closed_rest (record { words = ws; bad = bad })) ≡ closed_read (word_that t (record { words = ws; bad = bad }))
    by_words [] bad = rw stop refl
    by_words (w ∷ ws) bad = ⊎_elim (λ (is : t w ≡ true). rw is refl) (λ (no : t w ≡ false). rw no refl) (cases (t w))

pub number_closes : (t : List ℕ → Bool) → Closes (number_meaning t)
unfolding number_at
number_closes t = record { closes = λ r. by_words r.words r.bad }
  where
    by_words : (ws : List (List ℕ)) (bad : Option ℕ) → number_at t (closed_rest (record { words = ws; bad = bad })) ≡ closed_read (number_at t (record { words = ws; bad = bad }))
    by_words [] bad = refl
    by_words (w ∷ ws) bad = ⊎_elim
        (λ (is : is_place w ≡ true). rw is (noted_more w (t w) (length (w ∷ ws)) (length ((w ∷ ws) ++ end)) (record { words = ws; bad = bad }) (one_longer (w ∷ ws))))
        (λ (no : is_place w ≡ false). rw no refl)
        (cases (is_place w))

pub one_of_closes : {A : Type 0} (word_of : A → List ℕ) (all : List A) → find word_of all (codes ";") ≡ None → Closes (one_of_meaning word_of all)
one_of_closes {A} word_of all stop = record { closes = λ r. by_words r.words r.bad }
  where
    by_found : (o : Option A) (r : Rest) → (o >>= λ a. Some (a, closed_rest r)) ≡ closed_read (o >>= λ a. Some (a, r))
    by_found None r = refl
    by_found (Some a) r = refl

    by_words : (ws : List (List ℕ)) (bad : Option ℕ) → (one_of_meaning word_of all).read (closed_rest (record { words = ws; bad = bad })) ≡ closed_read ((one_of_meaning word_of all).read (record { words = ws; bad = bad }))
    by_words [] bad = rw stop refl
    by_words (w ∷ ws) bad = by_found (find word_of all w) (record { words = ws; bad = bad })

-- what comes after a word
key_closed : {A : Type 0} (w : List ℕ) → is_word w (codes ";") ≡ false → (g h : Rest → Option (A × Rest)) → ((r : Rest) → g (closed_rest r) ≡ closed_read (h r)) → (r : Rest) → (key w (closed_rest r) >>= g) ≡ closed_read (key w r >>= h)
key_closed w stop g h later r = by_words r.words r.bad
  where
    by_words : (ws : List (List ℕ)) (bad : Option ℕ) → (key w (closed_rest (record { words = ws; bad = bad })) >>= g) ≡ closed_read (key w (record { words = ws; bad = bad }) >>= h)
    by_words [] bad = rw stop refl
    by_words (v ∷ ws) bad = ⊎_elim (λ (is : is_word w v ≡ true). rw is (later (record { words = ws; bad = bad }))) (λ (no : is_word w v ≡ false). rw no refl) (cases (is_word w v))

pub behind_closes : {A : Type 0} (w : List ℕ) (f : Meaning A) → is_word w (codes ";") ≡ false → Closes f → Closes (behind_meaning w f)
behind_closes w f stop c = record { closes = key_closed w stop f.read f.read c.closes }

pub before_closes : {A : Type 0} (f : Meaning A) (w : List ℕ) → is_word w (codes ";") ≡ false → Closes f → Closes (before_meaning f w)
before_closes f w stop c = record {
  closes = λ r. then_closed (f.read r) (f.read (closed_rest r)) (λ a. key w a.1 >>= λ b. Some (a.0, b)) (λ a. key w a.1 >>= λ b. Some (a.0, b)) (c.closes r)
      (λ p. key_closed w stop (λ b. Some (p.0, b)) (λ b. Some (p.0, b)) (λ b. refl) p.1);
}

pub seq_closes : {A B : Type 0} (f : Meaning A) (g : Meaning B) → Closes f → Closes g → Closes (seq_meaning f g)
seq_closes f g cf cg = record {
  closes = λ r. then_closed (f.read r) (f.read (closed_rest r)) (λ a. g.read a.1 >>= λ b. Some ((a.0, b.0), b.1)) (λ a. g.read a.1 >>= λ b. Some ((a.0, b.0), b.1)) (cf.closes r)
      (λ p. then_closed (g.read p.1) (g.read (closed_rest p.1)) (λ b. Some ((p.0, b.0), b.1)) (λ b. Some ((p.0, b.0), b.1)) (cg.closes p.1) (λ q. refl));
}

pub alt_closes : {A B : Type 0} (t : List ℕ → Bool) (f : Meaning A) (g : Meaning B) → t (codes ";") ≡ false → Closes f → Closes g → Closes (alt_meaning t f g)
alt_closes t f g stop cf cg = record {
  closes = λ r. if_closed (next_passes t (closed_rest r)) (next_passes t r) (f.read r >>= λ a. Some (inl a.0, a.1)) (g.read r >>= λ b. Some (inr b.0, b.1)) _ _ (passes_closed t stop r)
      (then_closed (f.read r) (f.read (closed_rest r)) (λ a. Some (inl a.0, a.1)) (λ a. Some (inl a.0, a.1)) (cf.closes r) (λ p. refl))
      (then_closed (g.read r) (g.read (closed_rest r)) (λ b. Some (inr b.0, b.1)) (λ b. Some (inr b.0, b.1)) (cg.closes r) (λ p. refl));
}

pub opt_closes : {A : Type 0} (t : List ℕ → Bool) (f : Meaning A) → t (codes ";") ≡ false → Closes f → Closes (opt_meaning t f)
opt_closes t f stop c = record {
  closes = λ r. if_closed (next_passes t (closed_rest r)) (next_passes t r) (f.read r >>= λ a. Some (Some a.0, a.1)) (Some (None, r)) _ _ (passes_closed t stop r)
      (then_closed (f.read r) (f.read (closed_rest r)) (λ a. Some (Some a.0, a.1)) (λ a. Some (Some a.0, a.1)) (c.closes r) (λ p. refl))
      refl;
}

pub seen_closes : {A B : Type 0} (s : Seen A B) (f : Meaning A) → Closes f → Closes (seen_meaning s f)
seen_closes s f c = record { closes = λ r. then_closed (f.read r) (f.read (closed_rest r)) (λ a. Some (s.to a.0, a.1)) (λ a. Some (s.to a.0, a.1)) (c.closes r) (λ p. refl) }

pub limited_closes : {A : Type 0} (t : A → Bool) (n : ℕ) (f : Meaning A) → Closes f → Closes (limited_meaning t n f)
limited_closes t n f c = record {
  closes = λ r. then_closed (f.read r) (f.read (closed_rest r)) (λ a. Some (a.0, noted (t a.0) (n + length a.1.words) a.1)) (λ a. Some (a.0, noted (t a.0) (n + length a.1.words) a.1)) (c.closes r)
      (λ p. noted_more p.0 (t p.0) (n + length p.1.words) (n + length (p.1.words ++ end)) p.1 (let more = one_longer p.1.words in omega (arith, more)));
}

-- what is read has words, so fewer are left
pub record Shortens {A : Type 0} (f : Meaning A) : Type 0 where
  pub shortens : (r : Rest) (p : A × Rest) → f.read r ≡ Some p → length p.1.words < length r.words

pub shorter : {A : Type 0} (form : Form A) → ((a : A) → 0 < length (spell form a)) → Shortens form.of
shorter form some = record {
  shortens = λ r p reads.
      let long = ap length (form.exact.shows r p reads).words in
      omega (arith, long, some p.0, length-append (spell form p.0) p.1.words);
}

module _ {A : Type 0} (t : List ℕ → Bool) (f : Meaning A) (short : Shortens f) where
  abbrev one_then : A → Option (List A × Rest) → Option (List A × Rest)
  one_then a others = others >>= λ o. Some (a ∷ o.0, o.1)

  repeat_closes : t (codes ";") ≡ false → Closes f → (n : ℕ) (r : Rest) → length r.words ≤ n → repeat (suc n) t f.read (closed_rest r) ≡ closed_read (repeat n t f.read r)
  unfolding repeat
  repeat_closes stop c zero r few = by_words r.words r.bad few
    where
      by_words : (ws : List (List ℕ)) (bad : Option ℕ) → length ws ≤ 0 → repeat 1 t f.read (closed_rest (record { words = ws; bad = bad })) ≡ closed_read (repeat 0 t f.read (record { words = ws; bad = bad }))
      by_words [] bad few = rw stop refl
      by_words (w ∷ ws) bad few = absurd (omega (arith, few))
  repeat_closes stop c (suc n) r few =
      if_closed (next_passes t (closed_rest r)) (next_passes t r) (f.read r >>= λ p. one_then p.0 (repeat n t f.read p.1)) (Some ([], r)) _ _ (passes_closed t stop r)
      (ap (λ (o : Option (A × Rest)). o >>= λ p. one_then p.0 (repeat (suc n) t f.read p.1)) (c.closes r)
      ∙ then_at (f.read r) (λ p. one_then p.0 (repeat (suc n) t f.read p.1)) (λ p. one_then p.0 (repeat n t f.read p.1))
      (λ p reads.
      let fewer = short.shortens r p reads in
      then_closed (repeat n t f.read p.1) (repeat (suc n) t f.read (closed_rest p.1)) (λ o. Some (p.0 ∷ o.0, o.1)) (λ o. Some (p.0 ∷ o.0, o.1)) (repeat_closes stop c n p.1 (omega (arith, fewer, few))) (λ q. refl)))
      refl

  pub many_closes : t (codes ";") ≡ false → Closes f → Closes (many_meaning t f)
  many_closes stop c = record { closes = λ r. ap (λ (n : ℕ). repeat n t f.read (closed_rest r)) (one_longer r.words) ∙ repeat_closes stop c (length r.words) r (omega arith) }
