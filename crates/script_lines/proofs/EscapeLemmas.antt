-- Reading escapes from left to right.
use Rattle.std.proofs.Common.{◌≡◌, ◌≢◌, ◌<◌, ◌+◌, ◌-◌, ◌==◌, ◌⊎◌, ℕ, true, false, List, [], ◌∷◌, ◌++◌, length, take, drop, get_or, Option, Some, None, refl, sym, ap, ◌∙◌, arith, append_assoc, append-nil, length-append, length-drop, ⊎_elim}
use Rattle.std.proofs.lemmas.List.{take_rest}
use Rattle.std.proofs.lemmas.Bool.Decides.{nat_tests}
use Rattle.form_meanings.specs.Words.{◌>>=◌}
use Rattle.edit_rules.specs.Script.{escaped, unescaped}
use Rattle.script_lines.specs.Escapes.{SpellsSome}

abbrev behind : List ℕ → ℕ → List ℕ
behind raw n = take (length raw - n) (drop n raw)

is_92 : (b : ℕ) → b ≡ 92 → (b == 92) ≡ true
is_92 b e = grind (arith, nat_tests)

isnt_92 : (b : ℕ) → b ≢ 92 → (b == 92) ≡ false
isnt_92 b e = grind (arith, nat_tests)

-- a byte that is no backslash stands for itself
pub plain_byte : (raw : List ℕ) → length raw ≢ 0 → get_or raw 0 0 ≢ 92 → unescaped raw ≡ (unescaped (behind raw 1) >>= λ bs. Some (get_or raw 0 0 ∷ bs))
unfolding unescaped
plain_byte [] some other = absurd (some refl)
plain_byte (b ∷ []) some other = rw (isnt_92 b other) refl
plain_byte (b ∷ c ∷ cs) some other = rw (isnt_92 b other, take_rest) refl

-- a backslash at the end
pub lone_escape : (raw : List ℕ) → length raw ≡ 1 → get_or raw 0 0 ≡ 92 → unescaped raw ≡ None
unfolding unescaped
lone_escape [] one is = absurd (omega (arith, one))
lone_escape (b ∷ []) one is = rw (is_92 b is) refl
lone_escape (b ∷ c ∷ cs) one is = absurd (omega (arith, one))

escape_of : (raw : List ℕ) → length raw ≢ 0 → length raw ≢ 1 → get_or raw 0 0 ≡ 92 → unescaped raw ≡ (escaped (get_or raw 1 0) >>= λ b. (unescaped (behind raw 2) >>= λ bs. Some (b ∷ bs)))
unfolding unescaped
escape_of [] some more is = absurd (some refl)
escape_of (b ∷ []) some more is = absurd (more refl)
escape_of (b ∷ c ∷ cs) some more is = rw (is_92 b is, take_rest) refl

pub good_escape : (raw : List ℕ) (b : ℕ) → length raw ≢ 0 → length raw ≢ 1 → get_or raw 0 0 ≡ 92 → Some b ≡ escaped (get_or raw 1 0)
    → unescaped raw ≡ (unescaped (behind raw 2) >>= λ bs. Some (b ∷ bs))
good_escape raw b some more is e = escape_of raw some more is ∙ ap (λ o. o >>= λ c. (unescaped (behind raw 2) >>= λ bs. Some (c ∷ bs))) (sym e)

pub bad_escape : (raw : List ℕ) → length raw ≢ 0 → length raw ≢ 1 → get_or raw 0 0 ≡ 92 → None ≡ escaped (get_or raw 1 0) → unescaped raw ≡ None
bad_escape raw some more is e = escape_of raw some more is ∙ ap (λ o. o >>= λ c. (unescaped (behind raw 2) >>= λ bs. Some (c ∷ bs))) (sym e)

-- what is read so far, and what is left
pub record Unescaping (raw put rest : List ℕ) : Type 0 where
  pub joined : unescaped raw ≡ (unescaped rest >>= λ bs. Some (put ++ bs))

whole : (o : Option (List ℕ)) → o ≡ (o >>= λ bs. Some bs)
whole None = refl
whole (Some bs) = refl

pub unescaping_start : (raw : List ℕ) → Unescaping raw [] raw
unescaping_start raw = record { joined = whole (unescaped raw) }

after_next : (o : Option (List ℕ)) (put : List ℕ) (b : ℕ) → ((o >>= λ bs. Some (b ∷ bs)) >>= λ bs. Some (put ++ bs)) ≡ (o >>= λ bs. Some ((put ++ b ∷ []) ++ bs))
after_next None put b = refl
after_next (Some bs) put b = ap Some (sym (append_assoc put (b ∷ []) bs))

pub unescaping_more : (raw put rest later : List ℕ) (b : ℕ) → Unescaping raw put rest → unescaped rest ≡ (unescaped later >>= λ bs. Some (b ∷ bs)) → Unescaping raw (put ++ b ∷ []) later
unescaping_more raw put rest later b so_far next = record { joined = so_far.joined ∙ ap (λ o. o >>= λ bs. Some (put ++ bs)) next ∙ after_next (unescaped later) put b }

pub unescaping_end : (raw put rest : List ℕ) → Unescaping raw put rest → rest ≡ [] → unescaped raw ≡ Some put
unfolding unescaped
unescaping_end raw put rest so_far done = so_far.joined ∙ ap (λ r. unescaped r >>= λ bs. Some (put ++ bs)) done ∙ ap Some (append-nil put)

pub unescaping_bad : (raw put rest : List ℕ) → Unescaping raw put rest → unescaped rest ≡ None → unescaped raw ≡ None
unescaping_bad raw put rest so_far bad = so_far.joined ∙ ap (λ o. o >>= λ bs. Some (put ++ bs)) bad

-- the same, where only the number of bytes is kept
abbrev pub Counting : List ℕ → ℕ → List ℕ → Type 0
Counting raw n rest = (put : List ℕ) × Unescaping raw put rest × (length put ≡ n)

pub counting_more : (raw rest later : List ℕ) (n b : ℕ) → Counting raw n rest → unescaped rest ≡ (unescaped later >>= λ bs. Some (b ∷ bs)) → Counting raw (n + 1) later
counting_more raw rest later n b (put, so_far, count) next = (put ++ b ∷ [], unescaping_more raw put rest later b so_far next, length-append put (b ∷ []) ∙ ap (λ k. k + 1) count)

pub counting_end : (raw rest : List ℕ) (n : ℕ) → Counting raw n rest → rest ≡ [] → SpellsSome raw n
counting_end raw rest n (put, so_far, count) done = ap (λ o. o >>= λ bs. Some (length bs)) (unescaping_end raw put rest so_far done) ∙ ap Some count

pub counting_bad : (raw rest : List ℕ) (n : ℕ) → Counting raw n rest → rest ≢ [] → (rest ≡ []) ⊎ (unescaped rest ≡ None) → unescaped raw ≡ None
counting_bad raw rest n (put, so_far, count) some end = ⊎_elim (λ e. absurd (some e)) (λ e. unescaping_bad raw put rest so_far e) end

-- good escapes are read to their end
pub unescaped_all : (raw put rest : List ℕ) (n : ℕ) → SpellsSome raw n → Unescaping raw put rest → (rest ≡ []) ⊎ (unescaped rest ≡ None) → unescaped raw ≡ Some put
unescaped_all raw put rest n good so_far end =
    ⊎_elim (λ e. unescaping_end raw put rest so_far e) (λ e. absurd (none_is_some (sym (ap (λ o. o >>= λ bs. Some (length bs)) (unescaping_bad raw put rest so_far e)) ∙ good))) end where
      none_is_some : {A : Type 0} {a : A} → None ≡ Some a → ⊥
      none_is_some e = cc

pub behind_shorter : (raw : List ℕ) (n : ℕ) → 0 < n → length raw ≢ 0 → length (behind raw n) < length raw
behind_shorter raw n some there = let e = ap length (take_rest raw n) in omega (arith, length-drop n raw, e, some, there)

pub empty_of_length : {A : Type 0} (xs : List A) → true ≡ (length xs == 0) → xs ≡ []
empty_of_length [] e = refl
empty_of_length (x ∷ xs) e = let none : length (x ∷ xs) ≡ 0 = grind (arith, nat_tests) in absurd (omega (arith, none))
