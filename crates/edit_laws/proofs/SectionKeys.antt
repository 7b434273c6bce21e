-- Keys that stand once still do where one more comes that is none of them, and where one is taken out.
use Rattle.std.proofs.Common.{◌≡◌, ℕ, Bool, true, false, ◌&&◌, ◌||◌, List, [], ◌∷◌, ◌++◌, Option, Some, None, refl, sym, ap, subst, ◌∙◌, ⊎_elim, codes, if◌then◌else◌}
use Rattle.std.specs.Str.{bytes_eq}
use Rattle.std.proofs.lemmas.Bool.{cases_Bool as cases, and_right, or_parts, or_from}
use Rattle.design_model.specs.declared.fault.FaultCode.{FaultCode}
use Rattle.statement_model.specs.Grammar.{Key}
use Rattle.statement_model.specs.Reading.{same_words, is_among, repeats, with_key, fault_of_key}
use Rattle.def_grammar.specs.Records.{Record, key_of, without_units}
use Rattle.edit_laws.specs.StatementLaws.{AreOnce}
use Rattle.edit_laws.proofs.Keys.{same_key, key_itself, fresh_is_apart}

-- no key of these records is this one
abbrev pub NoneHas : Key → List Record → Type 0
NoneHas key [] = Unit {0}
NoneHas key (r ∷ rs) = (same_words (key_of r) key ≡ false) × NoneHas key rs

-- two keys differ either way
pub turned : (vs ws : Key) → same_words vs ws ≡ false → same_words ws vs ≡ false
turned vs ws differs = ⊎_elim
    (λ (is : same_words ws vs ≡ true).
    let same : same_words vs ws ≡ true = ap (λ (k : Key). same_words vs k) (same_key ws vs is) ∙ key_itself vs in
    absurd (cc))
    (λ (none : same_words ws vs ≡ false). none)
    (cases (same_words ws vs))

or_swap : (a b c : Bool) → (a || (b || c)) ≡ (b || (a || c))
or_swap true true c = refl
or_swap true false c = refl
or_swap false true c = refl
or_swap false false c = refl

-- a key that is none of those seen repeats nothing
none_repeats : (w : List ℕ) (ws : Key) (seen : List Key) → is_among seen (w ∷ ws) ≡ false → repeats seen (w ∷ ws) ≡ None
none_repeats w ws seen apart = rw apart refl

-- where units were seen, some are among the keys
units_seen : (seen : List Key) → without_units seen ≡ None → is_among seen (codes "UNITS" ∷ []) ≡ true
units_seen seen e = ⊎_elim
    (λ (is : is_among seen (codes "UNITS" ∷ []) ≡ true). is)
    (λ (none : is_among seen (codes "UNITS" ∷ []) ≡ false). let h = rw none at e in absurd (cc))
    (cases (is_among seen (codes "UNITS" ∷ [])))

seen_units : (seen : List Key) → is_among seen (codes "UNITS" ∷ []) ≡ true → without_units seen ≡ None
seen_units seen is = rw is refl

-- a key of two words, as a name in its section has
module _ (u v : List ℕ) where
  abbrev pub two : Key
  two = u ∷ v ∷ []

  -- the keys seen with it, in any order
  abbrev More : List Key → List Key → Type 0
  More seen all = (w : Key) → is_among all w ≡ (same_words w two || is_among seen w)

  more_with : (key : Key) (seen all : List Key) → More seen all → More (with_key key seen) (with_key key all)
  more_with [] seen all more = more
  more_with (w ∷ ws) seen all more = λ x. ap (λ (b : Bool). same_words x (w ∷ ws) || b) (more x) ∙ or_swap (same_words x (w ∷ ws)) (same_words x two) (is_among seen x)

  no_units : same_words (codes "UNITS" ∷ []) two ≡ false
  no_units = and_right (bytes_eq (codes "UNITS") u) false refl

  units_both : (seen all : List Key) → More seen all → is_among all (codes "UNITS" ∷ []) ≡ is_among seen (codes "UNITS" ∷ [])
  units_both seen all more = more (codes "UNITS" ∷ []) ∙ ap (λ (b : Bool). b || is_among seen (codes "UNITS" ∷ [])) no_units

  repeats_more : (key : Key) (seen all : List Key) → More seen all → repeats seen key ≡ None → same_words key two ≡ false → repeats all key ≡ None
  repeats_more [] seen all more fresh differs = refl
  repeats_more (w ∷ ws) seen all more fresh differs =
      none_repeats w ws all (more (w ∷ ws) ∙ or_from (same_words (w ∷ ws) two) (is_among seen (w ∷ ws)) differs (fresh_is_apart w ws seen fresh))

  repeats_fewer : (key : Key) (seen all : List Key) → More seen all → repeats all key ≡ None → repeats seen key ≡ None
  repeats_fewer [] seen all more fresh = refl
  repeats_fewer (w ∷ ws) seen all more fresh =
      none_repeats w ws seen (or_parts (same_words (w ∷ ws) two) (is_among seen (w ∷ ws)) (sym (more (w ∷ ws)) ∙ fresh_is_apart w ws all fresh)).1

  once_more : (recs : List Record) (seen all : List Key) → More seen all → NoneHas two recs → AreOnce seen recs → AreOnce all recs
  once_more [] seen all more none once = seen_units all (units_both seen all more ∙ units_seen seen once)
  once_more (r ∷ rs) seen all more none once =
      (repeats_more (key_of r) seen all more once.0 none.0, once_more rs (with_key (key_of r) seen) (with_key (key_of r) all) (more_with (key_of r) seen all more) none.1 once.1)

  once_fewer : (recs : List Record) (seen all : List Key) → More seen all → AreOnce all recs → AreOnce seen recs
  once_fewer [] seen all more once = seen_units seen (sym (units_both seen all more) ∙ units_seen all once)
  once_fewer (r ∷ rs) seen all more once =
      (repeats_fewer (key_of r) seen all more once.0, once_fewer rs (with_key (key_of r) seen) (with_key (key_of r) all) (more_with (key_of r) seen all more) once.1)

  fresh_with : (key : Key) (seen : List Key) → same_words two key ≡ false → is_among seen two ≡ false → is_among (with_key key seen) two ≡ false
  fresh_with [] seen differs apart = apart
  fresh_with (w ∷ ws) seen differs apart = or_from (same_words two (w ∷ ws)) (is_among seen two) differs apart

  -- one more record with such a key
  pub with_one : (xs ys : List Record) (r : Record) (seen : List Key) → key_of r ≡ two → is_among seen two ≡ false → NoneHas two (xs ++ ys) → AreOnce seen (xs ++ ys) → AreOnce seen (xs ++ r ∷ ys)
  with_one [] ys r seen key apart none once =
      let more : More seen (two ∷ seen) = λ w. refl in
      (ap (repeats seen) key ∙ none_repeats u (v ∷ []) seen apart, subst (λ (k : Key). AreOnce (with_key k seen) ys) (sym key) (once_more ys seen (two ∷ seen) more none once))
  with_one (x ∷ xs) ys r seen key apart none once =
      (once.0, with_one xs ys r (with_key (key_of x) seen) key (fresh_with (key_of x) seen (turned (key_of x) two none.0) apart) none.1 once.1)

  -- one less
  pub without_one : (xs ys : List Record) (r : Record) (seen : List Key) → key_of r ≡ two → AreOnce seen (xs ++ r ∷ ys) → AreOnce seen (xs ++ ys)
  without_one [] ys r seen key once =
      let more : More seen (two ∷ seen) = λ w. refl in
      once_fewer ys seen (two ∷ seen) more (subst (λ (k : Key). AreOnce (with_key k seen) ys) key once.1)
  without_one (x ∷ xs) ys r seen key once = (once.0, without_one xs ys r (with_key (key_of x) seen) key once.1)

-- one more record without a key
pub with_no_key : (xs ys : List Record) (r : Record) (seen : List Key) → key_of r ≡ [] → AreOnce seen (xs ++ ys) → AreOnce seen (xs ++ r ∷ ys)
with_no_key [] ys r seen none once = (ap (repeats seen) none, subst (λ (k : Key). AreOnce (with_key k seen) ys) (sym none) once)
with_no_key (x ∷ xs) ys r seen none once = (once.0, with_no_key xs ys r (with_key (key_of x) seen) none once.1)
