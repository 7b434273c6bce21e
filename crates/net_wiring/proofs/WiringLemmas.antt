-- Clauses by what they are to wiring: those before it, the wiring, and those behind it.
use Rattle.std.proofs.Common.{◌≡◌, ℕ, suc, ◌+◌, ◌==◌, Bool, true, false, not, ◌||◌, List, [], ◌∷◌, length, drop, take_while, Option, Some, None, MatchOption, is_some, arith, refl, sym, ap, ap₂, ◌∙◌, ⊎_elim, length-append}
use Rattle.std.specs.List.{list_any}
use Rattle.std.proofs.lemmas.Bool.{cases_Bool as cases}
use Rattle.std.proofs.lemmas.Bool.Decides.{nat_tests}
use Rattle.std.proofs.lemmas.List.Sums.{take_while-cons}
use Rattle.form_meanings.specs.Words.{Rest}
use Rattle.form_meanings.specs.Meaning.{spell_all}
use Rattle.statement_model.specs.Form.{Form, read, spell}
use Rattle.edit_rules.specs.NetEdits.{Role, is_barring, is_held, is_of_wiring, is_wiring, before_wiring, from_wiring, wiring_of, behind_wiring, tokens_of}
use Rattle.edit_rules.specs.NetEdits as rules
use Rattle.net_wiring.specs.declared.wiring_clauses.Role as code
use Rattle.net_wiring.specs.WiringViews.{Clauses, IsNextRole, any_passes, behind_it, from_first, is_barred, is_other, role_view, shown, size_before, wiring_on}

-- a value that was read has its words
pub words_read : {C : Type 0} (form : Form C) (now after : Rest) (c : C) → read form now ≡ Some (c, after) → length now.words ≡ length (spell form c) + length after.words
words_read form now after c reads = ap length (form.exact.shows now (c, after) reads).words ∙ length-append (spell form c) after.words

-- what is left from the first on that passes a test, and how many tokens passed
pub record Passing (t : Role → Bool) (all left : Clauses) (all_tokens left_tokens : ℕ) : Type 0 where
  pub from : from_first t all ≡ from_first t left
  pub size : all_tokens + size_before t left ≡ size_before t all + left_tokens

pub passing_start : (t : Role → Bool) (all : Clauses) (n : ℕ) → Passing t all all n n
passing_start t all n = record { from = refl; size = omega arith }

module _ (t : Role → Bool) (all left : Clauses) (n k : ℕ) (p : Passing t all left n k) where
  module _ (r : Role) (count : ℕ) (later : Clauses) (step : left ≡ (r, count) ∷ later) where
    pub passing_on : (after : ℕ) → k ≡ count + after → t r ≡ false → Passing t all later n after
    passing_on after fewer isnt =
        let size : size_before t left ≡ count + size_before t later = rw (step, isnt) refl in
        record {
          from = p.from ∙ rw (step, isnt) refl;
          size = let sum = p.size in omega (arith, size, sum, fewer);
        }

    pub found : t r ≡ true → (left ≡ from_first t all) × (n ≡ size_before t all + k)
    found is =
        let size : size_before t left ≡ 0 = rw (step, is) refl in
        let whole : from_first t left ≡ left = rw (step, is) refl in
        let sum = p.size in
        (sym (p.from ∙ whole), omega (arith, size, sum))

  pub none_found : left ≡ [] → (left ≡ from_first t all) × (n ≡ size_before t all + k)
  none_found none =
      let size : size_before t left ≡ 0 = rw none refl in
      let whole : from_first t left ≡ left = rw none refl in
      let sum = p.size in
      (sym (p.from ∙ whole), omega (arith, size, sum))

-- one passes where those from the first on are some
pub any_first : (t : Role → Bool) (xs : Clauses) → from_first t xs ≡ [] → any_passes t xs ≡ false
any_first t [] none = refl
any_first t (x ∷ xs) none = ⊎_elim
    (λ (is : t x.0 ≡ true). let k : x ∷ xs ≡ [] = rw is at none in absurd (cc))
    (λ (no : t x.0 ≡ false). let k : from_first t xs ≡ [] = rw no at none in rw no (any_first t xs k))
    (cases (t x.0))

pub some_first : (t : Role → Bool) (xs : Clauses) (x : Role × ℕ) (later : Clauses) → from_first t xs ≡ x ∷ later → any_passes t xs ≡ true
some_first t [] x later some = absurd (cc)
some_first t (y ∷ xs) x later some = ⊎_elim
    (λ (is : t y.0 ≡ true). rw is refl)
    (λ (no : t y.0 ≡ false). let k : from_first t xs ≡ x ∷ later = rw no at some in rw no (some_first t xs x later k))
    (cases (t y.0))

pub any_is : (t : Role → Bool) (xs first new : Clauses) (n k : ℕ) (o : Option code.Role) → first ≡ from_first t xs → MatchOption o (first ≡ []) (λ role. IsNextRole first new n k role) → is_some o ≡ any_passes t xs
any_is t xs first new n k None is none = sym (any_first t xs (sym is ∙ none))
any_is t xs first new n k (Some role) is next = sym (some_first t xs (role_view role, next.count) new (sym is ∙ next.step))

not_twice : (b : Bool) → b ≡ not (not b)
not_twice true = refl
not_twice false = refl

never_none : (n : ℕ) → (suc n == 0) ≡ false
never_none n = grind (arith, nat_tests)

-- the clauses of a form, and what of them the definitions speak of
module _ {C : Type 0} (form : Form C) (role : C → Role) where
  abbrev all_of : List C → Clauses
  all_of cs = shown form role cs

  pub any_shown : (t : Role → Bool) (cs : List C) → any_passes t (all_of cs) ≡ list_any (λ c. t (role c)) cs
  any_shown t [] = refl
  any_shown t (c ∷ cs) = ap (λ (b : Bool). t (role c) || b) (any_shown t cs)

  module _ (p : C → Bool) (t : Role → Bool) (turns : (c : C) → p c ≡ not (t (role c))) where
    passed : (c : C) (cs : List C) → t (role c) ≡ false → take_while p (c ∷ cs) ≡ c ∷ take_while p cs
    passed c cs isnt = let so : p c ≡ true = turns c ∙ ap not isnt in take_while-cons p c cs ∙ rw so refl

    stopped : (c : C) (cs : List C) → t (role c) ≡ true → take_while p (c ∷ cs) ≡ []
    stopped c cs is = let so : p c ≡ false = turns c ∙ ap not is in take_while-cons p c cs ∙ rw so refl

    abbrev left_in : List C → List C → List C
    left_in cs first = drop (length first) cs

    from_shown : (cs : List C) → from_first t (all_of cs) ≡ all_of (left_in cs (take_while p cs))
    from_shown [] = refl
    from_shown (c ∷ cs) = ⊎_elim
        (λ (is : t (role c) ≡ true).
        let k : from_first t (all_of (c ∷ cs)) ≡ all_of (c ∷ cs) = rw is refl in
        k ∙ sym (ap (λ (first : List C). all_of (left_in (c ∷ cs) first)) (stopped c cs is)))
        (λ (no : t (role c) ≡ false).
        let k : from_first t (all_of (c ∷ cs)) ≡ from_first t (all_of cs) = rw no refl in
        k ∙ from_shown cs ∙ sym (ap (λ (first : List C). all_of (left_in (c ∷ cs) first)) (passed c cs no)))
        (cases (t (role c)))

    size_shown : (cs : List C) → size_before t (all_of cs) ≡ tokens_of form role (take_while p cs)
    size_shown [] = refl
    size_shown (c ∷ cs) = ⊎_elim
        (λ (is : t (role c) ≡ true).
        let k : size_before t (all_of (c ∷ cs)) ≡ 0 = rw is refl in
        k ∙ sym (ap (tokens_of form role) (stopped c cs is)))
        (λ (no : t (role c) ≡ false).
        let k : size_before t (all_of (c ∷ cs)) ≡ length (spell form c) + size_before t (all_of cs) = rw no refl in
        let more : tokens_of form role (c ∷ take_while p cs) ≡ length (spell form c) + tokens_of form role (take_while p cs) = length-append (spell form c) (spell_all (spell form) (take_while p cs)) in
        k ∙ ap (λ (n : ℕ). length (spell form c) + n) (size_shown cs) ∙ sym more ∙ sym (ap (tokens_of form role) (passed c cs no)))
        (cases (t (role c)))

  pub before_size : (cs : List C) → size_before is_wiring (all_of cs) ≡ tokens_of form role (before_wiring form role cs)
  before_size cs = size_shown (λ c. not (is_of_wiring form role c)) is_wiring (λ c. refl) cs

  wiring_from : (cs : List C) → wiring_on (all_of cs) ≡ all_of (from_wiring form role cs)
  wiring_from cs = from_shown (λ c. not (is_of_wiring form role c)) is_wiring (λ c. refl) cs

  pub taken_size : (cs : List C) → size_before is_other (wiring_on (all_of cs)) ≡ tokens_of form role (wiring_of form role cs)
  taken_size cs = ap (size_before is_other) (wiring_from cs) ∙ size_shown (is_of_wiring form role) is_other (λ c. not_twice (is_wiring (role c))) (from_wiring form role cs)

  behind_from : (cs : List C) → behind_it (all_of cs) ≡ all_of (behind_wiring form role cs)
  behind_from cs = ap (from_first is_other) (wiring_from cs) ∙ from_shown (is_of_wiring form role) is_other (λ c. not_twice (is_wiring (role c))) (from_wiring form role cs)

  pub barred_same : (cs : List C) → is_barred (all_of cs) ≡ rules.is_barred form role cs
  barred_same cs =
      ap₂ (λ (a b : Bool). a || b) (ap (any_passes is_wiring) (behind_from cs) ∙ any_shown is_wiring (behind_wiring form role cs)) (any_shown is_barring cs)

  abbrev is_none : List C → Bool
  is_none cs = length (take_while (is_of_wiring form role) cs) == 0

  pub none_same : (cs : List C) → (length (wiring_of form role cs) == 0) ≡ not (any_passes is_wiring (all_of cs))
  none_same [] = refl
  none_same (c ∷ cs) = ⊎_elim
      (λ (is : is_wiring (role c) ≡ true).
      let first = stopped (λ c. not (is_of_wiring form role c)) is_wiring (λ c. refl) c cs is in
      let here = passed (is_of_wiring form role) is_other (λ c. not_twice (is_wiring (role c))) c cs (ap not is) in
      let some : (length (wiring_of form role (c ∷ cs)) == 0) ≡ false =
      ap (λ (before : List C). is_none (drop (length before) (c ∷ cs))) first ∙ ap (λ (ds : List C). length ds == 0) here ∙ never_none (length (take_while (is_of_wiring form role) cs)) in
      let any : any_passes is_wiring (all_of (c ∷ cs)) ≡ true = rw is refl in
      some ∙ sym (ap not any))
      (λ (no : is_wiring (role c) ≡ false).
      let first = passed (λ c. not (is_of_wiring form role c)) is_wiring (λ c. refl) c cs no in
      let any : any_passes is_wiring (all_of (c ∷ cs)) ≡ any_passes is_wiring (all_of cs) = rw no refl in
      ap (λ (before : List C). is_none (drop (length before) (c ∷ cs))) first ∙ none_same cs ∙ sym (ap not any))
      (cases (is_wiring (role c)))
