-- Statements that are found by the numbers of those that pass a test, each number once.
use Rattle.std.proofs.Common.{◌≡◌, ◌≢◌, ◌&&◌, ◌||◌, ◌+◌, ℕ, Bool, true, false, List, [], ◌∷◌, ◌++◌, length, Option, Some, None, Result, Ok, Err, IfOk, refl, sym, ap, ap₂, subst, ◌∙◌, ⊎_elim, inl, inr, arith}
use Rattle.std.specs.Prelude.{◌==◌, IfSome, filter, flat_map, sum_by}
use Rattle.std.specs.List.{cons_option, filter_map, list_any, zip}
use Rattle.std.specs.Option.{option_map, option_to_list}
use Rattle.std.proofs.lemmas.Bool.{cases_Bool, cases_eq}
use Rattle.std.proofs.lemmas.List.Elements.{filter_map-append}
use Rattle.std.proofs.lemmas.List.Folds.{list_any-append}
use Rattle.std.proofs.lemmas.List.Sums.{sum_by-append, sum_by-cons}
use Rattle.design_model.specs.declared.identifier.StmtId.{StmtId}
use Rattle.statement_model.specs.Tokens.{Token}
use Rattle.def_grammar.specs.Records.{Record}
use Rattle.text_pieces.specs.Chunks.{AreOnce, IsAbsent}
use Rattle.text_pieces.specs.Statements.{look_up, statements_of}
use Rattle.design_tables.specs.Lookups.{FindsAll, is_number, numbers_one}
use Rattle.design_text.specs.DesignTexts.{Content, IsNumbered, numbers_of, says_one, statement_under, text_of}
use Rattle.design_text.specs.Listings.{said_under}
use Rattle.design_text.proofs.FoundStatements.{absent_number, differ, look_map, many_are, same}

absent_append : (id : StmtId) (xs ys : List StmtId) → IsAbsent id xs → IsAbsent id ys → IsAbsent id (xs ++ ys)
absent_append id [] ys h k = k
absent_append id (x ∷ xs) ys h k = (h.0, absent_append id xs ys h.1 k)

absent_between : (x id : StmtId) (xs ys : List StmtId) → IsAbsent x (xs ++ id ∷ ys) → x.0 ≢ id.0
absent_between x id [] ys h = h.0
absent_between x id (y ∷ xs) ys h = absent_between x id xs ys h.1

-- of numbers that stand once, one is neither before nor behind its place
absent_before : (id : StmtId) (xs ys : List StmtId) → AreOnce (xs ++ id ∷ ys) → IsAbsent id xs
absent_before id [] ys h = tt
absent_before id (x ∷ xs) ys h = (λ e. absent_between x id xs ys h.0 (sym e), absent_before id xs ys h.1)

absent_after : (id : StmtId) (xs ys : List StmtId) → AreOnce (xs ++ id ∷ ys) → IsAbsent id ys
absent_after id [] ys h = h.0
absent_after id (x ∷ xs) ys h = absent_after id xs ys h.1

-- numbers that stand once, with one more that isn't among them
absent_now : (id : StmtId) (ids : List StmtId) → list_any (is_number id) ids ≡ false → IsAbsent id ids
absent_now id [] h = tt
absent_now id (x ∷ xs) h = elim (cases_Bool (id.0 == x.0)) [
  | inl is ↦ absurd (let e : true ≡ false = rw is at h in cc)
  | inr other ↦ (λ e. let it : (x.0 == x.0) ≡ false = subst (λ (n : ℕ). (n == x.0) ≡ false) e other in let yes = same x.0 in absurd (cc), absent_now id xs (rw other at h))
]

turned : (x y : StmtId) → (x.0 ≢ y.0) → y.0 ≢ x.0
turned x y h = λ e. h (sym e)

absent_one : (x id : StmtId) (xs : List StmtId) → IsAbsent x xs → (x.0 ≢ id.0) → IsAbsent x (xs ++ id ∷ [])
absent_one x id xs h other = absent_append x xs (id ∷ []) h (other, tt)

pub once_more : (xs : List StmtId) (id : StmtId) → AreOnce xs → IsAbsent id xs → AreOnce (xs ++ id ∷ [])
once_more [] id once h = (tt, tt)
once_more (x ∷ xs) id once h = (absent_one x id xs once.0 (turned id x h.0), once_more xs id once.1 h.1)

-- Of some numbers, of which some are left, each stands once among those that were taken.
pub record Taking (all left taken : List StmtId) : Type 0 where
  pub once : AreOnce taken
  pub has : (id : StmtId) → (list_any (is_number id) taken || list_any (is_number id) left) ≡ list_any (is_number id) all

pub begun : (all : List StmtId) → Taking all all []
begun all = record { once = tt; has = λ id. refl }

both_ways : (a b : Bool) → (a ≡ true → b ≡ true) → (b || a) ≡ b
both_ways true b h = rw (h refl) refl
both_ways false true h = refl
both_ways false false h = refl

same_number : (a b : StmtId) → is_number a b ≡ true → a ≡ b
same_number a b h = ⊎_elim (λ (e : a.0 ≡ b.0). ap (λ (k : ℕ). record { 0 = k }) e) (λ (other : a.0 ≢ b.0). absurd (let e = differ a.0 b.0 other in cc)) (cases_eq a.0 b.0)

passed_over : (a b rest all : Bool) → (b ≡ true → a ≡ true) → (a || (b || rest)) ≡ all → (a || rest) ≡ all
passed_over true b rest all h is = is
passed_over false true rest all h is = absurd (let e = h refl in cc)
passed_over false false rest all h is = is

moved_over : (a b rest all : Bool) → (a || (b || rest)) ≡ all → ((a || (b || false)) || rest) ≡ all
moved_over true b rest all is = is
moved_over false true rest all is = is
moved_over false false rest all is = is

pub passed : (all left taken : List StmtId) (id : StmtId) → list_any (is_number id) taken ≡ true → Taking all (id ∷ left) taken → Taking all left taken
passed all left taken id there t = record {
  once = t.once;
  has = λ other. passed_over (list_any (is_number other) taken) (is_number other id) (list_any (is_number other) left) (list_any (is_number other) all)
      (λ is. subst (λ (x : StmtId). list_any (is_number x) taken ≡ true) (sym (same_number other id is)) there) (t.has other);
}

pub taken_too : (all left taken : List StmtId) (id : StmtId) → list_any (is_number id) taken ≡ false → Taking all (id ∷ left) taken → Taking all left (taken ++ id ∷ [])
taken_too all left taken id none t = record {
  once = once_more taken id t.once (absent_now id taken none);
  has = λ other.
      ap (λ (b : Bool). b || list_any (is_number other) left) (list_any-append (is_number other) taken (id ∷ []))
      ∙ moved_over (list_any (is_number other) taken) (is_number other id) (list_any (is_number other) left) (list_any (is_number other) all) (t.has other);
}

or_none : (b : Bool) → (b || false) ≡ b
or_none true = refl
or_none false = refl

pub all_taken : (all taken : List StmtId) → Taking all [] taken → (id : StmtId) → list_any (is_number id) taken ≡ list_any (is_number id) all
all_taken all taken t id = sym (or_none (list_any (is_number id) taken)) ∙ t.has id

-- where a number stands among others
record Within (id : StmtId) (ids : List StmtId) : Type 0 where
  before : List StmtId
  after : List StmtId
  is : ids ≡ before ++ id ∷ after

within : (id : StmtId) (ids : List StmtId) → list_any (is_number id) ids ≡ true → Within id ids
within id [] h = absurd (cc)
within id (x ∷ xs) h = elim (cases_Bool (is_number id x)) [
  | inl is ↦ record { before = []; after = xs; is = ap (λ (y : StmtId). y ∷ xs) (sym (same_number id x is)) }
  | inr other ↦ let w = within id xs (rw other at h) in record { before = x ∷ w.before; after = w.after; is = ap (λ (l : List StmtId). x ∷ l) w.is }
]

absent_without : (x r : StmtId) (ys rs : List StmtId) → IsAbsent x (ys ++ r ∷ rs) → IsAbsent x (ys ++ rs)
absent_without x r [] rs h = h.1
absent_without x r (y ∷ ys) rs h = (h.0, absent_without x r ys rs h.1)

once_without : (r : StmtId) (ids rs : List StmtId) → AreOnce (ids ++ r ∷ rs) → AreOnce (ids ++ rs)
once_without r [] rs h = h.1
once_without r (o ∷ os) rs h = (absent_without o r os rs h.0, once_without r os rs h.1)

not_among : (id : StmtId) (ids : List StmtId) → IsAbsent id ids → list_any (is_number id) ids ≡ false
not_among id [] h = refl
not_among id (x ∷ xs) h = rw (differ id.0 x.0 h.0) (not_among id xs h.1)

-- one that isn't that number is as often among the others
among_others : (a b rest : Bool) → b ≡ false → (a || (b || rest)) ≡ (a || rest)
among_others a true rest h = absurd (cc)
among_others a false rest h = refl

-- what the numbers find
module _ (wide : Record → Bool) where
  abbrev found : List StmtId → List Record → List StmtId → List Record
  found ids rs ds = filter_map (λ id. look_up id (zip ids rs)) ds

  -- a statement in front that none of them has the number of
  skips : (i : StmtId) (is : List StmtId) (r : Record) (rs : List Record) (ds : List StmtId) → IsAbsent i ds → found (i ∷ is) (r ∷ rs) ds ≡ found is rs ds
  skips i is r rs [] h = refl
  skips i is r rs (d ∷ ds) h =
      let here : look_up d (zip (i ∷ is) (r ∷ rs)) ≡ look_up d (zip is rs) = rw (differ i.0 d.0 h.0) refl in
      ap₂ (λ (o : Option Record) (l : List Record). cons_option o l) here (skips i is r rs ds h.1)

  -- and one that one of them has the number of
  finds : (w : Record → ℕ) (i : StmtId) (is : List StmtId) (r : Record) (rs : List Record) (before after : List StmtId) → IsAbsent i before → IsAbsent i after
      → sum_by w (found (i ∷ is) (r ∷ rs) (before ++ i ∷ after)) ≡ w r + sum_by w (found is rs (before ++ after))
  finds w i is r rs before after h k =
      let look = λ (id : StmtId). look_up id (zip (i ∷ is) (r ∷ rs)) in
      let look_later = λ (id : StmtId). look_up id (zip is rs) in
      let here : look i ≡ Some r = rw (same i.0) refl in
      let front = skips i is r rs before h in
      let back = skips i is r rs after k in
      let parted = ap (sum_by w) (filter_map-append look before (i ∷ after)) ∙ sum_by-append w (filter_map look before) (filter_map look (i ∷ after)) in
      let one = ap (λ (o : Option Record). sum_by w (cons_option o (filter_map look after))) here ∙ sum_by-cons w r (filter_map look after) in
      let later = ap (sum_by w) (filter_map-append look_later before after) ∙ sum_by-append w (filter_map look_later before) (filter_map look_later after) in
      let f = ap (sum_by w) front in
      let b = ap (sum_by w) back in
      omega (arith, parted, one, later, f, b)

  each_found : (w : Record → ℕ) (ids : List StmtId) (rs : List Record) (ds : List StmtId) → length ids ≡ length rs → AreOnce ids → AreOnce ds → FindsAll wide (zip ids rs) ds
      → sum_by w (filter wide rs) ≡ sum_by w (found ids rs ds)
  each_found w [] [] ds many once apart all = none ds all
    where
      none : (ds : List StmtId) → FindsAll wide [] ds → sum_by w [] ≡ sum_by w (found [] [] ds)
      none [] all = refl
      none (d ∷ ds) all = absurd (let here : list_any (is_number d) (d ∷ ds) ≡ true = rw (same d.0) refl in let e = sym here ∙ all d in cc)
  each_found w [] (r ∷ rs) ds many once apart all = absurd (omega (arith, many))
  each_found w (i ∷ is) [] ds many once apart all = absurd (omega (arith, many))
  each_found w (i ∷ is) (r ∷ rs) ds many once apart all = elim (cases_Bool (wide r)) [
    | inl so ↦
        let has : numbers_one wide (zip (i ∷ is) (r ∷ rs)) i ≡ true = rw (same i.0, so) refl in
        let at = within i ds (all i ∙ has) in
        let alone = subst AreOnce at.is apart in
        let no_front = absent_before i at.before at.after alone in
        let no_back = absent_after i at.before at.after alone in
        let left = at.before ++ at.after in
        let rest : FindsAll wide (zip is rs) left = λ id. ⊎_elim
        (λ (e : id.0 ≡ i.0).
        let it : i ≡ id = ap (λ (k : ℕ). record { 0 = k }) (sym e) in
        subst (λ (x : StmtId). list_any (is_number x) left ≡ numbers_one wide (zip is rs) x) it
        (not_among i left (absent_append i at.before at.after no_front no_back) ∙ sym (absent_number wide i is rs once.0)))
        (λ (other : id.0 ≢ i.0).
        let no = differ id.0 i.0 other in
        let before : numbers_one wide (zip (i ∷ is) (r ∷ rs)) id ≡ numbers_one wide (zip is rs) id = rw no refl in
        list_any-append (is_number id) at.before at.after
        ∙ sym (among_others (list_any (is_number id) at.before) (is_number id i) (list_any (is_number id) at.after) no)
        ∙ sym (list_any-append (is_number id) at.before (i ∷ at.after))
        ∙ ap (list_any (is_number id)) (sym at.is)
        ∙ all id
        ∙ before)
        (cases_eq id.0 i.0) in
        let later = each_found w is rs left (omega (arith, many)) once.1 (once_without i at.before at.after alone) rest in
        let here = finds w i is r rs at.before at.after no_front no_back in
        let there = ap (λ (l : List StmtId). sum_by w (found (i ∷ is) (r ∷ rs) l)) at.is in
        let kept : sum_by w (filter wide (r ∷ rs)) ≡ w r + sum_by w (filter wide rs) = rw so (sum_by-cons w r (filter wide rs)) in
        omega (arith, later, here, there, kept)
    | inr not_so ↦
        let not_i : numbers_one wide (zip (i ∷ is) (r ∷ rs)) i ≡ false = rw (same i.0, not_so) (absent_number wide i is rs once.0) in
        let absent = absent_now i ds (all i ∙ not_i) in
        let rest : FindsAll wide (zip is rs) ds = λ id. all id ∙ fails (is_number id i) (wide r) (numbers_one wide (zip is rs) id) not_so in
        let later = each_found w is rs ds (omega (arith, many)) once.1 apart rest in
        let gone : sum_by w (filter wide (r ∷ rs)) ≡ sum_by w (filter wide rs) = rw not_so refl in
        gone ∙ later ∙ ap (sum_by w) (sym (skips i is r rs ds absent))
  ]
    where
      fails : (a b c : Bool) → b ≡ false → ((a && b) || c) ≡ c
      fails true b c h = ap (λ (x : Bool). x || c) h
      fails false b c h = refl

same_found : {A B : Type 0} (f g : A → Option B) → ((x : A) → f x ≡ g x) → (xs : List A) → filter_map f xs ≡ filter_map g xs
same_found f g h [] = refl
same_found {A} {B} f g h (x ∷ xs) = ap₂ (λ (o : Option B) (l : List B). cons_option o l) (h x) (same_found f g h xs)

-- each of some, where there is one
each_one : {A B : Type 0} (f : A → Option B) (xs : List A) → flat_map (λ x. option_to_list (f x)) xs ≡ filter_map f xs
each_one f [] = refl
each_one {A} {B} f (x ∷ xs) = one (f x) (flat_map (λ y. option_to_list (f y)) xs) (filter_map f xs) (each_one f xs)
  where
    one : (o : Option B) (l m : List B) → l ≡ m → option_to_list o ++ l ≡ cons_option o m
    one None l m same = same
    one (Some y) l m same = ap (λ (n : List B). y ∷ n) same

pub as_found : (c : Content) (ids : List StmtId) → flat_map (λ id. option_to_list (said_under c id)) ids ≡ filter_map (said_under c) ids
as_found c ids = each_one (said_under c) ids

module _ (c : Content) (design : List Record) (k : IsNumbered c design) where
  said_is : (id : StmtId) → said_under c id ≡ look_up id (zip (numbers_of c) design)
  said_is id =
      let say = λ (x : List Token × Record). x.1 in
      sym (look_map say id (numbers_of c) (statements_of (text_of c))) ∙ ap (λ (rs : List Record). look_up id (zip (numbers_of c) rs)) k.said

  pub found_once : (wide : Record → Bool) (ids : List StmtId) → AreOnce ids → FindsAll wide (zip (numbers_of c) design) ids
      → (w : Record → ℕ) → sum_by w (filter wide design) ≡ sum_by w (filter_map (said_under c) ids)
  found_once wide ids once all w =
      each_found wide w (numbers_of c) design ids (many_are c design k) k.once once all
      ∙ ap (sum_by w) (sym (same_found (said_under c) (λ (id : StmtId). look_up id (zip (numbers_of c) design)) said_is ids))

-- what passes a test among what is found
one_said : (test : Record → Bool) (o : Option (List Token × Record)) (rs : List Record) → list_any test (cons_option (option_map (λ (x : List Token × Record). x.1) o) rs) ≡ (says_one test o || list_any test rs)
one_said test None rs = refl
one_said test (Some x) rs = refl

pub any_said : (c : Content) (test : Record → Bool) (ids : List StmtId) → list_any test (filter_map (said_under c) ids) ≡ list_any (λ id. says_one test (statement_under c id)) ids
any_said c test [] = refl
any_said c test (id ∷ ids) =
    one_said test (statement_under c id) (filter_map (said_under c) ids) ∙ ap (λ (b : Bool). says_one test (statement_under c id) || b) (any_said c test ids)

-- what is found is what more is said of
pub found_so : {X E : Type 0} {P Q : X → Type 0} → ((x : X) → P x → Q x) → (r : Result (Option X) E) → IfOk r (λ o. IfSome o P) → IfOk r (λ o. IfSome o Q)
found_so f (Ok (Some x)) h = f x h
found_so f (Ok None) h = tt
found_so f (Err e) h = tt
