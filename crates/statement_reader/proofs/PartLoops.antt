-- Repeated parts, as a loop reads them.
use Rattle.std.proofs.Common.{inl, inr, ◌++◌, length, take, length-append, ◌≡◌, ℕ, zero, suc, ◌+◌, ◌-◌, ◌<◌, ◌≤◌, Bool, true, false, List, [], ◌∷◌, Option, Some, None, refl, sym, ap, ◌∙◌, arith}
use Rattle.std.proofs.Math.Seq.{take-append_seam}
use Rattle.form_meanings.specs.Words.{◌>>=◌, Rest, next_passes}
use Rattle.form_meanings.specs.Meaning.{repeat, items, item_then}
use Rattle.std.proofs.lemmas.Bool.{cases_Bool}
use Rattle.form_meanings.proofs.Steps.{some_same}
use Rattle.statement_reader.specs.PartViews.{left_after, Going}

-- one value before the others
abbrev pub put_first : {A : Type 0} → A → Option (List A × Rest) → Option (List A × Rest)
put_first x o = o >>= λ others. Some (x ∷ others.0, others.1)

abbrev pub one_more : {A : Type 0} → Option (A × Rest) → (Rest → Option (List A × Rest)) → Option (List A × Rest)
one_more o later = o >>= λ first. put_first first.0 (later first.1)

left_after_more : {A : Type 0} (x : A) (o : Option (List A × Rest)) → left_after (put_first x o) ≡ left_after o
left_after_more x None = refl
left_after_more x (Some o) = refl

-- what was read are the items
items_more : {A : Type 0} (t : List ℕ → Bool) (f : Rest → Option (A × Rest)) (n : ℕ) (o : Option (A × Rest)) (r2 : Rest)
    → ((r : Rest) → left_after (repeat n t f r) ≡ Some r2 → repeat n t f r ≡ Some (items n t f r, r2))
    → left_after (one_more o (repeat n t f)) ≡ Some r2 → one_more o (repeat n t f) ≡ Some (item_then o (items n t f), r2)
items_more t f n None r2 later e = absurd (cc)
items_more {A = A} t f n (Some x) r2 later e =
    let k = later x.1 (sym (left_after_more x.0 (repeat n t f x.1)) ∙ e) in
    ap (put_first x.0) k

pub items_are : {A : Type 0} (t : List ℕ → Bool) (f : Rest → Option (A × Rest)) (n : ℕ) (r r2 : Rest) → left_after (repeat n t f r) ≡ Some r2 → repeat n t f r ≡ Some (items n t f r, r2)
unfolding repeat items
items_are t f zero r r2 e = elim (cases_Bool (next_passes t r)) [
  | inl is ↦ let h = rw is at e in absurd (cc)
  | inr others ↦ let h = rw others at e in rw others (ap (λ (x : Rest). Some ([], x)) (some_same r r2 h))
]
items_are t f (suc n) r r2 e = elim (cases_Bool (next_passes t r)) [
  | inl is ↦ let h = rw is at e in rw is (items_more t f n (f r) r2 (λ later. items_are t f n later r2) h)
  | inr others ↦ let h = rw others at e in rw others (ap (λ (x : Rest). Some ([], x)) (some_same r r2 h))
]

pub going_start : {A : Type 0} (t : List ℕ → Bool) (f : Rest → Option (A × Rest)) (n m : ℕ) (r : Rest) → m ≡ n → Going t f n r m r
going_start t f n m r same = record { going = ap (λ (k : ℕ). left_after (repeat k t f r)) (sym same) }

pub going_on : {A : Type 0} (t : List ℕ → Bool) (f : Rest → Option (A × Rest)) (n count i : ℕ) (r here later : Rest) (x : A) → i < count → next_passes t here ≡ true → f here ≡ Some (x, later)
    → Going t f n r (count - i) here → Going t f n r (count - (i + 1)) later
unfolding repeat
going_on t f n count i r here later x lt is reads so_far =
    let k : count - i ≡ suc (count - (i + 1)) = omega arith in
    let one : left_after (repeat (count - i) t f here) ≡ left_after (repeat (count - (i + 1)) t f later) = rw (k, is, reads) (left_after_more x (repeat (count - (i + 1)) t f later)) in
    record { going = so_far.going ∙ one }

-- a value was passed
left_after_one : {A : Type 0} (o : Option (A × Rest)) (later : Rest) (g : Rest → Option (List A × Rest)) → left_after o ≡ Some later → left_after (one_more o g) ≡ left_after (g later)
left_after_one None later g e = absurd (cc)
left_after_one (Some x) later g e = left_after_more x.0 (g x.1) ∙ ap (λ (r : Rest). left_after (g r)) (some_same x.1 later e)

pub going_past : {A : Type 0} (t : List ℕ → Bool) (f : Rest → Option (A × Rest)) (n most i : ℕ) (r here later : Rest) → i < most → next_passes t here ≡ true → left_after (f here) ≡ Some later
    → Going t f n r (most - i) here → Going t f n r (most - (i + 1)) later
unfolding repeat
going_past t f n most i r here later lt is passes so_far =
    let k : most - i ≡ suc (most - (i + 1)) = omega arith in
    let one : left_after (repeat (most - i) t f here) ≡ left_after (repeat (most - (i + 1)) t f later) = rw (k, is) (left_after_one (f here) later (repeat (most - (i + 1)) t f) passes) in
    record { going = so_far.going ∙ one }

none_left_after : {A : Type 0} (o : Option (A × Rest)) → left_after o ≡ None → o ≡ None
none_left_after None e = refl
none_left_after (Some x) e = absurd (cc)

pub going_wrong : {A : Type 0} (t : List ℕ → Bool) (f : Rest → Option (A × Rest)) (n count i : ℕ) (r here : Rest) → i < count → next_passes t here ≡ true → f here ≡ None
    → Going t f n r (count - i) here → repeat n t f r ≡ None
unfolding repeat
going_wrong t f n count i r here lt is reads so_far =
    let k : count - i ≡ suc (count - (i + 1)) = omega arith in
    let one : left_after (repeat (count - i) t f here) ≡ None = rw (k, is, reads) refl in
    none_left_after (repeat n t f r) (so_far.going ∙ one)

pub going_ends : {A : Type 0} (t : List ℕ → Bool) (f : Rest → Option (A × Rest)) (n left : ℕ) (r here : Rest) → next_passes t here ≡ false
    → Going t f n r left here → repeat n t f r ≡ Some (items n t f r, here)
unfolding repeat
going_ends t f n zero r here is so_far =
    let one : left_after (repeat zero t f here) ≡ Some here = rw is refl in items_are t f n r here (so_far.going ∙ one)
going_ends t f n (suc left) r here is so_far =
    let one : left_after (repeat (suc left) t f here) ≡ Some here = rw is refl in items_are t f n r here (so_far.going ∙ one)

pub going_wrong_at_last : {A : Type 0} (t : List ℕ → Bool) (f : Rest → Option (A × Rest)) (n left : ℕ) (r here : Rest) → left ≡ 0 → next_passes t here ≡ true
    → Going t f n r left here → repeat n t f r ≡ None
unfolding repeat
going_wrong_at_last t f n left r here last is so_far =
    let one : left_after (repeat left t f here) ≡ None = rw (last, is) refl in none_left_after (repeat n t f r) (so_far.going ∙ one)

-- steps of handing out
pub no_items : {A : Type 0} (t : List ℕ → Bool) (f : Rest → Option (A × Rest)) (n : ℕ) (r : Rest) → next_passes t r ≡ false → items n t f r ≡ []
unfolding items
no_items t f zero r is = refl
no_items t f (suc n) r is = rw is refl

pub no_item_left : {A : Type 0} (t : List ℕ → Bool) (f : Rest → Option (A × Rest)) (n : ℕ) (r : Rest) → n ≡ 0 → items n t f r ≡ []
unfolding items
no_item_left t f n r last = rw last refl

pub no_item_reads : {A : Type 0} (t : List ℕ → Bool) (f : Rest → Option (A × Rest)) (n : ℕ) (r : Rest) → f r ≡ None → items n t f r ≡ []
unfolding items
no_item_reads t f zero r none = refl
no_item_reads t f (suc n) r none = elim (cases_Bool (next_passes t r)) [ inl is ↦ rw (is, none) refl | inr others ↦ rw others refl ]

pub item_read : {A : Type 0} (t : List ℕ → Bool) (f : Rest → Option (A × Rest)) (n fewer : ℕ) (r later : Rest) (x : A) → n ≡ suc fewer → next_passes t r ≡ true → f r ≡ Some (x, later)
    → items n t f r ≡ x ∷ items fewer t f later
unfolding items
item_read t f n fewer r later x more is reads = rw (more, is, reads) refl

-- the tokens before what is left
pub front_is : (n m : ℕ) (all front later : List (List ℕ)) → all ≡ front ++ later → n ≡ length all → m ≡ length later → (m ≤ n) × (take (n - m) all ≡ front)
front_is n m all front later same n_is m_is =
    let long : length all ≡ length front + length later = ap length same ∙ length-append front later in
    let k : n - m ≡ length front = omega arith in
    (omega arith, rw (k, same) (take-append_seam front later))
