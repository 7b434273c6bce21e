-- What is left after repeated parts, as a loop passes them.
use Rattle.std.proofs.Common.{inl, inr, ◌≡◌, ℕ, zero, suc, ◌+◌, ◌-◌, ◌<◌, Bool, true, false, List, [], ◌∷◌, Option, Some, None, refl, sym, ap, ◌∙◌, arith}
use Rattle.form_meanings.specs.Words.{◌>>=◌, Rest, next_passes}
use Rattle.form_meanings.specs.Meaning.{repeat, items, spell_all}
use Rattle.form_meanings.proofs.Steps.{some_same}
use Rattle.statement_model.specs.Tokens.{Token}
use Rattle.lefdef_tokens.specs.Places.{behind}
use Rattle.lefdef_tokens.proofs.PlaceLemmas.{behind_append}
use Rattle.statement_reader.specs.PartViews.{Going, GoingPast, left_after, tokens_after}
use Rattle.statement_reader.proofs.PartLoops.{put_first, one_more, going_ends}

after_more : {A : Type 0} (s : A → List (List ℕ)) (x : A) (ps : List Token) (o : Option (List A × Rest)) → tokens_after (spell_all s) ps (put_first x o) ≡ tokens_after (spell_all s) (behind (s x) ps) o
after_more s x ps None = refl
after_more s x ps (Some o) = ap Some (behind_append (s x) (spell_all s o.0) ps)

pub past_on : {A : Type 0} (s : A → List (List ℕ)) (t : List ℕ → Bool) (f : Rest → Option (A × Rest)) (n count i : ℕ) (r here later : Rest) (x : A) (all ps qs : List Token) → i < count → next_passes t here ≡ true → f here ≡ Some (x, later) → qs ≡ behind (s x) ps
    → GoingPast s t f n r all (count - i) here ps → GoingPast s t f n r all (count - (i + 1)) later qs
unfolding repeat
past_on s t f n count i r here later x all ps qs lt is reads next so_far =
    let k : count - i ≡ suc (count - (i + 1)) = omega arith in
    let one : tokens_after (spell_all s) ps (repeat (count - i) t f here) ≡ tokens_after (spell_all s) qs (repeat (count - (i + 1)) t f later) = rw (k, is, reads, next) (after_more s x ps (repeat (count - (i + 1)) t f later)) in
    record { past = so_far.past ∙ one }

-- a value was passed
after_one : {A : Type 0} (s : A → List (List ℕ)) (o : Option (A × Rest)) (later : Rest) (ps qs : List Token) (g : Rest → Option (List A × Rest)) → left_after o ≡ Some later → tokens_after s ps o ≡ Some qs
    → tokens_after (spell_all s) ps (one_more o g) ≡ tokens_after (spell_all s) qs (g later)
after_one s None later ps qs g e next = absurd (cc)
after_one s (Some x) later ps qs g e next =
    after_more s x.0 ps (g x.1)
    ∙ ap (λ (r : Rest). tokens_after (spell_all s) (behind (s x.0) ps) (g r)) (some_same x.1 later e)
    ∙ ap (λ (zs : List Token). tokens_after (spell_all s) zs (g later)) (some_same (behind (s x.0) ps) qs next)

pub past_skipped : {A : Type 0} (s : A → List (List ℕ)) (t : List ℕ → Bool) (f : Rest → Option (A × Rest)) (n most i : ℕ) (r here later : Rest) (all ps qs : List Token) → i < most → next_passes t here ≡ true → left_after (f here) ≡ Some later → tokens_after s ps (f here) ≡ Some qs
    → GoingPast s t f n r all (most - i) here ps → GoingPast s t f n r all (most - (i + 1)) later qs
unfolding repeat
past_skipped s t f n most i r here later all ps qs lt is passes next so_far =
    let k : most - i ≡ suc (most - (i + 1)) = omega arith in
    let one : tokens_after (spell_all s) ps (repeat (most - i) t f here) ≡ tokens_after (spell_all s) qs (repeat (most - (i + 1)) t f later) = rw (k, is) (after_one s (f here) later ps qs (repeat (most - (i + 1)) t f) passes next) in
    record { past = so_far.past ∙ one }

-- none is next
pub past_ends : {A : Type 0} (s : A → List (List ℕ)) (t : List ℕ → Bool) (f : Rest → Option (A × Rest)) (n left : ℕ) (r here : Rest) (all ps : List Token) → next_passes t here ≡ false
    → GoingPast s t f n r all left here ps → tokens_after (spell_all s) all (repeat n t f r) ≡ Some ps
unfolding repeat
past_ends s t f n zero r here all ps is so_far =
    let one : tokens_after (spell_all s) ps (repeat zero t f here) ≡ Some ps = rw is refl in so_far.past ∙ one
past_ends s t f n (suc left) r here all ps is so_far =
    let one : tokens_after (spell_all s) ps (repeat (suc left) t f here) ≡ Some ps = rw is refl in so_far.past ∙ one

-- the values that were passed are the items
pub after_items : {A : Type 0} (s : A → List (List ℕ)) (xs : List A) (o : Option (List A × Rest)) (later : Rest) (all ps : List Token) → o ≡ Some (xs, later) → tokens_after (spell_all s) all o ≡ Some ps → ps ≡ behind (spell_all s xs) all
after_items s xs o later all ps reads after =
    let h = rw reads at after in
    sym (some_same (behind (spell_all s xs) all) ps h)
