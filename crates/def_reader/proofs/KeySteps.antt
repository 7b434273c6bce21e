-- Noting a key: the words of statements and the names of a section as keys.
use Rattle.std.proofs.Common.{◌≡◌, ℕ, Bool, true, false, not, ◌&&◌, ◌||◌, List, [], ◌∷◌, ◌++◌, refl, sym, ap, ◌∙◌, inl, inr, Bor, Option, Some, None, if◌then◌else◌}
use Rattle.std.specs.Str.{bytes_eq}
use Rattle.std.proofs.lemmas.Bool.{cases_Bool}
use Rattle.std.proofs.lemmas.List.Folds.{list_any-append}
use Rattle.std.proofs.lemmas.Slice.Eq.{bytes_eq-Decides}
use Rattle.form_meanings.proofs.Steps.{some_same}
use Rattle.design_model.specs.declared.fault.FaultCode.TheVariants.{NameTaken, Repeated}
use Rattle.statement_model.specs.Grammar.{Key}
use Rattle.statement_model.specs.Reading.{is_among, repeats}
use Rattle.def_reader.specs.SeenViews.{has_word, StandFor}

and_false : (b : Bool) → (b && false) ≡ false
and_false true = refl
and_false false = refl

or_true : (b : Bool) → (b || true) ≡ true
or_true true = refl
or_true false = refl

same_or : (a b : Bool) → ((a && true) || b) ≡ (b || (a || false))
same_or true true = refl
same_or true false = refl
same_or false true = refl
same_or false false = refl

untrue : (b added : Bool) → added ≡ not b → added ≡ true → b ≡ false
untrue true added e t = cc
untrue false added e t = refl

untaken : (b added : Bool) → added ≡ not b → added ≡ false → b ≡ true
untaken true added e t = refl
untaken false added e t = cc

bytes_same : (w : List ℕ) → bytes_eq w w ≡ true
bytes_same w = (bytes_eq-Decides w w).1 refl

has_more : (words : List (Bor (List ℕ))) (word : Bor (List ℕ)) (w : List ℕ) → has_word (words ++ word ∷ []) w ≡ (has_word words w || (bytes_eq w word.now || false))
has_more words word w = list_any-append (λ (k : Bor (List ℕ)). bytes_eq w k.now) words (word ∷ [])

either_true : (a b c : Bool) → (a ≡ true → c ≡ true) → (b ≡ true → c ≡ true) → (a || b) ≡ true → c ≡ true
either_true true b c f g h = f refl
either_true false b c f g h = g h

both_true : (a b : Bool) → (a && b) ≡ true → a ≡ true
both_true true b h = refl
both_true false b h = cc

module _ (words names : List (Bor (List ℕ))) (latest : Option (List ℕ)) (keys : List Key) (same : StandFor words names latest keys) where
  -- a word with which no statement began has no names
  no_names : (w : List ℕ) → has_word words w ≡ false → (n : List ℕ) → is_among keys (w ∷ n ∷ []) ≡ false
  no_names w fresh n = elim (cases_Bool (is_among keys (w ∷ n ∷ []))) [
    | inl is ↦ let k : has_word words w ≡ true = sym (same.of_words w) ∙ same.begun w n is in absurd (cc)
    | inr others ↦ others
  ]

  module _ (word : Bor (List ℕ)) (added : Bool) (says : added ≡ not (has_word words word.now)) where
    pub word_again : added ≡ false → repeats keys (word.now ∷ []) ≡ Some Repeated
    word_again f = rw (same.of_words word.now, untaken (has_word words word.now) added says f) refl

    pub word_new : added ≡ true → repeats keys (word.now ∷ []) ≡ None
    word_new t = rw (same.of_words word.now, untrue (has_word words word.now) added says t) refl

    pub word_noted : (new none : List (Bor (List ℕ))) → added ≡ true → new ≡ (if has_word words word.now then words else (words ++ word ∷ [])) → none ≡ [] → StandFor new none (Some word.now) ((word.now ∷ []) ∷ keys)
    word_noted new none t e empty =
        let fresh = untrue (has_word words word.now) added says t in
        let last : new ≡ words ++ word ∷ [] = e ∙ rw fresh refl in
        record {
          of_words = λ w. rw (last, has_more words word w, same.of_words w) (same_or (bytes_eq w word.now) (has_word words w));
          of_names = λ w n is. rw (and_false (bytes_eq w word.now), empty) (no_names w (sym (ap (has_word words) (some_same word.now w is)) ∙ fresh) n);
          stands = λ w is. rw (← some_same word.now w is, bytes_same word.now) refl;
          begun = λ w n is. rw (same.begun w n (rw (and_false (bytes_eq w word.now)) at is)) (or_true (bytes_eq w word.now && true));
        }

  module _ (name : Bor (List ℕ)) (added : Bool) (says : added ≡ not (has_word names name.now)) (section : List ℕ) (belongs : latest ≡ Some section) where
    pub name_again : added ≡ false → repeats keys (section ∷ name.now ∷ []) ≡ Some NameTaken
    name_again f = rw (same.of_names section name.now belongs, untaken (has_word names name.now) added says f) refl

    pub name_new : added ≡ true → repeats keys (section ∷ name.now ∷ []) ≡ None
    name_new t = rw (same.of_names section name.now belongs, untrue (has_word names name.now) added says t) refl

    pub name_noted : (new : List (Bor (List ℕ))) → added ≡ true → new ≡ (if has_word names name.now then names else (names ++ name ∷ [])) → StandFor words new latest ((section ∷ name.now ∷ []) ∷ keys)
    name_noted new t e =
        let fresh = untrue (has_word names name.now) added says t in
        let last : new ≡ names ++ name ∷ [] = e ∙ rw fresh refl in
        record {
          of_words = λ w. rw (and_false (bytes_eq w section)) (same.of_words w);
          of_names = λ w n is.
              let here = (bytes_eq-Decides w section).1 (sym (some_same section w (sym belongs ∙ is))) in
              rw (here, last, has_more names name n, same.of_names w n is) (same_or (bytes_eq n name.now) (has_word names n));
          stands = λ w is. rw (same.stands w is) (or_true (bytes_eq w section && false));
          begun = λ w n is.
              rw (and_false (bytes_eq w section))
              (either_true (bytes_eq w section && (bytes_eq n name.now && true)) (is_among keys (w ∷ n ∷ [])) (is_among keys (w ∷ []))
              (λ one. rw ((bytes_eq-Decides w section).0 (both_true (bytes_eq w section) (bytes_eq n name.now && true) one)) (same.stands section belongs))
              (same.begun w n)
              is);
        }
