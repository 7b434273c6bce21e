-- Which forms have no ; among their words, and which have one, as the last.
use Rattle.std.proofs.Common.{◌≡◌, inl, inr, ℕ, Bool, true, false, List, [], ◌∷◌, ◌++◌, Some, None, refl, sym, ap, ◌∙◌, append_assoc, codes, ⊎_elim}
use Rattle.std.specs.List.{All}
use Rattle.std.proofs.lemmas.Bool.{cases_Bool as cases}
use Rattle.std.proofs.lemmas.List.Elements.{All-nil, All-cons, All-append, All-weaker}
use Rattle.std.proofs.lemmas.Slice.Eq.{bytes_eq-Decides}
use Rattle.form_meanings.specs.Words.{is_semicolon, is_place}
use Rattle.form_meanings.specs.Meaning.{Seen, Meaning, find, spell_all, FitAll, empty_meaning, word_meaning, number_meaning, one_of_meaning, upto_meaning, behind_meaning, before_meaning, closed_meaning, seq_meaning, alt_meaning, opt_meaning, many_meaning, or_else_meaning, seen_meaning, limited_meaning, given_meaning}

-- a word that ends no statement
abbrev pub GoesOn : List ℕ → Type 0
GoesOn w = is_semicolon w ≡ false

-- what fits a form is spelled without ;
pub record Plain {A : Type 0} (f : Meaning A) : Type 0 where
  pub plain : (a : A) (ws : List (List ℕ)) → f.Fits a ws → All GoesOn (f.spell a)

-- a test that tells a word from ;
goes_on : (t : List ℕ → Bool) (b : Bool) (w : List ℕ) → t (codes ";") ≡ b → (t w ≡ b → ⊥) → GoesOn w
goes_on t b w at differs = ⊎_elim
    (λ (is : is_semicolon w ≡ true). absurd (differs (ap t ((bytes_eq-Decides w (codes ";")).0 is) ∙ at)))
    (λ (none : is_semicolon w ≡ false). none)
    (cases (is_semicolon w))

true_only : (b : Bool) → b ≡ true → b ≡ false → ⊥
true_only b e f = cc

only_word : (w : List ℕ) → GoesOn w → All GoesOn (w ∷ [])
only_word w plain = All-cons GoesOn w [] plain (All-nil GoesOn)

pub empty_plain : Plain empty_meaning
empty_plain = record { plain = λ u ws fits. All-nil GoesOn }

pub given_plain : {A : Type 0} (a : A) → Plain (given_meaning a)
given_plain a = record { plain = λ b ws fits. All-nil GoesOn }

pub word_plain : (t : List ℕ → Bool) → t (codes ";") ≡ false → Plain (word_meaning t)
word_plain t differs = record { plain = λ w ws fits. only_word w (goes_on t false w differs (true_only (t w) fits)) }

pub number_plain : (t : List ℕ → Bool) → Plain (number_meaning t)
number_plain t = record { plain = λ w ws fits. only_word w (goes_on is_place false w refl (true_only (is_place w) fits)) }

-- one of some words, none of which is ;
found_goes_on : {A : Type 0} (word_of : A → List ℕ) (all : List A) (w : List ℕ) (a : A) → find word_of all (codes ";") ≡ None → find word_of all w ≡ Some a → GoesOn w
found_goes_on {A = A} word_of all w a none found = ⊎_elim
    (λ (is : is_semicolon w ≡ true). let same : find word_of all w ≡ None = ap (find word_of all) ((bytes_eq-Decides w (codes ";")).0 is) ∙ none in absurd (cc))
    (λ (other : is_semicolon w ≡ false). other)
    (cases (is_semicolon w))

pub one_of_plain : {A : Type 0} (word_of : A → List ℕ) (all : List A) → find word_of all (codes ";") ≡ None → Plain (one_of_meaning word_of all)
one_of_plain word_of all none = record { plain = λ a ws fits. only_word (word_of a) (found_goes_on word_of all (word_of a) a none fits) }

pub upto_plain : (t : List ℕ → Bool) → t (codes ";") ≡ true → Plain (upto_meaning t)
upto_plain t stops = record { plain = λ vs ws fits. All-weaker (λ v. t v ≡ false) GoesOn (λ v no_stop. goes_on t true v stops (λ e. true_only (t v) e no_stop)) vs fits.0 }

pub behind_plain : {A : Type 0} (w : List ℕ) (f : Meaning A) → GoesOn w → Plain f → Plain (behind_meaning w f)
behind_plain w f on p = record { plain = λ a ws fits. All-cons GoesOn w (f.spell a) on (p.plain a ws fits) }

pub before_plain : {A : Type 0} (f : Meaning A) (w : List ℕ) → Plain f → GoesOn w → Plain (before_meaning f w)
before_plain f w p on = record { plain = λ a ws fits. All-append GoesOn (f.spell a) (w ∷ []) (p.plain a (w ∷ ws) fits) (only_word w on) }

pub closed_plain : {A : Type 0} (t : List ℕ → Bool) (f : Meaning A) → Plain f → Plain (closed_meaning t f)
closed_plain t f p = record { plain = λ a ws fits. p.plain a ws fits.1 }

pub seq_plain : {A B : Type 0} (f : Meaning A) (g : Meaning B) → Plain f → Plain g → Plain (seq_meaning f g)
seq_plain f g p q = record { plain = λ x ws fits. All-append GoesOn (f.spell x.0) (g.spell x.1) (p.plain x.0 (g.spell x.1 ++ ws) fits.0) (q.plain x.1 ws fits.1) }

pub alt_plain : {A B : Type 0} (t : List ℕ → Bool) (f : Meaning A) (g : Meaning B) → Plain f → Plain g → Plain (alt_meaning t f g)
alt_plain t f g p q = record { plain = elim [ inl a ↦ λ ws fits. p.plain a ws fits.1 | inr b ↦ λ ws fits. q.plain b ws fits.1 ] }

pub opt_plain : {A : Type 0} (t : List ℕ → Bool) (f : Meaning A) → Plain f → Plain (opt_meaning t f)
opt_plain t f p = record { plain = elim [ Some a ↦ λ ws fits. p.plain a ws fits.1 | None ↦ λ ws fits. All-nil GoesOn ] }

pub or_else_plain : {A B : Type 0} (f : Meaning A) (g : Meaning B) → Plain f → Plain g → Plain (or_else_meaning f g)
or_else_plain f g p q = record { plain = elim [ inl a ↦ p.plain a | inr b ↦ λ ws fits. q.plain b ws fits.1 ] }

pub limited_plain : {A : Type 0} (t : A → Bool) (n : ℕ) (f : Meaning A) → Plain f → Plain (limited_meaning t n f)
limited_plain t n f p = record { plain = p.plain }

all_plain : {A : Type 0} (t : List ℕ → Bool) (f : Meaning A) → Plain f → (all : List A) (ws : List (List ℕ)) → FitAll t f.spell f.Fits all ws → All GoesOn (spell_all f.spell all)
all_plain t f p [] ws fits = All-nil GoesOn
all_plain t f p (a ∷ all) ws fits = All-append GoesOn (f.spell a) (spell_all f.spell all) (p.plain a (spell_all f.spell all ++ ws) fits.1) (all_plain t f p all ws fits.2)

pub many_plain : {A : Type 0} (t : List ℕ → Bool) (f : Meaning A) → Plain f → Plain (many_meaning t f)
many_plain t f p = record { plain = λ all ws fits. all_plain t f p all ws fits.1 }

pub seen_plain : {A B : Type 0} (s : Seen A B) (f : Meaning A) → Plain f → Plain (seen_meaning s f)
seen_plain s f p = record { plain = λ b. p.plain (s.from b) }

-- words without ; and then one
pub record OnceAtEnd (all : List (List ℕ)) : Type 0 where
  pub inner : List (List ℕ)
  pub is : all ≡ inner ++ codes ";" ∷ []
  pub plain : All GoesOn inner

-- what fits a form is spelled so
pub record EndsOnce {A : Type 0} (f : Meaning A) : Type 0 where
  pub ends : (a : A) (ws : List (List ℕ)) → f.Fits a ws → OnceAtEnd (f.spell a)

pub before_ends : {A : Type 0} (f : Meaning A) → Plain f → EndsOnce (before_meaning f (codes ";"))
before_ends f p = record { ends = λ a ws fits. record { inner = f.spell a; is = refl; plain = p.plain a (codes ";" ∷ ws) fits } }

pub behind_ends : {A : Type 0} (w : List ℕ) (f : Meaning A) → GoesOn w → EndsOnce f → EndsOnce (behind_meaning w f)
behind_ends w f on e = record {
  ends = λ a ws fits. let o = e.ends a ws fits in record { inner = w ∷ o.inner; is = ap (λ (vs : List (List ℕ)). w ∷ vs) o.is; plain = All-cons GoesOn w o.inner on o.plain };
}

pub seq_ends : {A B : Type 0} (f : Meaning A) (g : Meaning B) → Plain f → EndsOnce g → EndsOnce (seq_meaning f g)
seq_ends f g p e = record {
  ends = λ x ws fits.
      let o = e.ends x.1 ws fits.1 in
      record {
        inner = f.spell x.0 ++ o.inner;
        is = ap (λ (vs : List (List ℕ)). f.spell x.0 ++ vs) o.is ∙ sym (append_assoc (f.spell x.0) o.inner (codes ";" ∷ []));
        plain = All-append GoesOn (f.spell x.0) o.inner (p.plain x.0 (g.spell x.1 ++ ws) fits.0) o.plain;
      };
}

pub seen_ends : {A B : Type 0} (s : Seen A B) (f : Meaning A) → EndsOnce f → EndsOnce (seen_meaning s f)
seen_ends s f e = record { ends = λ b. e.ends (s.from b) }

-- an entry's words: - and others before a ;
pub record IsEntryText (all : List (List ℕ)) : Type 0 where
  pub inner : List (List ℕ)
  pub is : all ≡ codes "-" ∷ (inner ++ codes ";" ∷ [])
  pub plain : All GoesOn inner

-- what fits a form is spelled so
pub record IsEntryForm {A : Type 0} (f : Meaning A) : Type 0 where
  pub text : (a : A) (ws : List (List ℕ)) → f.Fits a ws → IsEntryText (f.spell a)

pub minus_entries : {A : Type 0} (f : Meaning A) → EndsOnce f → IsEntryForm (behind_meaning (codes "-") f)
minus_entries f e = record {
  text = λ a ws fits. let o = e.ends a ws fits in record { inner = o.inner; is = ap (λ (vs : List (List ℕ)). codes "-" ∷ vs) o.is; plain = o.plain };
}

pub seen_entries : {A B : Type 0} (s : Seen A B) (f : Meaning A) → IsEntryForm f → IsEntryForm (seen_meaning s f)
seen_entries s f e = record { text = λ b. e.text (s.from b) }
