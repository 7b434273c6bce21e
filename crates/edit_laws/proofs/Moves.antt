-- What stands in a form before one stop stands there before another: how a change of one part leaves the others as they
-- were.
use Rattle.std.proofs.Common.{◌≡◌, inl, inr, ℕ, Bool, true, false, List, [], ◌∷◌, ◌++◌, length, Option, Some, None, refl, sym, ◌∙◌, append_assoc, codes, if◌then◌else◌}
use Rattle.std.specs.Option.{option_or}
use Rattle.form_meanings.specs.Words.{first_passes}
use Rattle.form_meanings.specs.Meaning.{Seen, Meaning, spell_all, first_or_end, FitAll, bad_of_all, word_meaning, number_meaning, one_of_meaning, upto_meaning, behind_meaning, before_meaning, closed_meaning, seq_meaning, alt_meaning, seen_meaning}

-- a test that doesn't tell a + from a ;
abbrev pub Blind : (List ℕ → Bool) → Type 0
Blind t = t (codes "+") ≡ t (codes ";")

-- no such test tells two lists of words by their first word
abbrev pub Alike : List (List ℕ) → List (List ℕ) → Type 0
Alike ws vs = (t : List ℕ → Bool) → Blind t → (first_passes t ws ≡ first_passes t vs) × (first_or_end t ws ≡ first_or_end t vs)

-- whether a value stands in a form hangs on the word after it by such tests alone, and whether its numbers are invalid
-- not at all
pub record Moves {A : Type 0} (f : Meaning A) : Type 0 where
  pub moves : (a : A) (ws vs : List (List ℕ)) → Alike ws vs → f.Fits a ws → f.Fits a vs
  pub good : (a : A) (ws vs : List (List ℕ)) → f.bad a ws ≡ None → f.bad a vs ≡ None

-- with alike words behind them, words are alike
pub alike_behind : (us ws vs : List (List ℕ)) → Alike ws vs → Alike (us ++ ws) (us ++ vs)
alike_behind [] ws vs same = same
alike_behind (u ∷ us) ws vs same = λ t blind. (refl, refl)

-- of two numbers neither is invalid
pub neither : {A : Type 0} (x y : Option A) → option_or x y ≡ None → (x ≡ None) × (y ≡ None)
neither None y e = (refl, e)
neither (Some x) y e = absurd (cc)

pub none_of : {A : Type 0} (x y : Option A) → x ≡ None → y ≡ None → option_or x y ≡ None
none_of x y e f = rw (e, f) refl

pub word_moves : (t : List ℕ → Bool) → Moves (word_meaning t)
word_moves t = record { moves = λ a ws vs same fits. fits; good = λ a ws vs none. none }

number_good : (good : Bool) (n k : ℕ) → ◌≡◌ {A = Option ℕ} (if good then None else Some n) None → ◌≡◌ {A = Option ℕ} (if good then None else Some k) None
number_good true n k e = refl
number_good false n k e = absurd (cc)

pub number_moves : (t : List ℕ → Bool) → Moves (number_meaning t)
number_moves t = record { moves = λ a ws vs same fits. fits; good = λ a ws vs none. number_good (t a) (length (a ∷ ws)) (length (a ∷ vs)) none }

pub one_of_moves : {A : Type 0} (word_of : A → List ℕ) (all : List A) → Moves (one_of_meaning word_of all)
one_of_moves word_of all = record { moves = λ a ws vs same fits. fits; good = λ a ws vs none. none }

pub upto_moves : (t : List ℕ → Bool) → Blind t → Moves (upto_meaning t)
upto_moves t blind = record { moves = λ a ws vs same fits. (fits.0, sym (same t blind).1 ∙ fits.1); good = λ a ws vs none. none }

pub behind_moves : {A : Type 0} (w : List ℕ) (f : Meaning A) → Moves f → Moves (behind_meaning w f)
behind_moves w f m = record { moves = m.moves; good = m.good }

pub before_moves : {A : Type 0} (f : Meaning A) (w : List ℕ) → Moves f → Moves (before_meaning f w)
before_moves f w m = record { moves = λ a ws vs same. m.moves a (w ∷ ws) (w ∷ vs) (λ t blind. (refl, refl)); good = λ a ws vs. m.good a (w ∷ ws) (w ∷ vs) }

pub closed_moves : {A : Type 0} (t : List ℕ → Bool) (f : Meaning A) → Blind t → Moves f → Moves (closed_meaning t f)
closed_moves t f blind m = record { moves = λ a ws vs same fits. (sym (same t blind).0 ∙ fits.0, m.moves a ws vs same fits.1); good = m.good }

pub seq_moves : {A B : Type 0} (f : Meaning A) (g : Meaning B) → Moves f → Moves g → Moves (seq_meaning f g)
seq_moves f g mf mg = record {
  moves = λ x ws vs same fits. (mf.moves x.0 (g.spell x.1 ++ ws) (g.spell x.1 ++ vs) (alike_behind (g.spell x.1) ws vs same) fits.0, mg.moves x.1 ws vs same fits.1);
  good = λ x ws vs none.
      let both = neither (f.bad x.0 (g.spell x.1 ++ ws)) (g.bad x.1 ws) none in
      none_of (f.bad x.0 (g.spell x.1 ++ vs)) (g.bad x.1 vs) (mf.good x.0 (g.spell x.1 ++ ws) (g.spell x.1 ++ vs) both.0) (mg.good x.1 ws vs both.1);
}

pub alt_moves : {A B : Type 0} (t : List ℕ → Bool) (f : Meaning A) (g : Meaning B) → Blind t → Moves f → Moves g → Moves (alt_meaning t f g)
alt_moves t f g blind mf mg = record {
  moves = elim [
    | inl a ↦ λ ws vs same fits. (sym (alike_behind (f.spell a) ws vs same t blind).0 ∙ fits.0, mf.moves a ws vs same fits.1)
    | inr b ↦ λ ws vs same fits. (sym (alike_behind (g.spell b) ws vs same t blind).0 ∙ fits.0, mg.moves b ws vs same fits.1)
  ];
  good = elim [ inl a ↦ mf.good a | inr b ↦ mg.good b ];
}

pub seen_moves : {A B : Type 0} (s : Seen A B) (f : Meaning A) → Moves f → Moves (seen_meaning s f)
seen_moves s f m = record { moves = λ b. m.moves (s.from b); good = λ b. m.good (s.from b) }

-- several values one after the other, of which the last ones become others
module _ {A : Type 0} (t : List ℕ → Bool) (f : Meaning A) (m : Moves f) where
  -- with alike words after them, the words of some values are alike
  several_alike : (before xs ys : List A) (ws : List (List ℕ)) → Alike (spell_all f.spell xs ++ ws) (spell_all f.spell ys ++ ws)
      → Alike (spell_all f.spell (before ++ xs) ++ ws) (spell_all f.spell (before ++ ys) ++ ws)
  several_alike [] xs ys ws same = same
  several_alike (a ∷ before) xs ys ws same = λ t blind.
      let later = several_alike before xs ys ws same in
      rw (append_assoc (f.spell a) (spell_all f.spell (before ++ xs)) ws, append_assoc (f.spell a) (spell_all f.spell (before ++ ys)) ws)
      (alike_behind (f.spell a) (spell_all f.spell (before ++ xs) ++ ws) (spell_all f.spell (before ++ ys) ++ ws) later t blind)

  -- where each begins with a word that passes the test, others that fit can stand after the first ones
  pub others_behind : ((a : A) (ws : List (List ℕ)) → first_passes t (f.spell a ++ ws) ≡ true) → (before xs ys : List A) (ws : List (List ℕ)) → Alike (spell_all f.spell xs ++ ws) (spell_all f.spell ys ++ ws)
      → FitAll t f.spell f.Fits (before ++ xs) ws → FitAll t f.spell f.Fits ys ws → FitAll t f.spell f.Fits (before ++ ys) ws
  others_behind leads [] xs ys ws same fits new = new
  others_behind leads (a ∷ before) xs ys ws same fits new = (
    leads a (spell_all f.spell (before ++ ys) ++ ws),
    m.moves a (spell_all f.spell (before ++ xs) ++ ws) (spell_all f.spell (before ++ ys) ++ ws) (several_alike before xs ys ws same) fits.1,
    others_behind leads before xs ys ws same fits.2 new,
  )

  -- the last ones fit where all do
  pub fit_behind : (before xs : List A) (ws : List (List ℕ)) → FitAll t f.spell f.Fits (before ++ xs) ws → FitAll t f.spell f.Fits xs ws
  fit_behind [] xs ws fits = fits
  fit_behind (a ∷ before) xs ws fits = fit_behind before xs ws fits.2

  -- and so it is with invalid numbers
  pub others_good : (before xs ys : List A) (ws : List (List ℕ)) → bad_of_all f.spell f.bad (before ++ xs) ws ≡ None → bad_of_all f.spell f.bad ys ws ≡ None → bad_of_all f.spell f.bad (before ++ ys) ws ≡ None
  others_good [] xs ys ws none new = new
  others_good (a ∷ before) xs ys ws none new =
      let both = neither (f.bad a (spell_all f.spell (before ++ xs) ++ ws)) (bad_of_all f.spell f.bad (before ++ xs) ws) none in
      none_of (f.bad a (spell_all f.spell (before ++ ys) ++ ws)) (bad_of_all f.spell f.bad (before ++ ys) ws)
      (m.good a (spell_all f.spell (before ++ xs) ++ ws) (spell_all f.spell (before ++ ys) ++ ws) both.0) (others_good before xs ys ws both.1 new)

  pub good_behind : (before xs : List A) (ws : List (List ℕ)) → bad_of_all f.spell f.bad (before ++ xs) ws ≡ None → bad_of_all f.spell f.bad xs ws ≡ None
  good_behind [] xs ws none = none
  good_behind (a ∷ before) xs ws none = good_behind before xs ws (neither (f.bad a (spell_all f.spell (before ++ xs) ++ ws)) (bad_of_all f.spell f.bad (before ++ xs) ws) none).1
