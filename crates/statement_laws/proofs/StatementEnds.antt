-- Each statement of a text that reads ends before white space or where the text does.
use Rattle.std.proofs.Common.{◌≡◌, ℕ, Bool, true, false, List, [], ◌∷◌, length, Result, Ok, Err, Option, Some, None, refl, sym, ap, ◌∙◌, ⊎_elim, codes, if◌then◌else◌}
use Rattle.std.specs.Prelude.{nat_lt}
use Rattle.std.specs.List.{All}
use Rattle.std.proofs.lemmas.Bool.{cases_Bool as cases}
use Rattle.std.proofs.lemmas.List.Elements.{All-nil, All-cons, All-head, All-tail}
use Rattle.design_model.specs.declared.TheConstants.{MAX_TEXT}
use Rattle.design_model.specs.declared.mode.Mode.{Mode}
use Rattle.design_model.specs.declared.mode.Mode.TheVariants.{Top}
use Rattle.form_meanings.specs.Words.{is_word, is_semicolon, is_quoted}
use Rattle.statement_model.specs.Tokens.{Token, tokens}
use Rattle.statement_model.specs.Boundaries.{alone, with_next, up_to, last_of, words, statements}
use Rattle.statement_model.specs.Folds.{◌>>◌, all_from}
use Rattle.statement_model.specs.Form.{whole}
use Rattle.statement_model.specs.Grammar.{Key}
use Rattle.statement_model.specs.Reading.{formed, read_form, read_one, read_from, read_text}
use Rattle.def_grammar.specs.Records.{Record, def, def_ending, statement}
use Rattle.statement_laws.specs.BoundaryLaws.{EndApart, StatementsEndApart}
use Rattle.statement_laws.proofs.EndWords.{same_word, not_quoted, end_form}
use Rattle.statement_laws.proofs.Reading.{reading_by_steps}
use Rattle.statement_laws.proofs.StatementParts.{IsStatement, statement_parts}
use Rattle.statement_laws.proofs.WordEnds.{WordEndsApart, words_end_apart}

-- what a first token says of how its statement ends
data Ends (w : List ℕ) : Type 0 where
  by_itself : def_ending w ≡ alone → is_quoted w ≡ false → Ends w
  by_end : def_ending w ≡ with_next → codes "END" ≡ w → Ends w
  by_ext : def_ending w ≡ up_to (codes "ENDEXT") → Ends w
  by_semicolon : def_ending w ≡ up_to (codes ";") → Ends w

-- a statement is one token, ends one token after END, with ENDEXT, or with ;
ends_of : (w : List ℕ) → Ends w
ends_of w = ⊎_elim
    (λ (defs : is_word (codes "PROPERTYDEFINITIONS") w ≡ true). by_itself (rw defs refl) (not_quoted (codes "PROPERTYDEFINITIONS") w defs refl))
    (λ (no_defs : is_word (codes "PROPERTYDEFINITIONS") w ≡ false). ⊎_elim
    (λ (semicolon : is_semicolon w ≡ true). by_itself (rw (no_defs, semicolon) refl) (not_quoted (codes ";") w semicolon refl))
    (λ (no_semicolon : is_semicolon w ≡ false). ⊎_elim
    (λ (end : is_word (codes "END") w ≡ true). by_end (rw (no_defs, no_semicolon, end) refl) (same_word (codes "END") w end))
    (λ (no_end : is_word (codes "END") w ≡ false). ⊎_elim
    (λ (ext : is_word (codes "BEGINEXT") w ≡ true). by_ext (rw (no_defs, no_semicolon, no_end, ext) refl))
    (λ (no_ext : is_word (codes "BEGINEXT") w ≡ false). by_semicolon (rw (no_defs, no_semicolon, no_end, no_ext) refl))
    (cases (is_word (codes "BEGINEXT") w)))
    (cases (is_word (codes "END") w)))
    (cases (is_semicolon w)))
    (cases (is_word (codes "PROPERTYDEFINITIONS") w))

-- a statement that reads has a form
has_form : (m : Mode) (ps : List Token) (o : Option (Record × Option ℕ)) (y : Record × Mode) → formed def m ps o ≡ Ok y → (x : Record × Option ℕ) × (o ≡ Some x)
has_form m ps (Some x) y e = (x, refl)
has_form m ps None y e = absurd (cc)

-- the last token of a statement that reads is no string
last_is_plain : (m : Mode) (p q : Token) (qs : List Token) (y : Record × Mode) → Ends p.bytes → IsStatement def_ending (p ∷ q ∷ qs) → read_form def m (p ∷ q ∷ qs) ≡ Ok y
    → is_quoted (last_of q qs).bytes ≡ false
unfolding last_of
last_is_plain m p q qs y (by_itself ends plain) is e = let h = rw ends at is.0 in absurd (cc)
last_is_plain m p q [] y (by_end ends same) is e =
    let x = has_form m (p ∷ q ∷ []) (whole (statement m) (words (p ∷ q ∷ []))) y e in
    let f : whole (statement m) (codes "END" ∷ q.bytes ∷ []) ≡ Some x.0 = ap (λ (w : List ℕ). whole (statement m) (w ∷ q.bytes ∷ [])) same ∙ x.1 in
    end_form m q.bytes x.0 f
last_is_plain m p q (r ∷ rs) y (by_end ends same) is e = let h = rw ends at is.2 in absurd (cc)
last_is_plain m p q qs y (by_ext ends) is e = let h = rw ends at is.1 in not_quoted (codes "ENDEXT") (last_of q qs).bytes h refl
last_is_plain m p q qs y (by_semicolon ends) is e = let h = rw ends at is.1 in not_quoted (codes ";") (last_of q qs).bytes h refl

-- a statement of one token is no string
only_is_plain : (p : Token) → Ends p.bytes → IsStatement def_ending (p ∷ []) → is_quoted p.bytes ≡ false
only_is_plain p (by_itself ends plain) is = plain
only_is_plain p (by_end ends same) is = let h = rw ends at is in absurd (cc)
only_is_plain p (by_ext ends) is = let h = rw ends at is in absurd (cc)
only_is_plain p (by_semicolon ends) is = let h = rw ends at is in absurd (cc)

-- the last of some tokens is one of them
last_among : (P : Token → Type 0) (p : Token) (ps : List Token) → All P (p ∷ ps) → P (last_of p ps)
unfolding last_of
last_among P p [] all = All-head P p [] all
last_among P p (q ∷ qs) all = last_among P q qs (All-tail P p (q ∷ qs) all)

pub statement_ends : (text : List ℕ) (m : Mode) (s : List Token) (y : Record × Mode) → IsStatement def_ending s → All (WordEndsApart text) s → read_form def m s ≡ Ok y → EndApart text s
unfolding last_of
statement_ends text m [] y is all e = tt
statement_ends text m (p ∷ []) y is all e = All-head (WordEndsApart text) p [] all (only_is_plain p (ends_of p.bytes) is)
statement_ends text m (p ∷ q ∷ qs) y is all e = last_among (WordEndsApart text) p (q ∷ qs) all (last_is_plain m p q qs y (ends_of p.bytes) is e)

-- where one reading goes on to another, it has read
has_read : {A B F : Type 0} (r : Result A F) (f : A → Result B F) (b : B) → (r >> f) ≡ Ok b → (a : A) × (r ≡ Ok a) × (f a ≡ Ok b)
has_read (Ok a) f b e = (a, refl, e)
has_read (Err x) f b e = absurd (cc)

all_end : (text : List ℕ) (state : Mode × List Key) (ss : List (List Token)) (y : List Record × (Mode × List Key)) → all_from (read_one def) state ss ≡ Ok y
    → All (λ s. IsStatement def_ending s × All (WordEndsApart text) s) ss → All (EndApart text) ss
unfolding all_from
all_end text state [] y e all = All-nil (EndApart text)
all_end text state (s ∷ ss) y e all =
    let Part = λ (s : List Token). IsStatement def_ending s × All (WordEndsApart text) s in
    let one = has_read (read_one def state s) _ y e in
    let others = has_read (all_from (read_one def) one.0.1 ss) _ y one.2 in
    let form = has_read (read_form def state.0 s) _ one.0 one.1 in
    let first = All-head Part s ss all in
    All-cons (EndApart text) s ss (statement_ends text state.0 s form.0 first.0 first.1 form.1) (all_end text one.0.1 ss others.0 others.1 (All-tail Part s ss all))

unless : {A F : Type 0} (long : Bool) (f : F) (r : Result A F) (a : A) → (if long then Err f else r) ≡ Ok a → r ≡ Ok a
unless true f r a e = absurd (cc)
unless false f r a e = e

pub statements_end_apart : StatementsEndApart
unfolding read_text
statements_end_apart text recs e =
    let l = tokens text in
    let ss = statements def_ending [] l.pieces in
    let r = unless (nat_lt MAX_TEXT (length text)) _ (read_from def (Top, []) l) recs e in
    let steps = sym (reading_by_steps def def_ending (λ m. refl) (Top, []) [] l.pieces l.end) ∙ r in
    let all = has_read (all_from (read_one def) (Top, []) ss.0) _ recs steps in
    all_end text (Top, []) ss.0 all.0 all.1 (statement_parts def_ending (WordEndsApart text) l.pieces (words_end_apart text))
