-- A text of wiring: its bytes are whole tokens, and the clauses that it says are spelled with them.
use Rattle.std.proofs.Common.{◌≡◌, inl, ℕ, ◌+◌, ◌==◌, ◌&&◌, not, Bool, true, false, List, [], ◌∷◌, ◌++◌, length, Option, Some, None, Result, Ok, Err, arith, refl, sym, ap, ap₂, subst, ◌∙◌, ⊎_elim, codes, length-append, if◌then◌else◌}
use Rattle.std.specs.List.{list_all}
use Rattle.std.proofs.lemmas.Bool.{cases_Bool as cases, and_parts, or_parts}
use Rattle.form_meanings.specs.Words.{Rest, is_plus, start}
use Rattle.form_meanings.specs.Meaning.{spell_all}
use Rattle.design_model.specs.declared.fault.Fault.{Fault}
use Rattle.statement_model.specs.Boundaries.{words}
use Rattle.statement_model.specs.Form.{Form, many, read, spell}
use Rattle.statement_model.specs.Tokens.{Open, Token, lex, tokens, next_open, is_white, is_refused, closes}
use Rattle.statement_model.specs.Tokens.Open.{between, comment, word, string}
use Rattle.lefdef_tokens.specs.Laws.{state_after, IsClosed}
use Rattle.splicing_laws.specs.SplicingLaws.{AreTokens, TokensArePut}
use Rattle.edit_rules.specs.NetEdits.{Role, is_of_wiring, is_comment, opens_comment, is_alone, whole_text, said_by, wiring_said}
use Rattle.edit_laws.proofs.NetClauses.{end}
use Rattle.edit_laws.proofs.NetRuns.{AllFit, AllGood, each_fits}

-- what is open, without where it began and its bytes
abbrev bare : Open → Open
bare between = between
bare comment = comment
bare (word at bytes) = word 0 []
bare (string at bytes last) = string 0 [] last

if_bare : (b : Bool) (x y u v : Open) → bare x ≡ bare u → bare y ≡ bare v → bare (if b then x else y) ≡ bare (if b then u else v)
if_bare true x y u v e f = e
if_bare false x y u v e f = f

next_bare : (pos : ℕ) (state : Open) (b : ℕ) → bare (next_open pos state b) ≡ bare (next_open 0 (bare state) b)
next_bare pos between b =
    if_bare (is_white b) between _ between _ refl (if_bare (b == 35) comment _ comment _ refl (if_bare (b == 34) (string pos (b ∷ []) b) (word pos (b ∷ [])) (string 0 (b ∷ []) b) (word 0 (b ∷ [])) refl refl))
next_bare pos comment b = refl
next_bare pos (word at bytes) b = if_bare (is_white b) between (word at (bytes ++ b ∷ [])) between (word 0 ([] ++ b ∷ [])) refl refl
next_bare pos (string at bytes last) b = if_bare (closes last b) between (string at (bytes ++ b ∷ []) b) between (string 0 ([] ++ b ∷ []) b) refl refl

next_same : (pos : ℕ) (s t : Open) (b : ℕ) → bare s ≡ bare t → bare (next_open pos s b) ≡ bare (next_open 0 t b)
next_same pos s t b e = next_bare pos s b ∙ (ap (λ (u : Open). bare (next_open 0 u b)) e ∙ sym (next_bare 0 t b))

comment_same : (s t : Open) → bare s ≡ bare t → is_comment s ≡ is_comment t
comment_same s t e = of_bare s ∙ (ap is_comment e ∙ sym (of_bare t))
  where
    of_bare : (s : Open) → is_comment s ≡ is_comment (bare s)
    of_bare between = refl
    of_bare comment = refl
    of_bare (word at bytes) = refl
    of_bare (string at bytes last) = refl

-- where no comment begins, none is open at the end
no_comment : (pos : ℕ) (s t : Open) (text : List ℕ) → bare s ≡ bare t → opens_comment t text ≡ false → is_comment (state_after pos s text) ≡ false
unfolding opens_comment state_after
no_comment pos s t [] same none = comment_same s t same ∙ none
no_comment pos s t (b ∷ bs) same none =
    let later = or_parts (is_comment t) (opens_comment (next_open 0 t b) bs) none in
    no_comment (pos + 1) (next_open pos s b) (next_open 0 t b) bs (next_same pos s t b same) later.1

abbrev is_string : Open → Bool
is_string (string at bytes last) = true
is_string _ = false

-- a text without a fault ends outside of strings, at its length
good_end : (pos n : ℕ) (s : Open) (text : List ℕ) → (lex pos s text).end ≡ Ok n → (n ≡ pos + length text) × (is_string (state_after pos s text) ≡ false)
unfolding lex state_after
good_end pos n between [] e = let same : pos ≡ n = cc in (omega (arith, same), refl)
good_end pos n comment [] e = let same : pos ≡ n = cc in (omega (arith, same), refl)
good_end pos n (word at bytes) [] e = let same : pos ≡ n = cc in (omega (arith, same), refl)
good_end pos n (string at bytes last) [] e = absurd (cc)
good_end pos n s (b ∷ bs) e = ⊎_elim
    (λ (bad : is_refused b ≡ true). let h = rw bad at e in absurd (cc))
    (λ (good : is_refused b ≡ false).
    let later = good_end (pos + 1) n (next_open pos s b) bs (rw good at e) in
    let sum = later.0 in
    (omega (arith, sum), later.1))
    (cases (is_refused b))

closed_if : (s : Open) → is_comment s ≡ false → is_string s ≡ false → IsClosed s
closed_if between a b = tt
closed_if comment a b = absurd (cc)
closed_if (word at bytes) a b = tt
closed_if (string at bytes last) a b = absurd (cc)

-- a text that reads without comments is its tokens
pub whole_tokens : (text : List ℕ) (n : ℕ) → (tokens text).end ≡ Ok n → opens_comment between text ≡ false → AreTokens text (tokens text).pieces
whole_tokens text n e none =
    let good = good_end 0 n between text e in
    let length_is : n ≡ length text = let sum = good.0 in omega (arith, sum) in
    record { pieces = refl; end = e ∙ ap Ok length_is; closed = closed_if (state_after 0 between text) (no_comment 0 between between text refl none) good.1 }

-- and behind a space
module _ (put_so : TokensArePut) where
  space_is_none : AreTokens (32 ∷ []) []
  unfolding lex state_after
  space_is_none = record { pieces = refl; end = refl; closed = tt }

  space_closes : state_after 0 between (32 ∷ []) ≡ between
  unfolding state_after
  space_closes = refl

  space_opens_none : (text : List ℕ) → opens_comment between (32 ∷ text) ≡ opens_comment between text
  unfolding opens_comment
  space_opens_none text = refl

  pub spaced_tokens : (text : List ℕ) (n : ℕ) → (tokens text).end ≡ Ok n → opens_comment between text ≡ false
      → AreTokens (32 ∷ text) (tokens (32 ∷ text)).pieces × (words (tokens (32 ∷ text)).pieces ≡ words (tokens text).pieces)
  spaced_tokens text n e none =
      let whole = whole_tokens text n e none in
      let has = put_so (32 ∷ []) text [] (words (tokens text).pieces) space_is_none (inl space_closes) (record { words = refl; end = whole.end }) in
      (whole_tokens (32 ∷ text) (length (32 ∷ text)) has.end (space_opens_none text ∙ none), has.words)

-- lists that end alike are alike
last_same : {A : Type 0} (xs ys : List A) (x y : A) → xs ++ x ∷ [] ≡ ys ++ y ∷ [] → (xs ≡ ys) × (x ≡ y)
last_same [] [] x y e = (refl, cc)
last_same [] (z ∷ ys) x y e =
    let long : length (x ∷ []) ≡ length (z ∷ (ys ++ y ∷ [])) = ap length e in
    absurd (omega (arith, long, length-append ys (y ∷ [])))
last_same (z ∷ xs) [] x y e =
    let long : length (z ∷ (xs ++ x ∷ [])) ≡ length (y ∷ []) = ap length e in
    absurd (omega (arith, long, length-append xs (x ∷ [])))
last_same {A = A} (u ∷ xs) (v ∷ ys) x y e =
    let first : u ≡ v = cc in
    let later = last_same xs ys x y (cc) in
    (ap₂ (λ (a : A) (all : List A). a ∷ all) first later.0, later.1)

-- what a text says as wiring
pub record SaysWiring {C : Type 0} (form : Form C) (role : C → Role) (text : List ℕ) (said : List C) : Type 0 where
  pub n : ℕ
  pub end_is : (tokens text).end ≡ Ok n
  pub plain : opens_comment between text ≡ false
  pub spelled : words (tokens text).pieces ≡ spell_all (spell form) said
  pub fits : AllFit form.of said end
  pub good : AllGood form.of said end
  pub wires : list_all (is_of_wiring form role) said ≡ true

if_some : {A : Type 0} (b : Bool) (x y : A) → (if b then Some x else None) ≡ Some y → (b ≡ true) × (x ≡ y)
if_some true x y e = (refl, cc)
if_some false x y e = absurd (cc)

unless_some : {A : Type 0} (b : Bool) (o : Option A) (y : A) → (if b then None else o) ≡ Some y → (b ≡ false) × (o ≡ Some y)
unless_some true o y e = absurd (cc)
unless_some false o y e = (refl, e)

module _ {C : Type 0} (form : Form C) (role : C → Role) where
  one_alone : (ws : List (List ℕ)) (bad : Option ℕ) → is_alone form role ws bad ≡ true → (w : List ℕ) × (ws ≡ w ∷ []) × (bad ≡ None)
  one_alone [] bad e = absurd (cc)
  one_alone (w ∷ []) None e = (w, refl, refl)
  one_alone (w ∷ []) (Some n) e = absurd (cc)
  one_alone (w ∷ v ∷ ws) bad e = absurd (cc)

  abbrev AreSaidBy : List Token → List C → Type 0
  AreSaidBy ps said = (words ps ≡ spell_all (spell form) said) × AllFit form.of said end × AllGood form.of said end × (list_all (is_of_wiring form role) said ≡ true)

  of_words : (ps : List Token) (said : List C) (o : Option (List C × Rest)) → whole_text form role o ≡ Some said → read (many is_plus form) (start (words ps ++ end)) ≡ o → AreSaidBy ps said
  of_words ps said None e is = absurd (cc)
  of_words ps said (Some (cs, rest)) e is =
      let test = if_some (is_alone form role rest.words rest.bad && list_all (is_of_wiring form role) cs && not (length cs == 0)) cs said e in
      let outer = and_parts (is_alone form role rest.words rest.bad && list_all (is_of_wiring form role) cs) (not (length cs == 0)) test.0 in
      let inner = and_parts (is_alone form role rest.words rest.bad) (list_all (is_of_wiring form role) cs) outer.0 in
      let alone = one_alone rest.words rest.bad inner.0 in
      let p : List C × Rest = (cs, rest) in
      let k = (many is_plus form).exact.shows (start (words ps ++ end)) p is in
      let last = last_same (words ps) (spell_all (spell form) cs) (codes ";") alone.0 (k.words ∙ ap (λ (ws : List (List ℕ)). spell_all (spell form) cs ++ ws) alone.1) in
      let left : rest.words ≡ end = alone.1 ∙ ap (λ (w : List ℕ). w ∷ []) (sym last.1) in
      let fits : AllFit form.of cs end = subst (λ (ws : List (List ℕ)). AllFit form.of cs ws) left (each_fits form.of is_plus cs rest.words k.fits.1) in
      let good : AllGood form.of cs end = subst (λ (ws : List (List ℕ)). AllGood form.of cs ws) left (sym k.bad ∙ alone.2) in
      subst (λ (said : List C). AreSaidBy ps said) test.1 (last.0, fits, good, inner.1)

  of_end : (text : List ℕ) (said : List C) (end_was : Result ℕ Fault) → (tokens text).end ≡ end_was → opens_comment between text ≡ false → said_by form role end_was (tokens text).pieces ≡ Some said → SaysWiring form role text said
  of_end text said (Err fault) at none e = absurd (cc)
  of_end text said (Ok n) at none e =
      let is = of_words (tokens text).pieces said (read (many is_plus form) (start (words (tokens text).pieces ++ end))) e refl in
      record { n = n; end_is = at; plain = none; spelled = is.0; fits = is.1; good = is.2; wires = is.3 }

  pub says_wiring : (text : List ℕ) (said : List C) → wiring_said form role text ≡ Some said → SaysWiring form role text said
  says_wiring text said e =
      let both = unless_some (opens_comment between text) (said_by form role (tokens text).end (tokens text).pieces) said e in
      of_end text said (tokens text).end refl both.0 both.1
