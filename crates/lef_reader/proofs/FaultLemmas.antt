-- The fault of a text is the first fault of the statement that has one.
use Rattle.std.proofs.Common.{◌≡◌, ℕ, ◌<◌, true, false, List, [], ◌∷◌, ◌++◌, length, nat_lt, refl, sym, ap, ◌∙◌, append_assoc, inl, inr, Option, Some, None, unwrap_or, Result, Ok, Err, arith}
use Rattle.std.proofs.lemmas.Bool.{cases_Bool}
use Rattle.std.proofs.lemmas.Bool.Decides.{nat_tests}
use Rattle.design_model.specs.declared.TheConstants.{MAX_TEXT}
use Rattle.design_model.specs.declared.fault.Fault.{Fault}
use Rattle.design_model.specs.declared.fault.FaultCode.TheVariants.{TooLong}
use Rattle.statement_model.specs.Tokens.{Token, Lexed, tokens}
use Rattle.statement_model.specs.Boundaries.{is_whole, cut, statement_at, statement_from, unfinished}
use Rattle.statement_model.specs.Reading.{fault_at, read_at, read_found, read_form, read_text, nothing_left, with_left}
use Rattle.lef_grammar.specs.HeaderWords.{HeaderWords, header_goes_on, after_header_word, fault_behind, header_fault}
use Rattle.lef_grammar.specs.LefRecords.{Block, outermost, LefRecord, lef_ending, lef, header_words, first_fault, with_first_fault, fault_where, fault_on, read_lef}

-- behind a header no fault stands where the tokens have none, and no other than theirs
none_behind : (words : HeaderWords) (ps : List Token) (n : ℕ) → fault_behind words ps (Ok n) ≡ None
unfolding fault_behind
none_behind words [] n = refl
none_behind words (p ∷ ps) n = elim (cases_Bool (header_goes_on words p.bytes)) [
  | inl on ↦ rw on (none_behind (after_header_word words p.bytes) ps n)
  | inr off ↦ rw off refl
]

own_behind : (words : HeaderWords) (ps : List Token) (f : Fault) → unwrap_or (fault_behind words ps (Err f)) f ≡ f
unfolding fault_behind
own_behind words [] f = refl
own_behind words (p ∷ ps) f = elim (cases_Bool (header_goes_on words p.bytes)) [
  | inl on ↦ rw on (own_behind (after_header_word words p.bytes) ps f)
  | inr off ↦ rw off refl
]

none_of : (words : Option HeaderWords) (ps : List Token) (n : ℕ) → header_fault words ps (Ok n) ≡ None
none_of None ps n = refl
none_of (Some words) [] n = refl
none_of (Some words) (q ∷ ps) n = none_behind words ps n

own_of : (words : Option HeaderWords) (ps : List Token) (f : Fault) → unwrap_or (header_fault words ps (Err f)) f ≡ f
own_of None ps f = refl
own_of (Some words) [] f = refl
own_of (Some words) (q ∷ ps) f = own_behind words ps f

first_at_end : (b : Block) (ps : List Token) (n : ℕ) (f : Fault) → first_fault b ps (Ok n) f ≡ f
first_at_end b [] n f = refl
first_at_end b (p ∷ ps) n f = ap (λ (x : Option Fault). unwrap_or x f) (none_of (header_words b p.bytes) ps n)

first_of_tokens : (b : Block) (ps : List Token) (f : Fault) → first_fault b ps (Err f) f ≡ f
first_of_tokens b [] f = refl
first_of_tokens b (p ∷ ps) f = own_of (header_words b p.bytes) ps f

found_same : {A F : Type 0} (x y : A) → ◌≡◌ {A = Result (Option A) F} (Ok (Some x)) (Ok (Some y)) → x ≡ y
found_same x y h = cc

module _ (b : Block) where
  -- by the first statement, and by what a form says of it
  abbrev on_cut : Result ℕ Fault → Fault → List Token → Option (List Token × List Token) → Fault
  on_cut end f all (Some x) = fault_where end f b all (read_form lef b x.0) (λ after. fault_on end f after [] x.1)
  on_cut end f all None = f

  cut_is : (end : Result ℕ Fault) (f : Fault) (ps before : List Token) → fault_on end f b before ps ≡ on_cut end f (before ++ ps) (cut (lef_ending b) before ps)
  unfolding fault_on cut
  cut_is end f [] before = refl
  cut_is end f (p ∷ ps) before = elim (cases_Bool (is_whole (lef_ending b) (before ++ p ∷ []))) [
    | inl whole ↦ rw whole refl
    | inr more ↦
        rw more (cut_is end f ps (before ++ p ∷ []) ∙ ap (λ (all : List Token). on_cut end f all (cut (lef_ending b) (before ++ p ∷ []) ps)) (append_assoc before (p ∷ []) ps))
  ]

  nothing_next : (end : Result ℕ Fault) (x : LefRecord × Block × Lexed) → nothing_left lef b end ≡ Ok (Some x) → ⊥
  nothing_next (Err f) x h = absurd (cc)
  nothing_next (Ok n) x h = elim (cases_Bool (lef.may_end b)) [
    | inl may ↦ let k = rw may at h in absurd (cc)
    | inr others ↦ let k = rw others at h in absurd (cc)
  ]

  none_next : (l : Lexed) (ps : List Token) (end : Result ℕ Fault) (x : LefRecord × Block × Lexed) → read_found lef b l (unfinished ps end) ≡ Ok (Some x) → ⊥
  none_next l ps (Err f) x h = absurd (cc)
  none_next l [] (Ok n) x h = nothing_next l.end x h
  none_next l (p ∷ ps) (Ok n) x h = absurd (cc)

  module _ (f : Fault) (after : Block) (left : Lexed) (rec : LefRecord) where
    on_form : (l : Lexed) (all : List Token) (r : Result (LefRecord × Block) Fault) → with_left lef l r ≡ Ok (Some (rec, after, left))
        → fault_where l.end f b all r (λ after. fault_on l.end f after [] l.pieces) ≡ fault_on left.end f after [] left.pieces
    on_form l all (Ok x) h =
        let same = found_same (x.0, x.1, l) (rec, after, left) h in
        let block : x.1 ≡ after = ap (λ (z : LefRecord × Block × Lexed). z.1) same in
        let rest : l ≡ left = ap (λ (z : LefRecord × Block × Lexed). z.2) same in
        rw (← block, ← rest) refl
    on_form l all (Err g) h = absurd (cc)

    on_next : (l : Lexed) (c : Option (List Token × List Token)) → read_found lef b l (statement_from c l) ≡ Ok (Some (rec, after, left))
        → on_cut l.end f l.pieces c ≡ fault_on left.end f after [] left.pieces
    on_next l (Some x) h = on_form (record { pieces = x.1; end = l.end }) l.pieces (read_form lef b x.0) h
    on_next l None h = absurd (none_next l l.pieces l.end (rec, after, left) h)

  on_fault_form : (f : Fault) (l : Lexed) (end : Result ℕ Fault) (all : List Token) (r : Result (LefRecord × Block) Fault) (later : Block → Fault) → with_left lef l r ≡ Err f
      → fault_where end f b all r later ≡ first_fault b all end f
  on_fault_form f l end all (Ok x) later h = absurd (cc)
  on_fault_form f l end all (Err g) later h = refl

  none_found : (l : Lexed) (ps : List Token) (end : Result ℕ Fault) (f : Fault) → read_found lef b l (unfinished ps end) ≡ Err f → f ≡ first_fault b ps end f
  none_found l ps (Ok n) f h = sym (first_at_end b ps n f)
  none_found l ps (Err g) f h = let same : g ≡ f = cc in rw (← same) (sym (first_of_tokens b ps g))

  on_fault : (l : Lexed) (f : Fault) (c : Option (List Token × List Token)) → read_found lef b l (statement_from c l) ≡ Err f
      → on_cut l.end f l.pieces c ≡ first_fault b l.pieces l.end f
  on_fault l f (Some x) h = on_fault_form f (record { pieces = x.1; end = l.end }) l.end l.pieces (read_form lef b x.0) (λ after. fault_on l.end f after [] x.1) h
  on_fault l f None h = none_found l l.pieces l.end f h

  -- a record was read, and the fault is one of what is left
  pub fault_later : (l : Lexed) (f : Fault) (after : Block) (left : Lexed) (rec : LefRecord) → read_at lef b l ≡ Ok (Some (rec, after, left))
      → fault_on l.end f b [] l.pieces ≡ fault_on left.end f after [] left.pieces
  unfolding read_at statement_at
  fault_later l f after left rec h = cut_is l.end f l.pieces [] ∙ on_next f after left rec l (cut (lef_ending b) [] l.pieces) h

  -- none was, and it is the first of this statement
  pub fault_here : (l : Lexed) (f : Fault) → read_at lef b l ≡ Err f → fault_on l.end f b [] l.pieces ≡ first_fault b l.pieces l.end f
  unfolding read_at statement_at
  fault_here l f h = cut_is l.end f l.pieces [] ∙ on_fault l f (cut (lef_ending b) [] l.pieces) h

-- what a statement with its first fault says of it
pub record FirstOf (r : Result (Option (LefRecord × Block × Lexed)) Fault) (b : Block) (l : Lexed) (f : Fault) : Type 0 where
  pub own : Fault
  pub is : r ≡ Err own
  pub first : first_fault b l.pieces l.end own ≡ f

pub own_fault : (b : Block) (l : Lexed) (f : Fault) (r : Result (Option (LefRecord × Block × Lexed)) Fault) → with_first_fault b l r ≡ Err f → FirstOf r b l f
own_fault b l f (Ok x) h = absurd (cc)
own_fault b l f (Err g) h = let same : first_fault b l.pieces l.end g ≡ f = cc in record { own = g; is = refl; first = same }

pub own_record : (b : Block) (l : Lexed) (x : Option (LefRecord × Block × Lexed)) (r : Result (Option (LefRecord × Block × Lexed)) Fault) → with_first_fault b l r ≡ Ok x → r ≡ Ok x
own_record b l x (Ok y) h = h
own_record b l x (Err g) h = absurd (cc)

-- a whole text
pub lef_too_long : (text : List ℕ) → MAX_TEXT < length text → read_lef text ≡ Err (fault_at TooLong 0)
lef_too_long text h = let long : nat_lt MAX_TEXT (length text) ≡ true = grind (arith, nat_tests) in rw long refl

module _ (text : List ℕ) (fits : nat_lt MAX_TEXT (length text) ≡ false) where
  pub lef_reads : (recs : List LefRecord) → read_text lef outermost text ≡ Ok recs → read_lef text ≡ Ok recs
  lef_reads recs h = rw (fits, h) refl

  pub lef_fault : (g f : Fault) → read_text lef outermost text ≡ Err g → fault_on (tokens text).end g outermost [] (tokens text).pieces ≡ f → read_lef text ≡ Err f
  lef_fault g f h is = rw (fits, h) (ap (λ (x : Fault). Err x) is)
