-- What comes one after the other is what a text reads as.
use Rattle.std.proofs.Common.{◌≡◌, ℕ, true, false, List, [], ◌∷◌, length, nat_lt, refl, sym, ap, ◌∙◌, subst, inl, inr, Option, Some, None, Result, Ok, Err}
use Rattle.std.proofs.lemmas.Bool.{cases_Bool}
use Rattle.design_model.specs.declared.TheConstants.{MAX_TEXT}
use Rattle.design_model.specs.declared.fault.Fault.{Fault}
use Rattle.design_model.specs.declared.fault.FaultCode.TheVariants.{TooLong}
use Rattle.statement_model.specs.Tokens.{Token, Lexed, tokens}
use Rattle.statement_model.specs.Boundaries.{cut, statement_at, statement_from}
use Rattle.statement_model.specs.Folds.{◌>>◌}
use Rattle.statement_model.specs.Reading.{fault_at, read_at, read_found, read_form, read_from, read_text, with_left}
use Rattle.statement_reader.specs.ReadingLaws.{FaultsStop, ReadingGoesOn, ReadingEnds}
use Rattle.lef_grammar.specs.LefRecords.{Block, outermost, LefRecord, lef, read_lef, read_lef_at, fault_on}
use Rattle.lef_reader.proofs.FaultLemmas.{fault_here, fault_later, lef_fault, lef_reads, own_fault, own_record}
use Rattle.lef_reader.specs.Events.{Events, Give, EndIsOfText, FaultIsOfText, after_next, next_record, left_after, record_of}

-- no end comes where the tokens have a fault
some_left : (l : Lexed) (x : Result (LefRecord × Block) Fault) → with_left lef l x ≡ Ok None → ⊥
some_left l (Ok x) h = absurd (cc)
some_left l (Err f) h = absurd (cc)

none_at : (b : Block) (l : Lexed) (f : Fault) (c : Option (List Token × List Token)) → l.end ≡ Err f → read_found lef b l (statement_from c l) ≡ Ok None → ⊥
none_at b l f (Some x) end h = some_left (record { pieces = x.1; end = l.end }) (read_form lef b x.0) h
none_at b l f None end h = let k = rw end at h in absurd (cc)

no_fault : (b : Block) (l : Lexed) (f : Fault) → l.end ≡ Err f → read_at lef b l ≡ Ok None → ⊥
unfolding read_at statement_at
no_fault b l f end h = none_at b l f (cut (lef.ending b) [] l.pieces) end h

-- what a record that comes says of the next statement
pub record Step (r : Result (Option (LefRecord × Block × Lexed)) Fault) (rec : LefRecord) : Type 0 where
  pub after : Block
  pub left : Lexed
  pub is : r ≡ Ok (Some (rec, after, left))

step_of : (r : Result (Option (LefRecord × Block × Lexed)) Fault) (rec : LefRecord) → record_of r ≡ Ok (Some rec) → Step r rec
step_of (Ok None) rec h = absurd (cc)
step_of (Ok (Some x)) rec h = let same : x.0 ≡ rec = cc in record { after = x.1; left = x.2; is = rw (← same) refl }
step_of (Err f) rec h = absurd (cc)

end_of : (r : Result (Option (LefRecord × Block × Lexed)) Fault) → record_of r ≡ Ok None → r ≡ Ok None
end_of (Ok None) h = refl
end_of (Ok (Some x)) h = absurd (cc)
end_of (Err f) h = absurd (cc)

same_fault : (r : Result (Option LefRecord) Fault) (g f : Fault) → r ≡ Err g → r ≡ Err f → g ≡ f
same_fault r g f one other = let both : ◌≡◌ {A = Result (Option LefRecord) Fault} (Err g) (Err f) = sym one ∙ other in cc

fault_of : (r : Result (Option (LefRecord × Block × Lexed)) Fault) (f : Fault) → record_of r ≡ Err f → r ≡ Err f
fault_of (Ok None) f h = absurd (cc)
fault_of (Ok (Some x)) f h = absurd (cc)
fault_of (Err g) f h = ap (λ (x : Fault). Err x) (same_fault (record_of (Err g)) g f refl h)

module _ (faults : FaultsStop lef) (goes_on : ReadingGoesOn lef) (ends : ReadingEnds lef) where
  at_end : (b : Block) (l : Lexed) (end : Result ℕ Fault) → l.end ≡ end → read_at lef b l ≡ Ok None → read_from lef (b, []) l ≡ Ok []
  at_end b l (Ok n) end h = ends b [] l n end h
  at_end b l (Err f) end h = absurd (no_fault b l f end h)

  module _ (text : List ℕ) (fits : nat_lt MAX_TEXT (length text) ≡ false) where
    abbrev left_at : Block → Lexed → Events
    left_at b l = record { text = text; block = b; left = l }

    next_is : (b : Block) (l : Lexed) → (next_record (left_at b l) ≡ record_of (read_lef_at b l)) × (after_next (left_at b l) ≡ left_after (left_at b l) (read_lef_at b l))
    next_is b l = (rw fits refl, rw fits refl)

    told_end : (recs : List LefRecord) (b : Block) (l : Lexed) → Give recs (Ok None) (left_at b l) → read_from lef (b, []) l ≡ Ok recs
    told_end [] b l h = at_end b l l.end refl (own_record b l None (read_at lef b l) (end_of (read_lef_at b l) (sym (next_is b l).0 ∙ h)))
    told_end (rec ∷ rs) b l h =
        let s = step_of (read_lef_at b l) rec (sym (next_is b l).0 ∙ h.0) in
        let own = own_record b l (Some (rec, s.after, s.left)) (read_at lef b l) s.is in
        let later : Give rs (Ok None) (left_at s.after s.left) = subst (Give rs (Ok None)) ((next_is b l).1 ∙ ap (left_after (left_at b l)) s.is) h.1 in
        goes_on b s.after [] l s.left rec own refl ∙ ap (λ (x : Result (List LefRecord) Fault). x >> λ recs. Ok (rec ∷ recs)) (told_end rs s.after s.left later)

    told_fault : (recs : List LefRecord) (b : Block) (l : Lexed) (f : Fault) → Give recs (Err f) (left_at b l)
        → (g : Fault) × (read_from lef (b, []) l ≡ Err g) × (fault_on l.end g b [] l.pieces ≡ f)
    told_fault [] b l f h =
        let own = own_fault b l f (read_at lef b l) (fault_of (read_lef_at b l) f (sym (next_is b l).0 ∙ h)) in
        (own.own, faults b [] l own.own own.is, fault_here b l own.own own.is ∙ own.first)
    told_fault (rec ∷ rs) b l f h =
        let s = step_of (read_lef_at b l) rec (sym (next_is b l).0 ∙ h.0) in
        let own = own_record b l (Some (rec, s.after, s.left)) (read_at lef b l) s.is in
        let later : Give rs (Err f) (left_at s.after s.left) = subst (Give rs (Err f)) ((next_is b l).1 ∙ ap (left_after (left_at b l)) s.is) h.1 in
        let told = told_fault rs s.after s.left f later in (
          told.0,
          goes_on b s.after [] l s.left rec own refl ∙ ap (λ (x : Result (List LefRecord) Fault). x >> λ recs. Ok (rec ∷ recs)) told.1,
          fault_later b l told.0 s.after s.left rec own ∙ told.2,
        )

  long_end : (text : List ℕ) (recs : List LefRecord) → nat_lt MAX_TEXT (length text) ≡ true → Give recs (Ok None) (record { text = text; block = outermost; left = tokens text }) → ⊥
  long_end text [] long h = let k = rw long at h in absurd (cc)
  long_end text (rec ∷ rs) long h = let k = rw long at h.0 in absurd (cc)

  long_fault : (text : List ℕ) (recs : List LefRecord) (f : Fault) → nat_lt MAX_TEXT (length text) ≡ true → Give recs (Err f) (record { text = text; block = outermost; left = tokens text }) → read_lef text ≡ Err f
  long_fault text [] f long h =
      let k = rw long at h in
      rw long (ap (λ (x : Fault). Err x) (same_fault (Err (fault_at TooLong 0)) (fault_at TooLong 0) f refl k))
  long_fault text (rec ∷ rs) f long h = let k = rw long at h.0 in absurd (cc)

  -- a text that is short enough, by its tokens
  read_short : (text : List ℕ) (r : Result (List LefRecord) Fault) → nat_lt MAX_TEXT (length text) ≡ false → read_from lef (outermost, []) (tokens text) ≡ r → read_text lef outermost text ≡ r
  unfolding read_text
  read_short text r fits h = rw fits h

  pub end_is_of_text : EndIsOfText
  end_is_of_text text recs h = elim (cases_Bool (nat_lt MAX_TEXT (length text))) [
    | inl long ↦ absurd (long_end text recs long h)
    | inr fits ↦ lef_reads text fits recs (read_short text (Ok recs) fits (told_end text fits recs outermost (tokens text) h))
  ]

  pub fault_is_of_text : FaultIsOfText
  fault_is_of_text text recs f h = elim (cases_Bool (nat_lt MAX_TEXT (length text))) [
    | inl long ↦ long_fault text recs f long h
    | inr fits ↦
        let told = told_fault text fits recs outermost (tokens text) f h in
        lef_fault text fits told.0 f (read_short text (Err told.0) fits told.1) told.2
  ]
