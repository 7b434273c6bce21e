-- What is said of bytes that lie in a text, where they lie.
use Rattle.std.proofs.Common.{◌≡◌, ◌==◌, ◌≤◌, ◌<◌, ◌+◌, ◌++◌, ℕ, zero, suc, false, List, [], ◌∷◌, length, map, take, drop, None, Result, Ok, Err, inl, inr, refl, sym, ap, ap₂, subst, ◌∙◌, arith, drop-drop, length-drop}
use Rattle.std.proofs.lemmas.Bool.{cases_Bool}
use Rattle.std.proofs.lemmas.Bool.Decides.{nat_tests}
use Rattle.std.proofs.lemmas.List.{length-map, length-take-le}
use Rattle.design_model.specs.declared.TheConstants.{MAX_TEXT}
use Rattle.edit_model.specs.declared.edit.EditRefusal.{EditRefusal}
use Rattle.edit_model.specs.declared.edit.EditRefusal.TheVariants.{Refused, Unreadable, Memory}
use Rattle.edit_model.specs.declared.edit.Splice.{Splice}
use Rattle.statement_model.specs.Cuts.{Cut, end_of_all, space_before}
use Rattle.statement_model.specs.Reading.{pos_of}
use Rattle.statement_model.specs.Tokens.{Token}
use Rattle.lefdef_tokens.specs.Laws.{BeginsApart, moved_token}
use Rattle.edit_laws.specs.PlanLaws.{LieWithin}
use Rattle.edit_rules.specs.Plans.{Plan, StatementChange, cut_of, cuts_for, ends_open, gap_after, lowest, put_apart, space_between, taken_tokens}
use Rattle.lefdef_tokens.specs.Views.{pieces_of, words_of}
use Rattle.def_splice.specs.Lying.{AreFirm, LiesAt, LiesIn, lying_tokens, moved_change, moved_cut, moved_plan, moved_tokens}
use Rattle.def_splice.specs.declared.lying.Lying.{Lying}
use Rattle.def_splice.specs.SpliceViews.{AreCuts, FollowsAll, MakesOne, change_cut, cut_view}
use Rattle.def_splice.proofs.PlanLemmas.{follows, refused, unchanged, wants}
use Rattle.def_splice.proofs.TokenLemmas.{gap_behind, pieces_counted}

-- some tokens of moved ones
take_moved : (at n : ℕ) (ps : List Token) → take n (moved_tokens at ps) ≡ moved_tokens at (take n ps)
take_moved at zero ps = refl
take_moved at (suc n) [] = refl
take_moved at (suc n) (p ∷ ps) = ap (λ (qs : List Token). moved_token at p ∷ qs) (take_moved at n ps)

drop_moved : (at n : ℕ) (ps : List Token) → drop n (moved_tokens at ps) ≡ moved_tokens at (drop n ps)
drop_moved at zero ps = refl
drop_moved at (suc n) [] = refl
drop_moved at (suc n) (p ∷ ps) = drop_moved at n ps

pos_moved : (at : ℕ) (ps : List Token) → 0 < length ps → pos_of (moved_tokens at ps) ≡ at + pos_of ps
pos_moved at [] some = absurd (omega (arith, some))
pos_moved at (p ∷ ps) some = refl

end_moved : (at : ℕ) (ps : List Token) → 0 < length ps → end_of_all (moved_tokens at ps) ≡ at + end_of_all ps
end_moved at [] some = absurd (omega (arith, some))
end_moved at (p ∷ []) some = omega arith
end_moved at (p ∷ q ∷ qs) some = end_moved at (q ∷ qs) (omega arith)

-- what comes behind a place begins as it does in the text
space_apart : (bs : List ℕ) → BeginsApart bs → space_before bs ≡ []
space_apart [] apart = refl
space_apart (b ∷ bs) apart = rw apart refl

space_there : (n k : ℕ) (rest : List ℕ) → k ≤ n → BeginsApart (drop n rest) → space_before (drop k (take n rest)) ≡ space_before (drop k rest)
space_there zero zero rest low apart = sym (space_apart rest apart)
space_there zero (suc k) rest low apart = absurd (omega (arith, low))
space_there (suc n) zero [] low apart = refl
space_there (suc n) zero (b ∷ bs) low apart = refl
space_there (suc n) (suc k) [] low apart = refl
space_there (suc n) (suc k) (b ∷ bs) low apart = space_there n k bs (omega (arith, low)) apart

module _ (text part : List ℕ) (at : ℕ) (lies : LiesAt text at part) where
  space_moved : (k : ℕ) → k ≤ length part → space_before (drop k part) ≡ space_before (drop (at + k) text)
  space_moved k low =
      let behind : BeginsApart (drop (length part) (drop at text)) = subst BeginsApart (sym (drop-drop (length part) at text)) lies.apart in
      ap (λ (bs : List ℕ). space_before (drop k bs)) (sym lies.bytes)
      ∙ space_there (length part) k (drop at text) low behind
      ∙ ap space_before (drop-drop k at text)

  put_moved : (lo hi : ℕ) (put : List ℕ) → hi ≤ length part → put_apart text (at + lo) (at + hi) put ≡ moved_cut at (put_apart part lo hi put)
  put_moved lo hi put low =
      let space : space_between put (drop (at + hi) text) ≡ space_between put (drop hi part) = elim (cases_Bool (ends_open put)) [
        | inl opens ↦ rw opens (sym (space_moved hi low))
        | inr closed ↦ rw closed refl
      ] in
      ap (λ (bs : List ℕ). record { lo = at + lo; hi = at + hi; put = put ++ bs }) space

  -- the cut of a change
  module _ (ps : List Token) (c : StatementChange) (some : 0 < length ps) (fits : c.before + c.taken ≤ length ps) where
    gap_moved : (before : ℕ) → before ≤ length ps → gap_after before (moved_tokens at ps) ≡ at + gap_after before ps
    gap_moved zero low = pos_moved at ps some
    gap_moved (suc n) low =
        let many : 0 < length (take (suc n) ps) = omega (arith, length-take-le (suc n) ps low) in
        let other : ¬ (suc n ≡ 0) = λ e. omega (arith, e) in
        gap_behind (suc n) (moved_tokens at ps) other ∙ ap end_of_all (take_moved at (suc n) ps) ∙ end_moved at (take (suc n) ps) many ∙ ap (λ (k : ℕ). at + k) (sym (gap_behind (suc n) ps other))

    taken_moved : taken_tokens c (moved_tokens at ps) ≡ moved_tokens at (taken_tokens c ps)
    taken_moved = ap (take c.taken) (drop_moved at c.before ps) ∙ take_moved at c.taken (drop c.before ps)

    pub cut_moved : (cut_of part ps c).hi ≤ length part → cut_of text (moved_tokens at ps) c ≡ moved_cut at (cut_of part ps c)
    cut_moved low = elim (cases_Bool (c.taken == 0)) [
      | inl none ↦
          let k : gap_after c.before ps ≤ length part = rw none at low in
          let gap = gap_moved c.before (omega (arith, fits)) in
          rw none (ap (λ (n : ℕ). put_apart text n n c.put) gap ∙ put_moved (gap_after c.before ps) (gap_after c.before ps) c.put k)
      | inr more ↦
          let own = taken_tokens c ps in
          let k : end_of_all own ≤ length part = rw more at low in
          let many : 0 < length own = takes_some more in
          rw more (ap (λ (qs : List Token). put_apart text (pos_of qs) (end_of_all qs) c.put) taken_moved ∙ ap₂ (λ (lo hi : ℕ). put_apart text lo hi c.put) (pos_moved at own many) (end_moved at own many) ∙ put_moved (pos_of own) (end_of_all own) c.put k)
    ]
      where
        takes_some : (c.taken == 0) ≡ false → 0 < length (taken_tokens c ps)
        takes_some more =
            let k : 0 < c.taken = grind (arith, nat_tests) in
            omega (arith, k, fits, length-take-le c.taken (drop c.before ps), length-drop c.before ps)

-- a splice of a change of a statement that is found
pub change_moved : {A : Type 0} (text : List ℕ) (x : Lying) → LiesIn text x → (before taken : ℕ) (put : List ℕ) → 0 < length (words_of x.tokens) → before + taken ≤ length (words_of x.tokens) → (s : Splice A)
    → cut_view s ≡ change_cut x.tokens.text.now (pieces_of x.tokens) before taken put → s.hi ≤ length x.tokens.text.now → moved_cut x.at (cut_view s) ≡ change_cut text (lying_tokens x) before taken put
change_moved text x lies before taken put some fits s is low =
    let ps = pieces_of x.tokens in
    let change : StatementChange = record { before = before; taken = taken; put = put; said = [] } in
    let many = pieces_counted x.tokens in
    let here : (cut_of x.tokens.text.now ps change).hi ≤ length x.tokens.text.now = subst (λ (c : Cut). c.hi ≤ length x.tokens.text.now) is low in
    ap (moved_cut x.at) is ∙ sym (cut_moved text x.tokens.text.now x.at lies ps change (omega (arith, many, some)) (omega (arith, many, fits)) here)

-- the changes of statements lie within them where they do in the text
lie_there : (at : ℕ) (changes : List (List Token × StatementChange)) → LieWithin (map (moved_change at) changes) → LieWithin changes
lie_there at [] lie = tt
lie_there at (x ∷ xs) lie = let many = length-map x.0 (moved_token at) in (subst (λ (n : ℕ). x.1.before + x.1.taken ≤ n) many lie.0, lie_there at xs lie.1)

-- they are firm where their statements have tokens
abbrev pub HaveSome : List (List Token × StatementChange) → Type 0
HaveSome [] = Unit {0}
HaveSome (x ∷ xs) = (0 < length x.0) × HaveSome xs

pub firm_there : (at : ℕ) (changes : List (List Token × StatementChange)) → HaveSome changes → LieWithin (map (moved_change at) changes) → AreFirm changes
firm_there at [] some lie = tt
firm_there at (x ∷ xs) some lie = (some.0, (lie_there at (x ∷ xs) lie).0, firm_there at xs some.1 lie.1)

-- what makes the one splice of a plan for bytes follows that plan for the text in which they lie
module _ (text part : List ℕ) (at : ℕ) (lies : LiesAt text at part) (plan : Plan) where
  abbrev there : Plan
  there = moved_plan at plan

  no_changes : (changes : List (List Token × StatementChange)) → cuts_for part changes ≡ [] → map (moved_change at) changes ≡ []
  no_changes [] none = refl
  no_changes (x ∷ xs) none = absurd (cc)

  pub follows_none : (A : Type 0) → lowest plan.refusals ≡ None → length text ≤ MAX_TEXT → cuts_for part plan.changes ≡ [] → FollowsAll {A = A} text there (Ok [])
  follows_none A free fits none = unchanged text there free fits (no_changes plan.changes none)

  one_moved : (changes : List (List Token × StatementChange)) (cut : Cut) → AreFirm changes → cut.hi ≤ length part → cuts_for part changes ≡ cut ∷ [] → moved_cut at cut ∷ [] ≡ cuts_for text (map (moved_change at) changes)
  one_moved [] cut firm low one = absurd (cc)
  one_moved (x ∷ []) cut firm low one =
      let same : cut_of part x.0 x.1 ≡ cut = first_same one in
      ap (λ (c : Cut). c ∷ []) (ap (moved_cut at) (sym same) ∙ sym (cut_moved text part at lies x.0 x.1 firm.0 firm.1 (subst (λ (c : Cut). c.hi ≤ length part) (sym same) low)))
    where
      first_same : {c d : Cut} → c ∷ [] ≡ d ∷ [] → c ≡ d
      first_same e = cc
  one_moved (x ∷ y ∷ ys) cut firm low one = absurd (cc)

  pub follows_one : {A : Type 0} (s : Splice A) (r : Result (List (Splice A)) EditRefusal) (moved : Cut) → lowest plan.refusals ≡ None → AreFirm plan.changes → s.hi ≤ length part → cuts_for part plan.changes ≡ cut_view s ∷ []
      → moved ≡ moved_cut at (cut_view s) → AreCuts text (moved ∷ []) r → FollowsAll text there r
  follows_one s r moved free firm low one is cuts = follows text there free r (moved ∷ []) (ap (λ (c : Cut). c ∷ []) is ∙ one_moved plan.changes (cut_view s) firm low one) cuts

-- and a plan that is refused is so there too
pub follows_refused : (A : Type 0) (text part : List ℕ) (at : ℕ) (plan : Plan) (refusal : EditRefusal) → MakesOne {A = A} part plan (Err refusal) → FollowsAll {A = A} text (moved_plan at plan) (Err refusal)
follows_refused A text part at plan (Refused code) one = refused text (moved_plan at plan) code one
follows_refused A text part at plan (Unreadable fault) one = one
follows_refused A text part at plan Memory one = wants text (moved_plan at plan) one
