-- How few statements are read again.
use Rattle.std.proofs.Common.{◌≡◌, ◌≤◌, ◌+◌, ◌-◌, ◌∙◌, ℕ, zero, suc, Bool, true, false, List, [], ◌∷◌, length, Some, refl, sym, ap, arith}
use Rattle.std.specs.Prelude.{◌&&◌, ◌||◌, ◌==◌, nat_le, slice_get}
use Rattle.std.specs.List.{list_any}
use Rattle.std.proofs.lemmas.Bool.{and_parts}
use Rattle.std.proofs.lemmas.Bool.Decides.{nat_tests}
use Rattle.std.proofs.lemmas.Slice.Eq.{bytes_eq-Decides}
use Rattle.form_meanings.specs.Meaning.{find}
use Rattle.form_meanings.proofs.Steps.{some_same}
use Rattle.design_model.specs.EnumWords.{section_word, sections}
use Rattle.design_model.specs.declared.mode.Mode.{Mode}
use Rattle.design_model.specs.declared.mode.Mode.TheVariants.{Top, In, Props, After}
use Rattle.design_model.specs.declared.mode.Section.{Section}
use Rattle.design_model.specs.declared.mode.Section.TheVariants.{Components}
use Rattle.statement_model.specs.Cuts.{Cut}
use Rattle.text_pieces.specs.NewStretches.{End, is_kept, is_moved, same_mode, up_to}

-- a section is found by its word, so no two have the same
found_by_word : (s : Section) → find section_word sections (section_word s) ≡ Some s
unfolding section_word
found_by_word Components = refl
found_by_word _ = refl

same_section : (s t : Section) → section_word s ≡ section_word t → s ≡ t
same_section s t e = some_same s t (sym (found_by_word s) ∙ (ap (find section_word sections) e ∙ found_by_word t))

modes_same : (m n : Mode) → same_mode m n ≡ true → m ≡ n
modes_same Top Top e = refl
modes_same Top (In t) e = absurd (cc)
modes_same Top Props e = absurd (cc)
modes_same Top After e = absurd (cc)
modes_same (In s) Top e = absurd (cc)
modes_same (In s) (In t) e = ap In (same_section s t ((bytes_eq-Decides (section_word s) (section_word t)).0 e))
modes_same (In s) Props e = absurd (cc)
modes_same (In s) After e = absurd (cc)
modes_same Props Top e = absurd (cc)
modes_same Props (In t) e = absurd (cc)
modes_same Props Props e = refl
modes_same Props After e = absurd (cc)
modes_same After Top e = absurd (cc)
modes_same After (In t) e = absurd (cc)
modes_same After Props e = absurd (cc)
modes_same After After e = refl

-- what a test of some finds
pub record Found (test : End → Bool) (es : List End) : Type 0 where
  pub place : ℕ
  pub end : End
  pub at : slice_get es place ≡ Some end
  pub passes : test end ≡ true

found_in : (test : End → Bool) (es : List End) → list_any test es ≡ true → Found test es
found_in test [] h = absurd (cc)
found_in test (e ∷ es) h = by (test e) refl h (λ later. found_in test es later)
  where
    by : (b : Bool) → test e ≡ b → (b || list_any test es) ≡ true → (list_any test es ≡ true → Found test es) → Found test (e ∷ es)
    by true is h rest = record { place = 0; end = e; at = refl; passes = is }
    by false is h rest = let f = rest h in record { place = suc f.place; end = f.end; at = f.at; passes = f.passes }

-- an end that is kept stands where an old one stood
pub record WasThere (cut : Cut) (olds : List End) (e : End) : Type 0 where
  pub place : ℕ
  pub old : End
  pub at : slice_get olds place ≡ Some old
  pub behind : cut.hi ≤ old.0
  pub moved : e.0 ≡ (old.0 - cut.hi) + (cut.lo + length cut.put)
  pub mode : old.1 ≡ e.1

pub was_there : (cut : Cut) (olds : List End) (e : End) → is_kept cut olds e ≡ true → WasThere cut olds e
was_there cut olds e h =
    let f = found_in (λ old. is_moved cut old e) olds h in
    let b = and_parts (nat_le cut.hi f.end.0 && (e.0 == (f.end.0 - cut.hi) + (cut.lo + length cut.put))) (same_mode f.end.1 e.1) f.passes in
    let a = and_parts (nat_le cut.hi f.end.0) (e.0 == (f.end.0 - cut.hi) + (cut.lo + length cut.put)) b.0 in
    record {
      place = f.place;
      old = f.end;
      at = f.at;
      behind = grind (arith, nat_tests, a.0);
      moved = grind (arith, nat_tests, a.1);
      mode = modes_same f.end.1 e.1 b.1;
    }

-- no more than there are up to the first that passes a test
pub few_up_to : (test : End → Bool) (r : ℕ) (es : List End) → r ≤ length es → ((n : ℕ) (e : End) → slice_get es n ≡ Some e → test e ≡ true → r ≤ suc n) → r ≤ length (up_to test es)
few_up_to test zero es few first = omega arith
few_up_to test (suc r) [] few first = absurd (omega (arith, few))
few_up_to test (suc r) (e ∷ es) few first = by (test e) refl (few_up_to test r es (omega (arith, few)) (λ n x at passes. omega (arith, first (suc n) x at passes)))
  where
    by : (b : Bool) → test e ≡ b → r ≤ length (up_to test es) → suc r ≤ length (up_to test (e ∷ es))
    by true is later = rw is (first 0 e refl is)
    by false is later = rw is (omega (arith, later))
