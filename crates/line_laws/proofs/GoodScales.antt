-- A text that reads has at least 1 and at most 100000 database units per micron.
use Rattle.std.proofs.Common.{◌≡◌, ℕ, Bool, true, false, List, [], ◌∷◌, Option, Some, None, Result, Ok, Err, inr, refl, ap, ◌∙◌, arith, ℤ, pos, nat_abs, if◌then◌else◌}
use Rattle.std.specs.Prelude.{◌&&◌}
use Rattle.std.specs.Int.Signed.{le_z}
use Rattle.std.proofs.lemmas.Int.{ints}
use Rattle.std.proofs.lemmas.Bool.{and_parts}
use Rattle.design_model.specs.declared.number.NumFault.{NumFault}
use Rattle.design_model.specs.declared.mode.Mode.{Mode}
use Rattle.design_model.specs.declared.mode.Mode.TheVariants.{Top, In, Props, After}
use Rattle.design_model.specs.Units.{whole as number_of}
use Rattle.form_meanings.specs.Words.{Rest, start, ends}
use Rattle.form_meanings.proofs.Steps.{some_same, both_read}
use Rattle.statement_model.specs.Form.{Form, read, Fits, whole}
use Rattle.def_grammar.specs.Numbers.{passes, number_or_0, is_scale}
use Rattle.def_grammar.specs.Top.{units, plain, header, units_statement, plain_statement, top_statement}
use Rattle.def_grammar.specs.Records.{Record, top, in_properties, end_section, entry, statement, def}
use Rattle.design_rules.specs.Boxes.{scale}
use Rattle.line_laws.specs.ScaleLaws.{HasScale, ScalesAreGood}
use Rattle.line_laws.proofs.EachRecord.{Each, each_record}

-- units are a number of database units per micron
abbrev IsGood : Record → Type 0
IsGood (top (units n)) = is_scale n ≡ true
IsGood _ = Unit {0}

ends_where : {A : Type 0} (a : A) (r : Rest) (p : A × Option ℕ) → ends a r ≡ Some p → (r.words ≡ []) × ((a, r.bad) ≡ p)
ends_where {A = A} a r p e = elim r.words as (λ ws. ends a (record { words = ws; bad = r.bad }) ≡ Some p → (ws ≡ []) × ((a, r.bad) ≡ p)) [
  | [] ↦ λ e. let x : A × Option ℕ = (a, r.bad) in (refl, some_same x p e)
  | w ∷ ws ↦ λ e. absurd (cc)
] e

-- what reads fits in its form, and its first invalid number is where the form says
whole_fits : {A : Type 0} (f : Form A) (ws : List (List ℕ)) (p : A × Option ℕ) → whole f ws ≡ Some p → Fits f p.0 [] × (p.1 ≡ f.of.bad p.0 [])
whole_fits f ws p e =
    let a = both_read (read f (start ws)) (λ a. ends a.0 a.1) p e in
    let k = f.exact.shows (start ws) a.0 a.1 in
    let d = ends_where a.0.0 a.0.1 p a.2 in
    let words = d.0 in
    rw (← d.1) (rw words at k.fits, k.bad ∙ ap (f.of.bad a.0.0) words)

good_unless_bad : (good : Bool) (left : ℕ) → None ≡ (if good then None else Some left) → good ≡ true
good_unless_bad true left e = refl
good_unless_bad false left e = absurd (cc)

good_units : (m : Mode) (n : List ℕ) → Fits (statement m) (top (units n)) [] → None ≡ (statement m).of.bad (top (units n)) [] → is_scale n ≡ true
unfolding statement top_statement plain_statement units_statement
good_units Top n fits e = good_unless_bad (is_scale n) _ e
good_units (In s) n fits e = absurd fits
good_units Props n fits e = absurd fits
good_units After n fits e = absurd fits

good_record : (m : Mode) (rec : Record) → Fits (statement m) rec [] → None ≡ (statement m).of.bad rec [] → IsGood rec
good_record m (top (units n)) fits e = good_units m n fits e
good_record m (top (plain (inr other))) fits e = tt
good_record m (top (header s n)) fits e = tt
good_record m (in_properties p) fits e = tt
good_record m (end_section s) fits e = tt
good_record m (entry x) fits e = tt

each_is_good : (m : Mode) (ws : List (List ℕ)) (rec : Record) → whole (statement m) ws ≡ Some (rec, None) → IsGood rec
each_is_good m ws rec e = let p : Record × Option ℕ = (rec, None) in let k = whole_fits (statement m) ws p e in good_record m rec k.0 k.1

between : (z : ℤ) → (le_z (pos 1) z && le_z z (pos 100000)) ≡ true → HasScale (nat_abs z)
between z h = let two = and_parts (le_z (pos 1) z) (le_z z (pos 100000)) h in record { some = grind (arith, ints); few = grind (arith, ints) }

number_between : (r : Result ℤ NumFault) → passes (λ n. le_z (pos 1) n && le_z n (pos 100000)) r ≡ true → HasScale (nat_abs (number_or_0 r))
number_between (Ok z) h = between z h
number_between (Err e) h = absurd (cc)

scale_of : (n : List ℕ) → is_scale n ≡ true → HasScale (nat_abs (number_or_0 (number_of n)))
unfolding is_scale
scale_of n h = number_between (number_of n) h

good_scale : (design : List Record) → Each IsGood design → HasScale (scale design)
good_scale [] h = record { some = omega arith; few = omega arith }
good_scale (top (units n) ∷ rs) h = scale_of n h.0
good_scale (top (plain (inr other)) ∷ rs) h = good_scale rs h.1
good_scale (top (header s n) ∷ rs) h = good_scale rs h.1
good_scale (in_properties p ∷ rs) h = good_scale rs h.1
good_scale (end_section s ∷ rs) h = good_scale rs h.1
good_scale (entry x ∷ rs) h = good_scale rs h.1

pub scales_are_good : ScalesAreGood
scales_are_good text design e = good_scale design (each_record def IsGood each_is_good Top text design e)
