-- How many statements are read for cuts that are made, and why others aren't.
use Rattle.std.proofs.Common.{◌≡◌, ◌≤◌, ◌+◌, ◌-◌, ℕ, Bool, true, false, List, [], ◌∷◌, ◌++◌, length, take, drop, Option, None, Result, Ok, Err, IfOk, IsOk, refl, ap, subst, ◌∙◌, append-nil, arith}
use Rattle.std.specs.Prelude.{◌^◌, min, is_ok, if◌then◌else◌}
use Rattle.statement_model.specs.Cuts.{Cut, with_cuts}
use Rattle.def_grammar.specs.Records.{read_def}
use Rattle.splicing_laws.specs.KeepingLaws.{AreInOrder}
use Rattle.text_pieces.specs.Covering.{cover_of}
use Rattle.text_pieces.specs.declared.prepared.PrepareError.{PrepareError}
use Rattle.text_pieces.specs.declared.prepared.PrepareError.TheVariants.{Fault, Memory, Range, TooLong}
use Rattle.design_text.specs.DesignTexts.{Content}
use Rattle.design_text.specs.Editing.{MakesTwo}
use Rattle.design_text.specs.FewReads.{most_reads, new_in}
use Rattle.design_text.specs.Steps.{PreparesCuts}
use Rattle.design_text.proofs.ReadTexts.{read_fits}

-- one cut is covered by itself
pub one_cover : (text : List ℕ) (c : Cut) → cover_of text (c ∷ []) ≡ c
one_cover text c =
    let none : c.lo - c.lo ≡ 0 = omega arith in
    ap (λ (put : List ℕ). record { lo = c.lo; hi = c.hi; put = put }) (ap (λ n. take n (drop c.lo text) ++ (c.put ++ [])) none ∙ append-nil c.put)

pub one_few : (text : List ℕ) (c : Cut) (n : ℕ) → n ≤ new_in text (cover_of text (c ∷ [])) → n ≤ new_in text c
one_few text c n few = subst (λ d. n ≤ new_in text d) (one_cover text c) few

-- the statements read for two cuts, the later one made first
pub two_few : (text between : List ℕ) (first last : Cut) (a b m n sum : ℕ) → between ≡ with_cuts (last ∷ []) text → a ≤ new_in text (cover_of text (last ∷ [])) → b ≤ new_in between (cover_of between (first ∷ []))
    → m ≡ a → n ≡ b → sum ≡ min (m + n) (2 ^ 64 - 1) → sum ≤ new_in text last + new_in (with_cuts (last ∷ []) text) first
two_few text between first last a b m n sum made later earlier is_m is_n is =
    let x = one_few text last a later in
    let y = subst (λ t. b ≤ new_in t first) made (one_few between first b earlier) in
    omega (arith, x, y, is_m, is_n, is)

-- where cuts in order aren't prepared though the text with them made reads, memory was refused
pub only_memory : (text : List ℕ) (cuts : List Cut) (e : PrepareError) (now : Content) → AreInOrder 0 cuts (length text) → PreparesCuts text cuts (Err e) now → IsOk (read_def (with_cuts cuts text)) → e ≡ Memory
only_memory text cuts Range now order h reads = absurd (h order)
only_memory text cuts TooLong now order h reads = let fits = read_fits (with_cuts cuts text) reads in absurd (omega (arith, h.1, fits))
only_memory text cuts Fault now order h reads = let e = rw h.1 at reads in absurd (cc)
only_memory text cuts Memory now order h reads = refl

if_so : (b : Bool) (x y n : ℕ) → (b ≡ true → n ≤ x) → (b ≡ false → n ≤ y) → n ≤ (if b then x else y)
if_so true x y n then_so else_so = then_so refl
if_so false x y n then_so else_so = else_so refl

module _ (text : List ℕ) (first last : Cut) (n : ℕ) where
  abbrev between : List ℕ
  between = with_cuts (last ∷ []) text

  abbrev both : List Cut
  both = first ∷ last ∷ []

  -- two cuts that are made apart
  pub apart_few : IsOk (read_def between) → n ≤ new_in text last + new_in between first → n ≤ most_reads text both
  apart_few reads few = if_so (is_ok (read_def between)) _ _ n (λ is. few) (λ is. absurd (cc))

  -- and two that can't be, since the text doesn't read between
  pub cover_few : (IsOk (read_def between) → IsOk (read_def (with_cuts both text)) → ⊥) → IsOk (read_def (with_cuts both text)) → n ≤ new_in text (cover_of text both) → n ≤ most_reads text both
  cover_few none reads few = if_so (is_ok (read_def between)) _ _ n (λ is. absurd (none is reads)) (λ is. few)

-- two cuts that aren't made
pub not_made_two : {T E : Type 0} (old new : List ℕ) (first last : Cut) (e : PrepareError) (r : Result (Option T) E) → IfOk r (λ made. (made ≡ None) × (e ≡ Memory → ⊥)) → new ≡ old
    → (IsOk (read_def (with_cuts (last ∷ []) old)) → IsOk (read_def (with_cuts (first ∷ last ∷ []) old)) → e ≡ Memory) → MakesTwo old first last r new
not_made_two old new first last e (Ok made) h same why = rw h.0 (same, λ one both. h.1 (why one both))
not_made_two old new first last e (Err x) h same why = same
