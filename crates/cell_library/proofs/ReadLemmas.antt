-- The library of texts, one text after the other.
use Rattle.std.proofs.Common.{◌≡◌, ℕ, ◌+◌, ◌<◌, List, [], ◌∷◌, length, get_or, drop, refl, sym, ap, ◌∙◌, Result, Ok, Err, add-one, drop-cons}
use Rattle.design_model.specs.declared.fault.Fault.{Fault}
use Rattle.statement_model.specs.Folds.{◌>>◌}
use Rattle.lef_grammar.specs.LefRecords.{LefRecord, read_lef}
use Rattle.lef_grammar.specs.Library.{Library, with_text, in_file, library_from, library_of}

module _ (n : ℕ) (before : Library) (t : List ℕ) (ts : List (List ℕ)) where
  text_added : (now : Library) (recs : List LefRecord) → read_lef t ≡ Ok recs → now ≡ with_text before recs → library_from n before (t ∷ ts) ≡ library_from (n + 1) now ts
  text_added now recs h e =
      ap (λ (r : Result (List LefRecord) Fault). in_file n r >> λ x. library_from (n + 1) (with_text before x) ts) h ∙ ap (λ (x : Library). library_from (n + 1) x ts) (sym e)

  text_fault : (f : Fault) → read_lef t ≡ Err f → library_from n before (t ∷ ts) ≡ Err (record { file = n; fault = f })
  text_fault f h = ap (λ (r : Result (List LefRecord) Fault). in_file n r >> λ x. library_from (n + 1) (with_text before x) ts) h

-- the library of all texts is that of the texts from the i-th on, besides the macros so far
abbrev pub Reading : List (List ℕ) → ℕ → Library → Type 0
Reading texts i now = library_of texts ≡ library_from (i + 1) now (drop i texts)

module _ (texts : List (List ℕ)) (i : ℕ) (now : Library) (t : List ℕ) (below : i < length texts) (here : t ≡ get_or texts i []) (so_far : Reading texts i now) where
  split : drop i texts ≡ t ∷ drop (i + 1) texts
  split = rw (here, add-one) (drop-cons texts i [] below)

  pub reading_on : (next : Library) → (recs : List LefRecord) × (read_lef t ≡ Ok recs) × (next ≡ with_text now recs) → Reading texts (i + 1) next
  reading_on next added = so_far ∙ ap (library_from (i + 1) now) split ∙ text_added (i + 1) now t (drop (i + 1) texts) next added.0 added.1 added.2

  pub reading_fault : (f : Fault) → read_lef t ≡ Err f → library_of texts ≡ Err (record { file = i + 1; fault = f })
  reading_fault f h = so_far ∙ ap (library_from (i + 1) now) split ∙ text_fault (i + 1) now t (drop (i + 1) texts) f h

none_left : (xs : List (List ℕ)) → drop (length xs) xs ≡ []
none_left [] = refl
none_left (x ∷ xs) = none_left xs

pub reading_ends : (texts : List (List ℕ)) (now : Library) → Reading texts (length texts) now → library_of texts ≡ Ok now
reading_ends texts now h = h ∙ ap (library_from (length texts + 1) now) (none_left texts)
