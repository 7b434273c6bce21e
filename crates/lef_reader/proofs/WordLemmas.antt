-- Words of a kind are read in one way.
use Rattle.std.proofs.Common.{◌≡◌, ℕ, Bool, true, List, [], ◌∷◌, length, refl, inl, inr, Option, Some}
use Rattle.std.proofs.lemmas.Bool.{cases_Bool}
use Rattle.form_meanings.specs.Words.{◌>>=◌, Rest, noted, number_at, word_that}
use Rattle.statement_model.specs.Form.{read}
use Rattle.lef_reader.specs.Parts.{is_good, may_be, of_kind}
use Rattle.lef_reader.specs.declared.parts.WordKind.{WordKind}
use Rattle.lef_reader.specs.declared.parts.WordKind.TheVariants.{Name, Kept, Distance, Extent, ArrayCount}

-- a word that is always good
plain_word : (t : List ℕ → Bool) (ws : List (List ℕ)) (bad : Option ℕ)
    → word_that t (record { words = ws; bad = bad }) ≡ (word_that t (record { words = ws; bad = bad }) >>= λ w. Some (w.0, noted true (length ws) w.1))
plain_word t [] bad = refl
plain_word t (w ∷ ws) bad = elim (cases_Bool (t w)) [
  | inl on ↦ rw on refl
  | inr off ↦ rw off refl
]

pub reads_word : (kind : WordKind) (r : Rest) → read (of_kind kind) r ≡ (word_that (may_be kind) r >>= λ w. Some (w.0, noted (is_good kind w.0) (length r.words) w.1))
unfolding number_at
reads_word Name r = plain_word (may_be Name) r.words r.bad
reads_word Kept r = plain_word (may_be Kept) r.words r.bad
reads_word Distance r = refl
reads_word Extent r = refl
reads_word ArrayCount r = refl
