-- Bytes that are put: the last of them, by which they are told to end open, and several one after the other.
use Rattle.std.proofs.Common.{◌≡◌, ℕ, ℤ, suc, ◌-◌, false, not, List, [], ◌∷◌, ◌++◌, length, codes, Option, Some, None, arith, refl, sym, ap, ◌∙◌, append_assoc}
use Rattle.std.specs.Fmt.{signed_decimal}
use Rattle.std.specs.Prelude.{slice_get, Bool}
use Rattle.statement_model.specs.Tokens.{is_white}
use Rattle.edit_rules.specs.Plans.{ends_open}
use Rattle.edit_rules.specs.SectionEdits.{blockage_text, kind_text}
use Rattle.def_splice.specs.SpliceViews.{joined}

-- bytes end open by this last one, if there is any
abbrev pub open_by : Option ℕ → Bool
open_by None = false
open_by (Some b) = not (is_white b)

last_later : (b : ℕ) (c : ℕ) (cs : List ℕ) → slice_get (b ∷ c ∷ cs) (length (b ∷ c ∷ cs) - 1) ≡ slice_get (c ∷ cs) (length (c ∷ cs) - 1)
last_later b c cs =
    let one_less : length (b ∷ c ∷ cs) - 1 ≡ suc (length (c ∷ cs) - 1) = omega arith in
    ap (slice_get (b ∷ c ∷ cs)) one_less

pub open_by_last : (put : List ℕ) → open_by (slice_get put (length put - 1)) ≡ ends_open put
open_by_last [] = refl
open_by_last (b ∷ []) = refl
open_by_last (b ∷ c ∷ cs) = ap open_by (last_later b c cs) ∙ open_by_last (c ∷ cs)

joined_apart : (a all : List ℕ) (ps : List (List ℕ)) → joined (a ++ all) ps ≡ a ++ joined all ps
joined_apart a all [] = refl
joined_apart a all (p ∷ ps) = ap (λ (z : List ℕ). joined z ps) (append_assoc a all p) ∙ joined_apart a (all ++ p) ps

-- what stands in a corner behind its bracket
abbrev corner : List ℕ → List ℕ → List (List ℕ)
corner x y = x ∷ codes " " ∷ y ∷ codes " )" ∷ []

module _ (kind name a b c d : List ℕ) (layer : Option (List ℕ)) (is : kind ++ name ≡ kind_text layer) where
  abbrev lead : List ℕ
  lead = (codes "- " ++ kind_text layer) ++ codes " RECT"

  corners_apart : joined [] (codes "- " ∷ kind ∷ name ∷ codes " RECT" ∷ codes " ( " ∷ a ∷ codes " " ∷ b ∷ codes " )" ∷ codes " ( " ∷ c ∷ codes " " ∷ d ∷ codes " )" ∷ codes " ;\n" ∷ [])
      ≡ ((lead ++ joined (codes " ( ") (corner a b)) ++ joined (codes " ( ") (corner c d)) ++ codes " ;\n"
  corners_apart =
      ap (λ (z : List ℕ). joined (joined (((codes "- " ++ z) ++ codes " RECT") ++ codes " ( ") (corner a b) ++ codes " ( ") (corner c d) ++ codes " ;\n") is
      ∙ ap (λ (z : List ℕ). joined (z ++ codes " ( ") (corner c d) ++ codes " ;\n") (joined_apart lead (codes " ( ") (corner a b))
      ∙ ap (λ (z : List ℕ). z ++ codes " ;\n") (joined_apart (lead ++ joined (codes " ( ") (corner a b)) (codes " ( ") (corner c d))

  pub blockage_joined : (x1 y1 x2 y2 : ℤ) → a ≡ signed_decimal x1 → b ≡ signed_decimal y1 → c ≡ signed_decimal x2 → d ≡ signed_decimal y2
      → joined [] (codes "- " ∷ kind ∷ name ∷ codes " RECT" ∷ codes " ( " ∷ a ∷ codes " " ∷ b ∷ codes " )" ∷ codes " ( " ∷ c ∷ codes " " ∷ d ∷ codes " )" ∷ codes " ;\n" ∷ []) ≡ blockage_text layer x1 y1 x2 y2
  blockage_joined x1 y1 x2 y2 first second third fourth = corners_apart ∙ rw (first, second, third, fourth) refl
