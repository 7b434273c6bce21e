-- The clauses of a component, noted one by one for what they say of where it stands.
use Rattle.std.proofs.Common.{◌≡◌, ℕ, Bool, false, List, [], ◌∷◌, Bor, Option, Some, None, refl, sym, ap, ◌∙◌, zero, suc}
use Rattle.std.specs.Option.{option_map, option_or}
use Rattle.form_meanings.specs.Words.{Rest, next_passes}
use Rattle.form_meanings.specs.Meaning.{repeat}
use Rattle.def_grammar.specs.Components.{Clause, placed, unplaced, region, other, region_of_clause}
use Rattle.form_meanings.specs.Firsts.{first_of}
use Rattle.lefdef_tokens.specs.Views.{word_view}
use Rattle.place_parts.specs.StandingViews.{standing_by, standing_of}
use Rattle.place_parts.specs.declared.standing.Standing.{Standing}

-- of all clauses these are left, and the others were noted
pub record Noting (all left : List Clause) (standing : Option Standing) (assigned : Option (Bor (List ℕ))) : Type 0 where
  pub stands : option_or standing (standing_of left) ≡ standing_of all
  pub assigns : option_or (option_map word_view assigned) (first_of region_of_clause left) ≡ first_of region_of_clause all

first_stands : (c : Clause) (later : List Clause) → standing_of (c ∷ later) ≡ option_or (standing_by c) (standing_of later)
first_stands (placed s at o) later = refl
first_stands (unplaced rest) later = refl
first_stands (region name) later = refl
first_stands (other w rest) later = refl

first_assigns : (c : Clause) (later : List Clause) → first_of region_of_clause (c ∷ later) ≡ option_or (region_of_clause c) (first_of region_of_clause later)
first_assigns (placed s at o) later = refl
first_assigns (unplaced rest) later = refl
first_assigns (region name) later = refl
first_assigns (other w rest) later = refl

or_later : {A : Type 0} (a b c : Option A) → option_or (option_or a b) c ≡ option_or a (option_or b c)
or_later None b c = refl
or_later (Some a) b c = refl

pub noting_on : (all left later : List Clause) (c : Clause) (standing new : Option Standing) (assigned now : Option (Bor (List ℕ))) → left ≡ c ∷ later
    → new ≡ option_or standing (standing_by c) → option_map word_view now ≡ option_or (option_map word_view assigned) (region_of_clause c)
    → Noting all left standing assigned → Noting all later new now
noting_on all left later c standing new assigned now split says names so_far = record {
  stands =
      ap (λ (o : Option Standing). option_or o (standing_of later)) says ∙ or_later standing (standing_by c) (standing_of later) ∙ ap (option_or standing) (sym (first_stands c later))
      ∙ ap (λ (cs : List Clause). option_or standing (standing_of cs)) (sym split) ∙ so_far.stands;
  assigns =
      let old : Option (List ℕ) = option_map word_view assigned in
      ap (λ (o : Option (List ℕ)). option_or o (first_of region_of_clause later)) names ∙ or_later old (region_of_clause c) (first_of region_of_clause later) ∙ ap (option_or old) (sym (first_assigns c later))
      ∙ ap (λ (cs : List Clause). option_or old (first_of region_of_clause cs)) (sym split) ∙ so_far.assigns;
}

or_none : {A : Type 0} (a : Option A) → option_or a None ≡ a
or_none None = refl
or_none (Some a) = refl

pub noted_standing : (all left : List Clause) (standing : Option Standing) (assigned : Option (Bor (List ℕ))) → left ≡ [] → Noting all left standing assigned → standing ≡ standing_of all
noted_standing all left standing assigned none n = sym (or_none standing) ∙ ap (λ (cs : List Clause). option_or standing (standing_of cs)) (sym none) ∙ n.stands

pub noted_region : (all left : List Clause) (standing : Option Standing) (assigned : Option (Bor (List ℕ))) → left ≡ [] → Noting all left standing assigned → option_map word_view assigned ≡ first_of region_of_clause all
noted_region all left standing assigned none n = sym (or_none (option_map word_view assigned)) ∙ ap (λ (cs : List Clause). option_or (option_map word_view assigned) (first_of region_of_clause cs)) (sym none) ∙ n.assigns

-- where no part comes next, none is read
pub none_next : {A : Type 0} (t : List ℕ → Bool) (f : Rest → Option (A × Rest)) (n : ℕ) (r : Rest) → next_passes t r ≡ false → repeat n t f r ≡ Some ([], r)
unfolding repeat
none_next t f zero r is = rw is refl
none_next t f (suc n) r is = rw is refl
