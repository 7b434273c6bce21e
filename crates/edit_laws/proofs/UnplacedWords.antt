-- Unplacing a component makes no change, or one of its entry.
use Rattle.std.proofs.Common.{◌≡◌, inl, inr, ℕ, ◌+◌, ◌-◌, List, [], ◌∷◌, length, Option, Some, None, refl, sym, ap, subst, ◌∙◌, codes}
use Rattle.statement_model.specs.Tokens.{Token}
use Rattle.statement_model.specs.Boundaries.{words}
use Rattle.statement_model.specs.Form.{spell, Fits}
use Rattle.def_grammar.specs.Components.{Clause, placed, unplaced, clause, Component, component_form}
use Rattle.def_grammar.specs.Placing.{placing, before_placing, with_placing}
use Rattle.def_grammar.specs.Records.{component, entry, entries_form}
use Rattle.edit_rules.specs.ComponentEdits.{fixed_part, tokens_of, with_unplaced, unplaced_component, unplace_changes}
use Rattle.splicing_laws.specs.WordLaws.{SpacedAreTokens}
use Rattle.edit_laws.specs.EntryLaws.{IsWritten}
use Rattle.edit_laws.specs.PlacingLaws.{AreChanges, UnplacingsAreChanges}
use Rattle.edit_laws.specs.StatementLaws.{IsChange}
use Rattle.edit_laws.proofs.PlacedFits.{component_fits, unplaced_is_good}
use Rattle.edit_laws.proofs.PlacedWords.{with_clauses, clause_becomes}

spelled_so : spell clause (unplaced []) ≡ codes "+" ∷ codes "UNPLACED" ∷ []
unfolding clause
spelled_so = refl

-- the component with that clause
abbrev with_it : Component → Component
with_it c = with_clauses c (with_placing (unplaced []) c.clauses)

with_it_fits : (ws : List (List ℕ)) (c : Component) → IsWritten ws (component c) → Fits component_form (with_it c) [] × (component_form.of.bad (with_it c) [] ≡ None)
unfolding entries_form
with_it_fits ws c is = component_fits (unplaced []) unplaced_is_good c is.fits is.good

pub unplacings_are_changes : SpacedAreTokens → UnplacingsAreChanges
unplacings_are_changes spaced_so ps c is = changes (placing c.clauses) refl
  where
    changes : (old : Option Clause) → placing c.clauses ≡ old → AreChanges ps c (unplaced_component c) (unplace_changes ps c old)
    changes (Some (placed status at o)) found =
        let fit = with_it_fits (words ps) c is in
        let put = spaced_so [] (codes "UNPLACED" ∷ []) refl refl in
        let spelled : spell clause (unplaced []) ≡ codes "+" ∷ words put.0 = spelled_so ∙ ap (λ (ws : List (List ℕ)). codes "+" ∷ ws) (sym put.2) in
        let same : with_it c ≡ unplaced_component c = ap (λ (old : Option Clause). with_unplaced old c) (sym found) in
        let change = clause_becomes ps c is (unplaced []) fit.0 fit.1 (codes "UNPLACED") put.0 put.1 spelled (placed status at o) found in (
          refl,
          subst (λ (d : Component). IsChange ps (entry (component c)) (record {
            before = fixed_part c + tokens_of (before_placing c.clauses) + 1;
            taken = length (spell clause (placed status at o)) - 1;
            put = codes "UNPLACED";
            said = entry (component d) ∷ [];
          })) same change,
          refl,
        )
    changes (Some (inr _)) found = ap (λ (old : Option Clause). with_unplaced old c) found
    changes None none = ap (λ (old : Option Clause). with_unplaced old c) none
