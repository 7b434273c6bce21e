-- Giving a component another macro is a change of its entry.
use Rattle.std.proofs.Common.{◌≡◌, ◌+◌, true, List, [], ◌∷◌, ◌++◌, ℕ, length, None, arith, refl, sym, ap, ◌∙◌, codes}
use Rattle.form_meanings.specs.Meaning.{spell_all}
use Rattle.form_meanings.specs.Words.{is_name}
use Rattle.statement_model.specs.Tokens.{Token}
use Rattle.statement_model.specs.Boundaries.{words}
use Rattle.statement_model.specs.Form.{spell, Fits}
use Rattle.def_grammar.specs.Components.{clause, Component, component_form}
use Rattle.def_grammar.specs.Records.{component, entry, entries_form}
use Rattle.edit_rules.specs.ComponentEdits.{remastered}
use Rattle.edit_rules.specs.Plans.{StatementChange}
use Rattle.splicing_laws.specs.WordLaws.{SpacedAreTokens}
use Rattle.edit_laws.specs.EntryLaws.{IsWritten}
use Rattle.edit_laws.specs.PlacingLaws.{RemasteringsAreChanges}
use Rattle.edit_laws.specs.StatementLaws.{changed_words, IsChange}
use Rattle.edit_laws.proofs.NameTokens.{name_is_one_word, name_is_token}
use Rattle.edit_laws.proofs.PlacedWords.{changed_parts, said, within}
use Rattle.edit_laws.proofs.WrittenEntries.{written_instead}

-- the words of an entry behind its macro
abbrev pub behind_macro : Component → List (List ℕ)
behind_macro c = c.rest ++ (spell_all (spell clause) c.clauses ++ codes ";" ∷ [])

pub spelled_is : (c : Component) → spell component_form c ≡ codes "-" ∷ c.name ∷ c.cell ∷ behind_macro c
unfolding component_form
spelled_is c = refl

-- another name fits in its place
macro_fits : (c : Component) (cell : List ℕ) → is_name cell ≡ true → Fits component_form c [] → component_form.of.bad c [] ≡ None
    → Fits component_form (remastered cell c) [] × (component_form.of.bad (remastered cell c) [] ≡ None)
unfolding component_form
macro_fits c cell is fits good = ((fits.0, (is, fits.1.1)), good)

module _ (ps : List Token) (c : Component) (cell : List ℕ) (named : is_name cell ≡ true) (is : IsWritten (words ps) (component c)) where
  written : (ws : List (List ℕ)) → ws ≡ spell component_form (remastered cell c) → IsWritten ws (component (remastered cell c))
  unfolding entries_form
  written ws spelled = let fit = macro_fits c cell named is.fits is.good in record { spelled = spelled; fits = fit.0; good = fit.1 }

pub remasterings_are_changes : SpacedAreTokens → RemasteringsAreChanges
remasterings_are_changes spaced_so library ps c cell is_text is = (refl, made, refl)
  where
    made : IsChange ps (entry (component c)) (record { before = 2; taken = 1; put = cell; said = entry (component (remastered cell c)) ∷ [] })
    made =
        let put = name_is_token spaced_so cell is_text in
        let named = (name_is_one_word cell is_text).1 in
        let change : StatementChange = record { before = 2; taken = 1; put = cell; said = entry (component (remastered cell c)) ∷ [] } in
        let a = codes "-" ∷ c.name ∷ [] in
        let b = c.cell ∷ [] in
        let z = behind_macro c in
        let parts : words ps ≡ a ++ (b ++ z) = said ps c is ∙ spelled_is c in
        let ws = changed_words change (words put.0) (words ps) in
        let now : ws ≡ a ++ (words put.0 ++ z) = changed_parts change a b z (words put.0) (words ps) parts refl refl in
        let spelled : ws ≡ spell component_form (remastered cell c) = now ∙ (ap (λ (vs : List (List ℕ)). a ++ (vs ++ z)) put.2 ∙ sym (spelled_is (remastered cell c))) in
        let inside = within ps c is change a b z parts refl refl in
        record {
          put = put.0;
          tokens = put.1;
          some = omega (arith, inside);
          within = inside;
          apart = λ none some. absurd (omega (arith, none));
          says = written_instead ps (component c) (component (remastered cell c)) ws refl (written ps c cell named is ws spelled);
        }
