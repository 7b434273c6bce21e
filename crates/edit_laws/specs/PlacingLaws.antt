-- Laws of changes of a component's entry: placing it, unplacing it, and giving it another macro.
use Rattle.std.specs.Prelude.{◌≡◌, ℕ, true, false, ℤ, List, [], ◌∷◌, ◌++◌, None, codes}
use Rattle.design_model.specs.declared.geometry.Orient.{Orient}
use Rattle.statement_model.specs.Tokens.{Token}
use Rattle.statement_model.specs.Boundaries.{words}
use Rattle.statement_model.specs.Form.{spell, Fits}
use Rattle.def_grammar.specs.Components.{Component, clause, component_form}
use Rattle.def_grammar.specs.Records.{component, entry}
use Rattle.lef_grammar.specs.Library.{Library}
use Rattle.edit_rules.specs.ComponentEdits.{placement_at, placed_text, placed_component, place_change, unplaced_component, unplace_plan, remastered, remaster_plan, is_out}
use Rattle.edit_rules.specs.NameTexts.{is_name_text}
use Rattle.edit_rules.specs.Plans.{StatementChange}
use Rattle.splicing_laws.specs.SplicingLaws.{AreTokens}
use Rattle.edit_laws.specs.EntryLaws.{IsWritten}
use Rattle.edit_laws.specs.StatementLaws.{IsChange}

-- The bytes of a placement are the tokens of its clause without the +, and with a + before them all of its tokens.
abbrev pub PlacementsAreTokens : Type 0
PlacementsAreTokens = (x y : ℤ) (o : Orient)
    → ((ps : List Token) × AreTokens (placed_text x y o) ps × (spell clause (placement_at x y o) ≡ codes "+" ∷ words ps))
    × ((ps : List Token) × AreTokens (codes " + " ++ placed_text x y o) ps × (spell clause (placement_at x y o) ≡ words ps))

-- A component that fits its form without an invalid number does so with a placement within the limits of a text.
abbrev pub PlacedComponentsFit : Type 0
PlacedComponentsFit = (c : Component) (x y : ℤ) (o : Orient)
    → is_out x ≡ false
    → is_out y ≡ false
    → Fits component_form c []
    → component_form.of.bad c [] ≡ None
    → Fits component_form (placed_component x y o c) [] × (component_form.of.bad (placed_component x y o c) [] ≡ None)

-- So placing a component is a change within its entry.
abbrev pub PlacingsAreChanges : Type 0
PlacingsAreChanges = (ps : List Token) (c : Component) (x y : ℤ) (o : Orient)
    → is_out x ≡ false
    → is_out y ≡ false
    → IsWritten (words ps) (component c)
    → IsChange ps (entry (component c)) (place_change x y o c)

-- changes of an entry that make its component another: one, or none where it stays
abbrev pub AreChanges : List Token → Component → Component → List (List Token × StatementChange) → Type 0
AreChanges ps c new [] = new ≡ c
AreChanges ps c new (x ∷ []) = (x.0 ≡ ps) × IsChange ps (entry (component c)) x.1 × (x.1.said ≡ entry (component new) ∷ [])
AreChanges ps c new (x ∷ y ∷ xs) = ⊥

-- Unplacing one makes such changes,
abbrev pub UnplacingsAreChanges : Type 0
UnplacingsAreChanges = (ps : List Token) (c : Component)
    → IsWritten (words ps) (component c)
    → AreChanges ps c (unplaced_component c) (unplace_plan ps c).changes

-- and so does giving it a macro whose name is one wherever it is put.
abbrev pub RemasteringsAreChanges : Type 0
RemasteringsAreChanges = (library : Library) (ps : List Token) (c : Component) (cell : List ℕ)
    → is_name_text cell ≡ true
    → IsWritten (words ps) (component c)
    → AreChanges ps c (remastered cell c) (remaster_plan library cell ps c).changes
