-- The plan of an edit of a component is one for the edited design.
use Rattle.std.proofs.Common.{◌≡◌, inl, inr, ℕ, Bool, true, false, not, ◌||◌, List, [], ◌∷◌, ◌++◌, map, Option, Some, None, Ok, refl, sym, ap, ap₂, subst, ◌∙◌, ⊎_elim, if◌then◌else◌}
use Rattle.std.specs.Str.{bytes_eq}
use Rattle.std.proofs.lemmas.Bool.{cases_Bool as cases, and_parts, or_parts}
use Rattle.std.proofs.lemmas.List.{map-append}
use Rattle.std.proofs.lemmas.Slice.Eq.{bytes_eq-Decides}
use Rattle.edit_model.specs.declared.edit.EditCode.TheVariants.{UnknownName, Fixed, Number}
use Rattle.design_model.specs.declared.mode.Mode.TheVariants.{Top}
use Rattle.design_model.specs.declared.mode.Section.TheVariants.{Components}
use Rattle.statement_model.specs.Tokens.{Token}
use Rattle.statement_model.specs.Boundaries.{words}
use Rattle.statement_model.specs.Grammar.{Key}
use Rattle.statement_model.specs.Reading.{same_words}
use Rattle.def_grammar.specs.Components.{Clause, placed, Component}
use Rattle.def_grammar.specs.Parts.{is_some}
use Rattle.def_grammar.specs.Placing.{placing, is_held}
use Rattle.def_grammar.specs.Records.{Entry, component, Record, top, in_properties, end_section, entry, entry_key, key_of, read_def}
use Rattle.lef_grammar.specs.Library.{Library, macro_named}
use Rattle.edit_rules.specs.ComponentEdits.{ComponentChange, place_at, unplace_it, remaster_as, placed_component, placing_change, with_unplaced, is_known_macro, is_out, edited_component, entry_plan, component_plan}
use Rattle.edit_rules.specs.Edits.{of_component, on_component, on_entry, applied}
use Rattle.def_grammar.specs.Located.{located, component_at}
use Rattle.edit_rules.specs.NameTexts.{is_name_text}
use Rattle.edit_rules.specs.Plans.{StatementChange, lowest}
use Rattle.edit_laws.specs.ComponentLaws.{ComponentsAreFound, ComponentPlansAreMade}
use Rattle.edit_laws.specs.EntryLaws.{IsWritten, IsEditOf, EntriesAreWritten, OneIsEdited}
use Rattle.edit_laws.specs.PlacingLaws.{AreChanges, PlacingsAreChanges, UnplacingsAreChanges, RemasteringsAreChanges}
use Rattle.edit_laws.specs.PlanLaws.{Plans}
use Rattle.edit_laws.specs.StatementLaws.{records, StandsAmong, Make, SameKeysAreOnce}
use Rattle.edit_laws.proofs.Keys.{key_itself}
use Rattle.edit_laws.proofs.PlanTexts.{tokens_read}

-- no edit of a component changes its name
unplaced_name : (old : Option Clause) (c : Component) → (with_unplaced old c).name ≡ c.name
unplaced_name (Some (placed status at o)) c = refl
unplaced_name (Some (inr _)) c = refl
unplaced_name None c = refl

name_stays : (change : ComponentChange) (c : Component) → (edited_component change c).name ≡ c.name
name_stays (place_at x y o) c = refl
name_stays unplace_it c = unplaced_name (placing c.clauses) c
name_stays (remaster_as cell) c = refl

-- where no test of a placement refuses, none holds
none_of_two : (held out : Bool) → lowest ((held, Fixed) ∷ (out, Number) ∷ []) ≡ None → (held ≡ false) × (out ≡ false)
none_of_two true out e = absurd (cc)
none_of_two false true e = absurd (cc)
none_of_two false false e = (refl, refl)

-- and so it is with a macro, which then has a name
none_unknown : (known : Bool) → lowest ((not known, UnknownName) ∷ []) ≡ None → known ≡ true
none_unknown true e = refl
none_unknown false e = absurd (cc)

module _ (placings_so : PlacingsAreChanges) (unplacings_so : UnplacingsAreChanges) (remasterings_so : RemasteringsAreChanges) (library : Library) (ps : List Token) (c : Component) (written : IsWritten (words ps) (component c)) where
  entry_changes : (change : ComponentChange) → lowest (entry_plan library change ps c).refusals ≡ None → AreChanges ps c (edited_component change c) (entry_plan library change ps c).changes
  entry_changes (place_at x y o) free =
      let none = none_of_two (is_held (placing c.clauses)) (is_out x || is_out y) free in
      let inside = or_parts (is_out x) (is_out y) none.1 in
      (refl, placings_so ps c x y o inside.0 inside.1 written, said_is (placing c.clauses))
    where
      said_is : (old : Option Clause) → (placing_change x y o c old).said ≡ entry (component (placed_component x y o c)) ∷ []
      said_is (Some old) = refl
      said_is None = refl
  entry_changes unplace_it free = unplacings_so ps c written
  entry_changes (remaster_as cell) free =
      let known = none_unknown (is_known_macro library cell) free in
      remasterings_so library ps c cell (and_parts (is_name_text cell) (is_some (macro_named library cell)) known).0 written

-- such changes make these records of all
changes_make : (all : List (List Token × Record)) (ps : List Token) (c new : Component) (changes : List (List Token × StatementChange)) (s : StandsAmong all ps (entry (component c))) → AreChanges ps c new changes
    → Make all changes (records s.first ++ entry (component new) ∷ records s.others)
changes_make all ps c new [] s stays =
    ap (λ (d : Component). records s.first ++ entry (component d) ∷ records s.others) stays
    ∙ (sym (map-append (λ (x : List Token × Record). x.1) s.first ((ps, entry (component c)) ∷ s.others)) ∙ ap records (sym s.all_are))
changes_make all ps c new (x ∷ []) s are =
    let made = records s.first ++ entry (component new) ∷ records s.others in
    let put : made ≡ records s.first ++ (x.1.said ++ records s.others) = ap (λ (rs : List Record). records s.first ++ (rs ++ records s.others)) (sym are.2) in
    subst (λ (qs : List Token). Make all ((qs, x.1) ∷ []) made) (sym are.0) (entry (component c), s, are.1, records s.others, refl, put)
changes_make all ps c new (x ∷ y ∷ xs) s are = absurd are

-- entries of other names stay, and all entries keep their names
module _ (name : List ℕ) (change : ComponentChange) where
  abbrev edited : Entry → Entry
  edited = on_component name (edited_component change)

  abbrev edited_if : Component → Bool → Entry
  edited_if c named = component (if named then edited_component change c else c)

  module _ (c : Component) (named : c.name ≡ name) where
    others_stay : (other : Entry) → same_words (key_of (entry (component c))) (key_of (entry other)) ≡ false → edited other ≡ other
    others_stay (component d) differs = ⊎_elim
        (λ (is : bytes_eq d.name name ≡ true).
        let same : c.name ≡ d.name = named ∙ sym ((bytes_eq-Decides d.name name).0 is) in
        let again = ap (λ (n : List ℕ). same_words (key_of (entry (component c))) (entry_key Components (Some n))) (sym same) ∙ key_itself (key_of (entry (component c))) in
        absurd (cc))
        (λ (no_match : bytes_eq d.name name ≡ false). ap (edited_if d) no_match)
        (cases (bytes_eq d.name name))
    others_stay (inl (inr other)) differs = refl
    others_stay (inr other) differs = refl

    is_edit : IsEditOf edited (component c) (component (edited_component change c))
    is_edit =
        let here : bytes_eq c.name name ≡ true = (bytes_eq-Decides c.name name).1 named in
        record { name = c.name; named = refl; here = ap (edited_if c) here; elsewhere = others_stay }

  one_key : (rec : Record) → key_of (on_entry edited rec) ≡ key_of rec
  one_key (top t) = refl
  one_key (in_properties p) = refl
  one_key (end_section s) = refl
  one_key (entry (component c)) = ⊎_elim
      (λ (is : bytes_eq c.name name ≡ true). rw is (ap (λ (n : List ℕ). entry_key Components (Some n)) (name_stays change c)))
      (λ (other : bytes_eq c.name name ≡ false). rw other refl)
      (cases (bytes_eq c.name name))
  one_key (entry (inl (inr other))) = refl
  one_key (entry (inr other)) = refl

  same_keys : (recs : List Record) → map key_of (map (on_entry edited) recs) ≡ map key_of recs
  same_keys [] = refl
  same_keys (r ∷ recs) = ap₂ (λ (k : Key) (ks : List Key). k ∷ ks) (one_key r) (same_keys recs)

module _ (found_so : ComponentsAreFound) (written_so : EntriesAreWritten) (placings_so : PlacingsAreChanges) (unplacings_so : UnplacingsAreChanges) (remasterings_so : RemasteringsAreChanges) (one_so : OneIsEdited) (keys_so : SameKeysAreOnce) where
  module _ (library : Library) (text : List ℕ) (design : List Record) (name : List ℕ) (change : ComponentChange) (reads : read_def text ≡ Ok design) where
    plan_is_made : (found : Option (List Token × Component)) → component_at name (located text design) ≡ found → Plans text design (component_plan library change found) (applied (of_component name change) design)
    plan_is_made None is = λ free. absurd (cc)
    plan_is_made (Some s) is = λ free.
        let found = found_so (located text design) name s.0 s.1 is in
        let st = found.0 in
        let whole = tokens_read text design reads in
        let written = written_so text 0 (Top, []) design s.0 (component s.1) whole st in
        let are = entry_changes placings_so unplacings_so remasterings_so library s.0 s.1 written change free in
        let new = edited_component change s.1 in
        let changes = (entry_plan library change s.0 s.1).changes in
        let made : applied (of_component name change) design ≡ records st.first ++ entry (component new) ∷ records st.others
        = one_so text 0 (Top, []) design s.0 (component s.1) (component new) (edited name change) whole st (is_edit name change s.1 found.1) in (
          subst (λ (rs : List Record). Make (located text design) changes rs) (sym made) (changes_make (located text design) s.0 s.1 new changes st are),
          keys_so text 0 Top [] design (applied (of_component name change) design) whole (same_keys name change design),
        )

  pub component_plans_are_made : ComponentPlansAreMade
  component_plans_are_made library text design name change reads = plan_is_made library text design name change reads (component_at name (located text design)) refl
