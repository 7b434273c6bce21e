-- Another clause that places a component is a change of its entry.
use Rattle.std.proofs.Common.{◌≡◌, ◌≤◌, ◌<◌, ℕ, ◌+◌, ◌-◌, ℤ, false, List, [], ◌∷◌, ◌++◌, length, take, drop, Option, Some, None, arith, refl, sym, ap, ap₂, ◌∙◌, append_assoc, append-nil, codes, length-append, take_at, drop_at}
use Rattle.std.proofs.lemmas.List.{length-map}
use Rattle.design_model.specs.declared.geometry.Orient.{Orient}
use Rattle.design_model.specs.EnumWords.{status_word}
use Rattle.form_meanings.specs.Meaning.{spell_all}
use Rattle.statement_model.specs.Tokens.{Token}
use Rattle.statement_model.specs.Boundaries.{words}
use Rattle.statement_model.specs.Form.{spell, Fits}
use Rattle.def_grammar.specs.Parts.{point, orient}
use Rattle.def_grammar.specs.Components.{Clause, placed, unplaced, region, other, placement, clause, Component, component_form}
use Rattle.def_grammar.specs.Placing.{placing, before_placing, after_placing, with_placing}
use Rattle.def_grammar.specs.Records.{component, entry, entries_form}
use Rattle.edit_rules.specs.ComponentEdits.{fixed_part, tokens_of, placement_at, placed_text, placed_component, placing_change, is_out}
use Rattle.edit_rules.specs.Plans.{StatementChange}
use Rattle.splicing_laws.specs.SplicingLaws.{AreTokens}
use Rattle.edit_laws.specs.EntryLaws.{IsWritten}
use Rattle.edit_laws.specs.PlacingLaws.{PlacementsAreTokens, PlacedComponentsFit, PlacingsAreChanges}
use Rattle.edit_laws.specs.StatementLaws.{changed_words, BeginsWhite, IsChange}
use Rattle.edit_laws.proofs.PlacingClauses.{around, placed_last}
use Rattle.edit_laws.proofs.WrittenEntries.{written_instead}

-- words of which some are taken, by their parts
pub changed_parts : (c : StatementChange) (a b z put ws : List (List ℕ)) → ws ≡ a ++ (b ++ z) → length a ≡ c.before → length b ≡ c.taken → changed_words c put ws ≡ a ++ (put ++ z)
changed_parts c a b z put ws is before taken =
    let front : take c.before ws ≡ a = ap (take c.before) is ∙ take_at a (b ++ z) c.before before in
    let long : length (a ++ b) ≡ c.before + c.taken = omega (arith, length-append a b, before, taken) in
    let rest : drop (c.before + c.taken) ws ≡ z = ap (drop (c.before + c.taken)) (is ∙ sym (append_assoc a b z)) ∙ drop_at (a ++ b) z (c.before + c.taken) long in
    ap₂ (λ (us vs : List (List ℕ)). us ++ (put ++ vs)) front rest

parts_within : (c : StatementChange) (a b z ws : List (List ℕ)) → ws ≡ a ++ (b ++ z) → length a ≡ c.before → length b ≡ c.taken → c.before + c.taken ≤ length ws
parts_within c a b z ws is before taken =
    let all : length ws ≡ length (a ++ (b ++ z)) = ap length is in
    omega (arith, all, length-append a (b ++ z), length-append b z, before, taken)

-- the words of several clauses
spelled_append : (cs ds : List Clause) → spell_all (spell clause) (cs ++ ds) ≡ spell_all (spell clause) cs ++ spell_all (spell clause) ds
spelled_append [] ds = refl
spelled_append (c ∷ cs) ds = ap (λ (ws : List (List ℕ)). spell clause c ++ ws) (spelled_append cs ds) ∙ sym (append_assoc (spell clause c) (spell_all (spell clause) cs) (spell_all (spell clause) ds))

-- a clause without its +
abbrev body_of : Clause → List (List ℕ)
body_of c = drop 1 (spell clause c)

plus_first : (c : Clause) → spell clause c ≡ codes "+" ∷ body_of c
unfolding clause
plus_first c = refl

some_words : (w : List ℕ) (ws : List (List ℕ)) → 0 < length (w ∷ ws)
some_words w ws = omega arith

body_is_some : (c : Clause) → 0 < length (body_of c)
unfolding clause placement
body_is_some (placed status at o) = some_words (status_word status) (spell point at ++ spell orient o)
body_is_some (unplaced rest) = some_words (codes "UNPLACED") rest
body_is_some (region name) = some_words (codes "REGION") (name ∷ [])
body_is_some (other w rest) = some_words w rest

module _ (c : Component) where
  -- the words of an entry's fixed part and some clauses
  abbrev front_of : List (List ℕ) → List (List ℕ)
  front_of clauses = codes "-" ∷ c.name ∷ c.cell ∷ (c.rest ++ clauses)

  abbrev pub with_clauses : List Clause → Component
  with_clauses cs = record c { clauses = cs }

  front_is_long : (ws : List (List ℕ)) → length (front_of ws) ≡ fixed_part c + length ws
  front_is_long ws = omega (arith, length-append c.rest ws)

  spelled_is : (cs : List Clause) → spell component_form (with_clauses cs) ≡ front_of (spell_all (spell clause) cs ++ codes ";" ∷ [])
  unfolding component_form
  spelled_is cs = refl

  -- with a clause among others
  in_parts : (before after : List Clause) (cl : Clause)
      → spell component_form (with_clauses (before ++ cl ∷ after)) ≡ front_of (spell_all (spell clause) before ++ codes "+" ∷ []) ++ (body_of cl ++ (spell_all (spell clause) after ++ codes ";" ∷ []))
  in_parts before after cl =
      let end = codes ";" ∷ [] in
      let xs = spell_all (spell clause) before in
      let zs = spell_all (spell clause) after in
      let clauses : spell_all (spell clause) (before ++ cl ∷ after) ++ end ≡ (xs ++ codes "+" ∷ []) ++ (body_of cl ++ (zs ++ end)) =
      ap (λ (ws : List (List ℕ)). ws ++ end) (spelled_append before (cl ∷ after))
      ∙ (append_assoc xs (spell clause cl ++ zs) end
      ∙ (ap (λ (ws : List (List ℕ)). xs ++ ws) (append_assoc (spell clause cl) zs end ∙ ap (λ (ws : List (List ℕ)). ws ++ (zs ++ end)) (plus_first cl))
      ∙ sym (append_assoc xs (codes "+" ∷ []) (body_of cl ++ (zs ++ end))))) in
      spelled_is (before ++ cl ∷ after)
      ∙ (ap front_of clauses ∙ ap (λ (ws : List (List ℕ)). codes "-" ∷ c.name ∷ c.cell ∷ ws) (sym (append_assoc c.rest (xs ++ codes "+" ∷ []) (body_of cl ++ (zs ++ end)))))

  -- with a clause last
  in_two : (cs : List Clause) (cl : Clause) → spell component_form (with_clauses (cs ++ cl ∷ [])) ≡ front_of (spell_all (spell clause) cs) ++ (spell clause cl ++ codes ";" ∷ [])
  in_two cs cl =
      let end = codes ";" ∷ [] in
      let xs = spell_all (spell clause) cs in
      let clauses : spell_all (spell clause) (cs ++ cl ∷ []) ++ end ≡ xs ++ (spell clause cl ++ end) =
      ap (λ (ws : List (List ℕ)). ws ++ end) (spelled_append cs (cl ∷ []) ∙ ap (λ (ws : List (List ℕ)). xs ++ ws) (append-nil (spell clause cl))) ∙ append_assoc xs (spell clause cl) end in
      spelled_is (cs ++ cl ∷ [])
      ∙ (ap front_of clauses ∙ ap (λ (ws : List (List ℕ)). codes "-" ∷ c.name ∷ c.cell ∷ ws) (sym (append_assoc c.rest xs (spell clause cl ++ end))))

  -- with none put
  as_it_is : (cs : List Clause) → spell component_form (with_clauses cs) ≡ front_of (spell_all (spell clause) cs) ++ ([] ++ codes ";" ∷ [])
  as_it_is cs = spelled_is cs ∙ ap (λ (ws : List (List ℕ)). codes "-" ∷ c.name ∷ c.cell ∷ ws) (sym (append_assoc c.rest (spell_all (spell clause) cs) (codes ";" ∷ [])))

-- the tokens of a component's entry, and what a clause makes of their words that places the component in its stead
module _ (ps : List Token) (c : Component) (is : IsWritten (words ps) (component c)) where
  pub said : words ps ≡ spell component_form c
  unfolding entries_form
  said = is.spelled

  pub within : (change : StatementChange) (a b z : List (List ℕ)) → words ps ≡ a ++ (b ++ z) → length a ≡ change.before → length b ≡ change.taken → change.before + change.taken ≤ length ps
  within change a b z parts before taken =
      let long : length (words ps) ≡ length ps = length-map ps (λ (p : Token). p.bytes) in
      omega (arith, parts_within change a b z (words ps) parts before taken, long)

  module _ (new : Clause) (fits : Fits component_form (with_clauses c (with_placing new c.clauses)) []) (good : component_form.of.bad (with_clauses c (with_placing new c.clauses)) [] ≡ None) (put : List ℕ) (qs : List Token)
      (tokens : AreTokens put qs) where
    abbrev with_new : Component
    with_new = with_clauses c (with_placing new c.clauses)

    said_is : (cs : List Clause) → with_placing new c.clauses ≡ cs → (ws : List (List ℕ)) → ws ≡ spell component_form (with_clauses c cs) → IsWritten ws (component with_new)
    unfolding entries_form
    said_is cs same ws spelled = record { spelled = spelled ∙ ap (λ (ds : List Clause). spell component_form (with_clauses c ds)) (sym same); fits = fits; good = good }

    -- in the place of the old one, from its word on
    pub clause_becomes : spell clause new ≡ codes "+" ∷ words qs → (old : Clause) → placing c.clauses ≡ Some old
        → IsChange ps (entry (component c)) (record { before = fixed_part c + tokens_of (before_placing c.clauses) + 1; taken = length (spell clause old) - 1; put = put; said = entry (component with_new) ∷ [] })
    clause_becomes spelled_so old found =
        let before = before_placing c.clauses in
        let after = after_placing c.clauses in
        let change : StatementChange = record { before = fixed_part c + tokens_of before + 1; taken = length (spell clause old) - 1; put = put; said = entry (component with_new) ∷ [] } in
        let a = front_of c (spell_all (spell clause) before ++ codes "+" ∷ []) in
        let b = body_of old in
        let z = spell_all (spell clause) after ++ codes ";" ∷ [] in
        let parts : words ps ≡ a ++ (b ++ z) = said ∙ (ap (λ (cs : List Clause). spell component_form (with_clauses c cs)) (around c.clauses old found) ∙ in_parts c before after old) in
        let a_long : length a ≡ change.before = omega (arith, front_is_long c (spell_all (spell clause) before ++ codes "+" ∷ []), length-append (spell_all (spell clause) before) (codes "+" ∷ [])) in
        let plus : length (spell clause old) ≡ length (codes "+" ∷ b) = ap length (plus_first old) in
        let b_long : length b ≡ change.taken = omega (arith, plus) in
        let body : body_of new ≡ words qs = ap (drop 1) spelled_so in
        let ws = changed_words change (words qs) (words ps) in
        let now = changed_parts change a b z (words qs) (words ps) parts a_long b_long in
        let spelled = now ∙ (ap (λ (ws : List (List ℕ)). a ++ (ws ++ z)) (sym body) ∙ sym (in_parts c before after new)) in
        record {
          put = qs;
          tokens = tokens;
          some = let inside = within change a b z parts a_long b_long in omega (arith, inside);
          within = within change a b z parts a_long b_long;
          apart = λ none some. absurd (omega (arith, body_is_some old, b_long, none));
          says = written_instead ps (component c) (component with_new) ws refl (said_is (before ++ new ∷ after) refl ws spelled);
        }

    -- or last, where there is none
    pub clause_comes : spell clause new ≡ words qs → BeginsWhite put → placing c.clauses ≡ None
        → IsChange ps (entry (component c)) (record { before = fixed_part c + tokens_of c.clauses; taken = 0; put = put; said = entry (component with_new) ∷ [] })
    clause_comes spelled_so white none =
        let change : StatementChange = record { before = fixed_part c + tokens_of c.clauses; taken = 0; put = put; said = entry (component with_new) ∷ [] } in
        let a = front_of c (spell_all (spell clause) c.clauses) in
        let z = codes ";" ∷ [] in
        let parts : words ps ≡ a ++ ([] ++ z) = said ∙ as_it_is c c.clauses in
        let a_long : length a ≡ change.before = front_is_long c (spell_all (spell clause) c.clauses) in
        let ws = changed_words change (words qs) (words ps) in
        let now = changed_parts change a [] z (words qs) (words ps) parts a_long refl in
        let spelled = now ∙ (ap (λ (ws : List (List ℕ)). a ++ (ws ++ z)) (sym spelled_so) ∙ sym (in_two c c.clauses new)) in
        record {
          put = qs;
          tokens = tokens;
          some = let inside = within change a [] z parts a_long refl in omega (arith, inside);
          within = within change a [] z parts a_long refl;
          apart = λ none some. white;
          says = written_instead ps (component c) (component with_new) ws refl (said_is (c.clauses ++ new ∷ []) (placed_last new c.clauses none) ws spelled);
        }

-- a placement fits
placed_fits : PlacedComponentsFit → (ws : List (List ℕ)) (c : Component) (x y : ℤ) (o : Orient) → is_out x ≡ false → is_out y ≡ false → IsWritten ws (component c)
    → Fits component_form (placed_component x y o c) [] × (component_form.of.bad (placed_component x y o c) [] ≡ None)
unfolding entries_form
placed_fits fit_so ws c x y o x_in y_in is = fit_so c x y o x_in y_in is.fits is.good

pub placings_are_changes : PlacementsAreTokens → PlacedComponentsFit → PlacingsAreChanges
placings_are_changes tokens_so fit_so ps c x y o x_in y_in is =
    let fit = placed_fits fit_so (words ps) c x y o x_in y_in is in
    change fit (placing c.clauses) refl
  where
    change : Fits component_form (placed_component x y o c) [] × (component_form.of.bad (placed_component x y o c) [] ≡ None) → (old : Option Clause) → placing c.clauses ≡ old → IsChange ps (entry (component c)) (placing_change x y o c old)
    change fit (Some old) found = let put = (tokens_so x y o).0 in clause_becomes ps c is (placement_at x y o) fit.0 fit.1 (placed_text x y o) put.0 put.1 put.2 old found
    change fit None none = let put = (tokens_so x y o).1 in clause_comes ps c is (placement_at x y o) fit.0 fit.1 (codes " + " ++ placed_text x y o) put.0 put.1 put.2 refl none
