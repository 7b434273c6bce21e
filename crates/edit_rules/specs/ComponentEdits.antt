-- Edits of one component of a design (own): what they make of it, and the plan of each for its entry.
use Rattle.std.specs.Prelude.{ℕ, ◌+◌, ◌-◌, Bool, not, ◌&&◌, ◌||◌, List, [], ◌∷◌, ◌++◌, length, Option, Some, None, ℤ, pos, neg_ℤ, int_lt, codes}
use Rattle.std.specs.Fmt.{signed_decimal}
use Rattle.edit_model.specs.declared.edit.EditCode.TheVariants.{UnknownName, Fixed, Number}
use Rattle.design_model.specs.declared.geometry.Orient.{Orient}
use Rattle.design_model.specs.declared.geometry.Status.TheVariants.{Placed}
use Rattle.design_model.specs.EnumWords.{orient_word}
use Rattle.form_meanings.specs.Meaning.{spell_all}
use Rattle.statement_model.specs.Tokens.{Token}
use Rattle.statement_model.specs.Form.{spell}
use Rattle.def_grammar.specs.Components.{Clause, placed, unplaced, Component, clause}
use Rattle.def_grammar.specs.Parts.{is_some}
use Rattle.def_grammar.specs.Placing.{placing, before_placing, with_placing, is_held}
use Rattle.def_grammar.specs.Records.{component, entry}
use Rattle.lef_grammar.specs.Library.{Library, macro_named}
use Rattle.edit_rules.specs.NameTexts.{is_name_text}
use Rattle.edit_rules.specs.Plans.{StatementChange, Plan, refused_plan}

-- what is made of a component
pub data ComponentChange : Type 0 where
  place_at : ℤ → ℤ → Orient → ComponentChange
  unplace_it : ComponentChange
  remaster_as : List ℕ → ComponentChange

-- how many tokens stand in an entry before the clauses, and are some clauses
abbrev pub fixed_part : Component → ℕ
fixed_part c = 3 + length c.rest

abbrev pub tokens_of : List Clause → ℕ
tokens_of clauses = length (spell_all (spell clause) clauses)

-- the clause PLACED ( x y ) o
abbrev pub placement_at : ℤ → ℤ → Orient → Clause
placement_at x y o = placed Placed (record { x = signed_decimal x; y = signed_decimal y }) o

-- its bytes, from its word on
abbrev pub placed_text : ℤ → ℤ → Orient → List ℕ
placed_text x y o = ((((codes "PLACED ( " ++ signed_decimal x) ++ 32 ∷ []) ++ signed_decimal y) ++ codes " ) ") ++ orient_word o

-- the component with that clause: in the place of the one that places it, or last
abbrev pub placed_component : ℤ → ℤ → Orient → Component → Component
placed_component x y o c = record c { clauses = with_placing (placement_at x y o) c.clauses }

-- the clause that places the component becomes this one, from its word on; or a clause is put at the entry's end
abbrev pub placing_change : ℤ → ℤ → Orient → Component → Option Clause → StatementChange
placing_change x y o c (Some old) = record {
  before = fixed_part c + tokens_of (before_placing c.clauses) + 1;
  taken = length (spell clause old) - 1;
  put = placed_text x y o;
  said = entry (component (placed_component x y o c)) ∷ [];
}
placing_change x y o c None = record {
  before = fixed_part c + tokens_of c.clauses;
  taken = 0;
  put = codes " + " ++ placed_text x y o;
  said = entry (component (placed_component x y o c)) ∷ [];
}

abbrev pub place_change : ℤ → ℤ → Orient → Component → StatementChange
place_change x y o c = placing_change x y o c (placing c.clauses)

-- a number that no DEF text may hold
abbrev pub is_out : ℤ → Bool
is_out z = int_lt z (neg_ℤ (pos 2147483647)) || int_lt (pos 2147483647) z

-- the plan of placing a component, for the tokens of its entry
abbrev pub place_plan : ℤ → ℤ → Orient → List Token → Component → Plan
place_plan x y o ps c = record {
  refusals = (is_held (placing c.clauses), Fixed) ∷ (is_out x || is_out y, Number) ∷ [];
  changes = (ps, place_change x y o c) ∷ [];
}

-- the component unplaced: a clause that is PLACED becomes UNPLACED, and any other stays
abbrev pub with_unplaced : Option Clause → Component → Component
with_unplaced (Some (placed status at o)) c = record c { clauses = with_placing (unplaced []) c.clauses }
with_unplaced _ c = c

abbrev pub unplaced_component : Component → Component
unplaced_component c = with_unplaced (placing c.clauses) c

-- its clause becomes UNPLACED, from its word on
abbrev pub unplace_changes : List Token → Component → Option Clause → List (List Token × StatementChange)
unplace_changes ps c (Some (placed status at o)) = (
  ps,
  record {
    before = fixed_part c + tokens_of (before_placing c.clauses) + 1;
    taken = length (spell clause (placed status at o)) - 1;
    put = codes "UNPLACED";
    said = entry (component (unplaced_component c)) ∷ [];
  },
) ∷ []
unplace_changes ps c _ = []

abbrev pub unplace_plan : List Token → Component → Plan
unplace_plan ps c = record { refusals = (is_held (placing c.clauses), Fixed) ∷ []; changes = unplace_changes ps c (placing c.clauses) }

-- a macro of this name is known: of a name, since a library has no others
abbrev pub is_known_macro : Library → List ℕ → Bool
is_known_macro library name = is_name_text name && is_some (macro_named library name)

-- the component of another macro, whose name takes the place of the old one's
abbrev pub remastered : List ℕ → Component → Component
remastered cell c = record c { cell = cell }

abbrev pub remaster_plan : Library → List ℕ → List Token → Component → Plan
remaster_plan library cell ps c = record {
  refusals = (not (is_known_macro library cell), UnknownName) ∷ [];
  changes = (ps, record { before = 2; taken = 1; put = cell; said = entry (component (remastered cell c)) ∷ [] }) ∷ [];
}

-- what an edit makes of its component, and its plan
abbrev pub edited_component : ComponentChange → Component → Component
edited_component (place_at x y o) c = placed_component x y o c
edited_component unplace_it c = unplaced_component c
edited_component (remaster_as cell) c = remastered cell c

abbrev pub entry_plan : Library → ComponentChange → List Token → Component → Plan
entry_plan library (place_at x y o) ps c = place_plan x y o ps c
entry_plan library unplace_it ps c = unplace_plan ps c
entry_plan library (remaster_as cell) ps c = remaster_plan library cell ps c

-- where no component has the name, it is unknown
abbrev pub component_plan : Library → ComponentChange → Option (List Token × Component) → Plan
component_plan library change None = refused_plan UnknownName
component_plan library change (Some s) = entry_plan library change s.0 s.1
