-- Laws of entries, whatever edit asks for a change of one.
use Rattle.std.specs.Prelude.{◌≡◌, ℕ, false, List, [], ◌∷◌, ◌++◌, map, Some, None, Ok}
use Rattle.statement_model.specs.Tokens.{Token, left_from}
use Rattle.statement_model.specs.Boundaries.{words}
use Rattle.statement_model.specs.Form.{spell, Fits}
use Rattle.statement_model.specs.Grammar.{Key}
use Rattle.statement_model.specs.Reading.{same_words, read_from}
use Rattle.design_model.specs.declared.mode.Mode.{Mode}
use Rattle.def_grammar.specs.Records.{Entry, section_of, name_of, Record, entry, entries_form, key_of, def}
use Rattle.edit_rules.specs.Edits.{on_entry}
use Rattle.edit_laws.specs.StatementLaws.{located_from, records, StandsAmong}

-- words are those that an entry is spelled with, and it stands in the form of its section and has no invalid number
pub record IsWritten (ws : List (List ℕ)) (e : Entry) : Type 0 where
  pub spelled : ws ≡ spell (entries_form (section_of e)) e
  pub fits : Fits (entries_form (section_of e)) e []
  pub good : (entries_form (section_of e)).of.bad e [] ≡ None

-- An entry of a text that reads is written so, wherever in the text the reading begins.
abbrev pub EntriesAreWritten : Type 0
EntriesAreWritten = (text : List ℕ) (from : ℕ) (state : Mode × List Key) (recs : List Record) (ps : List Token) (e : Entry)
    → read_from def state (left_from text from) ≡ Ok recs
    → StandsAmong (located_from text from recs) ps (entry e)
    → IsWritten (words ps) e

-- an edit of entries makes this of an entry, by its name, and leaves those of other sections or names
pub record IsEditOf (f : Entry → Entry) (e said : Entry) : Type 0 where
  pub name : List ℕ
  pub named : name_of e ≡ Some name
  pub here : f e ≡ said
  pub elsewhere : (other : Entry) → same_words (key_of (entry e)) (key_of (entry other)) ≡ false → f other ≡ other

-- A name stands once in its section: such an edit of all entries is the change of one.
abbrev pub OneIsEdited : Type 0
OneIsEdited = (text : List ℕ) (from : ℕ) (state : Mode × List Key) (recs : List Record) (ps : List Token) (e said : Entry) (f : Entry → Entry)
    → read_from def state (left_from text from) ≡ Ok recs
    → (s : StandsAmong (located_from text from recs) ps (entry e))
    → IsEditOf f e said
    → map (on_entry f) recs ≡ records s.first ++ entry said ∷ records s.others
