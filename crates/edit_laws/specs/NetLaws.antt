-- Laws of edits of a net.
use Rattle.std.specs.Prelude.{◌≡◌, ◌⊎◌, ℕ, List, [], ◌∷◌, Some, None, Ok}
use Rattle.design_model.specs.declared.mode.Section.{Section}
use Rattle.statement_model.specs.Tokens.{Token}
use Rattle.statement_model.specs.Boundaries.{words}
use Rattle.def_grammar.specs.Located.{entry_at}
use Rattle.def_grammar.specs.Nets.{is_net}
use Rattle.def_grammar.specs.Records.{Entry, net, special_net, section_of, name_of, Record, entry, read_def}
use Rattle.lef_grammar.specs.Library.{Library}
use Rattle.edit_rules.specs.Edits.{of_net, plan_of, applied}
use Rattle.edit_rules.specs.NetEdits.{NetChange, edited_net, plan_of_entry}
use Rattle.edit_rules.specs.Plans.{StatementChange, lowest}
use Rattle.edit_laws.specs.EntryLaws.{IsWritten}
use Rattle.edit_laws.specs.PlanLaws.{Plans}
use Rattle.edit_laws.specs.StatementLaws.{StandsAmong, IsChange}

-- The entry that is found by its section and its name stands among the statements, in that section and with that name.
abbrev pub EntriesAreFound : Type 0
EntriesAreFound = (all : List (List Token × Record)) (s : Section) (name : List ℕ) (ps : List Token) (rec : Record)
    → entry_at s name all ≡ Some (ps, rec)
    → (e : Entry) × (rec ≡ entry e) × StandsAmong all ps (entry e) × (section_of e ≡ s) × (name_of e ≡ Some name)

-- changes that are one change of the entry with these tokens, which then says another
pub record IsOneChange (ps : List Token) (e new : Entry) (changes : List (List Token × StatementChange)) : Type 0 where
  pub change : StatementChange
  pub is : changes ≡ (ps, change) ∷ []
  pub holds : IsChange ps (entry e) change
  pub said : change.said ≡ entry new ∷ []

-- or none, where the entry stays
abbrev pub EditsEntry : List Token → Entry → Entry → List (List Token × StatementChange) → Type 0
EditsEntry ps e new changes = IsOneChange ps e new changes ⊎ ((changes ≡ []) × (new ≡ e))

-- an entry that an edit of a net can be about
abbrev pub IsOfNet : Entry → Type 0
IsOfNet (net (is_net n)) = Unit {0}
IsOfNet (special_net n) = Unit {0}
IsOfNet _ = ⊥

-- An edit of a net that isn't refused makes its entry the edited one.
abbrev pub NetEntriesAreEdited : Type 0
NetEntriesAreEdited = (library : Library) (design : List Record) (change : NetChange) (ps : List Token) (e : Entry)
    → IsOfNet e
    → IsWritten (words ps) e
    → lowest (plan_of_entry library design change ps e).refusals ≡ None
    → EditsEntry ps e (edited_net change e) (plan_of_entry library design change ps e).changes

-- The plan of an edit of a net is one for the edited design.
abbrev pub NetPlansAreMade : Type 0
NetPlansAreMade = (library : Library) (text : List ℕ) (design : List Record) (name : List ℕ) (change : NetChange)
    → read_def text ≡ Ok design
    → Plans text design (plan_of library text design (of_net name change)) (applied (of_net name change) design)
