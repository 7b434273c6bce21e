-- Laws of an entry's own bytes.
use Rattle.std.specs.Prelude.{◌≡◌, ◌≤◌, ℕ, List, length, Some, Ok}
use Rattle.design_model.specs.declared.mode.Mode.TheVariants.{In}
use Rattle.design_model.specs.declared.mode.Section.{Section}
use Rattle.statement_model.specs.Tokens.{Token, Lexed, left_from}
use Rattle.statement_model.specs.Cuts.{end_of_all}
use Rattle.statement_model.specs.Reading.{pos_of, read_at}
use Rattle.def_grammar.specs.Records.{Entry, Record, entry, def, read_def}
use Rattle.def_grammar.specs.Located.{located, entry_at, bytes_of}

-- An entry reads alone, from its first byte to its last, as it does in its text.
abbrev pub EntriesStandAlone : Type 0
EntriesStandAlone = (text : List ℕ) (design : List Record) (s : Section) (name : List ℕ) (ps : List Token) (rec : Record)
    → read_def text ≡ Ok design
    → entry_at s name (located text design) ≡ Some (ps, rec)
    → (left : Lexed)
    × (e : Entry)
    × (rec ≡ entry e)
    × (read_at def (In s) (left_from (bytes_of text ps) 0) ≡ Ok (Some (rec, In s, left)))
    × (pos_of ps ≤ end_of_all ps)
    × (end_of_all ps ≤ length text)
