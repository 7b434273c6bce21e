-- The bytes of an entry that is found, and where they begin.
use Rattle.std.specs.Prelude.{◌≡◌, ℕ, List, Option, Some, None}
use Rattle.statement_model.specs.Reading.{pos_of}
use Rattle.statement_model.specs.Tokens.{Token}
use Rattle.def_grammar.specs.Located.{bytes_of}
use Rattle.def_grammar.specs.Records.{Record}
use Rattle.design_text.specs.declared.entries.EntryBytes.{EntryBytes}

-- there is an entry where there are bytes, and they are those of its tokens
abbrev pub AreBytesOf : List ℕ → Option (List Token × Record) → Option EntryBytes → Type 0
AreBytesOf text found None = found ≡ None
AreBytesOf text found (Some b) = (x : List Token × Record) × (found ≡ Some x) × (b.bytes.now ≡ bytes_of text x.0) × (b.pos ≡ pos_of x.0)
