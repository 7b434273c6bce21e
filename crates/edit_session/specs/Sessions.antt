-- What the calls of a session say.
use Rattle.std.specs.Prelude.{◌≡◌, ℕ, List, Option, Some, None, Result, Ok, Err, IsOk, MatchOption}
use Rattle.design_model.specs.declared.diagnostic.DiagLine.{DiagLine}
use Rattle.design_model.specs.declared.fault.ReadError as error
use Rattle.design_model.specs.declared.fault.ReadError.{ReadError}
use Rattle.design_model.specs.Order.{texts}
use Rattle.design_model.specs.declared.mode.Mode.TheVariants.{In}
use Rattle.design_model.specs.declared.mode.Section.{Section}
use Rattle.statement_model.specs.Boundaries.{statement_at}
use Rattle.statement_model.specs.Reading.{pos_of, read_at}
use Rattle.statement_model.specs.Tokens.{Token, Lexed, left_from}
use Rattle.def_grammar.specs.Records.{Entry, Record, def, entry, read_def}
use Rattle.lef_grammar.specs.Library.{Library}
use Rattle.report_rules.specs.Diagnostics.{diagnostics}
use Rattle.reports.specs.Answers.{Answers, ReportsOn}
use Rattle.def_grammar.specs.Located.{located, bytes_of, entry_at}
use Rattle.def_reader.specs.EntryViews.{EntryAt, entry_view}
use Rattle.def_reader.specs.declared.entry.Entry as code
use Rattle.edit_session.specs.declared.view.View.{View}

-- what opening a text says: it reads, or has this fault; refused memory says nothing
abbrev pub OpensAs : {S : Type 0} → List ℕ → Result S ReadError → Type 0
OpensAs text (Ok s) = IsOk (read_def text)
OpensAs text (Err (error.TheVariants.Fault f)) = read_def text ≡ Err f
OpensAs text (Err error.TheVariants.Memory) = Unit {0}

-- the lines are all diagnostics of what a text reads as
abbrev pub AreDiagnostics : {A : Type 0} → Library → List ℕ → List (DiagLine A) → Type 0
AreDiagnostics library text lines = (design : List Record) × (read_def text ≡ Ok design) × (texts lines ≡ diagnostics library design)

-- these bytes alone say this entry of a section
abbrev pub SaysAlone : Section → List ℕ → Entry → Type 0
SaysAlone s bytes e = (left : Lexed) × (read_at def (In s) (left_from bytes 0) ≡ Ok (Some (entry e, In s, left)))

abbrev pub IsAlone : Section → List ℕ → Type 0
IsAlone s bytes = (e : Entry) × SaysAlone s bytes e

-- the parts of an entry are the tokens of the first statement of these bytes
abbrev pub HasParts : Section → List ℕ → code.Entry → Type 0
HasParts s bytes parts = (ps : List Token) × (left : Lexed) × (statement_at (def.ending (In s)) (left_from bytes 0) ≡ Ok (Some (ps, left))) × EntryAt ps parts

-- what looking for an entry says: there is none of this section and name, or it is lent with its bytes and their place
abbrev pub Views : List ℕ → Section → List ℕ → Option View → Type 0
Views text s name found =
    (design : List Record)
    × (read_def text ≡ Ok design)
    × MatchOption found (entry_at s name (located text design) ≡ None)
    (λ v. (ps : List Token) × (entry_at s name (located text design) ≡ Some (ps, entry (entry_view v.parts))) × (v.bytes.now ≡ bytes_of text ps) × (v.pos ≡ pos_of ps))

-- what is measured of what a text reads as
abbrev pub Measures : {B : Type 0} → List ℕ → (List Record → B) → B → Type 0
Measures text of value = (design : List Record) × (read_def text ≡ Ok design) × (value ≡ of design)

-- answers are those on what a text reads as
abbrev pub AnswersOn : Library → List ℕ → Answers → Type 0
AnswersOn library text answers = (design : List Record) → read_def text ≡ Ok design → ReportsOn library design answers
