-- A statement that is read is a piece.
use Rattle.std.proofs.Common.{◌≡◌, ◌≤◌, ℕ, List, length, Option, Some, None, Result, Ok, Err}
use Rattle.std.specs.Prelude.{IfOk, IfSome}
use Rattle.design_model.specs.declared.fault.Fault.{Fault}
use Rattle.design_model.specs.declared.mode.Mode.{Mode}
use Rattle.lefdef_tokens.specs.Views.{pieces_of, span_of}
use Rattle.statement_reader.specs.StatementViews.{CutsStatement, ReadsStatement}
use Rattle.statement_reader.specs.declared.grammar.Read.{Read}
use Rattle.def_grammar.specs.Records.{def}
use Rattle.piece_laws.specs.PieceLaws.{StatementsArePieces, StatementsEndBeforeBlanks}
use Rattle.def_reader.specs.StatementViews.{mode_view, record_view}
use Rattle.def_reader.specs.declared.statement.Statement.{Statement}
use Rattle.text_pieces.specs.Opening.{NextPiece}

abbrev Found : Type 0
Found = Result (Option (Read Statement Mode)) Fault

abbrev HasSpan : Found → Type 0
HasSpan r = IfOk r (λ found. IfSome found (λ x. span_of (pieces_of x.tokens) ≡ record { lo = x.start; hi = x.end }))

pub next_is : StatementsArePieces def → StatementsEndBeforeBlanks def → (mode : Mode) (text : List ℕ) (pos : ℕ) → pos ≤ length text → (r : Found) → ReadsStatement def mode_view record_view mode text pos r → CutsStatement def mode_view mode text pos r → HasSpan r
    → NextPiece mode text pos r
next_is pieces blanks mode text pos within (Err f) reads cuts span = reads
next_is pieces blanks mode text pos within (Ok None) reads cuts span = reads
next_is pieces blanks mode text pos within (Ok (Some x)) reads cuts span = (
  reads.0,
  reads.1,
  pieces mode x.place text pos x.start x.end (pieces_of x.tokens) (record_view x.statement) within cuts reads.2 span,
  blanks mode x.place text pos x.start x.end (pieces_of x.tokens) (record_view x.statement) cuts reads.2 span,
)
