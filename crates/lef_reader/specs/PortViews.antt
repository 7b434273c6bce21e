-- Statements of a block PORT: the program's as those of the definitions, and which tokens they are.
use Rattle.std.specs.Prelude.{List}
use Rattle.std.proofs.Common.{inl, inr}
use Rattle.lef_grammar.specs.PortBlock.{PortRect, PortRecord, end_port, port_layer, rect_in_port, port_shape, kept_in_port}
use Rattle.statement_model.specs.Tokens.{Token}
use Rattle.lefdef_tokens.specs.Places.{RunAt, StandsAt, past}
use Rattle.lefdef_tokens.specs.Views.{words_of}
use Rattle.lefdef_tokens.specs.declared.token.Token as code
use Rattle.lefdef_tokens.specs.declared.token_run.TokenRun.{TokenRun}
use Rattle.lef_reader.specs.Parts.{CornersAt, WordsAt, corners_view}
use Rattle.lef_reader.specs.declared.port_block.PortRect as code_rect
use Rattle.lef_reader.specs.declared.port_block.PortRect.TheVariants as rects
use Rattle.lef_reader.specs.declared.port_block.PortStatement.{PortStatement}
use Rattle.lef_reader.specs.declared.port_block.PortStatement.TheVariants.{End, Layer, Rect, Shape, Kept}

abbrev pub rect_view : code_rect.PortRect → PortRect
rect_view (rects.Array others) = inl (words_of others)
rect_view (rects.MaskedArray mask others) = inr (inl (mask.bytes.now, words_of others))
rect_view (rects.Corners c) = inr (inr (corners_view c))

-- of MASK word ITERATE, the word, and what stands behind ITERATE
abbrev pub MaskedArrayAt : List Token → code.Token × TokenRun → Type 0
MaskedArrayAt ps x = StandsAt (past 1 ps) x.0 × RunAt (past 3 ps) x.1

-- behind RECT
abbrev pub RectAt : List Token → code_rect.PortRect → Type 0
RectAt ps (rects.Array others) = RunAt (past 1 ps) others
RectAt ps (rects.MaskedArray mask others) = MaskedArrayAt ps (mask, others)
RectAt ps (rects.Corners c) = CornersAt ps c

abbrev pub port_view : PortStatement → PortRecord
port_view End = end_port
port_view (Layer name others) = port_layer name.bytes.now (words_of others)
port_view (Rect r) = rect_in_port (rect_view r)
port_view (Shape w others) = port_shape w.bytes.now (words_of others)
port_view (Kept w others) = kept_in_port w.bytes.now (words_of others)

-- behind LAYER or RECT, or from the statement's word on where it is only counted or means nothing
abbrev pub PortAt : List Token → PortStatement → Type 0
PortAt ps End = Unit {0}
PortAt ps (Layer name others) = WordsAt (past 1 ps) (name, others)
PortAt ps (Rect r) = RectAt (past 1 ps) r
PortAt ps (Shape w others) = WordsAt ps (w, others)
PortAt ps (Kept w others) = WordsAt ps (w, others)
