-- Statements of a block MACRO: the program's as those of the definitions, and which tokens they are.
use Rattle.std.specs.Prelude.{List}
use Rattle.std.proofs.Common.{inl, inr}
use Rattle.lef_grammar.specs.MacroBlock.{InnerHeader, MacroRecord, end_macro, class, size, origin, macro_site, opens_block, kept_in_macro}
use Rattle.statement_model.specs.Tokens.{Token}
use Rattle.lefdef_tokens.specs.Places.{StandsAt, past}
use Rattle.lefdef_tokens.specs.Views.{words_of}
use Rattle.lef_reader.specs.Parts.{PointAt, SizeAt, WordsAt, point_view}
use Rattle.lef_reader.specs.declared.macro_block.InnerHeader as code_header
use Rattle.lef_reader.specs.declared.macro_block.InnerHeader.TheVariants as headers
use Rattle.lef_reader.specs.declared.macro_block.MacroStatement.{MacroStatement}
use Rattle.lef_reader.specs.declared.macro_block.MacroStatement.TheVariants.{End, Class, Size, Origin, Site, Opens, Kept}

abbrev pub header_view : code_header.InnerHeader → InnerHeader
header_view (headers.Pin name) = inl name.bytes.now
header_view headers.Obstruction = inr (inl tt)
header_view headers.Density = inr (inr tt)

-- the name behind PIN
abbrev pub HeaderAt : List Token → code_header.InnerHeader → Type 0
HeaderAt ps (headers.Pin name) = StandsAt (past 1 ps) name
HeaderAt ps headers.Obstruction = Unit {0}
HeaderAt ps headers.Density = Unit {0}

abbrev pub macro_view : MacroStatement → MacroRecord
macro_view End = end_macro
macro_view (Class w others) = class w.bytes.now (words_of others)
macro_view (Size width height) = size width.bytes.now height.bytes.now
macro_view (Origin p) = origin (point_view p)
macro_view (Site name others) = macro_site name.bytes.now (words_of others)
macro_view (Opens header) = opens_block (header_view header)
macro_view (Kept w others) = kept_in_macro w.bytes.now (words_of others)

-- behind the statement's word, or from it on where it means nothing
abbrev pub MacroAt : List Token → MacroStatement → Type 0
MacroAt ps End = Unit {0}
MacroAt ps (Class w others) = WordsAt (past 1 ps) (w, others)
MacroAt ps (Size width height) = SizeAt (past 1 ps) (width, height)
MacroAt ps (Origin p) = PointAt (past 1 ps) p
MacroAt ps (Site name others) = WordsAt (past 1 ps) (name, others)
MacroAt ps (Opens header) = HeaderAt ps header
MacroAt ps (Kept w others) = WordsAt ps (w, others)
