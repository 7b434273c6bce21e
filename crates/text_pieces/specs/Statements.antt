-- The statements of a text in pieces, under their numbers.
use Rattle.std.specs.Prelude.{ℕ, Bool, ◌&&◌, ◌==◌, nat_le, nat_lt, List, [], ◌∷◌, map, Option, Some, None, if◌then◌else◌}
use Rattle.std.specs.List.{slice_range, zip}
use Rattle.std.specs.Borrow.{Bor}
use Rattle.design_model.specs.declared.identifier.StmtId.{StmtId}
use Rattle.design_model.specs.declared.mode.Mode.{Mode}
use Rattle.design_model.specs.declared.mode.Mode.TheVariants.{Top}
use Rattle.statement_model.specs.Tokens.{Token, tokens}
use Rattle.statement_reader.specs.Located.{located_from}
use Rattle.lefdef_tokens.specs.TokenViews.{span_of}
use Rattle.lefdef_tokens.specs.declared.span.Span.{Span}
use Rattle.def_grammar.specs.Records.{Record, def}
use Rattle.piece_laws.specs.Pieces.{modes_from}
use Rattle.text_pieces.specs.Content.{Content, text_of}
use Rattle.text_pieces.specs.Tables.{ids_of}

-- the statements of a text with what they say
abbrev pub statements_of : List ℕ → List (List Token × Record)
statements_of text = located_from def Top (tokens text)

-- where they stand, and in which modes
abbrev pub spans_of : List ℕ → List Span
spans_of text = map (λ x. span_of x.0) (statements_of text)

abbrev pub modes_of : List ℕ → List Mode
modes_of text = modes_from def Top (map (λ x. x.1) (statements_of text))

-- the numbers of the statements of a text in pieces, each with where its statement stands, and in which mode
abbrev pub spans_by_number : Content → List (StmtId × Span)
spans_by_number c = zip (ids_of c.table) (spans_of (text_of c))

abbrev pub modes_by_number : Content → List (StmtId × Mode)
modes_by_number c = zip (ids_of c.table) (modes_of (text_of c))

-- what stands with a number
abbrev pub look_up : {X : Type 0} → StmtId → List (StmtId × X) → Option X
look_up id [] = None
look_up id (x ∷ xs) = if x.0.0 == id.0 then Some x.1 else look_up id xs

-- the bytes of a span
abbrev pub bytes_in : List ℕ → Span → List ℕ
bytes_in text span = slice_range text span.lo span.hi

-- the number of the first span that holds a position
abbrev pub holds : Span → ℕ → Bool
holds span pos = nat_le span.lo pos && nat_lt pos span.hi

abbrev pub number_at : ℕ → List (StmtId × Span) → Option StmtId
number_at pos [] = None
number_at pos (x ∷ xs) = if holds x.1 pos then Some x.0 else number_at pos xs

-- bytes that are lent
abbrev pub lent_bytes : Bor (List ℕ) → List ℕ
lent_bytes b = b.now

-- where the first token of a piece begins
abbrev pub lead : List ℕ → ℕ
lead bytes = (span_of (tokens bytes).pieces).lo
