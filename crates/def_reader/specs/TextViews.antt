-- What a whole text reads as.
use Rattle.std.specs.Prelude.{◌≡◌, ℕ, List, map, Result, Ok, Err, IsOk}
use Rattle.design_model.specs.declared.fault.ReadError.{ReadError}
use Rattle.design_model.specs.declared.fault.ReadError.TheVariants.{Fault, Memory}
use Rattle.def_grammar.specs.Records.{Record, read_def}
use Rattle.def_grammar.specs.Located.{located}
use Rattle.lefdef_tokens.specs.Views.{span_of}
use Rattle.lefdef_tokens.specs.declared.span.Span.{Span}

-- what reading a whole text says; refused memory says nothing
abbrev pub ReadsText : {S : Type 0} → List ℕ → Result S ReadError → Type 0
ReadsText text (Ok spans) = IsOk (read_def text)
ReadsText text (Err (Fault f)) = read_def text ≡ Err f
ReadsText text (Err Memory) = Unit {0}

-- where the statements of a text stand that reads as this design
abbrev pub statement_spans : List ℕ → List Record → List Span
statement_spans text design = map (λ x. span_of x.0) (located text design)
