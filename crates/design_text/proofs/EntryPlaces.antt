-- The bytes of a statement that has a number, and where it begins.
use Rattle.std.proofs.Common.{◌≡◌, ℕ, List, [], ◌∷◌, Option, Some, None, refl, ap, ap₂, ◌∙◌, slice_range}
use Rattle.std.specs.Option.{option_map}
use Rattle.design_model.specs.declared.identifier.StmtId.{StmtId}
use Rattle.statement_model.specs.Cuts.{end_of, end_of_all}
use Rattle.statement_model.specs.Reading.{pos_of}
use Rattle.statement_model.specs.Tokens.{Token}
use Rattle.lefdef_tokens.specs.TokenViews.{end_after, span_of}
use Rattle.lefdef_tokens.specs.declared.span.Span.{Span}
use Rattle.def_grammar.specs.Located.{bytes_of}
use Rattle.def_grammar.specs.Records.{Record}
use Rattle.text_pieces.specs.Statements.{bytes_in, look_up, spans_by_number, statements_of}
use Rattle.design_text.specs.DesignTexts.{Content, numbers_of, statement_under, text_of}
use Rattle.design_text.proofs.FoundStatements.{look_map}

starts : (ps : List Token) → (span_of ps).lo ≡ pos_of ps
starts [] = refl
starts (p ∷ ps) = refl

ends_after : (p : Token) (ps : List Token) → end_after (end_of p) ps ≡ end_of_all (p ∷ ps)
ends_after p [] = refl
ends_after p (q ∷ qs) = ends_after q qs

ends : (ps : List Token) → (span_of ps).hi ≡ end_of_all ps
ends [] = refl
ends (p ∷ ps) = ends_after p ps

abbrev Found : Type 0
Found = Option (List Token × Record)

abbrev span_in : Found → Option Span
span_in = option_map (λ (x : List Token × Record). span_of x.0)

span_under : (c : Content) (id : StmtId) → look_up id (spans_by_number c.pieces) ≡ span_in (statement_under c id)
span_under c id = look_map (λ (x : List Token × Record). span_of x.0) id (numbers_of c) (statements_of (text_of c))

none_in : (text : List ℕ) (found : Found) → None ≡ option_map (bytes_in text) (span_in found) → found ≡ None
none_in text None is = refl
none_in text (Some x) is = absurd (cc)

pub no_bytes : (c : Content) (id : StmtId) → None ≡ option_map (bytes_in (text_of c)) (look_up id (spans_by_number c.pieces)) → statement_under c id ≡ None
no_bytes c id is = none_in (text_of c) (statement_under c id) (is ∙ ap (option_map (bytes_in (text_of c))) (span_under c id))

abbrev pub HasBytes : List ℕ → Found → List ℕ → ℕ → Type 0
HasBytes text found bytes pos = (x : List Token × Record) × (found ≡ Some x) × (bytes ≡ bytes_of text x.0) × (pos ≡ pos_of x.0)

bytes_there : (text : List ℕ) (found : Found) (bytes : List ℕ) (pos : ℕ) → Some bytes ≡ option_map (bytes_in text) (span_in found) → Some pos ≡ option_map (λ (s : Span). s.lo) (span_in found) → HasBytes text found bytes pos
bytes_there text None bytes pos is at = absurd (cc)
bytes_there text (Some x) bytes pos is at =
    let own : bytes ≡ bytes_in text (span_of x.0) = cc in
    let first : pos ≡ (span_of x.0).lo = cc in
    (x, refl, own ∙ ap₂ (λ (lo hi : ℕ). slice_range text lo hi) (starts x.0) (ends x.0), first ∙ starts x.0)

pub bytes_are : (c : Content) (id : StmtId) (bytes : List ℕ) (pos : ℕ) → Some bytes ≡ option_map (bytes_in (text_of c)) (look_up id (spans_by_number c.pieces))
    → Some pos ≡ option_map (λ (s : Span). s.lo) (look_up id (spans_by_number c.pieces)) → HasBytes (text_of c) (statement_under c id) bytes pos
bytes_are c id bytes pos is at =
    let span = span_under c id in
    bytes_there (text_of c) (statement_under c id) bytes pos (is ∙ ap (option_map (bytes_in (text_of c))) span) (at ∙ ap (option_map (λ (s : Span). s.lo)) span)
