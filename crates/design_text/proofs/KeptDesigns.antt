-- The design of a text as what is kept of its statements.
use Rattle.std.proofs.Common.{◌≡◌, ℕ, List, [], ◌∷◌, length, map, Option, Result, Ok, Err, refl, sym, ap, ◌∙◌}
use Rattle.std.specs.Prelude.{IfOk}
use Rattle.std.proofs.lemmas.List.{length-map}
use Rattle.std.proofs.lemmas.Slice.Zip.{seconds-zip}
use Rattle.design_model.specs.declared.identifier.StmtId.{StmtId}
use Rattle.def_grammar.specs.Records.{Record}
use Rattle.text_pieces.specs.KeptRecords.{AreKept, record_of, records_under}
use Rattle.text_pieces.specs.Statements.{statements_of}
use Rattle.text_pieces.specs.Tables.{Kept, kept_at}
use Rattle.design_text.specs.DesignTexts.{Content, IsNumbered, numbers_of, text_of}

seconds_under : (slots : List (Option Kept)) (ids : List StmtId) → map (λ x. x.1) (records_under slots ids) ≡ map (λ id. record_of (kept_at slots id)) ids
seconds_under slots [] = refl
seconds_under slots (id ∷ ids) = ap (λ (l : List Record). record_of (kept_at slots id) ∷ l) (seconds_under slots ids)

pub kept_design : (c : Content) (design : List Record) → IsNumbered c design → AreKept c.pieces → map (λ id. record_of (kept_at c.pieces.table.slots id)) (numbers_of c) ≡ design
kept_design c design n k =
    let said = statements_of (text_of c) in
    sym (seconds_under c.pieces.table.slots (numbers_of c))
    ∙ ap (map (λ x. x.1)) (sym k.says)
    ∙ seconds-zip (numbers_of c) (map (λ x. x.1) said) (length-map said (λ x. x.1) ∙ sym n.many)
    ∙ n.said

pub ok_so : {X E : Type 0} {P Q : X → Type 0} (r : Result X E) → ((x : X) → P x → Q x) → IfOk r P → IfOk r Q
ok_so (Ok x) f p = f x p
ok_so (Err e) f p = p
