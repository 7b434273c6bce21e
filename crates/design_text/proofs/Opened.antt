-- A text that is opened.
use Rattle.std.proofs.Common.{◌≡◌, ◌≤◌, ℕ, false, List, [], length, Result, Ok, Err, IsOk, refl, sym, ap, subst, ◌∙◌, arith}
use Rattle.std.specs.Prelude.{nat_lt}
use Rattle.std.specs.List.{zip}
use Rattle.std.proofs.lemmas.Bool.Decides.{nat_tests}
use Rattle.design_model.specs.declared.TheConstants.{MAX_TEXT}
use Rattle.design_model.specs.declared.fault.Fault as fault
use Rattle.design_model.specs.declared.fault.ReadError.{ReadError}
use Rattle.design_model.specs.declared.fault.ReadError.TheVariants.{Fault, Memory}
use Rattle.design_model.specs.declared.mode.Mode.TheVariants.{Top}
use Rattle.statement_model.specs.Reading.{read_text}
use Rattle.statement_model.specs.Tokens.{tokens}
use Rattle.statement_reader.specs.ReadingLaws.{RecordsAreLocated}
use Rattle.def_grammar.specs.Records.{Record, def, read_def}
use Rattle.piece_laws.specs.KeyLaws.{KeysAreApart}
use Rattle.text_pieces.specs.Content as pieces
use Rattle.text_pieces.specs.Content.{Opens, read_keyless}
use Rattle.text_pieces.specs.Lent.{numbered_records}
use Rattle.text_pieces.specs.Tables.{ids_of}
use Rattle.design_tables.specs.Listings.{AreTablesOf, Listing}
use Rattle.edit_laws.proofs.PlanTexts.{tokens_read}
use Rattle.design_text.specs.DesignTexts.{IsDesignText}
use Rattle.design_text.specs.ToldStatements.{WereTold}

-- no statement was told
pub none_told : (names : List (List ℕ × Listing)) → AreTablesOf [] names → WereTold names false []
none_told names are = (are, λ e key some. omega arith)

has_records : (r : Result (List Record) fault.Fault) → IsOk r → (recs : List Record) × (r ≡ Ok recs)
has_records (Ok recs) h = (recs, refl)
has_records (Err f) h = absurd (cc)

pub opened : RecordsAreLocated def → (c : pieces.Content) (names : List (List ℕ × Listing)) (text : List ℕ) → pieces.text_of c ≡ text → IsOk (read_def text) → AreTablesOf (numbered_records c) names
    → IsDesignText (record { pieces = c; names = names })
opened law c names text is reads tables =
    let found = has_records (read_def text) reads in
    let own : read_def (pieces.text_of c) ≡ Ok found.0 = ap read_def is ∙ found.1 in
    record {
      design = found.0;
      reads = own;
      tables = subst (λ (rs : List Record). AreTablesOf (zip (ids_of c.table) rs) names) (law Top (pieces.text_of c) found.0 own) tables;
    }

-- a text that reads does so without its keys
reads_keyless : KeysAreApart def → (text : List ℕ) (design : List Record) → length text ≤ MAX_TEXT → read_def text ≡ Ok design → read_keyless text ≡ Ok design
unfolding read_text
reads_keyless keys text design fits reads =
    let few : nat_lt MAX_TEXT (length text) ≡ false = grind (arith, nat_tests) in
    rw few (keys Top [] (tokens text) design (tokens_read text design reads)).0

-- so its pieces have no fault
pub only_memory : KeysAreApart def → (text : List ℕ) (error : ReadError) → length text ≤ MAX_TEXT → IsOk (read_def text) → Opens text (Err error) → error ≡ Memory
only_memory keys text Memory fits reads opens = refl
only_memory keys text (Fault f) fits reads opens =
    let found = has_records (read_def text) reads in
    let e = sym (reads_keyless keys text found.0 fits found.1) ∙ opens in
    absurd (cc)
