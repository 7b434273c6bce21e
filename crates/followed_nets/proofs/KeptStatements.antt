-- What is kept under the numbers of those of a text's statements that pass a test.
use Rattle.std.proofs.Common.{◌≡◌, Bool, true, false, List, [], ◌∷◌, filter, map, Option, refl, ap, if◌then◌else◌}
use Rattle.design_model.specs.declared.identifier.StmtId.{StmtId}
use Rattle.def_grammar.specs.Records.{Record}
use Rattle.text_pieces.specs.KeptRecords.{HavePieces, record_of, records_under}
use Rattle.text_pieces.specs.Tables.{Kept, kept_at}

module _ (slots : List (Option Kept)) (test : Record → Bool) where
  abbrev those : List (StmtId × Record) → List (StmtId × Record)
  those records = filter (λ x. test x.1) records

  abbrev numbers : List (StmtId × Record) → List StmtId
  numbers records = map (λ x. x.0) (those records)

  abbrev read_under : List StmtId → List Record
  read_under ids = map (λ id. record_of (kept_at slots id)) ids

  piece_or_not : (b : Bool) (i : StmtId) (left : List (StmtId × Record)) → HavePieces slots (i ∷ []) → HavePieces slots (map (λ x. x.0) left)
      → HavePieces slots (map (λ x. x.0) (if b then (i, record_of (kept_at slots i)) ∷ left else left))
  piece_or_not true i left this later = (this.0, later)
  piece_or_not false i left this later = later

  have_pieces : (ids : List StmtId) → HavePieces slots ids → HavePieces slots (numbers (records_under slots ids))
  have_pieces [] p = tt
  have_pieces (i ∷ ids) p = piece_or_not (test (record_of (kept_at slots i))) i (those (records_under slots ids)) (p.0, tt) (have_pieces ids p.1)

  read_or_not : (b : Bool) (i : StmtId) (left : List (StmtId × Record)) (others : List Record) → read_under (map (λ x. x.0) left) ≡ others
      → read_under (map (λ x. x.0) (if b then (i, record_of (kept_at slots i)) ∷ left else left)) ≡ (if b then record_of (kept_at slots i) ∷ others else others)
  read_or_not true i left others later = ap (λ (rs : List Record). record_of (kept_at slots i) ∷ rs) later
  read_or_not false i left others later = later

  are_read : (ids : List StmtId) → read_under (numbers (records_under slots ids)) ≡ filter test (map (λ x. x.1) (records_under slots ids))
  are_read [] = refl
  are_read (i ∷ ids) =
      read_or_not (test (record_of (kept_at slots i))) i (those (records_under slots ids)) (filter test (map (λ x. x.1) (records_under slots ids))) (are_read ids)

  -- they are kept
  pub their_pieces : (records : List (StmtId × Record)) (ids : List StmtId) → records ≡ records_under slots ids → HavePieces slots ids → HavePieces slots (numbers records)
  their_pieces records ids is p = rw is (have_pieces ids p)

  -- and read as these statements
  pub their_records : (records : List (StmtId × Record)) (ids : List StmtId) → records ≡ records_under slots ids → read_under (numbers records) ≡ filter test (map (λ x. x.1) records)
  their_records records ids is = rw is (are_read ids)
