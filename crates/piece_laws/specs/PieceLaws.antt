-- Laws of pieces.
use Rattle.std.specs.Prelude.{◌≡◌, ◌≢◌, ◌≤◌, ℕ, ◌+◌, true, List, [], ◌++◌, length, drop, Some, None, Ok, Err}
use Rattle.std.specs.List.{concat, slice_range}
use Rattle.design_model.specs.declared.fault.Fault.{Fault}
use Rattle.design_model.specs.declared.fault.FaultCode.TheVariants.{Unfinished, OpenString}
use Rattle.statement_model.specs.Tokens.{Token, lex, left_from}
use Rattle.statement_model.specs.Tokens.Open.{between}
use Rattle.statement_model.specs.Boundaries.{statement_at}
use Rattle.statement_model.specs.Folds.{◌>>◌}
use Rattle.statement_model.specs.Grammar.{Grammar}
use Rattle.statement_model.specs.Reading.{read_at, read_from}
use Rattle.lefdef_tokens.specs.Laws.{BeginsApart}
use Rattle.lefdef_tokens.specs.TokenViews.{span_of}
use Rattle.piece_laws.specs.Pieces.{keyless, AreApart, IsPiece, AreChained, IsTail}

module _ {M R : Type 0} (g : Grammar M R) where
  -- A text of pieces, and then more that begins apart, is read, from any place on, as what the pieces say and then as the
  -- rest from where they lead to.
  abbrev pub PiecesAreRead : Type 0
  PiecesAreRead = (pos : ℕ) (m last : M) (ps : List (List ℕ)) (recs : List R) (rest : List ℕ)
      → AreChained g m ps recs last
      → AreApart ps rest
      → read_from (keyless g) (m, []) (lex pos between (concat ps ++ rest))
      ≡ (read_from (keyless g) (last, []) (lex (pos + length (concat ps)) between rest) >> λ later. Ok (recs ++ later))

  -- A statement that is read from a position on is a piece by itself, from that position to its last byte.
  abbrev pub StatementsArePieces : Type 0
  StatementsArePieces = (m after : M) (text : List ℕ) (pos start end : ℕ) (ps : List Token) (rec : R)
      → pos ≤ length text
      → statement_at (g.ending m) (left_from text pos) ≡ Ok (Some (ps, left_from text end))
      → read_at g m (left_from text pos) ≡ Ok (Some (rec, after, left_from text end))
      → span_of ps ≡ record { lo = start; hi = end }
      → IsPiece g m (slice_range text pos end) rec after

  -- A piece is read wherever it stands, where more follows that begins apart.
  abbrev pub PiecesAreFound : Type 0
  PiecesAreFound = (pos : ℕ) (m after : M) (p rest : List ℕ) (rec : R)
      → IsPiece g m p rec after
      → BeginsApart rest
      → read_at g m (lex pos between (p ++ rest)) ≡ Ok (Some (rec, after, lex (pos + length p) between rest))

  -- A fault of the next statement of some bytes, unless it is that they end before the statement does, is that of these
  -- bytes and then more that begins apart.
  abbrev pub FaultsStand : Type 0
  FaultsStand = (m : M) (pos : ℕ) (s t : List ℕ) (f : Fault)
      → BeginsApart t
      → read_at g m (lex pos between s) ≡ Err f
      → f.code ≢ Unfinished
      → f.code ≢ OpenString
      → read_at g m (lex pos between (s ++ t)) ≡ Err f

  -- After a statement that is read from a position on is white space or the end of the text.
  abbrev pub StatementsEndBeforeBlanks : Type 0
  StatementsEndBeforeBlanks = (m after : M) (text : List ℕ) (pos start end : ℕ) (ps : List Token) (rec : R)
      → statement_at (g.ending m) (left_from text pos) ≡ Ok (Some (ps, left_from text end))
      → read_at g m (left_from text pos) ≡ Ok (Some (rec, after, left_from text end))
      → span_of ps ≡ record { lo = start; hi = end }
      → BeginsApart (drop end text)

  -- Where no statement is left in bytes, wherever they stand, and a text may end, they are a tail.
  abbrev pub TailsAreFound : Type 0
  TailsAreFound = (pos : ℕ) (m : M) (bytes : List ℕ) → read_at g m (lex pos between bytes) ≡ Ok None → IsTail g m bytes

  -- A text may end with a tail.
  abbrev pub TailsMayEnd : Type 0
  TailsMayEnd = (m : M) (bytes : List ℕ) → IsTail g m bytes → g.may_end m ≡ true
