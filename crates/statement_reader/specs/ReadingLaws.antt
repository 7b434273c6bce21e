-- Reading a whole text goes on from statement to statement.
use Rattle.std.specs.Prelude.{◌≡◌, ℕ, List, [], ◌∷◌, Option, Some, None, Result, Ok, Err, map}
use Rattle.design_model.specs.declared.fault.Fault.{Fault}
use Rattle.design_model.specs.declared.fault.FaultCode.{FaultCode}
use Rattle.statement_model.specs.Tokens.{Token, Lexed}
use Rattle.statement_model.specs.Boundaries.{statement_at}
use Rattle.statement_model.specs.Folds.{◌>>◌}
use Rattle.statement_model.specs.Grammar.{Key, Grammar}
use Rattle.statement_model.specs.Reading.{read_at, read_from, read_text, ended, repeats, with_key, fault_at, pos_of}
use Rattle.statement_reader.specs.Located.{located_at}

module _ {M R : Type 0} (g : Grammar M R) where
  -- a fault of the next statement is the fault
  abbrev pub FaultsStop : Type 0
  FaultsStop = (m : M) (seen : List Key) (l : Lexed) (f : Fault) → read_at g m l ≡ Err f → read_from g (m, seen) l ≡ Err f

  -- so is a key that stands already, where the statement begins
  abbrev pub RepeatsStop : Type 0
  RepeatsStop =
      (m after : M) (seen : List Key) (l left : Lexed) (ps : List Token) (rec : R) (code : FaultCode)
      → statement_at (g.ending m) l ≡ Ok (Some (ps, left))
      → read_at g m l ≡ Ok (Some (rec, after, left))
      → repeats seen (g.key rec) ≡ Some code
      → read_from g (m, seen) l ≡ Err (fault_at code (pos_of ps))

  -- any other statement gives its record, and then come those after it
  abbrev pub ReadingGoesOn : Type 0
  ReadingGoesOn =
      (m after : M) (seen : List Key) (l left : Lexed) (rec : R)
      → read_at g m l ≡ Ok (Some (rec, after, left))
      → repeats seen (g.key rec) ≡ None
      → read_from g (m, seen) l ≡ (read_from g (after, with_key (g.key rec) seen) left >> λ recs. Ok (rec ∷ recs))

  -- where no statement is left, the text ends: with no record, or with the fault of what it lacks
  abbrev pub ReadingEnds : Type 0
  ReadingEnds =
      (m : M) (seen : List Key) (l : Lexed) (n : ℕ)
      → l.end ≡ Ok n
      → read_at g m l ≡ Ok None
      → read_from g (m, seen) l ≡ ended g (m, seen) n (g.lacks seen)

  -- records that begin with what the next statement says, and go on with those of what is left; or none
  abbrev pub BeginsWith : List Key → List R → Result (Option (R × M × Lexed)) Fault → Type 0
  BeginsWith seen recs (Ok None) = recs ≡ []
  BeginsWith seen recs (Ok (Some x)) =
      (rest : List R)
      × (recs ≡ x.0 ∷ rest)
      × (repeats seen (g.key x.0) ≡ None)
      × (read_from g (x.1, with_key (g.key x.0) seen) x.2 ≡ Ok rest)
  BeginsWith seen recs (Err f) = ⊥

  -- what reads has its records from its statements
  abbrev pub RecordsAreRead : Type 0
  RecordsAreRead = (m : M) (seen : List Key) (l : Lexed) (recs : List R) → read_from g (m, seen) l ≡ Ok recs → BeginsWith seen recs (read_at g m l)

  -- the records of a text that reads are what its statements say
  abbrev pub RecordsAreLocated : Type 0
  RecordsAreLocated = (m : M) (text : List ℕ) (recs : List R) → read_text g m text ≡ Ok recs → map (λ s. s.1) (located_at g m text 0) ≡ recs
