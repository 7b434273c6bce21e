-- Which statements go out of a text by an edit, and which come in.
use Rattle.std.specs.Prelude.{◌≡◌, ℕ, List, [], ◌∷◌, ◌++◌, Option}
use Rattle.design_model.specs.declared.identifier.StmtId.{StmtId}
use Rattle.def_grammar.specs.Records.{Record}
use Rattle.text_pieces.specs.KeptRecords.{HavePieces, records_under}
use Rattle.text_pieces.specs.Lasting.{Leads}
use Rattle.text_pieces.specs.Content as content
use Rattle.text_pieces.specs.Lent.{numbered_records}
use Rattle.text_pieces.specs.Tables.{Kept}
use Rattle.design_text.specs.declared.made.Exchange.{Exchange}
use Rattle.design_text.specs.declared.made.Steps.{Steps}
use Rattle.design_text.specs.declared.made.Steps.TheVariants.{Zero, One, Two}
use Rattle.design_text.specs.DesignTexts.{Content}
use Rattle.design_text.specs.Steps.{Both}

-- the statements under their numbers
abbrev pub records_in : Content → List (StmtId × Record)
records_in c = numbered_records c.pieces

-- the numbers of the statements that went out, and of those that came in for them
pub record Exchanged : Type 0 where
  pub went : List StmtId
  pub came : List StmtId

abbrev pub exchange_view : Exchange → Exchanged
exchange_view x = record { went = x.went.now; came = x.came.now }

-- what a change says that was made, and then leads back
abbrev pub exchanged_by : Both → Exchanged
exchanged_by change = record { went = change.text.put; came = change.text.out }

-- and what changes say that were made one after the other
abbrev pub exchanges_by : {A : Type 0} → Steps A → List Exchanged
exchanges_by Zero = []
exchanges_by (One step) = exchanged_by step ∷ []
exchanges_by (Two first second) = exchanged_by first ∷ exchanged_by second ∷ []

-- an edit that was made: how many statements were read for it, and which were exchanged, one exchange after the other
pub record MadeEdit : Type 0 where
  pub reads : ℕ
  pub exchanges : List Exchanged

-- Of numbered statements some went out and others came in for them. All of them are kept: those that went, those that came, and those
-- that stayed.
pub record IsExchange (slots : List (Option Kept)) (old new : List (StmtId × Record)) (x : Exchanged) : Type 0 where
  pub front : List StmtId
  pub rest : List StmtId
  pub old_is : old ≡ records_under slots (front ++ (x.went ++ rest))
  pub new_is : new ≡ records_under slots (front ++ (x.came ++ rest))
  pub in_front : HavePieces slots front
  pub behind : HavePieces slots rest
  pub went : HavePieces slots x.went
  pub came : HavePieces slots x.came

-- exchanges that were made one after the other
abbrev pub AreExchanges : List (Option Kept) → List (StmtId × Record) → List Exchanged → List (StmtId × Record) → Type 0
AreExchanges slots old [] new = new ≡ old
AreExchanges slots old (x ∷ xs) new = (between : List (StmtId × Record)) × IsExchange slots old between x × AreExchanges slots between xs new

-- a change leads to a text with these statements
pub record LeadsToRecords (c : Content) (change : Both) (records : List (StmtId × Record)) : Type 0 where
  pub other : content.Content
  pub leads : Leads c.pieces change.text other
  pub says : numbered_records other ≡ records
