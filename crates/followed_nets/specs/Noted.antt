-- What is noted of the statements of a text beside the shapes of its nets.
use Rattle.std.specs.Prelude.{◌≡◌, Bool, ◌||◌, List, Option, filter, map}
use Rattle.design_model.specs.declared.identifier.StmtId.{StmtId}
use Rattle.def_grammar.specs.Records.{Record}
use Rattle.net_laws.specs.NetsTold.{is_common}
use Rattle.net_laws.specs.OneNet.{is_of_pins}
use Rattle.text_pieces.specs.KeptRecords.{records_under}
use Rattle.text_pieces.specs.Tables.{Kept}

-- what numbered statements say
abbrev pub said : List (StmtId × Record) → List Record
said records = map (λ x. x.1) records

-- a statement is read whichever net is told: it is of what any net may be made of, or a pin of the design
abbrev pub tells_any : Record → Bool
tells_any r = is_common r || is_of_pins r

-- the numbers of those of some numbered statements
abbrev pub numbers_telling : List (StmtId × Record) → List StmtId
numbers_telling records = map (λ x. x.0) (filter (λ x. tells_any x.1) records)

-- these are the numbers of those that are read whichever net is told, in the order of the text
abbrev pub AreCommon : List (StmtId × Record) → List StmtId → Type 0
AreCommon records numbers = numbers ≡ numbers_telling records

-- those of the statements that are kept under some numbers
abbrev pub telling_under : List (Option Kept) → List StmtId → List StmtId
telling_under slots ids = numbers_telling (records_under slots ids)
