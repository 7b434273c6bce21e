-- What preparing a change of a text in pieces says.
use Rattle.std.specs.Prelude.{◌≡◌, ◌<◌, ◌≤◌, ℕ, List, ◌++◌, length, map, Result, Ok, Err}
use Rattle.std.specs.List.{concat}
use Rattle.design_model.specs.declared.TheConstants.{MAX_TEXT}
use Rattle.design_model.specs.declared.fault.Fault as fault
use Rattle.design_model.specs.declared.fault.ReadError.{ReadError}
use Rattle.design_model.specs.declared.fault.ReadError.TheVariants as read
use Rattle.design_model.specs.declared.identifier.StmtId.{StmtId}
use Rattle.statement_model.specs.Cuts.{Cut}
use Rattle.text_pieces.specs.Changes.{IsBetween, Prepared}
use Rattle.text_pieces.specs.Chunks.{Replacement, AreOnce}
use Rattle.text_pieces.specs.Content.{Content, bytes_of, read_keyless, text_of}
use Rattle.text_pieces.specs.Lists.{AreLists, ids_left}
use Rattle.text_pieces.specs.Storing.{AreFree, StaysKept}
use Rattle.text_pieces.specs.Stretches.{cut_text}
use Rattle.text_pieces.specs.Tables.{Kept, Table, ids_before, kept_at}
use Rattle.text_pieces.specs.declared.prepared.PrepareError.{PrepareError}
use Rattle.text_pieces.specs.declared.prepared.PrepareError.TheVariants.{Fault, Memory, Range, TooLong}

-- the same statements stand under the same numbers, and each is kept as it was; more may be kept
pub record StandsStill (old new : Content) : Type 0 where
  pub chunks : new.table.chunks ≡ old.table.chunks
  pub kept : StaysKept old.table.slots new.table.slots
  pub tail : new.tail ≡ old.tail
  pub len : new.len ≡ old.len
  pub text : text_of new ≡ text_of old

-- pieces are kept under numbers that were free, and with these lists the chunks have them in the place of others
pub record IsPut (old new : Table) (k i out : ℕ) (ks : List Kept) (changes : List Replacement) (ids : List StmtId) : Type 0 where
  pub free : AreFree old.slots ids
  pub once : AreOnce ids
  pub own : map (kept_at new.slots) ids ≡ ks
  pub lists : AreLists new.slots new.chunks (ids_before old.chunks k i ++ (ids ++ ids_left old.chunks k i out)) changes

-- the bytes of the pieces that then stand
abbrev pub put_bytes : Table → ℕ → ℕ → ℕ → List Kept → List ℕ
put_bytes t k i out ks = concat (bytes_of (map (kept_at t.slots) (ids_before t.chunks k i) ++ (ks ++ map (kept_at t.slots) (ids_left t.chunks k i out))))

-- A change is prepared: it leads from the content to another one, whose text is what is to be made of the old one. The
-- numbers that come in were free, and are as many as statements were read.
pub record IsPrepared (old new : Content) (made : List ℕ) (p : Prepared) : Type 0 where
  pub other : Content
  pub between : IsBetween new p new other
  pub text : text_of other ≡ made
  pub free : AreFree old.table.slots p.put
  pub read : p.reads ≡ length p.put

-- what preparing answers: a change; or that the places are out of order or past the end, that the text would be too long, or
-- that it would have a fault; refused memory says nothing
abbrev pub Prepares : Content → Content → Cut → Result Prepared PrepareError → Type 0
Prepares old new cut (Ok p) = IsPrepared old new (cut_text old cut) p
Prepares old new cut (Err Range) = cut.lo ≤ cut.hi → length (text_of old) < cut.hi
Prepares old new cut (Err TooLong) = (cut.lo ≤ cut.hi) × (cut.hi ≤ length (text_of old)) × (MAX_TEXT < length (cut_text old cut))
Prepares old new cut (Err Fault) = (e : fault.Fault) × (read_keyless (cut_text old cut) ≡ Err e)
Prepares old new cut (Err Memory) = Unit {0}

-- what is not read is not prepared
abbrev pub unprepared : ReadError → PrepareError
unprepared (read.Fault f) = Fault
unprepared read.Memory = Memory
