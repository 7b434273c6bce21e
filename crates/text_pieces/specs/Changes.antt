-- Changes of a text in pieces that are prepared, and made.
use Rattle.std.specs.Prelude.{◌≡◌, ℕ, List, ◌++◌, length}
use Rattle.design_model.specs.declared.identifier.StmtId.{StmtId}
use Rattle.text_pieces.specs.Chunks.{Replacement, exchanged, ArePlaces}
use Rattle.text_pieces.specs.Content.{Content, IsText}
use Rattle.text_pieces.specs.Tables.{ids_of}

-- chunks that are to stand at places, what is to be behind the last statement, how many bytes all are to have, which numbers
-- go out and which come in for them, and how many statements were read for it
pub record Prepared : Type 0 where
  pub changes : List Replacement
  pub tail : List ℕ
  pub len : ℕ
  pub out : List StmtId
  pub put : List StmtId
  pub reads : ℕ

-- the content after a change, and the change that takes it back
abbrev pub changed : Content → Prepared → Content
changed c p = record { table = record { chunks = (exchanged c.table.chunks p.changes).0; slots = c.table.slots }; tail = p.tail; len = p.len }

abbrev pub back : Content → Prepared → Prepared
back c p = record { changes = (exchanged c.table.chunks p.changes).1; tail = c.tail; len = c.len; out = p.put; put = p.out; reads = p.reads }

-- the content is the one of two, and the change leads to the other; their numbers are the same but for those that go out and
-- those that come in
pub record IsBetween (c : Content) (p : Prepared) (base other : Content) : Type 0 where
  pub places : ArePlaces (length c.table.chunks) p.changes
  pub base_is : c ≡ base
  pub other_is : changed c p ≡ other
  pub text : IsText other
  pub front : List StmtId
  pub rest : List StmtId
  pub goes : ids_of base.table ≡ front ++ (p.out ++ rest)
  pub comes : ids_of other.table ≡ front ++ (p.put ++ rest)
