-- What doesn't stand in a text is let go.
use Rattle.std.specs.Prelude.{◌≡◌, ◌⊎◌, List, [], ◌∷◌, Option, None}
use Rattle.design_model.specs.declared.identifier.StmtId.{StmtId}
use Rattle.text_pieces.specs.Tables.{Kept, Stands, Table, ids_of, slot}

-- the same is kept under each of these numbers
abbrev pub AreSame : List (Option Kept) → List (Option Kept) → List StmtId → Type 0
AreSame old new [] = Unit {0}
AreSame old new (id ∷ ids) = (slot new id ≡ slot old id) × AreSame old new ids

-- the same numbers stand in the same chunks, and what is kept under each is the same
pub record KeepsStanding (old new : Table) : Type 0 where
  pub chunks : new.chunks ≡ old.chunks
  pub slots : AreSame old.slots new.slots (ids_of old)

-- nothing is kept under a number, unless it stands
abbrev pub IsLetGo : Table → StmtId → Type 0
IsLetGo t id = Stands id (ids_of t) ⊎ (slot t.slots id ≡ None)

abbrev pub AreLetGo : Table → List StmtId → Type 0
AreLetGo t [] = Unit {0}
AreLetGo t (id ∷ ids) = IsLetGo t id × AreLetGo t ids

-- where nothing is kept, nothing comes
abbrev pub StayFree : List (Option Kept) → List (Option Kept) → Type 0
StayFree old new = (id : StmtId) → slot old id ≡ None → slot new id ≡ None
