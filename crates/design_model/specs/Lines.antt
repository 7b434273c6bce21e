-- Diagnostics as lines (own).
use Rattle.std.specs.Prelude.{◌≡◌, ℕ, List, [], ◌∷◌, ◌++◌, flat_map, ℤ, codes}
use Rattle.std.specs.Fmt.{signed_decimal}
use Rattle.design_model.specs.declared.diagnostic.DiagLine.{DiagLine}
use Rattle.design_model.specs.declared.diagnostic.DiagKind.{DiagKind}
use Rattle.design_model.specs.declared.diagnostic.DiagKind.TheVariants.{Count, Overlap, Unknown, ViaLayer, Unchecked, OffRow, OffSite, Flip, Outside, Blocked, Fence, Intruder, Short, RouteBlock, OpenNet, Unrouted, Floating}

-- the word that a line begins with
abbrev pub kind_word : DiagKind → List ℕ
kind_word Count = codes "count"
kind_word Overlap = codes "overlap"
kind_word Unknown = codes "unknown"
kind_word ViaLayer = codes "vialayer"
kind_word Unchecked = codes "unchecked"
kind_word OffRow = codes "offrow"
kind_word OffSite = codes "offsite"
kind_word Flip = codes "flip"
kind_word Outside = codes "outside"
kind_word Blocked = codes "blocked"
kind_word Fence = codes "fence"
kind_word Intruder = codes "intruder"
kind_word Short = codes "short"
kind_word RouteBlock = codes "routeblock"
kind_word OpenNet = codes "open"
kind_word Unrouted = codes "unrouted"
kind_word Floating = codes "floating"

-- all kinds
abbrev pub kinds : List DiagKind
kinds = Count ∷ Overlap ∷ Unknown ∷ ViaLayer ∷ Unchecked ∷ OffRow ∷ OffSite ∷ Flip ∷ Outside ∷ Blocked ∷ Fence ∷ Intruder ∷ Short ∷ RouteBlock ∷ OpenNet ∷ Unrouted ∷ Floating ∷ []

-- a line: its kind, its words and its numbers, parted by spaces
abbrev pub line_text : DiagKind → List (List ℕ) → List ℤ → List ℕ
line_text kind words nums = (kind_word kind ++ flat_map (λ w. 32 ∷ w) words) ++ flat_map (λ n. 32 ∷ signed_decimal n) nums

-- a text is a line of this kind
pub record IsLineOf (kind : DiagKind) (text : List ℕ) : Type 0 where
  pub words : List (List ℕ)
  pub nums : List ℤ
  pub is : text ≡ line_text kind words nums

-- a printed line is of the kind that it has
abbrev pub IsOfItsKind : {A : Type 0} → DiagLine A → Type 0
IsOfItsKind l = IsLineOf l.kind l.text
