-- Lines that are kept in the order of their bytes (own).
use Rattle.std.specs.Prelude.{◌≡◌, ℕ, List, Bool}
use Rattle.std.specs.Ordering.{is_lt}
use Rattle.design_model.specs.declared.diagnostic.DiagLine.{DiagLine}
use Rattle.design_model.specs.Order.{byte_cmp, sorted_by_bytes, texts}
use Rattle.report_lines.specs.Kinds.{HaveTheirKinds}

-- the lines, and how many can stand there with no more memory
pub record Kept : Type 0 where
  pub lines : List (List ℕ)
  pub room : ℕ

-- lines are in the order of their bytes, and each is of the kind that it has
pub record AreInOrder {A : Type 0} (lines : List (DiagLine A)) : Type 0 where
  pub order : sorted_by_bytes (texts lines) ≡ texts lines
  pub kinds : HaveTheirKinds lines

-- a text comes before a line
abbrev pub is_below : List ℕ → List ℕ → Bool
is_below line text = is_lt (byte_cmp text line)
