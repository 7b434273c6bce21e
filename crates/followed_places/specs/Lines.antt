-- Components of a text whose boxes are kept.
use Rattle.std.specs.Prelude.{◌≡◌, ℕ, List, ◌++◌, map, Option}
use Rattle.design_model.specs.declared.identifier.StmtId.{StmtId}
use Rattle.design_model.specs.Geometry.{Rectangle}
use Rattle.lef_grammar.specs.Library.{Library}
use Rattle.design_model.specs.Order.{sorted_by_bytes}
use Rattle.design_rules.specs.Boxes.{Boxed}
use Rattle.design_rules.specs.Surroundings.{Surroundings}
use Rattle.following_laws.specs.DesignLaws.{lines_of_components}
use Rattle.following_laws.specs.Following.{LinesFollow}
use Rattle.line_laws.specs.Lines.{SameThings}
use Rattle.text_pieces.specs.KeptRecords.{HavePieces, records_under}
use Rattle.text_pieces.specs.Tables.{Kept}
use Rattle.followed_places.specs.Places.{components_under, place_under}

-- boxes are those of the components among the statements that are kept under these numbers
pub record AreBoxesOf (library : Library) (u : ℕ) (slots : List (Option Kept)) (ids : List StmtId) (boxes : List (StmtId × Rectangle)) : Type 0 where
  pub kept : HavePieces slots ids
  pub boxes_are : SameThings boxes (map place_under (components_under library u (records_under slots ids)))

-- these components
abbrev pub boxed_under : Library → ℕ → List (Option Kept) → List StmtId → List Boxed
boxed_under library u slots ids = map (λ x. x.1) (components_under library u (records_under slots ids))

-- What is known when components, and rectangles that keep components out, go out of a text and others come in: which statements stay, that the
-- boxes that are kept are those of the components that go and of those that stay, and which lines follow those that are kept, whatever rectangles
-- keep components out then.
pub record Awaits (library : Library) (u : ℕ) (slots : List (Option Kept)) (stay : List StmtId) (s : Surroundings) (went came : List (StmtId × Boxed))
    (gone come boxes outs : List (StmtId × Rectangle)) (kept after : List (List ℕ)) : Type 0 where
  pub pieces : HavePieces slots stay
  pub boxes_are : SameThings boxes (map place_under went ++ map place_under (components_under library u (records_under slots stay)))
  pub before : List (List ℕ)
  pub kept_are : kept ≡ sorted_by_bytes before
  pub follow : (later : List (StmtId × Rectangle)) → SameThings (outs ++ come) (gone ++ later)
      → LinesFollow before after (lines_of_components s (map (λ x. x.1) went) (boxed_under library u slots stay) (map (λ x. x.1) outs) (map (λ x. x.1) gone))
      (lines_of_components s (map (λ x. x.1) came) (boxed_under library u slots stay) (map (λ x. x.1) later) (map (λ x. x.1) come))
