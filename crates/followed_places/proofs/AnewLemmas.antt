-- What is made of the components of a text chunk by chunk.
use Rattle.std.proofs.Common.{◌≡◌, ℕ, List, ◌++◌, Option, filter, flat_map, map, ap, ◌∙◌}
use Rattle.std.specs.List.{filter_map}
use Rattle.std.proofs.lemmas.Grind.{flat_map-append}
use Rattle.std.proofs.lemmas.List.{map-append}
use Rattle.std.proofs.lemmas.List.Elements.{filter_map-append}
use Rattle.design_model.specs.declared.identifier.StmtId.{StmtId}
use Rattle.def_grammar.specs.Records.{Record}
use Rattle.lef_grammar.specs.Library.{Library}
use Rattle.design_rules.specs.Boxes.{Boxed, box_of}
use Rattle.design_rules.specs.PlaceLines.{lines_in}
use Rattle.design_rules.specs.Surroundings.{Surroundings}
use Rattle.place_checks.specs.Views.{bare}
use Rattle.staying_laws.specs.PlaceStatements.{surrounds_or_blocks}
use Rattle.text_pieces.specs.KeptRecords.{records_under}
use Rattle.text_pieces.specs.Tables.{Kept}
use Rattle.design_text.proofs.ChunkWalks.{says}
use Rattle.followed_places.specs.Halves.{is_in}
use Rattle.followed_places.specs.declared.halves.Half.{Half}
use Rattle.followed_places.proofs.FollowedLemmas.{filter-append}

module _ (slots : List (Option Kept)) where
  -- the numbers of those of some statements that tell what stands round components
  abbrev pub numbers_of : List StmtId → List StmtId
  numbers_of ids = map (λ x. x.0) (filter (λ x. surrounds_or_blocks x.1) (records_under slots ids))

  pub numbers_parted : (a b : List StmtId) → numbers_of (a ++ b) ≡ numbers_of a ++ numbers_of b
  numbers_parted a b =
      ap (λ (rs : List (StmtId × Record)). map (λ x. x.0) (filter (λ x. surrounds_or_blocks x.1) rs)) (map-append (λ (id : StmtId). (id, says slots id)) a b)
      ∙ ap (map (λ x. x.0)) (filter-append (λ x. surrounds_or_blocks x.1) (records_under slots a) (records_under slots b))
      ∙ map-append (λ x. x.0) (filter (λ x. surrounds_or_blocks x.1) (records_under slots a)) (filter (λ x. surrounds_or_blocks x.1) (records_under slots b))

  module _ (library : Library) (u : ℕ) where
    -- the components of a half among some statements
    abbrev pub placed : Half → List StmtId → List Boxed
    placed half ids = filter (is_in half) (filter_map (box_of library u) (map (says slots) ids))

    placed_parted : (half : Half) (a b : List StmtId) → placed half (a ++ b) ≡ placed half a ++ placed half b
    placed_parted half a b =
        ap (λ (rs : List Record). filter (is_in half) (filter_map (box_of library u) rs)) (map-append (says slots) a b)
        ∙ ap (filter (is_in half)) (filter_map-append (box_of library u) (map (says slots) a) (map (says slots) b))
        ∙ filter-append (is_in half) (filter_map (box_of library u) (map (says slots) a)) (filter_map (box_of library u) (map (says slots) b))

    -- their lines, and what a sweep knows of them
    abbrev pub lines_of : Half → Surroundings → List StmtId → List (List ℕ)
    lines_of half s ids = flat_map (lines_in s) (placed half ids)

    pub lines_parted : (half : Half) (s : Surroundings) (a b : List StmtId) → lines_of half s (a ++ b) ≡ lines_of half s a ++ lines_of half s b
    lines_parted half s a b = ap (flat_map (lines_in s)) (placed_parted half a b) ∙ flat_map-append (lines_in s) (placed half a) (placed half b)

    abbrev pub boxes_of : Half → List StmtId → List Boxed
    boxes_of half ids = map bare (placed half ids)

    pub boxes_parted : (half : Half) (a b : List StmtId) → boxes_of half (a ++ b) ≡ boxes_of half a ++ boxes_of half b
    boxes_parted half a b = ap (map bare) (placed_parted half a b) ∙ map-append bare (placed half a) (placed half b)
