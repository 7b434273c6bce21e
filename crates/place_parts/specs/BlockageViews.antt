-- Entries of BLOCKAGES of the program as those of the definitions, and which tokens they are.
use Rattle.std.specs.Prelude.{List}
use Rattle.form_meanings.specs.Words.{is_plus}
use Rattle.form_meanings.specs.Meaning.{items, spell_all}
use Rattle.statement_model.specs.Form.{read, spell}
use Rattle.statement_model.specs.Tokens.{Token}
use Rattle.def_grammar.specs.Blockages.{Blockage, BlockageEntry, BlockageKind, BlockageShape, blockage_clause, blockage_kept, blockage_kind, blockage_shape, blocked_polygon, blocked_rectangle, blocks, blocks_layer, blocks_placement, is_shape}
use Rattle.def_grammar.specs.Clauses.{KeptClause}
use Rattle.lefdef_tokens.specs.Places.{RunAt, StandsAt, behind, past}
use Rattle.lefdef_tokens.specs.Views.{rest_of, words_of}
use Rattle.statement_reader.specs.PartViews.{PartsAt}
use Rattle.statement_reader.specs.declared.parts.Parts.{Parts}
use Rattle.def_parts.specs.ClauseViews.{KeptAt, kept_view}
use Rattle.def_parts.specs.PointViews.{CornersAt, PolygonAt, corners_view, polygon_view}
use Rattle.place_parts.specs.declared.blockages.BlockageClause.{BlockageClause}
use Rattle.place_parts.specs.declared.blockages.BlockageEntry as code
use Rattle.place_parts.specs.declared.blockages.BlockageEntry.TheVariants as entries
use Rattle.place_parts.specs.declared.blockages.BlockageKind as code_kind
use Rattle.place_parts.specs.declared.blockages.BlockageKind.TheVariants as kinds
use Rattle.place_parts.specs.declared.blockages.BlockageParts.{BlockageParts}
use Rattle.place_parts.specs.declared.blockages.BlockageShape as code_shape
use Rattle.place_parts.specs.declared.blockages.BlockageShape.TheVariants as shapes

abbrev pub blockage_kind_view : code_kind.BlockageKind → BlockageKind
blockage_kind_view (kinds.Layer name) = blocks_layer name.bytes.now
blockage_kind_view kinds.Placement = blocks_placement

abbrev pub blockage_clause_view : BlockageClause → KeptClause
blockage_clause_view c = kept_view c.kept

abbrev pub blockage_shape_view : code_shape.BlockageShape → BlockageShape
blockage_shape_view (shapes.Rectangle corners) = blocked_rectangle (corners_view corners)
blockage_shape_view (shapes.Polygon polygon) = blocked_polygon (polygon_view polygon)

-- the clauses that are left
abbrev pub blockage_clauses_of : Parts BlockageClause → List KeptClause
blockage_clauses_of parts = items parts.most is_plus (read blockage_clause) (rest_of parts.cursor)

-- the shapes that are left
abbrev pub blockage_shapes_of : Parts code_shape.BlockageShape → List BlockageShape
blockage_shapes_of parts = items parts.most is_shape (read blockage_shape) (rest_of parts.cursor)

abbrev pub blockage_view : BlockageParts → Blockage
blockage_view b = record {
  kind = blockage_kind_view b.kind;
  clauses = blockage_clauses_of b.clauses;
  first = blockage_shape_view b.first;
  others = blockage_shapes_of b.others;
}

abbrev pub blockage_entry_view : code.BlockageEntry → BlockageEntry
blockage_entry_view (entries.Blocks b) = blocks (blockage_view b)
blockage_entry_view (entries.Kept tokens) = blockage_kept (words_of tokens)

-- the name behind LAYER
abbrev pub BlockageKindAt : List Token → code_kind.BlockageKind → Type 0
BlockageKindAt ps (kinds.Layer name) = StandsAt (past 1 ps) name
BlockageKindAt ps kinds.Placement = Unit {0}

-- of these tokens, the first is a clause's +
abbrev pub BlockageClauseAt : List Token → BlockageClause → Type 0
BlockageClauseAt ps c = KeptAt (past 1 ps) c.kept

-- the points behind RECT or POLYGON
abbrev pub BlockageShapeAt : List Token → code_shape.BlockageShape → Type 0
BlockageShapeAt ps (shapes.Rectangle corners) = CornersAt (past 1 ps) corners
BlockageShapeAt ps (shapes.Polygon polygon) = PolygonAt (past 1 ps) polygon

-- what comes after the kind of a blockage, after its clauses, and after its first shape
abbrev pub past_kind : BlockageParts → List Token → List Token
past_kind b ps = behind (spell blockage_kind (blockage_kind_view b.kind)) ps

abbrev pub past_clauses : BlockageParts → List Token → List Token
past_clauses b ps = behind (spell_all (spell blockage_clause) (blockage_clauses_of b.clauses)) (past_kind b ps)

abbrev pub past_first : BlockageParts → List Token → List Token
past_first b ps = behind (spell blockage_shape (blockage_shape_view b.first)) (past_clauses b ps)

-- a blockage begins with the first of these tokens
abbrev pub BlockagePartsAt : List Token → BlockageParts → Type 0
BlockagePartsAt ps b = BlockageKindAt ps b.kind × PartsAt (past_kind b ps) b.clauses × BlockageShapeAt (past_clauses b ps) b.first × PartsAt (past_first b ps) b.others

-- an entry without its - begins with the first of these tokens
abbrev pub BlockageBodyAt : List Token → code.BlockageEntry → Type 0
BlockageBodyAt ps (entries.Blocks b) = BlockagePartsAt ps b
BlockageBodyAt ps (entries.Kept tokens) = RunAt ps tokens

-- of these tokens, the first is an entry's -
abbrev pub BlockageEntryAt : List Token → code.BlockageEntry → Type 0
BlockageEntryAt ps e = BlockageBodyAt (past 1 ps) e
