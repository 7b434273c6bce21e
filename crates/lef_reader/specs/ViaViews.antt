-- Statements of a block VIA: the program's as those of the definitions, and which tokens they are.
use Rattle.std.specs.Prelude.{ℕ, List}
use Rattle.std.proofs.Common.{inl, inr}
use Rattle.lef_grammar.specs.ViaBlock.{ViaRecord, ViaStage, in_header, without_layer, with_layer, ViaShape, ViaCuts, ViaMetals, end_via, via_word, shape_in_via, cuts_in_via, metals_in_via, kept_in_via}
use Rattle.statement_model.specs.Tokens.{Token}
use Rattle.lefdef_tokens.specs.Places.{RunAt, StandsAt, past}
use Rattle.lefdef_tokens.specs.Views.{words_of}
use Rattle.lef_reader.specs.Parts.{CornersAt, PairAt, WordsAt, corners_view}
use Rattle.lef_reader.specs.declared.via_block.ViaStage as code_stage
use Rattle.lef_reader.specs.declared.via_block.ViaStage.TheVariants as stages
use Rattle.lef_reader.specs.declared.via_block.ViaShape as code_shape
use Rattle.lef_reader.specs.declared.via_block.ViaShape.TheVariants as shapes
use Rattle.lef_reader.specs.declared.via_block.ViaCuts as code_cuts
use Rattle.lef_reader.specs.declared.via_block.ViaCuts.TheVariants as cuts
use Rattle.lef_reader.specs.declared.via_block.ViaMetals as code_metals
use Rattle.lef_reader.specs.declared.via_block.ViaMetals.TheVariants as metals
use Rattle.lef_reader.specs.declared.via_block.ViaLayers.{ViaLayers}
use Rattle.lef_reader.specs.declared.via_block.MetalDistances.{MetalDistances}
use Rattle.lef_reader.specs.declared.via_block.ViaStatement.{ViaStatement}
use Rattle.lef_reader.specs.declared.via_block.ViaStatement.TheVariants.{End, HeaderWord, Shape, Cuts, Metals, Kept}

abbrev pub stage_view : code_stage.ViaStage → ViaStage
stage_view stages.InHeader = in_header
stage_view stages.WithoutLayer = without_layer
stage_view stages.WithLayer = with_layer

abbrev pub shape_view : code_shape.ViaShape → ViaShape
shape_view (shapes.Layer name others) = inl (name.bytes.now, words_of others)
shape_view (shapes.Rect c) = inr (inl (corners_view c))
shape_view (shapes.Polygon others) = inr (inr (words_of others))

-- behind the statement's word
abbrev pub ShapeAt : List Token → code_shape.ViaShape → Type 0
ShapeAt ps (shapes.Layer name others) = WordsAt (past 1 ps) (name, others)
ShapeAt ps (shapes.Rect c) = CornersAt (past 1 ps) c
ShapeAt ps (shapes.Polygon others) = RunAt (past 1 ps) others

abbrev pub cuts_view : code_cuts.ViaCuts → ViaCuts
cuts_view (cuts.Rule name) = inl name.bytes.now
cuts_view (cuts.Size x y) = inr (inl (x.bytes.now, y.bytes.now))
cuts_view (cuts.Spacing x y) = inr (inr (inl (x.bytes.now, y.bytes.now)))
cuts_view (cuts.RowCol rows columns) = inr (inr (inr (rows.bytes.now, columns.bytes.now)))

-- behind the statement's word
abbrev pub CutsAt : List Token → code_cuts.ViaCuts → Type 0
CutsAt ps (cuts.Rule name) = StandsAt (past 1 ps) name
CutsAt ps (cuts.Size x y) = PairAt (past 1 ps) (x, y)
CutsAt ps (cuts.Spacing x y) = PairAt (past 1 ps) (x, y)
CutsAt ps (cuts.RowCol rows columns) = PairAt (past 1 ps) (rows, columns)

abbrev pub three_view : ViaLayers → List ℕ × (List ℕ × List ℕ)
three_view x = (x.bottom.bytes.now, (x.cut.bytes.now, x.top.bytes.now))

-- the first three of these tokens
abbrev pub ThreeAt : List Token → ViaLayers → Type 0
ThreeAt ps x = StandsAt ps x.bottom × StandsAt (past 1 ps) x.cut × StandsAt (past 2 ps) x.top

abbrev pub four_view : MetalDistances → List ℕ × (List ℕ × (List ℕ × List ℕ))
four_view x = (x.bottom_x.bytes.now, (x.bottom_y.bytes.now, (x.top_x.bytes.now, x.top_y.bytes.now)))

-- the first four of these tokens
abbrev pub FourAt : List Token → MetalDistances → Type 0
FourAt ps x = StandsAt ps x.bottom_x × StandsAt (past 1 ps) x.bottom_y × StandsAt (past 2 ps) x.top_x × StandsAt (past 3 ps) x.top_y

abbrev pub metals_view : code_metals.ViaMetals → ViaMetals
metals_view (metals.Layers x) = inl (three_view x)
metals_view (metals.Enclosure x) = inr (inl (four_view x))
metals_view (metals.Origin x y) = inr (inr (inl (x.bytes.now, y.bytes.now)))
metals_view (metals.Offset x) = inr (inr (inr (four_view x)))

-- behind the statement's word
abbrev pub MetalsAt : List Token → code_metals.ViaMetals → Type 0
MetalsAt ps (metals.Layers x) = ThreeAt (past 1 ps) x
MetalsAt ps (metals.Enclosure x) = FourAt (past 1 ps) x
MetalsAt ps (metals.Origin x y) = PairAt (past 1 ps) (x, y)
MetalsAt ps (metals.Offset x) = FourAt (past 1 ps) x

abbrev pub via_view : ViaStatement → ViaRecord
via_view End = end_via
via_view (HeaderWord w) = via_word w.bytes.now
via_view (Shape s) = shape_in_via (shape_view s)
via_view (Cuts c) = cuts_in_via (cuts_view c)
via_view (Metals m) = metals_in_via (metals_view m)
via_view (Kept w others) = kept_in_via w.bytes.now (words_of others)

-- a word of the header, or a statement from its word on
abbrev pub ViaAt : List Token → ViaStatement → Type 0
ViaAt ps End = Unit {0}
ViaAt ps (HeaderWord w) = StandsAt ps w
ViaAt ps (Shape s) = ShapeAt ps s
ViaAt ps (Cuts c) = CutsAt ps c
ViaAt ps (Metals m) = MetalsAt ps m
ViaAt ps (Kept w others) = WordsAt ps (w, others)
