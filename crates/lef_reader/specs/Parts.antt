-- Parts of statements of the program as those of the definitions, and which tokens they are.
use Rattle.std.specs.Prelude.{ℕ, Bool, true, List, Option, Some, None, if◌then◌else◌}
use Rattle.std.specs.Option.{option_map}
use Rattle.form_meanings.specs.Words.{Rest, is_name, is_place}
use Rattle.statement_model.specs.Form.{Form, spell, word}
use Rattle.statement_model.specs.Tokens as definitions
use Rattle.lef_grammar.specs.Extents.{Point, enclosed, bare, point, Corners, masked, unmasked, name, dec, extent, array_count, is_kept_word, is_distance, is_extent, is_array_count}
use Rattle.lefdef_tokens.specs.Places.{RunAt, StandsAt, behind, past}
use Rattle.lefdef_tokens.specs.Views.{rest_of, words_of}
use Rattle.lefdef_tokens.specs.declared.cursor.Cursor.{Cursor}
use Rattle.lefdef_tokens.specs.declared.token.Token.{Token}
use Rattle.lefdef_tokens.specs.declared.token_run.TokenRun.{TokenRun}
use Rattle.lef_reader.specs.declared.parts.WordKind.{WordKind}
use Rattle.lef_reader.specs.declared.parts.WordKind.TheVariants.{Name, Kept, Distance, Extent, ArrayCount}
use Rattle.lef_reader.specs.declared.point.Point as code_point
use Rattle.lef_reader.specs.declared.point.Corners as code_corners

-- the form of a word of a kind
abbrev pub of_kind : WordKind → Form (List ℕ)
of_kind Name = name
of_kind Kept = word is_kept_word
of_kind Distance = dec
of_kind Extent = extent
of_kind ArrayCount = array_count

-- which words may stand for one, and which of these are valid
abbrev pub may_be : WordKind → List ℕ → Bool
may_be Name = is_name
may_be Kept = is_kept_word
may_be _ = is_place

abbrev pub is_good : WordKind → List ℕ → Bool
is_good Distance = is_distance
is_good Extent = is_extent
is_good ArrayCount = is_array_count
is_good _ = λ w. true

-- a part and what is left after it, where the part is seen by a view
abbrev pub with_rest : {A B : Type 0} → (A → B) → A × Cursor → B × Rest
with_rest view x = (view x.0, rest_of x.1)

-- a word and those behind it
abbrev pub words_view : Token × TokenRun → List ℕ × List (List ℕ)
words_view x = (x.0.bytes.now, words_of x.1)

-- the first of these tokens, and a run behind it
abbrev pub WordsAt : List definitions.Token → Token × TokenRun → Type 0
WordsAt ps x = StandsAt ps x.0 × RunAt (past 1 ps) x.1

-- two words
abbrev pub pair_view : Token × Token → List ℕ × List ℕ
pair_view x = (x.0.bytes.now, x.1.bytes.now)

-- the first two of these tokens
abbrev pub PairAt : List definitions.Token → Token × Token → Type 0
PairAt ps x = StandsAt ps x.0 × StandsAt (past 1 ps) x.1

-- the first and the third of these tokens, with BY between them
abbrev pub SizeAt : List definitions.Token → Token × Token → Type 0
SizeAt ps x = StandsAt ps x.0 × StandsAt (past 2 ps) x.1

abbrev pub point_view : code_point.Point → Point
point_view p = if p.enclosed then enclosed p.x.bytes.now p.y.bytes.now else bare p.x.bytes.now p.y.bytes.now

-- the coordinates come first, or behind a parenthesis
abbrev pub coordinates_from : Bool → List definitions.Token → List definitions.Token
coordinates_from is_enclosed ps = if is_enclosed then past 1 ps else ps

-- a point is the first of these tokens
abbrev pub PointAt : List definitions.Token → code_point.Point → Type 0
PointAt ps p = PairAt (coordinates_from p.enclosed ps) (p.x, p.y)

abbrev pub two_points_view : code_point.Point × code_point.Point → Point × Point
two_points_view x = (point_view x.0, point_view x.1)

-- one point, and behind it the other
abbrev pub PointsAt : List definitions.Token → code_point.Point × code_point.Point → Type 0
PointsAt ps x = PointAt ps x.0 × PointAt (behind (spell point (point_view x.0)) ps) x.1

-- the word of a MASK and two points
abbrev pub masked_view : Token × (code_point.Point × code_point.Point) → List ℕ × (Point × Point)
masked_view x = (x.0.bytes.now, two_points_view x.1)

-- the word behind MASK, and then the points
abbrev pub MaskedAt : List definitions.Token → Token × (code_point.Point × code_point.Point) → Type 0
MaskedAt ps x = StandsAt (past 1 ps) x.0 × PointsAt (past 2 ps) x.1

abbrev pub corners_by : Option (List ℕ) → Point → Point → Corners
corners_by None a b = unmasked a b
corners_by (Some mask) a b = masked mask a b

abbrev pub corners_view : code_corners.Corners → Corners
corners_view c = corners_by (option_map (λ (t : Token). t.bytes.now) c.mask) (point_view c.from) (point_view c.to)

-- the points come first, or behind MASK and its word
abbrev pub CornersBy : Option Token → List definitions.Token → code_point.Point × code_point.Point → Type 0
CornersBy None ps x = PointsAt ps x
CornersBy (Some mask) ps x = MaskedAt ps (mask, x)

abbrev pub CornersAt : List definitions.Token → code_corners.Corners → Type 0
CornersAt ps c = CornersBy c.mask ps (c.from, c.to)
