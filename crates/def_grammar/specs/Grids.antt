-- TRACKS and GCELLGRID (LEF/DEF 5.8 Language Reference, "Tracks" and "GCell Grid").
use Rattle.std.specs.Prelude.{ℕ, Bool, List, [], ◌∷◌, codes, refl}
use Rattle.form_meanings.specs.Words.{is_semicolon}
use Rattle.form_meanings.specs.Meaning.{Seen}
use Rattle.statement_model.specs.Form.{Form, number, one_of, upto, ◌▸◌, ◌◂◌, ◌⨟◌, seen, limited}
use Rattle.def_grammar.specs.Limits.{is_size, is_lines, is_in_range}
use Rattle.def_grammar.specs.Parts.{int}

-- X or Y
pub data Axis : Type 0 where
  along_x : Axis
  along_y : Axis

unfoldable pub axis_word : Axis → List ℕ
axis_word along_x = codes "X"
axis_word along_y = codes "Y"

abbrev pub axes : List Axis
axes = along_x ∷ along_y ∷ []

-- routing tracks, which mean nothing: their axis, first place, number, space, and layers
pub record Tracks : Type 0 where
  pub axis : Axis
  pub start : List ℕ
  pub count : List ℕ
  pub step : List ℕ
  pub rest : List (List ℕ)

abbrev pub as_tracks : Seen (Axis × (List ℕ × (List ℕ × (List ℕ × List (List ℕ))))) Tracks
as_tracks = record {
  to = λ p. record { axis = p.0; start = p.1.0; count = p.1.1.0; step = p.1.1.1.0; rest = p.1.1.1.1 };
  from = λ t. (t.axis, (t.start, (t.count, (t.step, t.rest))));
  to_from = λ t. refl;
  from_to = λ p. refl;
}

-- X|Y int DO int STEP int any* ;, after TRACKS
unfoldable pub tracks_statement : Form Tracks
tracks_statement = seen as_tracks (one_of axis_word axes ⨟ int ⨟ codes "DO" ▸ int ⨟ codes "STEP" ▸ int ⨟ upto is_semicolon) ◂ codes ";"

-- where the lines of a grid stand: the first, their number, and their space
pub record GridLines : Type 0 where
  pub start : List ℕ
  pub count : List ℕ
  pub step : List ℕ

abbrev pub as_grid_lines : Seen (List ℕ × (List ℕ × List ℕ)) GridLines
as_grid_lines = record { to = λ p. record { start = p.0; count = p.1.0; step = p.1.1 }; from = λ g. (g.start, (g.count, g.step)); to_from = λ g. refl; from_to = λ p. refl }

-- the last line is within the range of numbers
abbrev pub is_within_range : GridLines → Bool
is_within_range g = is_in_range g.start g.count g.step

-- int DO int STEP int; where the last line is out of range, the number after DO is invalid
unfoldable pub grid_lines : Form GridLines
grid_lines = limited is_within_range 3 (seen as_grid_lines (int ⨟ codes "DO" ▸ number is_lines ⨟ codes "STEP" ▸ number is_size))

-- lines of the grid of an axis
pub record GcellGrid : Type 0 where
  pub axis : Axis
  pub lines : GridLines

abbrev pub as_gcell_grid : Seen (Axis × GridLines) GcellGrid
as_gcell_grid = record { to = λ p. record { axis = p.0; lines = p.1 }; from = λ g. (g.axis, g.lines); to_from = λ g. refl; from_to = λ p. refl }

-- X|Y int DO int STEP int ;, after GCELLGRID
unfoldable pub gcell_grid_statement : Form GcellGrid
gcell_grid_statement = seen as_gcell_grid (one_of axis_word axes ⨟ grid_lines) ◂ codes ";"
