-- What statements of several LEF blocks share: where they end, names, and numbers, points and rectangles in microns
-- (LEF/DEF 5.8 Language Reference, "LEF Syntax"; the limits are own).
use Rattle.std.specs.Prelude.{◌⊎◌, ℕ, ℤ, pos, Bool, true, false, not, ◌&&◌, ◌||◌, List, Result, Ok, Err, codes, if◌then◌else◌}
use Rattle.std.specs.Int.Signed.{le_z}
use Rattle.std.proofs.Common.{inl, inr}
use Rattle.design_model.specs.declared.number.NumFault.{NumFault}
use Rattle.design_model.specs.Units.{Distance, distance, whole}
use Rattle.form_meanings.specs.Words.{is_name, is_quoted, is_semicolon, is_word}
use Rattle.statement_model.specs.Boundaries.{Ending, alone, with_next, up_to}
use Rattle.statement_model.specs.Form.{Form, word, number, upto, tail, ◌▸◌, ◌◂◌, ◌⨟◌, on, or_else}

abbrev pub passes : (ℤ → Bool) → Result Distance NumFault → Bool
passes test (Ok d) = test d.value
passes test (Err e) = false

-- a distance
unfoldable pub is_distance : List ℕ → Bool
is_distance w = passes (λ v. true) (distance w)

-- a distance that isn't below 0: a width, a height or the space between two cuts
unfoldable pub is_extent : List ℕ → Bool
is_extent w = passes (λ v. le_z (pos 0) v) (distance w)

abbrev pub is_in_array : Result ℤ NumFault → Bool
is_in_array (Ok n) = le_z (pos 1) n && le_z n (pos 1000000)
is_in_array (Err e) = false

-- a number of rows or columns
unfoldable pub is_array_count : List ℕ → Bool
is_array_count w = is_in_array (whole w)

abbrev pub name : Form (List ℕ)
name = word is_name

abbrev pub dec : Form (List ℕ)
dec = number is_distance

abbrev pub extent : Form (List ℕ)
extent = number is_extent

abbrev pub array_count : Form (List ℕ)
array_count = number is_array_count

-- a word but ;
abbrev pub is_kept_word : List ℕ → Bool
is_kept_word w = not (is_quoted w || is_semicolon w)

-- in a block END takes the block's name, and any other statement runs to its ;
abbrev pub block_ending : List ℕ → Ending
block_ending w = if is_word (codes "END") w then with_next else (if is_semicolon w then alone else up_to (codes ";"))

-- in some blocks END stands alone
abbrev pub bare_block_ending : List ℕ → Ending
bare_block_ending w = if is_word (codes "END") w || is_semicolon w then alone else up_to (codes ";")

-- word any* ; where the word isn't listed for its block
abbrev pub kept_unless : (List ℕ → Bool) → Form (List ℕ × List (List ℕ))
kept_unless is_listed = word (λ w. is_kept_word w && not (is_listed w)) ⨟ tail

-- word any* ;
unfoldable pub kept_statement : Form (List ℕ × List (List ℕ))
kept_statement = kept_unless (λ w. false)

-- any* ;
unfoldable pub to_end : Form (List (List ℕ))
to_end = upto is_semicolon ◂ codes ";"

-- dec BY dec ; of a SIZE
unfoldable pub size_statement : Form (List ℕ × List ℕ)
size_statement = extent ⨟ codes "BY" ▸ extent ◂ codes ";"

-- a point, in parentheses or without
abbrev pub Point : Type 0
Point = (List ℕ × List ℕ) ⊎ (List ℕ × List ℕ)

pattern abbrev pub enclosed : List ℕ → List ℕ → Point
enclosed x y = inl (x, y)

pattern abbrev pub bare : List ℕ → List ℕ → Point
bare x y = inr (x, y)

-- ( dec dec ) or dec dec
unfoldable pub point : Form Point
point = on (codes "(") (dec ⨟ dec ◂ codes ")") (dec ⨟ dec)

-- two corners of a rectangle, with its MASK or without
abbrev pub Corners : Type 0
Corners = (List ℕ × (Point × Point)) ⊎ (Point × Point)

pattern abbrev pub masked : List ℕ → Point → Point → Corners
masked mask a b = inl (mask, (a, b))

pattern abbrev pub unmasked : Point → Point → Corners
unmasked a b = inr (a, b)

-- p p ;
unfoldable pub two_points : Form (Point × Point)
two_points = point ⨟ point ◂ codes ";"

-- [MASK word] p p ;
unfoldable pub corners : Form Corners
corners = or_else (codes "MASK" ▸ word is_kept_word ⨟ two_points) two_points

-- x and y as written
abbrev pub coordinates : Point → List ℕ × List ℕ
coordinates (enclosed x y) = (x, y)
coordinates (bare x y) = (x, y)
