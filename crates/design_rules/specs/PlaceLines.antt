-- Lines on components and what they stand in: rows of sites, the die, fences, and rectangles where placement is blocked (own).
use Rattle.std.specs.Prelude.{ℕ, Bool, true, false, not, ◌&&◌, ◌||◌, List, [], ◌∷◌, ◌++◌, filter, flat_map, Option, Some, None, codes, if◌then◌else◌}
use Rattle.std.specs.List.{list_any}
use Rattle.std.specs.Str.{bytes_eq}
use Rattle.design_model.specs.declared.diagnostic.DiagKind.{DiagKind}
use Rattle.design_model.specs.declared.diagnostic.DiagKind.TheVariants.{OffRow, OffSite, Flip, Outside, Blocked, Fence, Intruder}
use Rattle.design_model.specs.Geometry.{Rectangle, overlap}
use Rattle.design_model.specs.Lines.{line_text}
use Rattle.form_meanings.specs.Words.{is_word}
use Rattle.def_grammar.specs.Records.{Record}
use Rattle.lef_grammar.specs.Library.{Library}
use Rattle.place_rules.specs.Covering.{is_covered}
use Rattle.place_rules.specs.Patterns.{matches}
use Rattle.place_rules.specs.Sites.{holds, is_on_sites, is_row_orient}
use Rattle.entry_rules.specs.Unknown.{is_same}
use Rattle.design_rules.specs.Boxes.{Boxed, boxes}
use Rattle.design_model.specs.Families.{cross_lines}
use Rattle.design_rules.specs.Surroundings as parts
use Rattle.design_rules.specs.Surroundings.{Assignment, PlacedRow, Surroundings, keep_outs, surroundings}

-- a line that names a component alone, where something holds of it
abbrev pub line_if : Bool → DiagKind → Boxed → List (List ℕ)
line_if holds kind c = if holds then line_text kind (c.name ∷ []) [] ∷ [] else []

-- there are none of them
abbrev pub is_none : {A : Type 0} → List A → Bool
is_none [] = true
is_none _ = false

-- components of these classes belong into rows
abbrev pub is_row_class : Option (List ℕ) → Bool
is_row_class None = false
is_row_class (Some word) = is_word (codes "CORE") word || is_word (codes "ENDCAP") word

-- a name is one of these
abbrev pub is_one_of : List (List ℕ) → List ℕ → Bool
is_one_of names name = list_any (λ n. bytes_eq n name) names

-- a row of one of the sites of a component's macro holds its box
abbrev pub is_held_by : Boxed → PlacedRow → Bool
is_held_by c row = is_one_of c.sites row.site && holds row.sites c.box

-- of rows that hold a component, those on whose sites it is
abbrev pub is_at_site : Boxed → PlacedRow → Bool
is_at_site c row = is_on_sites row.sites c.box

-- `offrow c`, `offsite c` and `flip c`, by the rows that hold c and those of them on whose sites it is
abbrev pub lines_in_rows : Boxed → List PlacedRow → List PlacedRow → List (List ℕ)
lines_in_rows c holding on =
    line_if (is_row_class c.class && not (is_none c.sites) && is_none holding) OffRow c
    ++ line_if (not (is_none holding) && is_none on) OffSite c
    ++ line_if (not (is_none on) && not (list_any (λ row. is_row_orient row.orient c.orient) on)) Flip c

abbrev pub holding_rows : List PlacedRow → Boxed → List PlacedRow
holding_rows rows c = filter (is_held_by c) rows

abbrev pub row_lines : List PlacedRow → Boxed → List (List ℕ)
row_lines rows c = lines_in_rows c (holding_rows rows c) (filter (is_at_site c) (holding_rows rows c))

-- `outside c`, where the die is known
abbrev pub outside_lines : Option Rectangle → Boxed → List (List ℕ)
outside_lines None c = []
outside_lines (Some die) c = line_if (not (is_covered c.box (die ∷ []))) Outside c

-- a component is assigned to a region by itself, or by a group with a pattern of its name
abbrev pub is_assigned_by : Boxed → List ℕ → Assignment → Bool
is_assigned_by c region a = bytes_eq a.region region && list_any (λ p. matches p c.name) a.patterns

abbrev pub is_assigned : List Assignment → Boxed → List ℕ → Bool
is_assigned all c region = is_same region c.region || list_any (is_assigned_by c region) all

abbrev pub fence_line : DiagKind → Boxed → List ℕ → List (List ℕ)
fence_line kind c region = line_text kind (c.name ∷ region ∷ []) [] ∷ []

-- `fence c r`, where c is assigned to r and r doesn't cover its box; `intruder c r`, where it isn't, and overlaps r
abbrev pub fence_lines_of : List Assignment → Boxed → parts.Fence → List (List ℕ)
fence_lines_of all c f =
    if is_assigned all c f.name then (if is_covered c.box f.rectangles then [] else fence_line Fence c f.name)
    else (if list_any (overlap c.box) f.rectangles then fence_line Intruder c f.name else [])

abbrev pub fence_lines : Surroundings → Boxed → List (List ℕ)
fence_lines s c = flat_map (fence_lines_of s.assignments c) s.fences

-- the lines of a component in its surroundings
abbrev pub lines_in : Surroundings → Boxed → List (List ℕ)
lines_in s c = row_lines s.rows c ++ outside_lines s.die c ++ fence_lines s c

-- `blocked c X`, where the box of c overlaps a rectangle X that keeps components out
abbrev pub blocked_of : Boxed → Rectangle → List (List ℕ)
blocked_of c x = if overlap c.box x then line_text Blocked (c.name ∷ []) (x.x1 ∷ x.y1 ∷ x.x2 ∷ x.y2 ∷ []) ∷ [] else []

-- all lines on components in their surroundings, and those on what keeps them out
abbrev pub place_lines : Library → List Record → List (List ℕ)
place_lines library design = flat_map (lines_in (surroundings library design)) (boxes library design) ++ cross_lines blocked_of (boxes library design) (keep_outs design)
