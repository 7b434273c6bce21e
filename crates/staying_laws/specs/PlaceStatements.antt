-- The lines on components, where statements go out of a design and others come in.
use Rattle.std.specs.Prelude.{◌≡◌, Bool, true, false, List, filter}
use Rattle.std.specs.List.{filter_map}
use Rattle.def_grammar.specs.Records as records
use Rattle.def_grammar.specs.Records.{Record, entry, top}
use Rattle.def_grammar.specs.Top.{floor, units}
use Rattle.lef_grammar.specs.Library.{Library}
use Rattle.design_rules.specs.Boxes.{Boxed, box_of, boxes, scale}
use Rattle.design_rules.specs.Surroundings.{keep_outs, surroundings}
use Rattle.following_laws.specs.DesignLaws.{lines_of_components}
use Rattle.following_laws.specs.Following.{Exchange, LinesFollow}
use Rattle.staying_laws.specs.Staying.{lines_on_places}

-- a statement of what stands round components: rows and the die, regions and groups; or of what all is measured by
abbrev pub is_surrounding : Record → Bool
is_surrounding (top (units n)) = true
is_surrounding (top (floor f)) = true
is_surrounding (entry (records.region r)) = true
is_surrounding (entry (records.group g)) = true
is_surrounding _ = false

-- such a statement, or a blockage, which may keep components out
abbrev pub surrounds_or_blocks : Record → Bool
surrounds_or_blocks (entry (records.blockage b)) = true
surrounds_or_blocks r = is_surrounding r

-- the components among statements that take part, measured as in a design
abbrev pub boxes_among : Library → List Record → List Record → List Boxed
boxes_among library design statements = filter_map (box_of library (scale design)) statements

-- What stands round components, and what keeps them out, is told by those statements alone.
pub record TellsSurroundings (library : Library) (design : List Record) : Type 0 where
  pub surroundings : surroundings library (filter surrounds_or_blocks design) ≡ surroundings library design
  pub keep_outs : keep_outs (filter surrounds_or_blocks design) ≡ keep_outs design
  pub scale : scale (filter surrounds_or_blocks design) ≡ scale design

abbrev pub SurroundingsAreTold : Type 0
SurroundingsAreTold = (library : Library) (design : List Record) → TellsSurroundings library design

-- Where the statements of what stands round components stay, it stays, and an exchange of statements is one of the components among them and
-- of the rectangles that keep components out. The lines on components follow it: by those on the components that go out, with one another
-- and with the rest, and on the rectangles that go out with the rest; and by those on what comes in.
pub record PlacesFollow (library : Library) (old new out put stay : List Record) : Type 0 where
  pub boxes : Exchange (boxes library old) (boxes library new) (boxes_among library old out) (boxes_among library old put) (boxes_among library old stay)
  pub lines : LinesFollow (lines_on_places library old) (lines_on_places library new)
      (lines_of_components (surroundings library old) (boxes_among library old out) (boxes_among library old stay) (keep_outs old) (keep_outs out))
      (lines_of_components (surroundings library old) (boxes_among library old put) (boxes_among library old stay) (keep_outs new) (keep_outs put))
  pub keep_outs : Exchange (keep_outs old) (keep_outs new) (keep_outs out) (keep_outs put) (keep_outs stay)
  pub surroundings : surroundings library old ≡ surroundings library new
  pub scale : scale old ≡ scale new

abbrev pub ComponentsAreExchanged : Type 0
ComponentsAreExchanged = (library : Library) (old new out put stay : List Record) → Exchange old new out put stay → filter is_surrounding old ≡ filter is_surrounding new
    → PlacesFollow library old new out put stay
