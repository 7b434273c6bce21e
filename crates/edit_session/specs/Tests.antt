-- How many pairs of rectangles are compared at most for an edit.
use Rattle.std.specs.Prelude.{◌≡◌, ◌+◌, ◌≤◌, ℕ, Bool, true, false, List, [], ◌∷◌, ◌++◌, length, count_by, sum_by, MatchOption, Option, Some, None, Ok}
use Rattle.std.specs.List.{list_any}
use Rattle.std.specs.Str.{bytes_eq}
use Rattle.design_model.specs.Geometry.{Rectangle}
use Rattle.def_grammar.specs.Records.{Record, read_def}
use Rattle.lef_grammar.specs.Library.{Library}
use Rattle.design_rules.specs.Boxes.{Boxed, boxes}
use Rattle.design_rules.specs.Surroundings.{keep_outs}
use Rattle.edit_rules.specs.Edits.{Change, change_of, of_component, of_net, of_section}
use Rattle.edit_rules.specs.SectionEdits.{add_blockage, add_component, remove_component}
use Rattle.net_laws.specs.NetChanges.{is_one_of}
use Rattle.net_laws.specs.NetExchanges.{finds}
use Rattle.net_laws.specs.NetsTold.{terminals_in}
use Rattle.shape_index.specs.Near.{are_near}
use Rattle.staying_laws.specs.PlaceStatements.{boxes_among}
use Rattle.followed_nets.specs.Listed.{AreApart, is_of_pin}
use Rattle.followed_nets.specs.Tests.{FewTests}
use Rattle.followed_nets.specs.Touched.{Touched, star_names}
use Rattle.edit_session.specs.declared.change.Change as session
use Rattle.edit_session.specs.declared.change.Change.TheVariants.{Design, Text}

-- what an edit is of: a net, a component, or a pin of the design, whose text alone is edited
pub data Subject : Type 0 where
  one_net : List ℕ → Subject
  one_component : List ℕ → Subject
  one_pin : List ℕ → Subject

abbrev pub subject_of : Change → Option Subject
subject_of (of_component name change) = Some (one_component name)
subject_of (of_net name change) = Some (one_net name)
subject_of (of_section (add_component name cell)) = Some (one_component name)
subject_of (of_section (remove_component name)) = Some (one_component name)
subject_of (of_section (add_blockage layer x1 y1 x2 y2)) = None

-- it touches a net of a design: it is that net, or lists that component, or lists that pin or is named by it
abbrev pub is_touched : List Record → Option Subject → List ℕ → Bool
is_touched design None name = false
is_touched design (Some (one_net net)) name = bytes_eq net name
is_touched design (Some (one_component c)) name = list_any (finds c) (terminals_in design name)
is_touched design (Some (one_pin p)) name = is_of_pin design p name

-- and each of some nets
abbrev pub TouchesEach : List Record → Option Subject → List (List ℕ) → Type 0
TouchesEach design subject nets = (name : List ℕ) → is_one_of nets name ≡ true → is_touched design subject name ≡ true

-- how many components of a design have their boxes near a rectangle
abbrev pub near_rectangle : Library → List Record → Rectangle → ℕ
near_rectangle library design r = count_by (λ (c : Boxed). are_near r c.box) (boxes library design)

-- how many rectangles where a design keeps components out are near one
abbrev pub near_keep_outs : List Record → Rectangle → ℕ
near_keep_outs design r = count_by (are_near r) (keep_outs design)

-- each component of a design among some statements, with each whose box is near its own, itself too, and with each rectangle near its box
-- that keeps components out; and each rectangle where they keep components out, with each component whose box is near it
abbrev pub near_boxes : Library → List Record → List Record → ℕ
near_boxes library design some =
    sum_by (λ (b : Boxed). near_rectangle library design b.box + near_keep_outs design b.box) (boxes_among library design some) + sum_by (near_rectangle library design) (keep_outs some)

-- statements that went out of a design, and those that came in for them
pub record Exchanged : Type 0 where
  pub went : List Record
  pub came : List Record

-- exchanges that were made one after the other, each of few statements, and how many pairs of boxes are near in all
abbrev pub AreNearIn : Library → List Record → List Exchanged → List Record → ℕ → Type 0
AreNearIn library old [] new pairs = (new ≡ old) × (pairs ≡ 0)
AreNearIn library old (x ∷ xs) new pairs =
    (front : List Record)
    × (behind : List Record)
    × (later : ℕ)
    × (old ≡ front ++ (x.went ++ behind))
    × (length x.went ≤ 256)
    × (length x.came ≤ 256)
    × (pairs ≡ near_boxes library old x.went + near_boxes library (front ++ (x.came ++ behind)) x.came + later)
    × AreNearIn library (front ++ (x.came ++ behind)) xs new later

-- so many pairs of boxes are near where the lines on components followed an edit of few exchanges; else none is compared
abbrev pub FewBoxes : Library → List Record → List Record → ℕ → Type 0
FewBoxes library old new tests =
    (pairs : ℕ) × (exchanges : Option (List Exchanged)) × MatchOption exchanges (pairs ≡ 0) (λ xs. (length xs ≤ 8) × AreNearIn library old xs new pairs) × (tests ≤ pairs)

-- an edit that touches these nets touches no others than it says
abbrev pub TouchesOnly : List Record → Option Subject → Touched → Type 0
TouchesOnly design subject t = TouchesEach design subject (t.names ++ star_names t.stars)

-- what a change is of: a text edit of whatever its first byte lies in
abbrev pub IsSubject : session.Change → Option Subject → Type 0
IsSubject (Design edit) subject = subject ≡ subject_of (change_of edit.now)
IsSubject (Text position) subject = Unit {0}

-- each of some nets is touched, none stands twice among them, and so many pairs of shapes are near, with those of rectangles where routing
-- is blocked that went or came
pub record FewShapes (library : Library) (old new : List Record) (subject : Option Subject) (tests : ℕ) : Type 0 where
  pub nets : List (List ℕ)
  pub apart : AreApart nets
  pub are_touched : TouchesEach old subject nets
  pub few : FewTests library old new nets tests

-- Shapes of nets that the edit touches are compared with shapes near them, as they were and as they are then; so are rectangles where
-- routing is blocked, boxes of components, and rectangles where placement is blocked, that go or come; and nothing else.
pub record TestsFew (library : Library) (old new : List Record) (subject : Option Subject) (tests : ℕ) : Type 0 where
  pub by_shapes : ℕ
  pub by_boxes : ℕ
  pub shapes : FewShapes library old new subject by_shapes
  pub boxes : FewBoxes library old new by_boxes
  pub few : tests ≤ by_shapes + by_boxes

-- so of what texts read as
abbrev pub TestsFewIn : Library → List ℕ → List ℕ → Option Subject → ℕ → Type 0
TestsFewIn library old new subject tests = (before : List Record) × (after : List Record) × (read_def old ≡ Ok before) × (read_def new ≡ Ok after) × TestsFew library before after subject tests
