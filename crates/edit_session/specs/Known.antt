-- Lines of a report that are known from one question to the next.
use Rattle.std.specs.Prelude.{◌≡◌, ℕ, List, Option, IfSome, IsSome, Ok}
use Rattle.design_model.specs.Order.{sorted_by_bytes}
use Rattle.def_grammar.specs.Records.{Record, read_def}
use Rattle.lef_grammar.specs.Library.{Library}
use Rattle.connection_rules.specs.NetLines.{net_lines}
use Rattle.design_rules.specs.Boxes.{scale}
use Rattle.net_checks.specs.Drawings.{IsDrawingOf}
use Rattle.kept_lines.specs.Kept.{Kept}
use Rattle.staying_laws.specs.Staying.{lines_on_places, lines_on_statements}
use Rattle.design_text.specs.DesignTexts.{Content, text_of}
use Rattle.design_text.specs.Exchanges.{AreExchanges, Exchanged, records_in}
use Rattle.reports.specs.Answers.{ReportsOn}
use Rattle.reports.specs.DrawnNets.{AreWithoutNets}
use Rattle.followed_measures.specs.FollowedMeasures.{HasMeasures}
use Rattle.followed_measures.specs.Told.{IsToldIn}
use Rattle.followed_measures.specs.ToldViews.{told_view}
use Rattle.followed_nets.specs.FollowedNets.{HasNets, Nets}
use Rattle.followed_nets.specs.Touched.{AreTouched, Touched}
use Rattle.followed_places.specs.Places.{AreOnPlaces, HasPlaces, Places, said}
use Rattle.followed_statements.specs.Following.{AreOnStatements}
use Rattle.followed_statements.specs.Telling.{AreStatementsTold}
use Rattle.design_model.specs.declared.identifier.StmtId.{StmtId}
use Rattle.edit_session.specs.declared.drawn_nets.DrawnNets.{DrawnNets}
use Rattle.edit_session.specs.declared.known_lines.KnownLines.{KnownLines}
use Rattle.edit_session.specs.declared.noted.FollowedLines.{FollowedLines}
use Rattle.edit_session.specs.declared.noted.Noted.{Noted}
use Rattle.edit_session.specs.declared.noted.Told.{Told}

-- lines that are kept are these, in the order of their bytes
abbrev pub AreKept : List (List ℕ) → Kept → Type 0
AreKept lines kept = kept.lines ≡ sorted_by_bytes lines

-- each part that is known, and what was measured, is that of a design
pub record AreKnown {A : Type 0} (library : Library) (design : List Record) (known : KnownLines A) : Type 0 where
  pub statements : IfSome known.statements (AreKept (lines_on_statements library design))
  pub places : IfSome known.places (AreKept (lines_on_places library design))
  pub nets : IfSome known.nets (AreKept (net_lines library design (scale design)))
  pub measures : IfSome known.measures (ReportsOn library design)

-- each is that of what a text reads as
abbrev pub AreKnownOf : {A : Type 0} → Library → List ℕ → KnownLines A → Type 0
AreKnownOf library text known = (design : List Record) → read_def text ≡ Ok design → AreKnown library design known

-- all lines are known
pub record AllKnown {A : Type 0} (known : KnownLines A) : Type 0 where
  pub statements : IsSome known.statements
  pub places : IsSome known.places
  pub nets : IsSome known.nets

-- nets with their shapes are those of a design, and so is what is measured of it beside them
pub record AreDrawn {A : Type 0} (library : Library) (design : List Record) (drawn : DrawnNets A) : Type 0 where
  pub nets : IsDrawingOf library design drawn.nets
  pub measures : IfSome drawn.measures (AreWithoutNets library design)

-- they are those of what a text reads as
abbrev pub AreDrawnOf : {A : Type 0} → Library → List ℕ → DrawnNets A → Type 0
AreDrawnOf library text drawn = (design : List Record) → read_def text ≡ Ok design → AreDrawn library design drawn

-- what is noted of a text's numbered statements, as far as it is
pub record HasNoted {A : Type 0} (library : Library) (records : List (StmtId × Record)) (n : Noted A) : Type 0 where
  pub places : IfSome n.places (HasPlaces library records)
  pub nets : IfSome n.nets (HasNets library records)
  pub measures : IfSome n.measures (HasMeasures library records)

-- what is told of a design before an edit, as far as it is
pub record AreTold {A : Type 0} (library : Library) (design : List Record) (t : Told A) : Type 0 where
  pub statements : IfSome t.statements (AreStatementsTold library design)
  pub nets : IfSome t.nets (AreTouched library design)
  pub measures : IfSome t.measures (λ m. IsToldIn library design (told_view m))

-- kept lines are those on the nets of a design, in the order of their bytes
abbrev pub AreOnNets : Library → List Record → Kept → Type 0
AreOnNets library design kept = kept.lines ≡ sorted_by_bytes (net_lines library design (scale design))

-- lines that followed an edit are those on a design
pub record HasFollowed {A : Type 0} (library : Library) (design : List Record) (f : FollowedLines A) : Type 0 where
  pub statements : IfSome f.statements (AreOnStatements library design)
  pub places : IfSome f.places (AreOnPlaces library design)
  pub nets : IfSome f.nets (AreOnNets library design)

-- A text that reads was edited by these exchanges of statements. What was noted of the components of the text before it, and the lines
-- that were known, are those of that text.
pub record Moves {A : Type 0} (library : Library) (old new : Content) (exchanges : List Exchanged) (noted : Option Places) (known : KnownLines A) : Type 0 where
  pub told : AreExchanges new.pieces.table.slots (records_in old) exchanges (records_in new)
  pub reads : read_def (text_of old) ≡ Ok (said (records_in old))
  pub had : IfSome noted (HasPlaces library (records_in old))
  pub knew : AreKnown library (said (records_in old)) known

-- The same of its nets, of which some were told.
pub record Touches {A : Type 0} (library : Library) (old new : Content) (exchanges : List Exchanged) (some : Option Touched) (noted : Option Nets) (known : KnownLines A) : Type 0 where
  pub told : AreExchanges new.pieces.table.slots (records_in old) exchanges (records_in new)
  pub touched : IfSome some (AreTouched library (said (records_in old)))
  pub had : IfSome noted (HasNets library (records_in old))
  pub knew : AreKnown library (said (records_in old)) known

-- And of all that is noted.
pub record Followed {A : Type 0} (library : Library) (old new : Content) (exchanges : List Exchanged) (before : Told A) (noted : Noted A) (known : KnownLines A) : Type 0 where
  pub told : AreExchanges new.pieces.table.slots (records_in old) exchanges (records_in new)
  pub reads : read_def (text_of old) ≡ Ok (said (records_in old))
  pub told_before : AreTold library (said (records_in old)) before
  pub had : HasNoted library (records_in old) noted
  pub knew : AreKnown library (said (records_in old)) known
