-- Laws of lines on which two designs agree.
use Rattle.std.specs.Prelude.{◌≡◌, ℕ, Bool, false, List, ◌++◌, filter, flat_map, map}
use Rattle.std.specs.List.{AllByRecursion}
use Rattle.def_grammar.specs.Records.{Record}
use Rattle.design_rules.specs.CountLines.{count_lines}
use Rattle.lef_grammar.specs.Library.{Library}
use Rattle.entry_rules.specs.OffLayer.{ViaLayers, off_layer_lines_of}
use Rattle.entry_rules.specs.Unknown.{Known, known_by, unknown_lines_of}
use Rattle.entry_rules.specs.ViaLayers.{via_layers}
use Rattle.report_rules.specs.Diagnostics.{statement_lines}
use Rattle.line_laws.specs.Lines.{SameLines}
use Rattle.agreement_laws.specs.Agreement.{AgreeOn, all_shown, outline_of, references_of, refers_to, shown_but, vias_of}

abbrev pub SameNamesSameLines : Type 0
SameNamesSameLines = (a b : Known) (r : Record) → AllByRecursion (AgreeOn a b) (references_of r) → unknown_lines_of a r ≡ unknown_lines_of b r

abbrev pub SameViasSameLines : Type 0
SameViasSameLines = (a b : ViaLayers) (r : Record) → AllByRecursion (λ (via : List ℕ). a via ≡ b via) (vias_of r) → off_layer_lines_of a r ≡ off_layer_lines_of b r

abbrev pub SameStatementLines : Type 0
SameStatementLines = (library : Library) (design other : List Record) (r : Record)
    → AllByRecursion (AgreeOn (known_by library design) (known_by library other)) (references_of r)
    → AllByRecursion (λ (via : List ℕ). via_layers library design via ≡ via_layers library other via) (vias_of r)
    → statement_lines library design r ≡ statement_lines library other r

-- Two designs whose entries show the same have the same lines on each statement: an edit that changes nothing that others can see of
-- an entry leaves the lines on all others.
abbrev pub SameShownSameLines : Type 0
SameShownSameLines = (library : Library) (design other : List Record) (r : Record) → all_shown design ≡ all_shown other
    → statement_lines library design r ≡ statement_lines library other r

-- Where statements go out of a design and others come in, and its entries show the same, the lines on single statements follow: those
-- on what goes out go, and those on what comes in come. Both are told by the design before.
abbrev pub StatementLinesFollow : Type 0
StatementLinesFollow = (library : Library) (front out put behind : List Record) → let design = front ++ (out ++ behind) in let other = front ++ (put ++ behind) in
    all_shown design ≡ all_shown other
    → SameLines (flat_map (statement_lines library other) other ++ flat_map (statement_lines library design) out)
    (flat_map (statement_lines library design) design ++ flat_map (statement_lines library design) put)

-- Two designs whose entries show the same, but for the components of one name, have the same lines on each statement that doesn't name
-- that component.
abbrev pub SameButOneSameLines : Type 0
SameButOneSameLines = (library : Library) (design other : List Record) (component : List ℕ) (r : Record) → shown_but component design ≡ shown_but component other
    → refers_to component r ≡ false → statement_lines library design r ≡ statement_lines library other r

-- Where statements go out of such a design and others come in, the lines follow by these and by those that stay and name the component.
abbrev pub LinesFollowOneComponent : Type 0
LinesFollowOneComponent = (library : Library) (front out put behind : List Record) (component : List ℕ) → let design = front ++ (out ++ behind) in let other = front ++ (put ++ behind) in
    let named = filter (refers_to component) (front ++ behind) in
    shown_but component design ≡ shown_but component other
    → SameLines (flat_map (statement_lines library other) other ++ flat_map (statement_lines library design) (out ++ named))
    (flat_map (statement_lines library design) design ++ flat_map (statement_lines library other) (put ++ named))

-- By two such designs the lines on some statements differ on those alone that name the component, so at most on those that a test picks which lets none of
-- them out.
abbrev pub LinesFollowOneName : Type 0
LinesFollowOneName = (library : Library) (design other : List Record) (component : List ℕ) (picked : Record → Bool) (some : List Record)
    → shown_but component design ≡ shown_but component other → ((r : Record) → picked r ≡ false → refers_to component r ≡ false)
    → SameLines (flat_map (statement_lines library other) some ++ flat_map (statement_lines library design) (filter picked some))
    (flat_map (statement_lines library design) some ++ flat_map (statement_lines library other) (filter picked some))

-- The lines on the numbers in headers depend on the outline of a design alone: an entry in the place of another leaves them.
abbrev pub SameOutlineSameCounts : Type 0
SameOutlineSameCounts = (design other : List Record) → map outline_of design ≡ map outline_of other → count_lines design ≡ count_lines other
