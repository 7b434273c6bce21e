-- What a script's run writes (own).
use Rattle.std.specs.Prelude.{◌≡◌, ℕ, ◌+◌, List, [], ◌∷◌, ◌++◌, length, flat_map, Option, Some, None, Result, Ok, Err, ℤ, pos, codes, decimal}
use Rattle.std.specs.Fmt.{signed_decimal}
use Rattle.design_model.specs.declared.number.NumFault.{NumFault}
use Rattle.design_model.specs.Geometry.{Rectangle}
use Rattle.edit_model.specs.declared.edit.Done.{Done}
use Rattle.edit_model.specs.declared.edit.EditCode.{EditCode}
use Rattle.edit_model.specs.declared.edit.EditCode.TheVariants.{Number, Range, UnknownName}
use Rattle.edit_model.specs.declared.edit.EditRefusal.{EditRefusal}
use Rattle.edit_model.specs.declared.edit.EditRefusal.TheVariants.{Refused, Unreadable}
use Rattle.design_model.specs.Codes.{fault_number}
use Rattle.edit_model.specs.Codes.{refusal_number}
use Rattle.statement_model.specs.Tokens.{Token}
use Rattle.def_grammar.specs.Records.{Record, read_def}
use Rattle.lef_grammar.specs.Library.{Library}
use Rattle.lef_grammar.specs.Measures.{place_among}
use Rattle.design_rules.specs.Boxes.{scale}
use Rattle.measure_rules.specs.Density.{cell_density, place_density}
use Rattle.measure_rules.specs.Lengths as measured
use Rattle.measure_rules.specs.Lengths.{net_length}
use Rattle.measure_rules.specs.NetBoxes.{net_box}
use Rattle.report_rules.specs.Diagnostics.{diagnostics}
use Rattle.def_grammar.specs.Located.{located, bytes_of, entry_at}
use Rattle.edit_rules.specs.Runs.{Answers}
use Rattle.edit_rules.specs.Script.{Question, report, shown, total_length, length_of, box_of, density_of, place_density_of, Order, nothing, make, refuse, ask, bad, script_lines, order_of}

-- the answer to an edit in line n
abbrev pub refusal_line : ℕ → EditRefusal → List ℕ
refusal_line n (Unreadable fault) =
    (((((((codes "refused " ++ decimal n) ++ codes " E") ++ decimal (refusal_number (Unreadable fault))) ++ codes " F") ++ decimal (fault_number fault.code)) ++ 32 ∷ []) ++ decimal fault.pos) ++ 10 ∷ []
refusal_line n refusal = (((codes "refused " ++ decimal n) ++ codes " E") ++ decimal (refusal_number refusal)) ++ 10 ∷ []

abbrev pub reply_line : ℕ → Result Done EditRefusal → List ℕ
reply_line n (Ok done) = (codes "ok " ++ decimal n) ++ 10 ∷ []
reply_line n (Err refusal) = refusal_line n refusal

abbrev pub bad_line : ℕ → List ℕ
bad_line n = (codes "bad " ++ decimal n) ++ 10 ∷ []

abbrev pub report_lines : List (List ℕ) → List ℕ
report_lines lines = ((flat_map (λ l. l ++ 10 ∷ []) lines ++ codes "diagnostics ") ++ decimal (length lines)) ++ 10 ∷ []

-- how many lines were answered `ok`, `refused` and `bad`
pub record Counts : Type 0 where
  pub accepted : ℕ
  pub refused : ℕ
  pub bad : ℕ

abbrev pub counted : Result Done EditRefusal → Counts → Counts
counted (Ok done) t = record t { accepted = t.accepted + 1 }
counted (Err refusal) t = record t { refused = t.refused + 1 }

-- the bytes of an entry
abbrev pub entry_line : List ℕ → Option (List Token × Record) → Result (List ℕ) EditCode
entry_line text None = Err UnknownName
entry_line text (Some x) = Ok (bytes_of text x.0 ++ 10 ∷ [])

-- `total v`
abbrev pub total_line : ℕ → List ℕ
total_line v = (codes "total " ++ decimal v) ++ 10 ∷ []

-- `length n v`
abbrev pub length_line : List ℕ → Option ℕ → Result (List ℕ) EditCode
length_line name None = Err UnknownName
length_line name (Some v) = Ok ((((codes "length " ++ name) ++ 32 ∷ []) ++ decimal v) ++ 10 ∷ [])

-- `box n x1 y1 x2 y2`, or `box n none` where a net has no shape
abbrev pub with_corners : List ℕ → Rectangle → List ℕ
with_corners text r = ((((((text ++ signed_decimal r.x1) ++ 32 ∷ []) ++ signed_decimal r.y1) ++ 32 ∷ []) ++ signed_decimal r.x2) ++ 32 ∷ []) ++ signed_decimal r.y2

abbrev pub with_box : List ℕ → Option Rectangle → List ℕ
with_box text None = text ++ codes "none"
with_box text (Some r) = with_corners text r

abbrev pub box_line : List ℕ → Option (Option Rectangle) → Result (List ℕ) EditCode
box_line name None = Err UnknownName
box_line name (Some box) = Ok (with_box ((codes "box " ++ name) ++ 32 ∷ []) box ++ 10 ∷ [])

-- `cell i j l v` and `pcell i j v`
abbrev pub cell_line : ℕ → ℕ → List ℕ → Option ℕ → Result (List ℕ) EditCode
cell_line i j layer None = Err Range
cell_line i j layer (Some v) = Ok ((((((((codes "cell " ++ decimal i) ++ 32 ∷ []) ++ decimal j) ++ 32 ∷ []) ++ layer) ++ 32 ∷ []) ++ decimal v) ++ 10 ∷ [])

abbrev pub place_cell_line : ℕ → ℕ → Option ℕ → Result (List ℕ) EditCode
place_cell_line i j None = Err Range
place_cell_line i j (Some v) = Ok ((((((codes "pcell " ++ decimal i) ++ 32 ∷ []) ++ decimal j) ++ 32 ∷ []) ++ decimal v) ++ 10 ∷ [])

-- what is answered for a cell by the numbers of its column and its row: an invalid number is refused, and one below 0 is outside
abbrev pub at_numbers : Result ℤ NumFault → Result ℤ NumFault → (ℕ → ℕ → Result (List ℕ) EditCode) → Result (List ℕ) EditCode
at_numbers (Ok (pos i)) (Ok (pos j)) answer = answer i j
at_numbers (Ok i) (Ok j) answer = Err Range
at_numbers (Err fault) j answer = Err Number
at_numbers (Ok i) (Err fault) answer = Err Number

-- a layer that isn't known comes before that
abbrev pub on_layer : Option ℕ → (ℕ → Result (List ℕ) EditCode) → Result (List ℕ) EditCode
on_layer None answer = Err UnknownName
on_layer (Some layer) answer = answer layer

-- what a question answers, or why it is refused
abbrev pub answer_to : Library → List ℕ → List Record → Question → Result (List ℕ) EditCode
answer_to library text design report = Ok (report_lines (diagnostics library design))
answer_to library text design (shown s name) = entry_line text (entry_at s name (located text design))
answer_to library text design total_length = Ok (total_line (measured.total_length library design (scale design)))
answer_to library text design (length_of name) = length_line name (net_length library design (scale design) name)
answer_to library text design (box_of name) = box_line name (net_box library design (scale design) name)
answer_to library text design (density_of i j name) = on_layer (place_among library.layers name) (λ layer. at_numbers i j (λ c r. cell_line c r name (cell_density library design c r layer)))
answer_to library text design (place_density_of i j) = at_numbers i j (λ c r. place_cell_line c r (place_density library design c r))

abbrev pub asked_line : ℕ → Result (List ℕ) EditCode → List ℕ
asked_line n (Ok bytes) = bytes
asked_line n (Err code) = refusal_line n (Refused code)

abbrev pub asked_counts : Result (List ℕ) EditCode → Counts → Counts
asked_counts (Ok bytes) t = t
asked_counts (Err code) t = record t { refused = t.refused + 1 }

-- line n, at a text and counts, may be answered by these bytes, and leave this text and these counts
abbrev pub LineAnswers : Library → ℕ → Order → List ℕ → Counts → List ℕ → List ℕ → Counts → Type 0
LineAnswers library n nothing old t bytes new u = (bytes ≡ []) × (new ≡ old) × (u ≡ t)
LineAnswers library n (make step) old t bytes new u =
    (reply : Result Done EditRefusal) × Answers library old step reply new × (bytes ≡ reply_line n reply) × (u ≡ counted reply t)
LineAnswers library n (refuse code) old t bytes new u = (bytes ≡ refusal_line n (Refused code)) × (new ≡ old) × (u ≡ record t { refused = t.refused + 1 })
LineAnswers library n (ask question) old t bytes new u =
    (design : List Record)
    × (read_def old ≡ Ok design)
    × (bytes ≡ asked_line n (answer_to library old design question))
    × (new ≡ old)
    × (u ≡ asked_counts (answer_to library old design question) t)
LineAnswers library n bad old t bytes new u = (bytes ≡ bad_line n) × (new ≡ old) × (u ≡ record t { bad = t.bad + 1 })

-- the lines from line n on may give these bytes, and leave this text and these counts
abbrev pub Output : Library → ℕ → List (List ℕ) → List ℕ → Counts → List ℕ → List ℕ → Counts → Type 0
Output library n [] old t bytes new u = (bytes ≡ []) × (new ≡ old) × (u ≡ t)
Output library n (line ∷ lines) old t bytes new u =
    (first rest mid : List ℕ) × (v : Counts) × (bytes ≡ first ++ rest) × LineAnswers library n (order_of line) old t first mid v × Output library (n + 1) lines mid v rest new u

abbrev pub no_lines : Counts
no_lines = record { accepted = 0; refused = 0; bad = 0 }

-- a whole run: the script's bytes, what its lines give, and the text in the end
abbrev pub IsRun : Library → List ℕ → List ℕ → List ℕ → List ℕ → Counts → Type 0
IsRun library text script bytes last counts = Output library 1 (script_lines script) text no_lines bytes last counts
