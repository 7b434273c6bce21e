-- Laws of runs of edits.
use Rattle.std.specs.Prelude.{ℕ, List, [], ◌∷◌, Result, IsOk, flat_map}
use Rattle.edit_model.specs.declared.edit.Done.{Done}
use Rattle.edit_model.specs.declared.edit.EditRefusal.{EditRefusal}
use Rattle.def_grammar.specs.Records.{read_def}
use Rattle.lef_grammar.specs.Library.{Library}
use Rattle.edit_rules.specs.Runs.{Step, Run}
use Rattle.edit_rules.specs.Script.{Order, nothing, make, refuse, ask, bad, order_of}
use Rattle.report_rules.specs.Output.{Counts, Output}

-- the edit that a line asks for
abbrev pub asked : Order → List Step
asked nothing = []
asked (make step) = step ∷ []
asked (refuse code) = []
asked (ask question) = []
asked bad = []

-- the edits that lines ask for, in order
abbrev pub edits_of : List (List ℕ) → List Step
edits_of lines = flat_map (λ line. asked (order_of line)) lines

-- An output of lines tells of a run of the edits that they ask for, from the text before to the text after.
abbrev pub OutputsAreRuns : Type 0
OutputsAreRuns = (library : Library) (n : ℕ) (lines : List (List ℕ)) (old : List ℕ) (t : Counts) (bytes new : List ℕ) (u : Counts)
    → Output library n lines old t bytes new u
    → (replies : List (Result Done EditRefusal)) × Run library old (edits_of lines) replies new

-- After any run of edits of a text that reads, accepted or refused, the text reads.
abbrev pub RunsKeepReading : Type 0
RunsKeepReading = (library : Library) (old : List ℕ) (steps : List Step) (replies : List (Result Done EditRefusal)) (new : List ℕ)
    → Run library old steps replies new
    → IsOk (read_def old)
    → IsOk (read_def new)
