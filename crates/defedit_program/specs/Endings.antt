-- A run as the program ends it.
use Rattle.std.specs.Prelude.{◌≡◌, ℕ, List, [], Some}
use Rattle.report_rules.specs.Output.{Counts}
use Rattle.design_text.specs.DesignTexts.{text_of}
use Rattle.edit_script.specs.declared.run.RunFault.{RunFault}
use Rattle.edit_script.specs.Ends.{Known, RunsWhole, StopsBy}
use Rattle.defedit_program.specs.Statuses.{whole_ends}
use Rattle.defedit_program.specs.declared.ending.Ended.{Ended}

-- a run to its end: the answers were written, the output file is to get the text in the end, and the counts say how the
-- program ends
abbrev pub EndsWhole : List (List ℕ) → List ℕ → Known → Known → Known → Ended → Type 0
EndsWhole lefs def input o o' e = (counts : Counts) × RunsWhole lefs def input o o' (Some []) (Some (text_of e.text)) counts × (e.outcome ≡ whole_ends counts)

-- a run that stops: the output file gets nothing
abbrev pub EndsBy : List (List ℕ) → List ℕ → Known → Known → Known → RunFault → Type 0
EndsBy lefs def input o o' fault = StopsBy lefs def input o o' (Some []) (Some []) fault
