-- What answers to questions say.
use Rattle.std.specs.Prelude.{◌≡◌, ℕ, List, Result, Ok, Err}
use Rattle.edit_model.specs.declared.edit.EditCode.{EditCode}
use Rattle.def_grammar.specs.Records.{Record, read_def}
use Rattle.report_rules.specs.Output.{Counts, asked_counts, asked_line}

-- what is answered for a place, or why there is none
abbrev pub at_place : Result (ℕ × ℕ) EditCode → (ℕ → ℕ → Result (List ℕ) EditCode) → Result (List ℕ) EditCode
at_place (Ok place) answer = answer place.0 place.1
at_place (Err code) answer = Err code

-- bytes and counts are those of what is asked in line n of what a text reads as
abbrev pub Asks : List ℕ → ℕ → (List Record → Result (List ℕ) EditCode) → List ℕ → Counts → Counts → Type 0
Asks text n outcome bytes t u = (design : List Record) × (read_def text ≡ Ok design) × (bytes ≡ asked_line n (outcome design)) × (u ≡ asked_counts (outcome design) t)
