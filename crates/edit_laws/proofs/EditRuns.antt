-- Runs of edits, from outputs and over texts that read.
use Rattle.std.proofs.Common.{◌≡◌, ℕ, ◌+◌, Bool, true, false, List, [], ◌∷◌, ◌++◌, Result, Ok, Err, refl, sym, subst, if◌then◌else◌}
use Rattle.std.specs.Prelude.{IsOk}
use Rattle.edit_model.specs.declared.edit.Done.{Done}
use Rattle.edit_model.specs.declared.edit.EditCode.TheVariants as codes_of
use Rattle.edit_model.specs.declared.edit.EditRefusal.{EditRefusal}
use Rattle.edit_model.specs.declared.edit.EditRefusal.TheVariants.{Refused, Unreadable, Memory}
use Rattle.design_model.specs.declared.fault.Fault.{Fault}
use Rattle.def_grammar.specs.Records.{Record, read_def}
use Rattle.lef_grammar.specs.Library.{Library}
use Rattle.edit_rules.specs.Edits.{applied, is_long}
use Rattle.edit_rules.specs.Runs.{Step, design_edit, text_edit, Answers, Run, in_range, if_it_reads, new_text}
use Rattle.edit_rules.specs.Script.{Order, nothing, make, refuse, ask, bad, order_of}
use Rattle.report_rules.specs.Output.{Counts, LineAnswers}
use Rattle.edit_laws.specs.EditLaws.{EditsAreApplied}
use Rattle.edit_laws.specs.RunningLaws.{asked, edits_of, OutputsAreRuns, RunsKeepReading}

-- one line, and then a run of the edits of the others
line_runs : (library : Library) (n : ℕ) (order : Order) (old : List ℕ) (t : Counts) (bytes mid : List ℕ) (v : Counts) (steps : List Step) (replies : List (Result Done EditRefusal)) (new : List ℕ)
    → LineAnswers library n order old t bytes mid v → Run library mid steps replies new
    → (all : List (Result Done EditRefusal)) × Run library old (asked order ++ steps) all new
line_runs library n nothing old t bytes mid v steps replies new g r = (replies, subst (λ m. Run library m steps replies new) g.1 r)
line_runs library n (make step) old t bytes mid v steps replies new g r = (g.0 ∷ replies, (mid, g.1, r))
line_runs library n (refuse code) old t bytes mid v steps replies new g r = (replies, subst (λ m. Run library m steps replies new) g.1 r)
line_runs library n (ask question) old t bytes mid v steps replies new g r = (replies, subst (λ m. Run library m steps replies new) g.3 r)
line_runs library n bad old t bytes mid v steps replies new g r = (replies, subst (λ m. Run library m steps replies new) g.1 r)

pub outputs_are_runs : OutputsAreRuns
outputs_are_runs library n [] old t bytes new u o = ([], o.1)
outputs_are_runs library n (line ∷ lines) old t bytes new u o =
    let later = outputs_are_runs library (n + 1) lines o.2 o.3 o.1 new u o.6 in
    line_runs library n (order_of line) old t o.0 o.2 o.3 (edits_of lines) later.0 new o.5 later.1

is_read : (r : Result (List Record) Fault) (design : List Record) → r ≡ Ok design → IsOk r
is_read (Ok d) design e = refl
is_read (Err f) design e = absurd (cc)

-- a text edit that is accepted leaves a text that reads
new_reads : (new : List ℕ) (r : Result (List Record) Fault) (text : List ℕ) → if_it_reads new r ≡ Ok text → read_def new ≡ r → IsOk (read_def text)
new_reads new (Ok design) text e is = let same : new ≡ text = cc in subst (λ t. IsOk (read_def t)) same (is_read (read_def new) design is)
new_reads new (Err f) text e is = absurd (cc)

accepted_reads : (ranged long : Bool) (new text : List ℕ) → (if ranged then (if long then Err (Refused codes_of.TooLong) else if_it_reads new (read_def new)) else Err (Refused codes_of.Range)) ≡ Ok text → IsOk (read_def text)
accepted_reads false long new text e = absurd (cc)
accepted_reads true true new text e = absurd (cc)
accepted_reads true false new text e = new_reads new (read_def new) text e refl

kept : (old new : List ℕ) → new ≡ old → IsOk (read_def old) → IsOk (read_def new)
kept old new same reads = subst (λ t. IsOk (read_def t)) (sym same) reads

module _ (applied_so : EditsAreApplied) where
  answered : (library : Library) (old : List ℕ) (step : Step) (reply : Result Done EditRefusal) (new : List ℕ) → Answers library old step reply new → IsOk (read_def old) → IsOk (read_def new)
  answered library old (design_edit change) (Ok done) new a reads =
      let again = is_read (read_def _) (applied change a.1.0) (applied_so library old a.1.0 change a.0 a.1.1 a.1.2) in
      kept _ new a.2 again
  answered library old (design_edit change) (Err (Refused code)) new a reads = kept old new a.0 reads
  answered library old (design_edit change) (Err (Unreadable fault)) new a reads = absurd a
  answered library old (design_edit change) (Err Memory) new a reads = kept old new a.0 reads
  answered library old (text_edit a b put) (Ok done) new e reads = accepted_reads (in_range old a b) (is_long (new_text old a b put)) (new_text old a b put) new e
  answered library old (text_edit a b put) (Err (Refused code)) new e reads = kept old new e.0 reads
  answered library old (text_edit a b put) (Err (Unreadable fault)) new e reads = kept old new e.0 reads
  answered library old (text_edit a b put) (Err Memory) new e reads = kept old new e.0 reads

  pub runs_keep_reading : RunsKeepReading
  runs_keep_reading library old [] [] new r reads = kept old new r reads
  runs_keep_reading library old (s ∷ ss) (x ∷ xs) new r reads = runs_keep_reading library r.0 ss xs new r.2 (answered library old s x r.0 r.1 reads)
  runs_keep_reading library old [] (x ∷ xs) new r reads = absurd r
  runs_keep_reading library old (s ∷ ss) [] new r reads = absurd r
