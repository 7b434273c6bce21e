-- How a run ends, and what it has written then. `o` and `d` are what the writers of the answers and of the text held
-- before, `o'` and `d'` what they hold after, where that is known.
use Rattle.std.specs.Prelude.{◌≡◌, ◌<◌, ◌≤◌, ◌+◌, ◌⊎◌, ℕ, List, [], ◌++◌, Option, IfSome, Result, Ok, Err, IsOk, length}
use Rattle.std.specs.Io.KnownBytes.{Appends}
use Rattle.counted_devices.specs.Counting.{one_more}
use Rattle.lef_grammar.specs.Library.{Library, library_of}
use Rattle.def_grammar.specs.Records.{read_def}
use Rattle.report_rules.specs.Output.{Counts, Output, IsRun, no_lines}
use Rattle.edit_script.specs.declared.run.RunFault.{RunFault}
use Rattle.edit_script.specs.declared.run.RunFault.TheVariants.{Lef, Def, Memory, Read, Write, TooLong, Endless}
use Rattle.edit_script.specs.declared.run.Stop.{Stop}
use Rattle.edit_script.specs.declared.run.Stop.TheVariants as stop

abbrev pub Known : Type 0
Known = Option (List ℕ)

-- what was written is an output of the lines, which leaves this text and these counts
abbrev pub WritesRun : Library → List ℕ → List (List ℕ) → Known → Known → List ℕ → Counts → Type 0
WritesRun library text lines o o' last counts = (bytes : List ℕ) × Output library 1 lines text no_lines bytes last counts × Appends o o' bytes

-- what was written is the first part of an output of the lines
abbrev pub WritesRunPart : Library → List ℕ → List (List ℕ) → Known → Known → Type 0
WritesRunPart library text lines o o' = (part rest last : List ℕ) × (counts : Counts) × Output library 1 lines text no_lines (part ++ rest) last counts × Appends o o' part

-- neither writer got a byte
pub record WritesNothing (o o' d d' : Known) : Type 0 where
  pub out : Appends o o' []
  pub def_out : Appends d d' []

-- the writers got an output of the script, and the text in the end
abbrev pub AnswersWhole : Library → List ℕ → List ℕ → Known → Known → Known → Known → Counts → Type 0
AnswersWhole library text script o o' d d' counts = (bytes last : List ℕ) × IsRun library text script bytes last counts × Appends o o' bytes × Appends d d' last

-- the first part of an output was written, and no text
abbrev pub AnswersSome : Library → List ℕ → List ℕ → Known → Known → Known → Known → Type 0
AnswersSome library text script o o' d d' = (part rest last : List ℕ) × (counts : Counts) × IsRun library text script (part ++ rest) last counts × Appends o o' part × Appends d d' []

-- what the two writers got, one after the other, is the first part of what they were to get: the text only after all
-- the answers
abbrev pub AnswersCut : Library → List ℕ → List ℕ → Known → Known → Known → Known → Type 0
AnswersCut library text script o o' d d' =
    (one two rest bytes last : List ℕ) × (counts : Counts) × IsRun library text script bytes last counts × (bytes ++ last ≡ (one ++ two) ++ rest) × ((two ≡ []) ⊎ (one ≡ bytes)) × Appends o o' one × Appends d d' two

-- the answers stop for want of memory, or since a writer failed
abbrev pub AnswersPart : Library → List ℕ → List ℕ → Known → Known → Known → Known → Stop → Type 0
AnswersPart library text script o o' d d' stop.Memory = AnswersSome library text script o o' d d'
AnswersPart library text script o o' d d' stop.Write = AnswersCut library text script o o' d d'

-- the script has these bytes, at most 16777216
pub record IsScript (input : Known) (script : List ℕ) : Type 0 where
  pub script_is : IfSome input (λ xs. xs ≡ script)
  pub script_fits : length script ≤ 16777216

-- a script isn't read: for want of memory, since it is longer, or by its reader
abbrev pub StopsUnread : Known → RunFault → Type 0
StopsUnread input TooLong = IfSome input (λ xs. 16777216 < length xs)
StopsUnread input Memory = Unit {0}
StopsUnread input Read = Unit {0}
StopsUnread input Endless = Unit {0}
StopsUnread input (Lef file fault) = ⊥
StopsUnread input (Def fault) = ⊥
StopsUnread input Write = ⊥

-- the DEF text reads, and so does the script
pub record HasRead (def : List ℕ) (input : Known) (script : List ℕ) : Type 0 where
  pub def_reads : IsOk (read_def def)
  pub is_script : IsScript input script

-- a run over a library to its end: the writers got an output of the script over the text, and nothing else
abbrev pub RunsOver : Library → List ℕ → Known → Known → Known → Known → Known → Counts → Type 0
RunsOver library def input o o' d d' counts = (script : List ℕ) × HasRead def input script × AnswersWhole library def script o o' d d' counts

-- one that stops: by the fault of the DEF text or by what it read of the script, each before a byte was written; or
-- later, for want of memory or since a writer failed
abbrev pub StopsOver : Library → List ℕ → Known → Known → Known → Known → Known → RunFault → Type 0
StopsOver library def input o o' d d' (Lef file fault) = ⊥
StopsOver library def input o o' d d' (Def fault) = (read_def def ≡ Err fault) × WritesNothing o o' d d'
StopsOver library def input o o' d d' TooLong = IsOk (read_def def) × StopsUnread input TooLong × WritesNothing o o' d d'
StopsOver library def input o o' d d' Read = IsOk (read_def def) × WritesNothing o o' d d'
StopsOver library def input o o' d d' Endless = IsOk (read_def def) × WritesNothing o o' d d'
StopsOver library def input o o' d d' Memory = WritesNothing o o' d d' ⊎ ((script : List ℕ) × HasRead def input script × AnswersSome library def script o o' d d')
StopsOver library def input o o' d d' Write = (script : List ℕ) × HasRead def input script × AnswersCut library def script o o' d d'

-- a run to its end: the LEF texts give a library, and it runs over that
abbrev pub RunsWhole : List (List ℕ) → List ℕ → Known → Known → Known → Known → Known → Counts → Type 0
RunsWhole lefs def input o o' d d' counts = (library : Library) × (library_of lefs ≡ Ok library) × RunsOver library def input o o' d d' counts

-- a run that stops over the library of the LEF texts
abbrev pub StopsLater : List (List ℕ) → List ℕ → Known → Known → Known → Known → Known → RunFault → Type 0
StopsLater lefs def input o o' d d' fault = (library : Library) × (library_of lefs ≡ Ok library) × StopsOver library def input o o' d d' fault

-- a run that stops: by the first LEF text with a fault, for want of memory before anything was written, or later
abbrev pub StopsBy : List (List ℕ) → List ℕ → Known → Known → Known → Known → Known → RunFault → Type 0
StopsBy lefs def input o o' d d' (Lef file fault) = (library_of lefs ≡ Err (record { file = file; fault = fault })) × WritesNothing o o' d d'
StopsBy lefs def input o o' d d' Memory = WritesNothing o o' d d' ⊎ StopsLater lefs def input o o' d d' Memory
StopsBy lefs def input o o' d d' (Def fault) = StopsLater lefs def input o o' d d' (Def fault)
StopsBy lefs def input o o' d d' TooLong = StopsLater lefs def input o o' d d' TooLong
StopsBy lefs def input o o' d d' Read = StopsLater lefs def input o o' d d' Read
StopsBy lefs def input o o' d d' Endless = StopsLater lefs def input o o' d d' Endless
StopsBy lefs def input o o' d d' Write = StopsLater lefs def input o o' d d' Write

-- the hard failures of the script's reader after a run, which answers `Read` at the first
abbrev pub hard_after_run : {T : Type 0} → Result T RunFault → ℕ → ℕ
hard_after_run (Err Read) n = one_more n
hard_after_run r n = n

-- a script's reader was called 33554432 times, where each call brings a byte or fails: a byte of the script where that is
-- known, and at most 16777216 of them where it isn't
abbrev pub TookAllTurns : Known → (failed failed' : ℕ) → Type 0
TookAllTurns input failed failed' = (33554432 + failed ≤ 16777216 + failed') × IfSome input (λ xs. 33554432 + failed ≤ length xs + failed')
