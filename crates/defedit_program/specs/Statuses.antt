-- How the program ends, and its exit statuses.
use denote.Ref.{Bor}
use Rattle.std.specs.Prelude.{ℕ, List, ◌+◌, ◌==◌, if◌then◌else◌}
use Rattle.clap.specs.declared.error.kind.ErrorKind.{ErrorKind}
use Rattle.clap.specs.declared.error.kind.ErrorKind.TheVariants.{OutOfMemory}
use Rattle.counted_devices.specs.declared.input.InputError.{InputError}
use Rattle.counted_devices.specs.declared.input.InputError.TheVariants as inputs
use Rattle.report_rules.specs.Output.{Counts}
use Rattle.edit_script.specs.declared.run.RunFault.{RunFault}
use Rattle.edit_script.specs.declared.run.RunFault.TheVariants as faults
use Rattle.defedit_program.specs.declared.outcome.Outcome.{Outcome}
use Rattle.defedit_program.specs.declared.outcome.Outcome.TheVariants.{Done, Refused, Usage, Fault, Device, Memory}
use Rattle.defedit_program.specs.declared.outcome.Stop.{Stop}
use Rattle.defedit_program.specs.declared.outcome.Stop.TheVariants as stops

abbrev pub status_of : Outcome → ℕ
status_of Done = 0
status_of Refused = 1
status_of Usage = 2
status_of Fault = 3
status_of Device = 4
status_of Memory = 5

-- how a run to its end ends the program: done where no line was refused or bad
abbrev pub whole_ends : Counts → Outcome
whole_ends t = if t.refused + t.bad == 0 then Done else Refused

-- how a run that stopped ends the program
abbrev pub run_ends : RunFault → Outcome
run_ends (faults.Lef file fault) = Fault
run_ends (faults.Def fault) = Fault
run_ends faults.Memory = Memory
run_ends faults.Read = Device
run_ends faults.Write = Device
run_ends faults.TooLong = Device
run_ends faults.Endless = Device

abbrev pub ends : Stop → Outcome
ends stops.NoText = Usage
ends stops.NoRandom = Device
ends (stops.CannotRead path) = Device
ends (stops.CannotWrite path) = Device
ends stops.WriteFailed = Device
ends stops.Memory = Memory
ends (stops.Run fault) = run_ends fault

-- why the program ends where a file isn't read
abbrev pub unreadable : Bor (List ℕ) → InputError → Stop
unreadable path inputs.Memory = stops.Memory
unreadable path inputs.Read = stops.CannotRead path
unreadable path inputs.TooLong = stops.CannotRead path
unreadable path inputs.Endless = stops.CannotRead path

-- how a command line that is no request ends the program
abbrev pub refused_ends : ErrorKind → Outcome
refused_ends OutOfMemory = Memory
refused_ends other = Usage
