-- Worked rows of the answers to edits as they are printed, by computing.
use Rattle.std.proofs.Common.{◌≡◌, [], ◌∷◌, Ok, Err, refl, codes, map}
use Rattle.std.specs.Fmt.{digits}
use Rattle.design_model.specs.declared.fault.FaultCode.TheVariants as faults
use Rattle.edit_model.specs.declared.edit.EditCode.TheVariants.{UnknownName, Fixed, BadName, NameTaken, Number, NoSection, Connection, WiringText, Range, TooLong, WiringApart}
use Rattle.edit_model.specs.declared.edit.EditRefusal.TheVariants.{Refused, Unreadable, Memory}
use Rattle.statement_model.specs.Reading.{fault_at}
use Rattle.report_rules.specs.Output.{reply_line}

-- each reason by its number
refused_lines : map (λ code. reply_line 7 (Err (Refused code))) (UnknownName ∷ Fixed ∷ BadName ∷ NameTaken ∷ Number ∷ NoSection ∷ Connection ∷ WiringText ∷ Range ∷ TooLong ∷ WiringApart ∷ [])
    ≡ codes "refused 7 E1\n" ∷ codes "refused 7 E2\n" ∷ codes "refused 7 E3\n" ∷ codes "refused 7 E4\n" ∷ codes "refused 7 E5\n" ∷ codes "refused 7 E6\n" ∷ codes "refused 7 E7\n"
    ∷ codes "refused 7 E8\n" ∷ codes "refused 7 E9\n" ∷ codes "refused 7 E11\n" ∷ codes "refused 7 E13\n" ∷ []
unfolding digits
refused_lines = refl

memory_line : reply_line 120 (Err Memory) ≡ codes "refused 120 E14\n"
unfolding digits
memory_line = refl

-- a text that would have a fault, with the fault's number and its place
fault_lines : map (λ code. reply_line 8 (Err (Unreadable (fault_at code 194)))) (faults.RefusedByte ∷ faults.OpenString ∷ faults.TooLong ∷ faults.NoForm ∷ faults.Unfinished ∷ faults.Number ∷ faults.NameTaken ∷ faults.Repeated ∷ faults.NoUnits ∷ [])
    ≡ codes "refused 8 E10 F1 194\n" ∷ codes "refused 8 E10 F2 194\n" ∷ codes "refused 8 E10 F3 194\n" ∷ codes "refused 8 E10 F4 194\n" ∷ codes "refused 8 E10 F5 194\n" ∷ codes "refused 8 E10 F6 194\n"
    ∷ codes "refused 8 E10 F7 194\n" ∷ codes "refused 8 E10 F8 194\n" ∷ codes "refused 8 E10 F9 194\n" ∷ []
unfolding digits
fault_lines = refl
