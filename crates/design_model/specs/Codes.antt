-- The numbers that faults are printed by.
use Rattle.std.specs.Prelude.{ℕ}
use Rattle.design_model.specs.declared.fault.FaultCode.{FaultCode}
use Rattle.design_model.specs.declared.fault.FaultCode.TheVariants.{RefusedByte, OpenString, TooLong, NoForm, Unfinished, Number, NameTaken, Repeated, NoUnits}

-- what stands behind F
abbrev pub fault_number : FaultCode → ℕ
fault_number RefusedByte = 1
fault_number OpenString = 2
fault_number TooLong = 3
fault_number NoForm = 4
fault_number Unfinished = 5
fault_number Number = 6
fault_number NameTaken = 7
fault_number Repeated = 8
fault_number NoUnits = 9
