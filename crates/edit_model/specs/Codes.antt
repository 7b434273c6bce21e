-- The numbers that refusals are printed by.
use Rattle.std.specs.Prelude.{ℕ}
use Rattle.edit_model.specs.declared.edit.EditCode.{EditCode}
use Rattle.edit_model.specs.declared.edit.EditCode.TheVariants.{UnknownName, Fixed, BadName, NameTaken, Number, NoSection, Connection, WiringText, Range, TooLong, WiringApart}
use Rattle.edit_model.specs.declared.edit.EditRefusal.{EditRefusal}
use Rattle.edit_model.specs.declared.edit.EditRefusal.TheVariants.{Refused, Unreadable, Memory}

-- what stands behind E
abbrev pub edit_number : EditCode → ℕ
edit_number UnknownName = 1
edit_number Fixed = 2
edit_number BadName = 3
edit_number NameTaken = 4
edit_number Number = 5
edit_number NoSection = 6
edit_number Connection = 7
edit_number WiringText = 8
edit_number Range = 9
edit_number TooLong = 11
edit_number WiringApart = 13

abbrev pub refusal_number : EditRefusal → ℕ
refusal_number (Refused code) = edit_number code
refusal_number (Unreadable fault) = 10
refusal_number Memory = 14
