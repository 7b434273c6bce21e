-- Marks of the program as those of the definitions.
use Rattle.std.specs.Prelude.{ℕ, List}
use Rattle.design_tables.specs.declared.marks.NameMark.{NameMark}
use Rattle.design_tables.specs.declared.role.Role.{Role}

abbrev pub name_mark_view : NameMark → List ℕ × Role
name_mark_view m = (m.name.now, m.role)
