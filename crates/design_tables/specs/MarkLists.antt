-- Lists of marks of the program as those of the definitions.
use Rattle.std.specs.Prelude.{List, []}
use Rattle.design_tables.specs.declared.mark_list.MarkList.{MarkList}
use Rattle.design_tables.specs.declared.mark_list.MarkList.TheVariants.{Empty, Few, Several}
use Rattle.design_tables.specs.declared.role.Mark.{Mark}

abbrev pub marks_listed : {A : Type 0} → MarkList A → List Mark
marks_listed Empty = []
marks_listed (Few ms) = ms
marks_listed (Several v) = v.items
