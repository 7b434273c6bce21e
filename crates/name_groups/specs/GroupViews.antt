-- What a table holds, as groups.
use Rattle.std.specs.declared.vec.Vec.{Vec}
use Rattle.name_keys.specs.declared.name.Name.{Name}
use Rattle.name_groups.specs.Groups.{Group}

-- a name of the table, and what stands there
abbrev pub group_view : {T A : Type 0} → Name × Vec T A → Group T
group_view e = record { name = e.0.bytes.now; members = e.1.items }
