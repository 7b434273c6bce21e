-- What a clause of a component says of where it stands.
use Rattle.std.specs.Prelude.{List, Option, Some, None}
use Rattle.def_grammar.specs.Components.{Clause, placed, unplaced}
use Rattle.form_meanings.specs.Words.{◌>>=◌}
use Rattle.def_grammar.specs.Numbers.{int_of}
use Rattle.def_grammar.specs.Placing.{placing}
use Rattle.place_parts.specs.declared.standing.Standing.{Standing}
use Rattle.place_parts.specs.declared.standing.Standing.TheVariants.{At, Unplaced}

-- the numbers of a clause that places the component
abbrev pub standing_by : Clause → Option Standing
standing_by (placed status at o) = Some (At (record { status = status; orient = o; x = int_of at.x; y = int_of at.y }))
standing_by (unplaced rest) = Some Unplaced
standing_by _ = None

-- those of the clause of these that places it
abbrev pub standing_of : List Clause → Option Standing
standing_of clauses = placing clauses >>= standing_by
