-- Kinds of whole numbers in the program, as tests of words.
use Rattle.std.specs.Prelude.{ℕ, Bool, List}
use Rattle.def_grammar.specs.Limits.{is_copies, is_cuts, is_lines}
use Rattle.def_grammar.specs.Numbers.{is_int, is_scale, is_count}
use Rattle.def_grammar.specs.Points.{is_coordinate}
use Rattle.def_parts.specs.declared.number.NumberKind.{NumberKind}
use Rattle.def_parts.specs.declared.number.NumberKind.TheVariants.{Int, Scale, Count, Copies, Cuts, Lines, Coordinate}

-- a word is a number of this kind
abbrev pub is_of_kind : NumberKind → List ℕ → Bool
is_of_kind Int = is_int
is_of_kind Scale = is_scale
is_of_kind Count = is_count
is_of_kind Copies = is_copies
is_of_kind Cuts = is_cuts
is_of_kind Lines = is_lines
is_of_kind Coordinate = is_coordinate
