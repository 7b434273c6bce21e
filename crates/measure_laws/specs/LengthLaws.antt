-- Laws of the lengths of nets.
use Rattle.std.specs.Prelude.{◌≡◌, ◌≤◌, ◌<◌, ℕ, ◌^◌, List, Ok}
use Rattle.std.specs.List.{sum_by}
use Rattle.def_grammar.specs.Records.{Record, read_def}
use Rattle.lef_grammar.specs.Library.{Library}
use Rattle.connection_rules.specs.NetParts.{all_wired}
use Rattle.measure_rules.specs.Lengths.{wired_length, length_of, total_length}

-- The lengths of all nets together are those of all entries: each entry has one of the names, and each name stands once.
abbrev pub TotalIsOfAllEntries : Type 0
TotalIsOfAllEntries = (library : Library) (design : List Record) (u : ℕ) → total_length library design u ≡ sum_by wired_length (all_wired library design u)

-- The entries of a name are at most as long as all nets together.
abbrev pub NoneIsLonger : Type 0
NoneIsLonger = (library : Library) (design : List Record) (u : ℕ) (name : List ℕ) → length_of library design u name ≤ total_length library design u

-- The lengths of all nets of a text that reads fit 64 bits together.
abbrev pub LengthsFit : Type 0
LengthsFit = (library : Library) (text : List ℕ) (design : List Record) → read_def text ≡ Ok design → (u : ℕ) → total_length library design u < 2 ^ 64
