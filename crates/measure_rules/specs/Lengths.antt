-- The lengths of nets, along the centres of their wires, without what these go past their ends (own).
use Rattle.std.specs.Prelude.{ℕ, Bool, List, filter, Option, Some, None, if◌then◌else◌}
use Rattle.std.specs.List.{list_any, sum_by}
use Rattle.std.specs.Str.{bytes_eq}
use Rattle.def_grammar.specs.Records.{Record}
use Rattle.lef_grammar.specs.Library.{Library}
use Rattle.wire_rules.specs.Paths.{Piece, segment}
use Rattle.connection_rules.specs.NetParts.{Wired, all_wired, is_named, net_names}

-- a segment has its length, on whatever layer; nothing else has one
abbrev pub piece_length : Piece → ℕ
piece_length (segment s length) = length
piece_length _ = 0

-- that of what an entry draws
abbrev pub wired_length : Wired → ℕ
wired_length w = sum_by piece_length w.pieces

module _ (library : Library) (design : List Record) (u : ℕ) where
  -- that of all entries of a name
  abbrev pub length_of : List ℕ → ℕ
  length_of name = sum_by wired_length (filter (is_named library design u name) (all_wired library design u))

  abbrev pub is_net : List ℕ → Bool
  is_net name = list_any (bytes_eq name) (net_names library design u)

  -- the length of the net of a name, where there is one
  abbrev pub net_length : List ℕ → Option ℕ
  net_length name = if is_net name then Some (length_of name) else None

  -- the lengths of all nets together
  abbrev pub total_length : ℕ
  total_length = sum_by length_of (net_names library design u)
