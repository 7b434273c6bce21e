-- The entries of a design, by their nets.
use Rattle.std.specs.Prelude.{◌≡◌, ℕ, Bool, false, List, map, Option, Some, None}
use Rattle.std.specs.List.{filter_map}
use Rattle.form_meanings.specs.Words.{◌>>=◌}
use Rattle.lef_grammar.specs.Library.{Library}
use Rattle.def_grammar.specs.Records.{Entry, Record, entry_of}
use Rattle.def_reader.specs.EntryViews.{entry_view}
use Rattle.net_entries.specs.declared.lent_entry.LentEntry.{LentEntry}
use Rattle.connection_rules.specs.NetParts.{Wired, wired_of}
use Rattle.name_groups.specs.Groups.{Group, grouped, with_member}

abbrev pub entry_lent : LentEntry → Entry
entry_lent e = entry_view e.entry.now

abbrev pub wired_name : Wired → List ℕ
wired_name w = w.name

-- an entry that speaks of a net says that it is of power
abbrev pub says_power : Option Wired → Bool
says_power None = false
says_power (Some w) = w.is_power

-- an entry goes to those of its net, if it speaks of one
abbrev pub with_wired : Option Wired → List (Group Wired) → List (Group Wired)
with_wired None gs = gs
with_wired (Some w) gs = with_member w.name w gs

module _ (library : Library) (design : List Record) (u : ℕ) where
  -- what statements say of nets, by a library and a design
  abbrev pub wired_in : List Record → List Wired
  wired_in rs = filter_map (λ r. entry_of r >>= wired_of library design u) rs

  -- what the entries of a net say of it
  abbrev pub wired_group : Group LentEntry → Group Wired
  wired_group g = record { name = g.name; members = filter_map (wired_of library design u) (map entry_lent g.members) }

-- a table has the entries of statements by their nets
pub record HasEntries (groups : List (Group LentEntry)) (statements : List Record) : Type 0 where
  pub wired : (library : Library) (design : List Record) (u : ℕ) → map (wired_group library design u) groups ≡ grouped wired_name (wired_in library design u statements)
