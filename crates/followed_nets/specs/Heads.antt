-- Heads of nets: entries that list what a net's entries do, without wiring, as bytes that are read each time.
use Rattle.std.specs.Prelude.{◌≡◌, ℕ, true, List, Option, Some, Ok, flat_map}
use Rattle.design_model.specs.declared.mode.Mode.{Mode}
use Rattle.statement_model.specs.Reading.{read_at}
use Rattle.statement_model.specs.Tokens.{Lexed, left_from}
use Rattle.def_grammar.specs.Records.{Record, def}
use Rattle.def_grammar.specs.Terminals.{Terminal}
use Rattle.net_laws.specs.NetsTold.{is_of_net, net_of_record, terminals_in, terminals_of}

-- the name of a net, and in which mode its bytes are read
pub record Head : Type 0 where
  pub name : List ℕ
  pub mode : Mode
  pub bytes : List ℕ

-- the first statement of the bytes says this
pub record ReadsAs (h : Head) (r : Record) : Type 0 where
  pub after : Mode
  pub rest : Lexed
  pub reads : read_at def h.mode (left_from h.bytes 0) ≡ Ok (Some (r, after, rest))

-- it is an entry of the net of that name, which lists these terminals
pub record HeadLists (h : Head) (ts : List Terminal) : Type 0 where
  pub entry : Record
  pub reads : ReadsAs h entry
  pub of_net : is_of_net h.name entry ≡ true
  pub lists : terminals_of entry ≡ ts

-- the terminals are those that the net's entries list
abbrev pub IsHead : List Record → Head → Type 0
IsHead design h = HeadLists h (terminals_in design h.name)

-- the name is that of an entry, and the terminals are those of some entries
pub record IsHeadOf (r : Record) (all : List Record) (h : Head) : Type 0 where
  pub net_is : net_of_record r ≡ Some h.name
  pub head_lists : HeadLists h (flat_map terminals_of all)
