-- Entries of nets that are looked up, and where their terminals stand.
use Rattle.std.specs.Prelude.{◌≡◌, ◌<◌, ◌+◌, ℕ, Bool, true, not, ◌&&◌, List, [], ◌∷◌, codes, drop, length, Option, Some, None, if◌then◌else◌}
use Rattle.std.specs.List.{filter_map, list_any}
use Rattle.form_meanings.specs.Words.{◌>>=◌, is_word}
use Rattle.statement_model.specs.Tokens.{Token}
use Rattle.design_model.specs.declared.mode.Section.TheVariants.{Pins}
use Rattle.def_grammar.specs.Components.{Component}
use Rattle.def_grammar.specs.Records.{Entry, Record, entry_of}
use Rattle.def_grammar.specs.Terminals.{Terminal}
use Rattle.def_reader.specs.EntryViews.{entry_view}
use Rattle.def_reader.specs.declared.entry.Entry as code
use Rattle.edit_model.specs.declared.edit.EditCode.{EditCode}
use Rattle.edit_model.specs.declared.edit.EditCode.TheVariants.{Connection, UnknownName}
use Rattle.entry_rules.specs.Unknown.{component_named, stands_in}
use Rattle.lef_grammar.specs.Library.{Library, Macro, macro_named}
use Rattle.edit_rules.specs.NetEdits.{before_terminal, has_pin, is_pin, is_terminal, lists, tokens_of_first, tokens_of_terminals}
use Rattle.def_splice.specs.LookupViews.{of_entry}
use Rattle.def_splice.specs.Lying.{lying_tokens}
use Rattle.def_splice.specs.declared.lying.Lying.{Lying}

-- an entry with its tokens
abbrev pub entry_seen : code.Entry × Lying → List Token × Entry
entry_seen x = (lying_tokens x.1, entry_view x.0)

abbrev pub entry_with : Option (List Token × Record) → Option (List Token × Entry)
entry_with found = found >>= λ (x : List Token × Record). entry_of x.1 >>= λ e. Some (x.0, e)

-- an entry that was found, where it lists a terminal
abbrev pub listing : List ℕ → List ℕ → Option (List Token × Record) → Option (List Token × Record)
listing c p None = None
listing c p (Some x) = if of_entry (lists c p) (entry_of x.1) then Some x else None

-- the macro of a component, where both are known
abbrev pub macro_of : Library → List Record → List ℕ → Option Macro
macro_of library design name = component_named design name >>= λ (d : Component). macro_named library d.cell

-- these names, if they are names, stand for a pin
abbrev pub names_pin : Library → List Record → List ℕ → List ℕ → Bool
names_pin library design c p = if is_word (codes "PIN") c then stands_in design Pins p else not (is_word (codes "VPIN") c) && has_pin p (macro_of library design c)

-- why a terminal isn't connected
abbrev pub connect_refusals : Library → List Record → List ℕ → List ℕ → List (Bool × EditCode)
connect_refusals library design c p = (not (is_pin library design c p), UnknownName) ∷ (list_any (lists c p) (filter_map entry_of design), Connection) ∷ []

-- how many tokens stand before the first terminal that is this one, and are its own
abbrev pub tokens_before : List ℕ → List ℕ → List Terminal → ℕ
tokens_before c p ts = tokens_of_terminals (before_terminal c p ts)

abbrev pub tokens_taken : List ℕ → List ℕ → List Terminal → ℕ
tokens_taken c p ts = tokens_of_first (drop (length (before_terminal c p ts)) ts)

-- of so many tokens that are left from the first terminal on, so many are left before the first that is this one, and behind it
pub record IsAround (c p : List ℕ) (ts : List Terminal) (all before behind : ℕ) : Type 0 where
  pub listed : list_any (is_terminal c p) ts ≡ true
  pub first : before + tokens_before c p ts ≡ all
  pub own : behind + tokens_taken c p ts ≡ before
  pub some : behind < before
