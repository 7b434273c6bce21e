-- Entries of nets that list a component, or a pin of the design.
use Rattle.std.specs.Prelude.{◌≡◌, ℕ, Bool, List, Option, filter, sum_by}
use Rattle.std.specs.List.{list_any}
use Rattle.std.specs.Option.{option_map}
use Rattle.design_model.specs.declared.identifier.StmtId.{StmtId}
use Rattle.statement_model.specs.Tokens.{Token}
use Rattle.def_grammar.specs.Records.{Record}
use Rattle.design_tables.specs.Lookups.{is_design_pin, is_of, lists}
use Rattle.design_text.specs.DesignTexts.{Content, statement_under}

-- As a set, these are the entries of a design that list a pin of the component of this name: each test that one of them passes, one of the others does.
abbrev pub HasListing : List ℕ → List Record → List Record → Type 0
HasListing component design found = (test : Record → Bool) → list_any test (filter (lists (is_of component)) design) ≡ list_any test found

-- so those that list the pin of the design of this name
abbrev pub HasPinListing : List ℕ → List Record → List Record → Type 0
HasPinListing pin design found = (test : Record → Bool) → list_any test (filter (lists (is_design_pin pin)) design) ≡ list_any test found

-- Those of a component are these entries, each once, in whatever order: each sum over them is the same.
abbrev pub ListsOnce : List ℕ → List Record → List Record → Type 0
ListsOnce component design found = (w : Record → ℕ) → sum_by w (filter (lists (is_of component)) design) ≡ sum_by w found

-- what the statement of a number says
abbrev pub said_under : Content → StmtId → Option Record
said_under c id = option_map (λ (x : List Token × Record). x.1) (statement_under c id)
