-- The plans of edits of the wiring of an entry that is found.
use Rattle.std.specs.Prelude.{◌≡◌, ℕ, ◌+◌, Bool, false, not, List, [], ◌∷◌, Option, Some, None, if◌then◌else◌}
use Rattle.edit_model.specs.declared.edit.EditCode.{EditCode}
use Rattle.edit_model.specs.declared.edit.EditCode.TheVariants.{Fixed, WiringText, WiringApart}
use Rattle.statement_model.specs.Tokens.{Token}
use Rattle.def_grammar.specs.Records.{Entry, Record}
use Rattle.lefdef_tokens.specs.Views.{pieces_of}
use Rattle.edit_rules.specs.NetEdits.{is_held, is_wiring, terminals_of}
use Rattle.edit_rules.specs.Plans.{Plan, StatementChange}
use Rattle.net_wiring.specs.WiringViews.{AreOf, Clauses, StandBehind, any_passes, is_barred, is_other, is_wired, size_before, wiring_on}
use Rattle.net_wiring.specs.declared.wiring_clauses.EntryClauses as code_clauses
use Rattle.def_splice.specs.Lying.{lying_tokens}
use Rattle.def_splice.specs.NetViews.{entry_with}
use Rattle.def_splice.specs.declared.lying.Lying.{Lying}

abbrev pub is_wired_seen : Option (List Token × Entry) → Bool
is_wired_seen None = false
is_wired_seen (Some x) = is_wired x.1

-- of the entry that was found, these are the clauses and the tokens
pub record IsWired (found : Option (List Token × Record)) (cs : code_clauses.EntryClauses) (x : Lying) : Type 0 where
  pub own : Entry
  pub is : Some (lying_tokens x, own) ≡ entry_with found
  pub clauses : AreOf own cs
  pub stand : StandBehind (pieces_of x.tokens) (terminals_of own) cs

abbrev pub FoundWired : Option (List Token × Record) → Option (code_clauses.EntryClauses × Lying) → Type 0
FoundWired found None = is_wired_seen (entry_with found) ≡ false
FoundWired found (Some x) = IsWired found x.0 x.1

-- The plans of an entry with these tokens, whose clauses stand behind so many of them.
abbrev pub put_text : Clauses → List ℕ → List ℕ
put_text xs text = if any_passes is_wiring xs then text else 32 ∷ text

abbrev pub wiring_change : ℕ → List ℕ → Clauses → StatementChange
wiring_change front put xs = record { before = front + size_before is_wiring xs; taken = size_before is_other (wiring_on xs); put = put; said = [] }

abbrev pub route_refusals : Clauses → Bool → List (Bool × EditCode)
route_refusals xs said = (any_passes is_held xs, Fixed) ∷ (not said, WiringText) ∷ (is_barred xs, WiringApart) ∷ []

abbrev pub unroute_refusals : Clauses → List (Bool × EditCode)
unroute_refusals xs = (any_passes is_held xs, Fixed) ∷ (is_barred xs, WiringApart) ∷ []

abbrev pub route_so : List Token → ℕ → List ℕ → Clauses → Bool → Plan
route_so ps front text xs said = record { refusals = route_refusals xs said; changes = (ps, wiring_change front (put_text xs text) xs) ∷ [] }

abbrev pub unroute_so : List Token → ℕ → Clauses → Plan
unroute_so ps front xs = record { refusals = unroute_refusals xs; changes = if any_passes is_wiring xs then (ps, wiring_change front [] xs) ∷ [] else [] }
