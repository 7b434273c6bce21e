-- Splices of the program as cuts of the definitions.
use Rattle.std.specs.Prelude.{Bool, ◌≡◌, ◌≤◌, ◌-◌, ◌++◌, ℕ, true, false, List, [], ◌∷◌, codes, length, map, take, Option, Some, None, Result, Ok, Err}
use Rattle.std.specs.Option.{option_map, option_to_list}
use Rattle.edit_model.specs.declared.edit.EditCode.TheVariants.{Fixed, TooLong}
use Rattle.edit_model.specs.declared.edit.EditRefusal.{EditRefusal}
use Rattle.edit_model.specs.declared.edit.EditRefusal.TheVariants.{Refused, Unreadable, Memory}
use Rattle.edit_model.specs.declared.edit.Splice.{Splice}
use Rattle.statement_model.specs.Cuts.{Cut, end_of_all, with_cuts}
use Rattle.statement_model.specs.Reading.{pos_of}
use Rattle.statement_model.specs.Tokens.{Token}
use Rattle.def_grammar.specs.Components.{Clause, placed}
use Rattle.def_grammar.specs.Placing.{is_held}
use Rattle.lef_grammar.specs.Library.{Library}
use Rattle.edit_rules.specs.Edits.{Change}
use Rattle.edit_rules.specs.Plans.{Plan, cut_of, cuts_for, is_long, lowest, outcome_of, put_apart}
use Rattle.edit_rules.specs.Runs.{Makes, MayWantMemory, WantsMemory}

abbrev pub cut_view : {A : Type 0} → Splice A → Cut
cut_view s = record { lo = s.lo; hi = s.hi; put = s.put }

-- bytes and then others, one after the other
abbrev pub joined : List ℕ → List (List ℕ) → List ℕ
joined all [] = all
joined all (p ∷ ps) = joined (all ++ p) ps

-- the text with the splices made
abbrev pub made : {A : Type 0} → List (Splice A) → List ℕ → List ℕ
made splices text = with_cuts (map cut_view splices) text

-- the splices stand in order, from a place on, within a length
abbrev pub AreInOrder : {A : Type 0} → ℕ → List (Splice A) → ℕ → Type 0
AreInOrder at [] n = at ≤ n
AreInOrder at (s ∷ ss) n = (at ≤ s.lo) × (s.lo ≤ s.hi) × AreInOrder s.hi ss n

-- the cut that puts a clause in the place of these tokens, or at the end of an entry
abbrev pub clause_cut : List ℕ → List Token → Option (List Token) → List ℕ → Cut
clause_cut text entry (Some ps) put = put_apart text (pos_of ps) (end_of_all ps) put
clause_cut text entry None put = put_apart text (end_of_all (take (length entry - 1) entry)) (end_of_all (take (length entry - 1) entry)) (codes " + " ++ put)

-- the tokens of a clause that may be moved, or the refusal of one that holds its component
abbrev pub Moves : {C R : Type 0} → (C → Clause) → Option (C × R) → Result (Option R) EditRefusal → Type 0
Moves view placing (Ok tokens) = (is_held (option_map (λ p. view p.0) placing) ≡ false) × (tokens ≡ option_map (λ p. p.1) placing)
Moves view placing (Err refusal) = (is_held (option_map (λ p. view p.0) placing) ≡ true) × (refusal ≡ Refused Fixed)

-- the splices are these cuts of a text, which isn't too long with them made; or it is
abbrev pub AreCuts : {A : Type 0} → List ℕ → List Cut → Result (List (Splice A)) EditRefusal → Type 0
AreCuts text cuts (Ok ss) = (map cut_view ss ≡ cuts) × (is_long (with_cuts cuts text) ≡ false)
AreCuts text cuts (Err (Refused code)) = (code ≡ TooLong) × (is_long (with_cuts cuts text) ≡ true)
AreCuts text cuts (Err (Unreadable fault)) = ⊥
AreCuts text cuts (Err Memory) = Unit {0}

-- the splice is the one cut of a plan, which may make none and isn't refused for a reason of its own; or it is refused so
abbrev pub MakesOne : {A : Type 0} → List ℕ → Plan → Result (Option (Splice A)) EditRefusal → Type 0
MakesOne text plan (Ok splice) = (lowest plan.refusals ≡ None) × (cuts_for text plan.changes ≡ option_to_list (option_map cut_view splice))
MakesOne text plan (Err (Refused code)) = lowest plan.refusals ≡ Some code
MakesOne text plan (Err (Unreadable fault)) = ⊥
MakesOne text plan (Err Memory) = lowest plan.refusals ≡ None

-- a splice, if there is one, lies within a length
abbrev pub IsWithin : {A : Type 0} → ℕ → Splice A → Type 0
IsWithin n s = (s.lo ≤ s.hi) × (s.hi ≤ n)

-- the splices are the cuts of a plan for a text, or the plan is refused so
abbrev pub FollowsAll : {A : Type 0} → List ℕ → Plan → Result (List (Splice A)) EditRefusal → Type 0
FollowsAll text plan (Ok ss) = outcome_of text plan ≡ Ok (map cut_view ss)
FollowsAll text plan (Err (Refused code)) = outcome_of text plan ≡ Err code
FollowsAll text plan (Err (Unreadable fault)) = ⊥
FollowsAll text plan (Err Memory) = MayWantMemory (outcome_of text plan)

-- the cut of a change of a statement: after so many of its tokens, so many are taken, and bytes are put there
abbrev pub change_cut : List ℕ → List Token → ℕ → ℕ → List ℕ → Cut
change_cut text ps before taken put = cut_of text ps (record { before = before; taken = taken; put = put; said = [] })

-- the splices are the cuts of an edit of a text that reads, or the edit is refused so
abbrev pub MakesSplices : {A : Type 0} → Library → List ℕ → Change → Result (List (Splice A)) EditRefusal → Type 0
MakesSplices library text change (Ok ss) = Makes library text change (Ok (map cut_view ss))
MakesSplices library text change (Err (Refused code)) = Makes library text change (Err code)
MakesSplices library text change (Err (Unreadable fault)) = ⊥
MakesSplices library text change (Err Memory) = WantsMemory library text change

-- a clause that places its component
abbrev pub is_placed : Clause → Bool
is_placed (placed status at o) = true
is_placed _ = false
