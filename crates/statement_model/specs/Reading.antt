-- Reading a text: its records in order, or its fault.
use Rattle.std.specs.Prelude.{ℕ, ◌-◌, Bool, true, false, ◌&&◌, nat_lt, List, [], ◌∷◌, ◌++◌, length, drop, Option, Some, None, Result, Ok, Err, if◌then◌else◌}
use Rattle.std.specs.List.{list_any}
use Rattle.std.specs.Str.{bytes_eq}
use Rattle.design_model.specs.declared.TheConstants.{MAX_TEXT}
use Rattle.design_model.specs.declared.fault.Fault.{Fault}
use Rattle.design_model.specs.declared.fault.FaultCode.{FaultCode}
use Rattle.design_model.specs.declared.fault.FaultCode.TheVariants.{TooLong, NoForm, Unfinished, Number, NameTaken, Repeated}
use Rattle.statement_model.specs.Tokens.{Token, Lexed, tokens}
use Rattle.statement_model.specs.Boundaries.{words, is_whole, statement_at}
use Rattle.statement_model.specs.Folds.{◌>>◌}
use Rattle.statement_model.specs.Form.{whole}
use Rattle.statement_model.specs.Grammar.{Key, Grammar}

-- where the first of some tokens begins
abbrev pub pos_of : List Token → ℕ
pos_of [] = 0
pos_of (p ∷ ps) = p.pos

-- where the token begins before which so many are left, itself counted
abbrev pub pos_with_left : ℕ → List Token → ℕ
pos_with_left left ps = pos_of (drop (length ps - left) ps)

abbrev pub fault_at : FaultCode → ℕ → Fault
fault_at code pos = record { code = code; pos = pos }

-- the same words
abbrev pub same_words : List (List ℕ) → List (List ℕ) → Bool
same_words [] [] = true
same_words (v ∷ vs) (w ∷ ws) = bytes_eq v w && same_words vs ws
same_words [] (w ∷ ws) = false
same_words (v ∷ vs) [] = false

-- a key stands among others
abbrev pub is_among : List Key → Key → Bool
is_among seen key = list_any (same_words key) seen

-- the fault of a key that stands already: of a statement, or of a name in its section
abbrev pub fault_of_key : Key → FaultCode
fault_of_key (s ∷ n ∷ ws) = NameTaken
fault_of_key _ = Repeated

-- a repeat is a key that stands already
abbrev pub repeats : List Key → Key → Option FaultCode
repeats seen [] = None
repeats seen (w ∷ ws) = if is_among seen (w ∷ ws) then Some (fault_of_key (w ∷ ws)) else None

abbrev pub with_key : Key → List Key → List Key
with_key [] seen = seen
with_key (w ∷ ws) seen = (w ∷ ws) ∷ seen

module _ {M R : Type 0} (g : Grammar M R) where
  -- an invalid number comes after a missing form
  abbrev pub checked : M → List Token → R → Option ℕ → Result (R × M) Fault
  checked m ps rec None = Ok (rec, g.after m rec)
  checked m ps rec (Some left) = Err (fault_at Number (pos_with_left left ps))

  abbrev pub formed : M → List Token → Option (R × Option ℕ) → Result (R × M) Fault
  formed m ps None = Err (fault_at NoForm (pos_of ps))
  formed m ps (Some x) = checked m ps x.0 x.1

  -- the record that these tokens are, and where the next one stands
  abbrev pub read_form : M → List Token → Result (R × M) Fault
  read_form m ps = formed m ps (whole (g.form m) (words ps))

  -- where no statement is left
  abbrev pub nothing_left : M → Result ℕ Fault → Result (Option (R × M × Lexed)) Fault
  nothing_left m (Err f) = Err f
  nothing_left m (Ok n) = if g.may_end m then Ok None else Err (fault_at Unfinished n)

  abbrev pub with_left : Lexed → Result (R × M) Fault → Result (Option (R × M × Lexed)) Fault
  with_left l (Ok x) = Ok (Some (x.0, x.1, l))
  with_left l (Err f) = Err f

  abbrev pub read_found : M → Lexed → Result (Option (List Token × Lexed)) Fault → Result (Option (R × M × Lexed)) Fault
  read_found m l (Err f) = Err f
  read_found m l (Ok None) = nothing_left m l.end
  read_found m l (Ok (Some x)) = with_left x.1 (read_form m x.0)

  -- the next record, where the one after it stands, and what is left
  unfoldable pub read_at : M → Lexed → Result (Option (R × M × Lexed)) Fault
  read_at m l = read_found m l (statement_at (g.ending m) l)

  abbrev pub unless_repeated : List Token → Option FaultCode → R → M → List Key → Result (R × (M × List Key)) Fault
  unless_repeated ps None rec m seen = Ok (rec, (m, with_key (g.key rec) seen))
  unless_repeated ps (Some code) rec m seen = Err (fault_at code (pos_of ps))

  -- one statement: its form, and then whether it repeats what was seen
  abbrev pub read_one : M × List Key → List Token → Result (R × (M × List Key)) Fault
  read_one state ps = read_form state.0 ps >> λ x. unless_repeated ps (repeats state.1 (g.key x.0)) x.0 x.1 state.1

  -- a text that ends here
  abbrev pub ended : M × List Key → ℕ → Option FaultCode → Result (List R) Fault
  ended state n None = Ok []
  ended state n (Some code) = Err (fault_at code n)

  -- after the last whole statement: a fault of the tokens, a statement that isn't whole, or the end of the text
  abbrev pub at_last : M × List Key → List Token → Result ℕ Fault → Result (List R) Fault
  at_last state ps (Err f) = Err f
  at_last state (p ∷ ps) (Ok n) = Err (fault_at Unfinished p.pos)
  at_last state [] (Ok n) = if g.may_end state.0 then ended state n (g.lacks state.1) else Err (fault_at Unfinished n)

  -- the records of tokens, from a place and what was seen on, where some tokens of the first statement were read before
  unfoldable pub read_on : M × List Key → List Token → List Token → Result ℕ Fault → Result (List R) Fault
  read_on state before [] end = at_last state before end
  read_on state before (p ∷ ps) end =
      if is_whole (g.ending state.0) (before ++ p ∷ []) then (read_one state (before ++ p ∷ []) >> λ x. (read_on x.1 [] ps end >> λ recs. Ok (x.0 ∷ recs)))
      else read_on state (before ++ p ∷ []) ps end

  abbrev pub read_from : M × List Key → Lexed → Result (List R) Fault
  read_from state l = read_on state [] l.pieces l.end

  -- the records of a text that begins here, or its fault
  unfoldable pub read_text : M → List ℕ → Result (List R) Fault
  read_text m text = if nat_lt MAX_TEXT (length text) then Err (fault_at TooLong 0) else read_from (m, []) (tokens text)
