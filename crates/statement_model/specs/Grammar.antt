-- What a kind of text has to say: where its statements end, what may stand where, and what a text has once.
use Rattle.std.specs.Prelude.{ℕ, Bool, List, Option}
use Rattle.design_model.specs.declared.fault.FaultCode.{FaultCode}
use Rattle.statement_model.specs.Boundaries.{Ending}
use Rattle.statement_model.specs.Form.{Form}

-- what a text has once, by its words: the first word of a statement, or a section's word and a name
abbrev pub Key : Type 0
Key = List (List ℕ)

-- M says where a statement stands, and R what it says
pub record Grammar (M R : Type 0) : Type 1 where
  -- how a statement ends, by its first token
  pub ending : M → List ℕ → Ending
  -- what may stand there
  pub form : M → Form R
  -- where the next statement stands
  pub after : M → R → M
  -- the text may end there
  pub may_end : M → Bool
  -- what of it a text has once; no words: nothing
  pub key : R → Key
  -- what a text with these keys lacks
  pub lacks : List Key → Option FaultCode
