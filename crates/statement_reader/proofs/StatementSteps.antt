-- Where a statement is to begin: nothing is left, or a fault of the tokens.
use Rattle.std.proofs.Common.{◌≡◌, ℕ, true, false, [], refl, ap, None, Ok, Err}
use Rattle.design_model.specs.declared.fault.Fault.{Fault}
use Rattle.design_model.specs.declared.fault.FaultCode.TheVariants.{Unfinished}
use Rattle.statement_model.specs.Tokens.{Lexed, only_fault}
use Rattle.statement_model.specs.Boundaries.{cut, statement_at}
use Rattle.statement_model.specs.Grammar.{Grammar}
use Rattle.statement_model.specs.Reading.{read_at, fault_at}

module _ {M R : Type 0} (g : Grammar M R) (m : M) where
  pub fault_read : (l : Lexed) (f : Fault) → l ≡ only_fault f → read_at g m l ≡ Err f
  unfolding read_at statement_at cut
  fault_read l f is = ap (read_at g m) is

  pub end_read : (l : Lexed) (n : ℕ) → l ≡ record { pieces = []; end = Ok n } → g.may_end m ≡ true → read_at g m l ≡ Ok None
  unfolding read_at statement_at cut
  end_read l n is may = rw (is, may) refl

  pub early_end_read : (l : Lexed) (n : ℕ) → l ≡ record { pieces = []; end = Ok n } → g.may_end m ≡ false → read_at g m l ≡ Err (fault_at Unfinished n)
  unfolding read_at statement_at cut
  early_end_read l n is may = rw (is, may) refl
