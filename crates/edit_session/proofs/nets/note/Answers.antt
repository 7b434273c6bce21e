use Rattle.std.proofs.Common.{Ok, Err, Result}
use Rattle.std.specs.Prelude.{IfOk, IfSome}
use Rattle.std.specs.Result.{result_ok}
use Rattle.edit_session.proofs.nets.note.Goals as goal

if_made : {A E : Type 0} (P : A → Type 0) (r : Result A E) → IfOk r P → IfSome (result_ok r) P
if_made P (Ok x) h = h
if_made P (Err e) h = tt

pub returns-then-is_none : goal.returns-then-is_none
returns-then-is_none g c = rw (c.ok.ensures.value) (if_made _ c.of.result c.of.ensures)
