use Rattle.std.proofs.Common.{Result, Ok, Err}
use Rattle.std.specs.Prelude.{IfOk, IfSome}
use Rattle.std.specs.Result.{result_ok}
use Rattle.design_text.specs.Exchanges.{records_in}
use Rattle.followed_places.specs.Places.{HasPlaces}
use Rattle.edit_session.proofs.places.note_places.Goals as goal

of_result : {A E : Type 0} (P : A → Type 0) (r : Result A E) → IfOk r P → IfSome (result_ok r) P
of_result P (Ok a) h = h
of_result P (Err e) h = tt

pub returns-then-is_some : goal.returns-then-is_some
returns-then-is_some g c = rw (c.ok.ensures.value) (of_result (HasPlaces c.args.library.now (records_in c.args.text.now)) c.of.result c.of.ensures)
