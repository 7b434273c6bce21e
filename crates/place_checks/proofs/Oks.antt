-- What holds where a call answers no error.
use Rattle.std.proofs.Common.{OnOk, Result, Ok, Err}

-- something that follows
pub following : {T E P Q : Type 0} → (r : Result T E) → (P → Q) → OnOk r P → OnOk r Q
following (Ok x) step p = step p
following (Err e) step p = tt

-- something that holds whatever it answers
pub always : {T E Q : Type 0} → (r : Result T E) → Q → OnOk r Q
always (Ok x) q = q
always (Err e) q = tt
