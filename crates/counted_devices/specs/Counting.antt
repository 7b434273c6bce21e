-- Counts of failures.
use Rattle.std.specs.Prelude.{ℕ, ◌+◌, ◌-◌, ◌^◌, min, Result, Ok, Err, cond, ◌==◌, ◌≡◌, ◌≢◌, ◌⊎◌, ◌<◌}
use Rattle.std.specs.IoError.{error_kind}
use Rattle.std.specs.declared.io.Error.{Error}
use Rattle.std.specs.declared.io.ErrorKind.TheVariants.{Interrupted}

-- one more, up to the greatest u64
abbrev pub one_more : ℕ → ℕ
one_more n = min (n + 1) (2 ^ 64 - 1)

-- after a call that fails where it answers an error
abbrev pub after_read : {T E : Type 0} → Result T E → ℕ → ℕ
after_read (Ok x) n = n
after_read (Err e) n = one_more n

-- after a write, which also fails where it takes nothing
abbrev pub after_write : {E : Type 0} → Result ℕ E → ℕ → ℕ
after_write (Ok k) n = cond (k == 0) (one_more n) n
after_write (Err e) n = one_more n

-- an error is a hard failure unless it is Interrupted
abbrev pub CountsError : Error → ℕ → ℕ → Type 0
CountsError e old new = (error_kind e ≡ Interrupted → new ≡ old) × (error_kind e ≢ Interrupted → new ≡ one_more old)

-- the hard failures after a call that fails where it answers an error
abbrev pub CountsRead : {T : Type 0} → Result T Error → ℕ → ℕ → Type 0
CountsRead (Ok x) old new = new ≡ old
CountsRead (Err e) old new = CountsError e old new

-- the hard failures after a write: to take nothing is one
abbrev pub CountsWrite : Result ℕ Error → ℕ → ℕ → Type 0
CountsWrite (Ok k) old new = new ≡ cond (k == 0) (one_more old) old
CountsWrite (Err e) old new = CountsError e old new

-- a writer has failed: once for good, or by more interruptions than it is given
abbrev pub HasFailed : (hard hard' failed failed' patience : ℕ) → Type 0
HasFailed hard hard' failed failed' patience = (failed < failed') × ((hard' ≡ one_more hard) ⊎ ((hard' ≡ hard) × (failed + patience < failed')))
