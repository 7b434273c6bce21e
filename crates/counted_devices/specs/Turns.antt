-- What one call of `read` brings to the bytes that were read before.
use Rattle.std.specs.Prelude.{◌≡◌, ◌<◌, ◌⊎◌, ℕ, List, [], Option, Result, Ok, Err, ◌++◌, length}
use Rattle.std.specs.Io.KnownBytes.{Consumes, Keeps}
use Rattle.counted_devices.specs.Counting.{one_more}
use Rattle.counted_devices.specs.Known.{Reads}
use Rattle.counted_devices.specs.declared.input.InputError.{InputError}
use Rattle.counted_devices.specs.declared.input.InputError.TheVariants.{Memory, Read}
use Rattle.counted_devices.specs.declared.input.Turn.{Turn}
use Rattle.counted_devices.specs.declared.input.Turn.TheVariants.{End, Bytes, Interrupted}

-- bytes that were read come after those before; the end brings none, nor does an interruption
abbrev pub Brings : Turn → Option (List ℕ) → Option (List ℕ) → List ℕ → List ℕ → Type 0
Brings End old new before after = (after ≡ before) × Reads old new []
Brings Bytes old new before after = (bytes : List ℕ) × (after ≡ before ++ bytes) × (0 < length bytes) × Consumes old new bytes
Brings Interrupted old new before after = (after ≡ before) × Keeps old new

-- after a turn, which fails where it is interrupted or gives `Read`
abbrev pub after_turn : Result Turn InputError → ℕ → ℕ
after_turn (Ok Interrupted) n = one_more n
after_turn (Err Read) n = one_more n
after_turn r n = n

-- the hard failures after reading, which gives `Read` at the first
abbrev pub hard_after : {T : Type 0} → Result T InputError → ℕ → ℕ
hard_after (Err Read) n = one_more n
hard_after r n = n

-- what a turn may be blamed for
abbrev pub IsTurnFault : InputError → Type 0
IsTurnFault e = (e ≡ Read) ⊎ (e ≡ Memory)
