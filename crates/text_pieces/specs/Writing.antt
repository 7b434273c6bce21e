-- What was written, piece by piece.
use Rattle.std.specs.Prelude.{◌≡◌, ◌+◌, ◌≤◌, ℕ, List, Option, Result, Ok, Err}
use Rattle.std.specs.Io.KnownBytes.{Appends}
use Rattle.counted_devices.specs.Counting.{HasFailed}
use Rattle.counted_devices.specs.Known.{WritesPart}

-- a writer: its bytes where they are known, how often it has failed for good and at all, and how often it may still interrupt
pub record Writer : Type 0 where
  pub contents : Option (List ℕ)
  pub hard : ℕ
  pub failed : ℕ
  pub patience : ℕ

-- all bytes were written
pub record WritesAll (old new : Writer) (bytes : List ℕ) : Type 0 where
  pub all : Appends old.contents new.contents bytes
  pub hard : new.hard ≡ old.hard
  pub rises : old.failed ≤ new.failed
  pub spent : new.failed + new.patience ≡ old.failed + old.patience

-- a first part of them was, and then the writer failed
pub record BreaksOff (old new : Writer) (bytes : List ℕ) : Type 0 where
  pub part : WritesPart old.contents new.contents bytes
  pub fails : HasFailed old.hard new.hard old.failed new.failed old.patience
  pub spent : new.failed + new.patience ≡ old.failed + old.patience + 1

abbrev pub Writes : {T E : Type 0} → Writer → Writer → List ℕ → Result T E → Type 0
Writes old new bytes (Ok x) = WritesAll old new bytes
Writes old new bytes (Err e) = BreaksOff old new bytes
