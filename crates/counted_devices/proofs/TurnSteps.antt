-- The turns of a reading loop: each brings a byte or fails.
use Rattle.std.proofs.Common.{◌≡◌, ◌≤◌, ◌+◌, ◌^◌, ◌<◌, ℕ, List, ◌++◌, Option, None, Some, IfSome, Ok, ap, arith, length, length-append}
use Rattle.std.specs.Io.KnownBytes.{Consumes}
use Rattle.std.proofs.KnownBytes.{Consumes-kept, Consumes-trans}
use Rattle.counted_devices.specs.Turns.{Brings, after_turn}
use Rattle.counted_devices.specs.declared.input.Turn.TheVariants.{Bytes, Interrupted}

-- so many turns have brought these bytes, at most `most`, and the reader's failures were `was` and are `now`
pub record SoFar (old new : Option (List ℕ)) (most : ℕ) (bytes : List ℕ) (turns was now : ℕ) : Type 0 where
  pub taken : Consumes old new bytes
  pub small : length bytes ≤ most
  pub spent : turns + was ≤ length bytes + now
  pub few : now ≤ was + turns
  pub rises : was ≤ now

module _ (old mid new : Option (List ℕ)) (most : ℕ) (before after : List ℕ) (turns was now later : ℕ) where
  -- a turn that brought bytes
  pub so_far_bytes : SoFar old mid most before turns was now → Brings Bytes mid new before after → later ≡ after_turn (Ok Bytes) now → length after ≤ most
      → SoFar old new most after (turns + 1) was later
  so_far_bytes s (bytes, joined, some, taken) same small = record {
    taken = rw joined (Consumes-trans old mid new before bytes s.taken taken);
    small = small;
    spent = omega (arith, s.spent, some, same, ap length joined, length-append before bytes);
    few = omega (arith, s.few, same);
    rises = omega (arith, s.rises, same);
  }

  -- a turn that was interrupted, with room in the count
  pub so_far_interrupted : SoFar old mid most before turns was now → Brings Interrupted mid new before after → later ≡ after_turn (Ok Interrupted) now → was + turns + 1 < 2 ^ 64
      → SoFar old new most after (turns + 1) was later
  so_far_interrupted s (same, keeps) one room = record {
    taken = rw same (Consumes-kept old mid new before s.taken keeps);
    small = rw same s.small;
    spent = omega (arith, s.spent, s.few, room, one, ap length same);
    few = omega (arith, s.few, room, one);
    rises = omega (arith, s.rises, s.few, room, one);
  }

-- a reader had at least as many bytes as were read
pub spends_known : (a b : Option (List ℕ)) (bytes : List ℕ) (turns was now : ℕ) → Consumes a b bytes → turns + was ≤ length bytes + now
    → IfSome a (λ xs. turns + was ≤ length xs + now)
spends_known None b bytes turns was now p h = tt
spends_known (Some x) None bytes turns was now p h = absurd p
spends_known (Some x) (Some y) bytes turns was now p h = omega (arith, h, length-append bytes y, ap length p)
