-- Parts that are written one after the other.
use Rattle.std.proofs.Common.{ℕ, List, [], ◌++◌, Option, Some, None, Result, Ok, Err, OnErr, inl, inr, sym, ap, ◌∙◌, ⊎_elim, append_assoc, append-nil, arith}
use Rattle.std.specs.Io.KnownBytes.{Appends}
use Rattle.counted_devices.specs.Counting.{HasFailed, one_more}
use Rattle.counted_devices.specs.Known.{WritesPart}
use Rattle.text_pieces.specs.Writing.{Writer, WritesAll, BreaksOff}

appends_none : (a : Option (List ℕ)) → Appends a a []
appends_none None = tt
appends_none (Some xs) = sym (append-nil xs)

appends_on : (a b c : Option (List ℕ)) (xs ys : List ℕ) → Appends a b xs → Appends b c ys → Appends a c (xs ++ ys)
appends_on None b c xs ys h k = tt
appends_on (Some u) None c xs ys h k = absurd h
appends_on (Some u) (Some v) None xs ys h k = absurd k
appends_on (Some u) (Some v) (Some w) xs ys h k = k ∙ ap (λ (t : List ℕ). t ++ ys) h ∙ append_assoc u xs ys

pub wrote_on : (a b c : Writer) (xs ys : List ℕ) → WritesAll a b xs → WritesAll b c ys → WritesAll a c (xs ++ ys)
wrote_on a b c xs ys h k = record {
  all = appends_on a.contents b.contents c.contents xs ys h.all k.all;
  hard = k.hard ∙ h.hard;
  rises = omega (arith, h.rises, k.rises);
  spent = k.spent ∙ h.spent;
}

pub part_on : (a b c : Option (List ℕ)) (xs ys : List ℕ) → Appends a b xs → WritesPart b c ys → WritesPart a c (xs ++ ys)
part_on a b c xs ys h k = (xs ++ k.0, k.1, ap (λ (t : List ℕ). xs ++ t) k.2 ∙ sym (append_assoc xs k.0 k.1), appends_on a b c xs k.0 h k.3)

fails_on : (a b c : Writer) (xs : List ℕ) → WritesAll a b xs → HasFailed b.hard c.hard b.failed c.failed b.patience → HasFailed a.hard c.hard a.failed c.failed a.patience
fails_on a b c xs h k = (
  omega (arith, h.rises, k.0),
  ⊎_elim (λ e. inl (e ∙ ap one_more h.hard)) (λ e. inr (e.0 ∙ h.hard, omega (arith, e.1, h.spent))) k.1,
)

-- the writer fails in a later part, or in the first
pub broke_on : (a b c : Writer) (xs ys : List ℕ) → WritesAll a b xs → BreaksOff b c ys → BreaksOff a c (xs ++ ys)
broke_on a b c xs ys h k = record {
  part = part_on a.contents b.contents c.contents xs ys h.all k.part;
  fails = fails_on a b c xs h k.fails;
  spent = omega (arith, h.spent, k.spent);
}

pub broke_before : (a b : Writer) (xs ys : List ℕ) → BreaksOff a b xs → BreaksOff a b (xs ++ ys)
broke_before a b xs ys h = record {
  part = (h.part.0, h.part.1 ++ ys, ap (λ (t : List ℕ). t ++ ys) h.part.2 ∙ append_assoc h.part.0 h.part.1 ys, h.part.3);
  fails = h.fails;
  spent = h.spent;
}

pub on_err : {T E : Type 0} (r : Result T E) (P Q : Type 0) → (P → Q) → OnErr r P → OnErr r Q
on_err (Ok x) P Q f h = tt
on_err (Err e) P Q f h = f h
