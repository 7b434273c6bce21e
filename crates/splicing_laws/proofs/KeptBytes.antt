-- A cut of a text, and the bytes around it.
use Rattle.std.proofs.Common.{◌≡◌, ℕ, ◌+◌, ◌-◌, ◌++◌, length, take, drop, arith, refl, sym, ap, ◌∙◌, append_assoc, length-append, length-take-le, take_at, drop_at}
use Rattle.std.specs.List.{slice_range}
use Rattle.splicing_laws.specs.KeepingLaws.{OneCutKeepsTheRest}

pub one_cut_keeps_the_rest : OneCutKeepsTheRest
one_cut_keeps_the_rest text cut forward within =
    let all : cut.lo - 0 ≡ cut.lo = omega arith in
    let front : slice_range text 0 cut.lo ≡ take cut.lo text = ap (λ (k : ℕ). take k text) all in
    let long : length (slice_range text 0 cut.lo) ≡ cut.lo = ap length front ∙ length-take-le cut.lo text (omega arith) in
    let behind_put : length (slice_range text 0 cut.lo ++ cut.put) ≡ cut.lo + length cut.put = length-append (slice_range text 0 cut.lo) cut.put ∙ ap (λ (k : ℕ). k + length cut.put) long in
    record {
      cut = cut;
      one = refl;
      forward = forward;
      within = within;
      before = take_at (slice_range text 0 cut.lo) (cut.put ++ drop cut.hi text) cut.lo long ∙ front;
      behind = ap (drop (cut.lo + length cut.put)) (sym (append_assoc (slice_range text 0 cut.lo) cut.put (drop cut.hi text))) ∙ drop_at (slice_range text 0 cut.lo ++ cut.put) (drop cut.hi text) (cut.lo + length cut.put) behind_put;
    }
