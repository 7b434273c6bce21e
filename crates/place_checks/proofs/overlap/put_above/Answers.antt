use Rattle.std.proofs.Common.{sym, rules, w64}
use Rattle.std.specs.Int.RustNames.{FitsSigned}
use Rattle.std.proofs.lemmas.Int.{to_z-of_z}
use Rattle.std.proofs.lemmas.List.{append-nil}
use Rattle.place_checks.proofs.SkipLemmas.{none_above}
use Rattle.place_checks.proofs.SweepLemmas.{up_to_of}
use Rattle.place_checks.proofs.overlap.put_above.Goals as goal

pub returns-then-lowest-first : goal.returns-then-lowest-first
returns-then-lowest-first g c =
    let fits : FitsSigned w64 c.args.first.now.rect.y2 = search rules in
    let next_fits : FitsSigned w64 c.in-Some.lowest.now.rect.y1 = search rules in
    let past = up_to_of _ _ (simp to_z-of_z at c.if-lowest-first.true) in
    let none = none_above c.args.first.now c.in-Some.lowest.now _ c.args.above.now c.requires c.in-Some.ensures.cases.0 past in
    rw none (sym (append-nil _))
