use Rattle.std.proofs.Common.{◌≡◌, ◌++◌, drop, map}
use Rattle.place_checks.proofs.copying.copies_of.Given as goal

abbrev pub invariant-loop-from : goal.invariant-loop-from
invariant-loop-from g l =
    let t = g.T.CopyOf in
    map t.copied l.copies.items ++ map t.seen (drop l.from-index l.all) ≡ map t.seen l.all
