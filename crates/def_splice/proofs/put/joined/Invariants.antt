use Rattle.std.proofs.Common.{◌≡◌, [], drop, map}
use Rattle.def_splice.specs.SpliceViews.{joined}
use Rattle.def_splice.proofs.put.joined.Given as goal

abbrev pub invariant-loop-part : goal.invariant-loop-part
invariant-loop-part g l = joined l.all.items (map (λ p. p.now) (drop l.part-index l.parts)) ≡ joined [] (map (λ p. p.now) l.parts)
