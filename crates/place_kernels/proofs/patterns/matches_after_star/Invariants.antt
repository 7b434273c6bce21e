use Rattle.std.proofs.Common.{◌≡◌, ◌∷◌, length}
use Rattle.place_rules.specs.Patterns.{matches, star}
use Rattle.place_kernels.proofs.patterns.matches_after_star.Given as goal

abbrev pub invariant-loop-part : goal.invariant-loop-part
invariant-loop-part l = matches (star ∷ l.fn.pattern) l.fn.name ≡ matches (star ∷ l.parts) l.left

abbrev pub decreases-loop-part : goal.decreases-loop-part
decreases-loop-part l = length l.parts
