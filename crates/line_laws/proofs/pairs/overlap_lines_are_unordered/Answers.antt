use Rattle.design_rules.specs.Boxes.{Boxed}
use Rattle.design_rules.specs.OverlapLines.{overlap_of}
use Rattle.line_laws.proofs.Overlaps.{overlaps_are_symmetric}
use Rattle.line_laws.proofs.PairSums.{pairs_are_unordered}
use Rattle.line_laws.proofs.pairs.overlap_lines_are_unordered.Goals as goal

pub returns : goal.returns
returns c = λ xs ys h. pairs_are_unordered Boxed overlap_of xs ys overlaps_are_symmetric h
