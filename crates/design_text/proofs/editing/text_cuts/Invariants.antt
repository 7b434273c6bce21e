use Rattle.std.proofs.Common.{◌≡◌, map, take}
use Rattle.text_pieces.specs.Covering.{cut_of}
use Rattle.def_splice.specs.SpliceViews.{cut_view}
use Rattle.design_text.proofs.editing.text_cuts.Given as goal

abbrev pub invariant-loop-splice : goal.invariant-loop-splice
invariant-loop-splice g l = map cut_of l.cuts.items ≡ map cut_view (take l.splice-index l.splices)
