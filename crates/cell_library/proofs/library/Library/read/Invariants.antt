use Rattle.cell_library.proofs.ReadLemmas.{Reading}
use Rattle.cell_library.proofs.library.Library.read.Given as goal

abbrev pub invariant-loop-number : goal.invariant-loop-number
invariant-loop-number g l = Reading l.texts l.number l.library
