use Rattle.wire_shapes.proofs.Lines.{lines_of_places}
use Rattle.wire_shapes.proofs.laws.lines_of_places.Goals as goal

pub returns : goal.returns
returns c = lines_of_places
