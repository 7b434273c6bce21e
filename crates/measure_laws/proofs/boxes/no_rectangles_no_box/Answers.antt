use Rattle.measure_laws.proofs.BoxesRound.{no_rectangles_no_box}
use Rattle.measure_laws.proofs.boxes.no_rectangles_no_box.Goals as goal

pub returns : goal.returns
returns c = no_rectangles_no_box
