use Rattle.std.proofs.Common.{◌≡◌, ◌≤◌, length, ◌-◌}
use Rattle.design_model.specs.declared.mode.Mode.TheVariants.{Top}
use Rattle.rereading.proofs.Going.{Going}
use Rattle.rereading.proofs.read_pieces.read_pieces.Given as goal

abbrev pub invariant-statements : goal.invariant-statements
invariant-statements g l = record {
  pos : l.pos ≤ length l.text;
  few : l.reads ≤ l.pos;
  counted : l.reads ≡ length l.pieces.items;
  going : Going Top l.text l.pieces.items l.mode l.pos;
}

abbrev pub decreases-statements : goal.decreases-statements
decreases-statements g l = length l.text - l.pos
