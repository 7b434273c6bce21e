use Rattle.lefdef_tokens.proofs.LaneCounts.{first_marked}
use Rattle.lefdef_tokens.specs.Skipping.{is_special}
use Rattle.lefdef_tokens.proofs.lanes.plain_length.Goals as goal

pub returns : goal.returns
returns c = first_marked is_special c.args.text.now c.args.at c.special.result c.requires (rw c.load.ensures at c.special.ensures)
