use Rattle.lefdef_tokens.proofs.LaneMasks.{special_mask}
use Rattle.lefdef_tokens.proofs.lanes.special.Goals as goal

pub returns : goal.returns
returns c = special_mask c.args.bytes c.fits-bytes.0
