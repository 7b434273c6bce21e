use Rattle.lefdef_tokens.proofs.LaneMasks.{begun_mask}
use Rattle.lefdef_tokens.proofs.lanes.begun.Goals as goal

pub returns : goal.returns
returns c = begun_mask c.args.last c.args.bytes c.fits-last.0 c.fits-bytes.0
