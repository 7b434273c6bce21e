use Rattle.place_kernels.proofs.SiteLaws.{spans_between_ends}
use Rattle.place_kernels.proofs.laws.spans_between_ends.Goals as goal

pub returns : goal.returns
returns c = spans_between_ends
