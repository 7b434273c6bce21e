use Rattle.splicing_laws.proofs.KeptBytes.{one_cut_keeps_the_rest}
use Rattle.splicing_laws.proofs.keeping.one_cut_keeps_the_rest.Goals as goal

pub returns : goal.returns
returns c = one_cut_keeps_the_rest
