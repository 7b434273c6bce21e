use Rattle.net_queries.proofs.ShortLemmas.{short_is_symmetric}
use Rattle.net_queries.proofs.laws.short_is_symmetric.Goals as goal

pub returns : goal.returns
returns c = short_is_symmetric
