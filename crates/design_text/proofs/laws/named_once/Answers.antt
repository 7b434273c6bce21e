use Rattle.design_text.proofs.NamedEntries.{named_once}
use Rattle.design_text.proofs.laws.named_once.Goals as goal

pub returns : goal.returns
returns c = named_once c.records_are_read.ensures.located c.keys_are_apart.ensures c.fresh_is_once.ensures
