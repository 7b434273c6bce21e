use Rattle.design_text.specs.Exchanges.{records_in}
use Rattle.edit_session.proofs.measures.kept_or_made.Goals as goal

pub returns-in-Some-made : goal.returns-in-Some-made
returns-in-Some-made g c = c.made.ensures c.args.library.now (records_in c.args.text.now) (rw (c.in-Some-made.is) at c.requires.made)
