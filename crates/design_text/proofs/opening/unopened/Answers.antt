use Rattle.design_text.proofs.Opened.{only_memory}
use Rattle.design_text.proofs.opening.unopened.Goals as goal

pub returns-clause-opens : goal.returns-clause-opens
returns-clause-opens g c = rw (only_memory c.keys_are_apart.ensures c.args.text.now c.args.error c.in_ok-read_def.ensures.fits c.in_ok-read_def.ensures.reads c.requires) tt
