use Rattle.memchr.specs.Find.{is_byte}
use Rattle.lefdef_tokens.proofs.Finding.{found_from, none_from}
use Rattle.lefdef_tokens.proofs.runs.find_byte.Goals as goal

pub returns-in-Some : goal.returns-in-Some
returns-in-Some c = found_from (is_byte c.args.byte) c.args.text.now c.args.from c.in-Some.at c.requires c.in-Some.ensures

pub returns-in-None : goal.returns-in-None
returns-in-None c = none_from (is_byte c.args.byte) c.args.text.now c.args.from c.requires c.in-None.ensures
