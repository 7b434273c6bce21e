use Rattle.std.proofs.Common.{sym}
use Rattle.edit_script.proofs.EscapedLemmas.{length_is}
use Rattle.edit_script.proofs.run.put_text.Goals as goal

pub returns-in-Err-clause-answer : goal.returns-in-Err-clause-answer
returns-in-Err-clause-answer g c =
    let text = c.args.session.now.text in
    λ bytes is. c.refused_text.ensures c.args.session.now.library text bytes (sym c.text_len.ensures) (length_is c.args.new.raw.now bytes c.args.new.len c.args.new.good is)
