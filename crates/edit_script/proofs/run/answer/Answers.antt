use Rattle.edit_script.proofs.EndLemmas.{ok_of_both}
use Rattle.edit_script.proofs.EscapedLemmas.{text_line}
use Rattle.edit_script.proofs.run.answer.Goals as goal

pub returns-in-Text-clause-gives : goal.returns-in-Text-clause-gives
returns-in-Text-clause-gives g c =
    let reply = c.counted_reply-in-Text in
    let new = c.in-Text.new in
    ok_of_both _ _ _ reply.result
    (λ v text counts. text_line c.args.session.now.library c.args.number c.in-Text.a c.in-Text.b new.len _ _ _ _ _ _ _ _ new.good c.in-Text.ensures c.put_text-reply.ensures.answer text counts) reply.ensures.text
    reply.ensures.counts
