use Rattle.std.proofs.lemmas.Option.{IfSome_then}
use Rattle.lefdef_tokens.proofs.ExpectedWords.{digits_of}
use Rattle.lefdef_tokens.proofs.unseen.Unseen.digits.Goals as goal

pub returns-clause-digits : goal.returns-clause-digits
returns-clause-digits c =
    let run = c.args.self.tokens in
    IfSome_then c.past.result c.past.ensures.bytes (λ x bytes. digits_of run.text.now run.pos c.in_ok-start.start c.in_ok-start.end x.0.bytes.now c.in_ok-start.ensures bytes)
