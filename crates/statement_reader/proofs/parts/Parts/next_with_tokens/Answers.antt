use Rattle.std.proofs.Common.{ap, sym, ◌∙◌}
use Rattle.lefdef_tokens.specs.Places.{behind}
use Rattle.lefdef_tokens.specs.Views.{pieces_of, rest_of}
use Rattle.statement_reader.proofs.PartLoops.{front_is}
use Rattle.statement_reader.proofs.parts.Parts.next_with_tokens.Goals as goal

pub overflow_sub-count : goal.overflow_sub-count
overflow_sub-count g c =
    let later = rest_of c.next.new.self.cursor in
    let same = (g.met.P.Part c.lifetimes (assumption)).spelled (rest_of c.args.self.now.cursor) (g.P.Part.view c.in_ok-part.part, later) c.in_ok-part.ensures.reads in
    (front_is c.len.result c.len-2.result (rest_of c.args.self.now.cursor).words (g.P.Part.spells (g.P.Part.view c.in_ok-part.part)) later.words same c.len.ensures c.len-2.ensures).0

pub returns-clause-tokens : goal.returns-clause-tokens
returns-clause-tokens g c =
    let later = rest_of c.next.new.self.cursor in
    let same = (g.met.P.Part c.lifetimes (assumption)).spelled (rest_of c.args.self.now.cursor) (g.P.Part.view c.in_ok-part.part, later) c.in_ok-part.ensures.reads in
    c.front.ensures.words
    ∙ (front_is c.len.result c.len-2.result (rest_of c.args.self.now.cursor).words (g.P.Part.spells (g.P.Part.view c.in_ok-part.part)) later.words same c.len.ensures c.len-2.ensures).1

pub returns-clause-left : goal.returns-clause-left
returns-clause-left g c = c.in_ok-part.ensures.left ∙ ap (λ ws. behind ws (pieces_of c.args.self.now.cursor.tokens)) (sym (returns-clause-tokens g c))
