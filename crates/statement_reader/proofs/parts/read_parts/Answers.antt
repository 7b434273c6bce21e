use Rattle.std.proofs.Common.{ℕ, sym, ap, ◌∙◌}
use Rattle.form_meanings.specs.Meaning.{items, repeat}
use Rattle.lefdef_tokens.specs.Views.{pieces_of, rest_of}
use Rattle.statement_reader.proofs.PartLoops.{items_are}
use Rattle.statement_reader.proofs.PastLoops.{after_items}
use Rattle.statement_reader.proofs.parts.read_parts.Goals as goal

pub returns-clause-gives : goal.returns-clause-gives
returns-clause-gives g c =
    ap (λ (n : ℕ). repeat n g.P.Part.test g.P.Part.reads (rest_of c.args.cursor)) (sym c.len-most.ensures)
    ∙ items_are g.P.Part.test g.P.Part.reads c.len-most.result (rest_of c.args.cursor) (rest_of c.in_ok-later.later) c.in_ok-later.ensures.gives

pub returns-clause-left : goal.returns-clause-left
returns-clause-left g c =
    let n = c.len-most.result in
    let here = rest_of c.args.cursor in
    let later = rest_of c.in_ok-later.later in
    after_items g.P.Part.spells (items n g.P.Part.test g.P.Part.reads here) (repeat n g.P.Part.test g.P.Part.reads here) later (pieces_of c.args.cursor.tokens) (pieces_of c.in_ok-later.later.tokens) (items_are g.P.Part.test g.P.Part.reads n here later c.in_ok-later.ensures.gives) c.in_ok-later.ensures.left
