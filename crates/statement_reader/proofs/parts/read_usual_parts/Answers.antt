use Rattle.std.proofs.Common.{ℕ, sym, ap, ◌∙◌}
use Rattle.form_meanings.specs.Meaning.{items, repeat}
use Rattle.lefdef_tokens.specs.Views.{pieces_of, rest_of}
use Rattle.statement_reader.proofs.PartLoops.{going_ends, items_are}
use Rattle.statement_reader.proofs.PastLoops.{after_items, past_ends}
use Rattle.statement_reader.proofs.parts.read_usual_parts.Goals as goal

pub returns-in_ok-later-clause-gives : goal.returns-in_ok-later-clause-gives
returns-in_ok-later-clause-gives g c =
    ap (λ (n : ℕ). repeat n g.P.Part.test g.P.Part.reads (rest_of c.args.cursor)) (sym c.len-most.ensures)
    ∙ items_are g.P.Part.test g.P.Part.reads c.len-most.result (rest_of c.args.cursor) (rest_of c.in_ok-later.later) (c.skip_usual-fewer.ensures.going.going ∙ c.in_ok-later.ensures.gives)

pub returns-else-next_begins-clause-gives : goal.returns-else-next_begins-clause-gives
returns-else-next_begins-clause-gives g c =
    ap (λ (n : ℕ). repeat n g.P.Part.test g.P.Part.reads (rest_of c.args.cursor)) (sym c.len-most.ensures)
    ∙ going_ends g.P.Part.test g.P.Part.reads c.len-most.result c.skip_usual-fewer.result.1 (rest_of c.args.cursor) (rest_of c.skip_usual-fewer.result.0) (sym c.if-next_begins.ensures) c.skip_usual-fewer.ensures.going

pub returns-in_ok-later-clause-left : goal.returns-in_ok-later-clause-left
returns-in_ok-later-clause-left g c =
    let n = c.len-most.result in
    let here = rest_of c.args.cursor in
    let later = rest_of c.in_ok-later.later in
    let usual = c.skip_usual-fewer.ensures in
    after_items g.P.Part.spells (items n g.P.Part.test g.P.Part.reads here) (repeat n g.P.Part.test g.P.Part.reads here) later (pieces_of c.args.cursor.tokens) (pieces_of c.in_ok-later.later.tokens) (items_are g.P.Part.test g.P.Part.reads n here later (usual.going.going ∙ c.in_ok-later.ensures.gives)) (usual.left.past ∙ c.in_ok-later.ensures.left)

pub returns-else-next_begins-clause-left : goal.returns-else-next_begins-clause-left
returns-else-next_begins-clause-left g c =
    let n = c.len-most.result in
    let here = rest_of c.args.cursor in
    let later = c.skip_usual-fewer.result.0 in
    let fewer = c.skip_usual-fewer.result.1 in
    let usual = c.skip_usual-fewer.ensures in
    let none = sym c.if-next_begins.ensures in
    after_items g.P.Part.spells (items n g.P.Part.test g.P.Part.reads here) (repeat n g.P.Part.test g.P.Part.reads here) (rest_of later) (pieces_of c.args.cursor.tokens) (pieces_of later.tokens) (going_ends g.P.Part.test g.P.Part.reads n fewer here (rest_of later) none usual.going) (past_ends g.P.Part.spells g.P.Part.test g.P.Part.reads n fewer here (rest_of later) (pieces_of c.args.cursor.tokens) (pieces_of later.tokens) none usual.left)
