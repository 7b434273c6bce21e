use Rattle.std.proofs.Common.{subst, sym, ◌≡◌, Some}
use Rattle.form_meanings.specs.Meaning.{items, repeat, spell_all}
use Rattle.lefdef_tokens.specs.Views.{pieces_of, rest_of}
use Rattle.statement_reader.proofs.PartLoops.{going_ends}
use Rattle.statement_reader.specs.PartViews.{tokens_after}
use Rattle.statement_reader.proofs.PastLoops.{past_ends}
use Rattle.statement_reader.proofs.parts.skip_parts.Goals as goal

pub returns-else-next_begins-clause-gives : goal.returns-else-next_begins-clause-gives
returns-else-next_begins-clause-gives g c =
    subst (λ n. repeat n g.P.Part.test g.P.Part.reads (rest_of c.args.cursor) ≡ Some (items n g.P.Part.test g.P.Part.reads (rest_of c.args.cursor), rest_of c.skip_usual.result.0)) c.len.ensures
    (going_ends g.P.Part.test g.P.Part.reads c.len.result c.skip_usual.result.1 (rest_of c.args.cursor) (rest_of c.skip_usual.result.0) (sym c.if-next_begins.ensures) c.skip_usual.ensures.going)

pub returns-else-next_begins-clause-left : goal.returns-else-next_begins-clause-left
returns-else-next_begins-clause-left g c =
    let later = c.skip_usual.result.0 in
    subst (λ n. tokens_after (spell_all g.P.Part.spells) (pieces_of c.args.cursor.tokens) (repeat n g.P.Part.test g.P.Part.reads (rest_of c.args.cursor)) ≡ Some (pieces_of later.tokens)) c.len.ensures
    (past_ends g.P.Part.spells g.P.Part.test g.P.Part.reads c.len.result c.skip_usual.result.1 (rest_of c.args.cursor) (rest_of later) (pieces_of c.args.cursor.tokens) (pieces_of later.tokens) (sym c.if-next_begins.ensures) c.skip_usual.ensures.left)
