use Rattle.std.proofs.Common.{◌∙◌, Some, List, sym, ap₂}
use Rattle.statement_model.specs.Tokens.{Token}
use Rattle.def_grammar.specs.Records.{Record}
use Rattle.def_splice.specs.Lying.{moved_tokens}
use Rattle.design_text.proofs.statements.statement_of.Goals as goal

pub returns-clause-gives : goal.returns-clause-gives
returns-clause-gives g c =
    let piece = c.in-Some.piece in
    let l = c.in-Some.ensures in
    let e = c.read_piece-read.ensures in
    ap₂ (λ (ps : List Token) (r : Record). Some (moved_tokens piece.at ps, r)) e.tokens (e.says l.rec l.after l.piece) ∙ sym l.numbered

pub read_piece-read-requires : goal.read_piece-read-requires
read_piece-read-requires g c = let l = c.in-Some.ensures in (l.rec, l.after, l.piece)
