-- A piece is read wherever it stands.
use Rattle.std.proofs.Common.{◌≡◌, ◌+◌, List, [], ◌++◌, length, map, Option, Some, Ok, ap, ◌∙◌}
use Rattle.statement_model.specs.Tokens.{Token, Lexed, lex, before}
use Rattle.statement_model.specs.Tokens.Open.{between}
use Rattle.statement_model.specs.Boundaries.{cut, statement_at, statement_from}
use Rattle.statement_model.specs.Grammar.{Grammar}
use Rattle.statement_model.specs.Reading.{read_form, read_found, read_at, with_left}
use Rattle.lefdef_tokens.specs.Laws.{moved_token}
use Rattle.lefdef_tokens.proofs.Joining.{join}
use Rattle.piece_laws.specs.PieceLaws.{PiecesAreFound}
use Rattle.piece_laws.proofs.Cutting.{cut_more}
use Rattle.piece_laws.proofs.MovedTokens.{cut_moved, closed_at}
use Rattle.piece_laws.proofs.Reading.{form_moved, piece_at}

module _ {M R : Type 0} (g : Grammar M R) where
  -- tokens of which the first are one statement
  first_read : (m after : M) (ps : List Token) (later : Lexed) (rec : R) → cut (g.ending m) [] ps ≡ Some (ps, []) → read_form g m ps ≡ Ok (rec, after)
      → read_at g m (before ps later) ≡ Ok (Some (rec, after, later))
  unfolding read_at statement_at
  first_read m after ps later rec one says =
      let all = before ps later in
      let cuts : cut (g.ending m) [] (ps ++ later.pieces) ≡ Some (ps, later.pieces) = cut_more (g.ending m) [] ps ps [] later.pieces one in
      ap (λ (o : Option (List Token × List Token)). read_found g m all (statement_from o all)) cuts ∙ ap (with_left g later) says

  pub pieces_are_found : PiecesAreFound g
  pieces_are_found pos m after p rest rec is apart =
      let at = piece_at g pos m after p rec is in
      let end : (lex pos between p).end ≡ Ok (pos + length p) = ap (λ (l : Lexed). l.end) at in
      let later = lex (pos + length p) between rest in
      let ps = map (moved_token pos) is.statement in
      let both = join p rest pos (pos + length p) between end (closed_at p pos is.tokens.closed) apart in
      ap (read_at g m) (both ∙ ap (λ (qs : List Token). before qs later) (ap (λ (l : Lexed). l.pieces) at))
      ∙ first_read m after ps later rec (cut_moved (g.ending m) pos [] is.statement is.statement [] is.one) (form_moved g m pos is.statement (rec, after) is.says)
