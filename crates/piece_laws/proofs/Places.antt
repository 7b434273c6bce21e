-- The statements of texts of pieces, with their places.
use Rattle.std.proofs.Common.{◌≡◌, ℕ, ◌+◌, List, [], ◌∷◌, ◌++◌, length, map, Some, Ok, refl, sym, ap, ◌∙◌, ⊎_elim, append_assoc, add-zero, arith, length-append}
use Rattle.std.proofs.lemmas.Bool.{cases_Bool as cases}
use Rattle.form_meanings.proofs.Steps.{some_same}
use Rattle.std.specs.List.{concat}
use Rattle.statement_model.specs.Tokens.{Token, Lexed, lex, before, tokens}
use Rattle.statement_model.specs.Tokens.Open.{between}
use Rattle.statement_model.specs.Boundaries.{is_whole, cut}
use Rattle.statement_model.specs.Grammar.{Grammar}
use Rattle.statement_model.specs.Reading.{read_form}
use Rattle.statement_reader.specs.Located.{located_on, located_from}
use Rattle.lefdef_tokens.specs.Laws.{moved_token, BeginsApart}
use Rattle.lefdef_tokens.proofs.Joining.{join}
use Rattle.piece_laws.specs.Pieces.{IsPiece}
use Rattle.piece_laws.specs.PlaceLaws.{placed_pieces, PiecesAreLocated}
use Rattle.piece_laws.proofs.MovedTokens.{closed_at, cut_moved}
use Rattle.piece_laws.proofs.Reading.{form_moved, piece_at}

module _ {M R : Type 0} (g : Grammar M R) where
  -- tokens that begin with one statement
  one_located : (m after : M) (begun ps s more : List Token) (rec : R) → cut (g.ending m) begun ps ≡ Some (s, []) → read_form g m s ≡ Ok (rec, after)
      → located_on g m begun (ps ++ more) ≡ (s, rec) ∷ located_on g after [] more
  unfolding cut located_on
  one_located m after begun [] s more rec h says = absurd (cc)
  one_located m after begun (p ∷ ps) s more rec h says = ⊎_elim
      (λ whole.
      let there = rw whole at h in
      let x : List Token × List Token = (begun ++ p ∷ [], ps) in
      let y : List Token × List Token = (s, []) in
      let same = some_same x y there in
      let first : begun ++ p ∷ [] ≡ s = ap (λ (z : List Token × List Token). z.0) same in
      let none : ps ≡ [] = ap (λ (z : List Token × List Token). z.1) same in
      rw (whole, first, none, says) refl)
      (λ no. let there = rw no at h in rw no (one_located m after (begun ++ p ∷ []) ps s more rec there says))
      (cases (is_whole (g.ending m) (begun ++ p ∷ [])))

  piece_located : (pos : ℕ) (m after : M) (p rest : List ℕ) (rec : R) (is : IsPiece g m p rec after) → BeginsApart rest
      → located_from g m (lex pos between (p ++ rest)) ≡ (map (moved_token pos) (tokens p).pieces, rec) ∷ located_from g after (lex (pos + length p) between rest)
  piece_located pos m after p rest rec is apart =
      let at = piece_at g pos m after p rec is in
      let end : (lex pos between p).end ≡ Ok (pos + length p) = ap (λ (l : Lexed). l.end) at in
      let pieces : (lex pos between p).pieces ≡ map (moved_token pos) is.statement = ap (λ (l : Lexed). l.pieces) at in
      let own : is.statement ≡ (tokens p).pieces = sym is.tokens.pieces in
      let both = join p rest pos (pos + length p) between end (closed_at p pos is.tokens.closed) apart in
      let later = lex (pos + length p) between rest in
      let cuts = cut_moved (g.ending m) pos [] is.statement is.statement [] is.one in
      ap (located_from g m) (both ∙ ap (λ (ps : List Token). before ps later) pieces)
      ∙ one_located m after [] (map (moved_token pos) is.statement) (map (moved_token pos) is.statement) later.pieces rec cuts (form_moved g m pos is.statement (rec, after) is.says)
      ∙ ap (λ (ps : List Token). (map (moved_token pos) ps, rec) ∷ located_from g after later) own

  pub pieces_are_located : PiecesAreLocated g
  pieces_are_located pos m last [] [] rest chain apart = rw (add-zero pos, chain) refl
  pieces_are_located pos m last [] (r ∷ rs) rest chain apart = absurd chain
  pieces_are_located pos m last (p ∷ ps) [] rest chain apart = absurd chain
  pieces_are_located pos m last (p ∷ ps) (r ∷ rs) rest chain apart =
      let here = piece_located pos m chain.0 p (concat ps ++ rest) r chain.1 apart.0 in
      let later = pieces_are_located (pos + length p) chain.0 last ps rs rest chain.2 apart.1 in
      let sum : pos + length p + length (concat ps) ≡ pos + length (p ++ concat ps) = omega (arith, length-append p (concat ps)) in
      let first : List Token × R = (map (moved_token pos) (tokens p).pieces, r) in
      ap (λ (t : List ℕ). located_from g m (lex pos between t)) (append_assoc p (concat ps) rest)
      ∙ here
      ∙ ap (λ (x : List (List Token × R)). first ∷ x) later
      ∙ ap (λ (k : ℕ). first ∷ (placed_pieces (pos + length p) ps rs ++ located_from g last (lex k between rest))) sum
