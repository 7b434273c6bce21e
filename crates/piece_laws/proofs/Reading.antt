-- Texts of pieces are read piece by piece.
use Rattle.std.proofs.Common.{◌≡◌, ℕ, ◌+◌, List, [], ◌∷◌, ◌++◌, length, map, Option, Some, None, Result, Ok, Err, refl, sym, ap, ap₂, ◌∙◌, ⊎_elim, append_assoc, add-zero, arith, length-append}
use Rattle.std.specs.List.{concat}
use Rattle.std.proofs.lemmas.Bool.{cases_Bool as cases}
use Rattle.design_model.specs.declared.fault.Fault.{Fault}
use Rattle.form_meanings.proofs.Steps.{some_same}
use Rattle.statement_model.specs.Tokens.{Token, Lexed, lex, before}
use Rattle.statement_model.specs.Tokens.Open.{between}
use Rattle.statement_model.specs.Boundaries.{words, is_whole, cut}
use Rattle.statement_model.specs.Folds.{◌>>◌}
use Rattle.statement_model.specs.Form.{whole}
use Rattle.statement_model.specs.Grammar.{Key, Grammar}
use Rattle.statement_model.specs.Reading.{read_form, formed, checked, read_from}
use Rattle.lefdef_tokens.specs.Laws.{BeginsApart, moved_token, moved}
use Rattle.lefdef_tokens.proofs.Joining.{join}
use Rattle.lefdef_tokens.proofs.Moving.{tokens_move}
use Rattle.statement_laws.specs.ReadingLaws.{read_statements}
use Rattle.statement_laws.proofs.Reading.{reading_joins}
use Rattle.piece_laws.specs.Pieces.{keyless, IsPiece}
use Rattle.piece_laws.specs.PieceLaws.{PiecesAreRead}
use Rattle.piece_laws.proofs.MovedTokens.{moved_words, cut_moved, closed_at}

module _ {M R : Type 0} (g : Grammar M R) where
  -- a form that reads does so wherever its tokens stand
  read_checked : (m : M) (ps qs : List Token) (rec : R) (bad : Option ℕ) (x : R × M) → checked g m ps rec bad ≡ Ok x → checked g m qs rec bad ≡ Ok x
  read_checked m ps qs rec None x h = h
  read_checked m ps qs rec (Some n) x h = absurd (cc)

  pub read_formed : (m : M) (ps qs : List Token) (w : Option (R × Option ℕ)) (x : R × M) → formed g m ps w ≡ Ok x → formed g m qs w ≡ Ok x
  read_formed m ps qs None x h = absurd (cc)
  read_formed m ps qs (Some w) x h = read_checked m ps qs w.0 w.1 x h

  pub form_moved : (m : M) (k : ℕ) (ps : List Token) (x : R × M) → read_form g m ps ≡ Ok x → read_form g m (map (moved_token k) ps) ≡ Ok x
  form_moved m k ps x h = rw (moved_words k ps) (read_formed m ps (map (moved_token k) ps) (whole (g.form m) (words ps)) x h)

  -- tokens that are one statement are read as it
  one_is_read : (m after : M) (begun ps s : List Token) (rec : R) → cut (g.ending m) begun ps ≡ Some (s, []) → read_form g m s ≡ Ok (rec, after)
      → read_statements (keyless g) (m, []) begun ps ≡ Ok (rec ∷ [], (after, []), [])
  unfolding cut read_statements
  one_is_read m after begun [] s rec h says = absurd (cc)
  one_is_read m after begun (p ∷ ps) s rec h says = ⊎_elim
      (λ whole.
      let there = rw whole at h in
      let x : List Token × List Token = (begun ++ p ∷ [], ps) in
      let y : List Token × List Token = (s, []) in
      let same = some_same x y there in
      let first : begun ++ p ∷ [] ≡ s = ap (λ (z : List Token × List Token). z.0) same in
      let none : ps ≡ [] = ap (λ (z : List Token × List Token). z.1) same in
      rw (whole, first, none, says) refl)
      (λ more. let there = rw more at h in rw more (one_is_read m after (begun ++ p ∷ []) ps s rec there says))
      (cases (is_whole (g.ending m) (begun ++ p ∷ [])))

  -- the tokens of a piece at a place
  pub piece_at : (pos : ℕ) (m after : M) (bytes : List ℕ) (rec : R) (is : IsPiece g m bytes rec after) → lex pos between bytes ≡ moved pos (record { pieces = is.statement; end = Ok (length bytes) })
  piece_at pos m after bytes rec is = ap (λ (k : ℕ). lex k between bytes) (sym (add-zero pos)) ∙ tokens_move bytes pos 0 ∙ ap (moved pos) (ap₂ (λ (ps : List Token) (r : Result ℕ Fault). record { pieces = ps; end = r }) is.tokens.pieces is.tokens.end)

module _ {M R : Type 0} (g : Grammar M R) where
  one_then : (rec : R) (recs : List R) (r : Result (List R) Fault) → ((r >> λ later. Ok (recs ++ later)) >> λ later. Ok ((rec ∷ []) ++ later)) ≡ (r >> λ later. Ok ((rec ∷ recs) ++ later))
  one_then rec recs (Ok later) = refl
  one_then rec recs (Err f) = refl

  none_then : (r : Result (List R) Fault) → r ≡ (r >> λ later. Ok ([] ++ later))
  none_then (Ok later) = refl
  none_then (Err f) = refl

  -- a piece, and then more
  piece_then : (pos : ℕ) (m after : M) (p rest : List ℕ) (rec : R) (is : IsPiece g m p rec after) → BeginsApart rest
      → read_from (keyless g) (m, []) (lex pos between (p ++ rest)) ≡ (read_from (keyless g) (after, []) (lex (pos + length p) between rest) >> λ later. Ok ((rec ∷ []) ++ later))
  piece_then pos m after p rest rec is apart =
      let at = piece_at g pos m after p rec is in
      let end : (lex pos between p).end ≡ Ok (pos + length p) = ap (λ (l : Lexed). l.end) at in
      let pieces : (lex pos between p).pieces ≡ map (moved_token pos) is.statement = ap (λ (l : Lexed). l.pieces) at in
      let both = join p rest pos (pos + length p) between end (closed_at p pos is.tokens.closed) apart in
      let cuts = cut_moved (g.ending m) pos [] is.statement is.statement [] is.one in
      let reads = one_is_read g m after [] (map (moved_token pos) is.statement) (map (moved_token pos) is.statement) rec cuts (form_moved g m pos is.statement (rec, after) is.says) in
      ap (read_from (keyless g) (m, [])) (both ∙ ap (λ (ps : List Token). before ps (lex (pos + length p) between rest)) pieces)
      ∙ reading_joins (keyless g) (m, []) (after, []) (map (moved_token pos) is.statement) (rec ∷ []) (lex (pos + length p) between rest) reads

  pub pieces_are_read : PiecesAreRead g
  pieces_are_read pos m last [] [] rest chain apart = rw (add-zero pos, chain) (none_then (read_from (keyless g) (last, []) (lex pos between rest)))
  pieces_are_read pos m last [] (r ∷ rs) rest chain apart = absurd chain
  pieces_are_read pos m last (p ∷ ps) [] rest chain apart = absurd chain
  pieces_are_read pos m last (p ∷ ps) (r ∷ rs) rest chain apart =
      let here = piece_then pos m chain.0 p (concat ps ++ rest) r chain.1 apart.0 in
      let later = pieces_are_read (pos + length p) chain.0 last ps rs rest chain.2 apart.1 in
      let sum : pos + length p + length (concat ps) ≡ pos + length (p ++ concat ps) = omega (arith, length-append p (concat ps)) in
      let state : M × List Key = (last, []) in
      ap (λ (t : List ℕ). read_from (keyless g) (m, []) (lex pos between t)) (append_assoc p (concat ps) rest)
      ∙ here
      ∙ ap (λ (x : Result (List R) Fault). x >> λ later. Ok ((r ∷ []) ++ later)) later
      ∙ one_then r rs (read_from (keyless g) state (lex (pos + length p + length (concat ps)) between rest))
      ∙ ap (λ (k : ℕ). read_from (keyless g) state (lex k between rest) >> λ later. Ok ((r ∷ rs) ++ later)) sum
