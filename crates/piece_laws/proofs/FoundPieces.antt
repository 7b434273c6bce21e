-- A statement that is read from a position on is a piece by itself.
use Rattle.std.proofs.Common.{◌≡◌, ℕ, ◌+◌, ◌-◌, List, [], ◌∷◌, ◌++◌, length, map, take, drop, Some, Result, Ok, refl, sym, ap, ◌∙◌, subst, append_assoc, add_assoc, zero-add, arith, take_at, slice_range}
use Rattle.design_model.specs.declared.fault.Fault.{Fault}
use Rattle.statement_model.specs.Tokens.{Token, Lexed, lex, tokens, left_from}
use Rattle.statement_model.specs.Tokens.Open.{between}
use Rattle.statement_model.specs.Boundaries.{words, cut}
use Rattle.statement_model.specs.Form.{whole}
use Rattle.statement_model.specs.Grammar.{Grammar}
use Rattle.statement_model.specs.Cuts.{end_of}
use Rattle.statement_model.specs.Reading.{read_form}
use Rattle.lefdef_tokens.specs.Laws.{state_after, IsClosed, moved_token, moved}
use Rattle.lefdef_tokens.specs.TokenViews.{span_of, end_after}
use Rattle.lefdef_tokens.specs.declared.span.Span.{Span}
use Rattle.splicing_laws.proofs.SplicingEnds.{Ends, ends}
use Rattle.splicing_laws.proofs.SplicingWords.{end_at, end_is, read_at as lexed_at}
use Rattle.statement_reader.proofs.Steps.{is_cut, form_read}
use Rattle.piece_laws.specs.Pieces.{IsPiece}
use Rattle.piece_laws.specs.PieceLaws.{StatementsArePieces}
use Rattle.piece_laws.proofs.Cutting.{cut_joins, cut_own}
use Rattle.piece_laws.proofs.MovedTokens.{moved_words, cut_back, closed_first}
use Rattle.piece_laws.proofs.Reading.{read_formed}

-- the last of some tokens, and those before it
abbrev LastOf : Token → List Token → Type 0
LastOf p run = (first : List Token) × (last : Token) × (p ∷ run ≡ first ++ last ∷ []) × (end_after (end_of p) run ≡ end_of last)

last_of_run : (p : Token) (run : List Token) → LastOf p run
last_of_run p [] = ([], p, refl, refl)
last_of_run p (q ∷ qs) = let later = last_of_run q qs in (p ∷ later.0, later.1, ap (λ (ps : List Token). p ∷ ps) later.2, later.3)

-- the first bytes of what is left of a text
front_is : (text : List ℕ) (from to : ℕ) (front rest : List ℕ) → drop from text ≡ front ++ rest → from + length front ≡ to → slice_range text from to ≡ front
front_is text from to front rest is long =
    let size : length front ≡ to - from = omega arith in
    ap (take (to - from)) is ∙ take_at front rest (to - from) size

-- where tokens end that are as many places further on
pub end_moved : (k place : ℕ) (ps : List Token) → end_after (k + place) (map (moved_token k) ps) ≡ k + end_after place ps
end_moved k place [] = refl
end_moved k place (p ∷ ps) = ap (λ (n : ℕ). end_after n (map (moved_token k) ps)) (add_assoc k p.pos (length p.bytes)) ∙ end_moved k (p.pos + length p.bytes) ps

own_end : (own ps : List Token) (k n : ℕ) → map (moved_token k) own ≡ ps → (span_of ps).hi ≡ k + n → (span_of own).hi ≡ n
own_end [] ps k n is at = let none : (span_of ps).hi ≡ 0 = ap (λ (qs : List Token). (span_of qs).hi) (sym is) in omega (arith, at, none)
own_end (q ∷ qs) ps k n is at =
    let there : k + end_after (q.pos + length q.bytes) qs ≡ k + n =
    sym (end_moved k (q.pos + length q.bytes) qs) ∙ sym (ap (λ (m : ℕ). end_after m (map (moved_token k) qs)) (add_assoc k q.pos (length q.bytes))) ∙ ap (λ (rs : List Token). (span_of rs).hi) is ∙ at in
    omega (arith, there)

module _ {M R : Type 0} (g : Grammar M R) where
  -- bytes that are read from a place on as one statement are a piece
  piece_is : (m after : M) (bytes : List ℕ) (from to : ℕ) (ps : List Token) (rec : R) → lex from between bytes ≡ record { pieces = ps; end = Ok to } → IsClosed (state_after from between bytes)
      → (span_of ps).hi ≡ to → cut (g.ending m) [] ps ≡ Some (ps, []) → read_form g m ps ≡ Ok (rec, after) → IsPiece g m bytes rec after
  piece_is m after bytes from to ps rec is closed at one says =
      let here : moved from (tokens bytes) ≡ record { pieces = ps; end = Ok to } = sym (lexed_at bytes from) ∙ is in
      let own = (tokens bytes).pieces in
      let end = end_at from to (tokens bytes).end (ap (λ (l : Lexed). l.end) here) in
      let all_read : (tokens bytes).end ≡ Ok (length bytes) = end.1 ∙ ap (λ (k : ℕ). Ok k) (end_is bytes 0 end.0 between end.1 ∙ zero-add (length bytes)) in
      let moved_is : map (moved_token from) own ≡ ps = ap (λ (l : Lexed). l.pieces) here in
      let first : cut (g.ending m) [] (map (moved_token from) own) ≡ Some (ps, []) = rw moved_is one in
      let long : to ≡ from + length bytes = end_is bytes from to between (ap (λ (l : Lexed). l.end) is) in
      let words_are : words own ≡ words ps = sym (moved_words from own) ∙ ap words moved_is in
      record {
        statement = own;
        tokens = record { pieces = refl; end = all_read; closed = closed_first bytes from closed };
        ends = own_end own ps from (length bytes) moved_is (at ∙ long);
        one = cut_back (g.ending m) from [] own ps first;
        says = rw words_are (read_formed g m ps own (whole (g.form m) (words ps)) (rec, after) says);
      }

  cut_ends : (text : List ℕ) (pos end : ℕ) (p : Token) (run rest : List Token) (r : Result ℕ Fault) (m after : M) (rec : R)
      → lex pos between (drop pos text) ≡ record { pieces = (p ∷ run) ++ rest; end = r } → end_after (end_of p) run ≡ end
      → cut (g.ending m) [] (p ∷ run) ≡ Some (p ∷ run, []) → read_form g m (p ∷ run) ≡ Ok (rec, after)
      → IsPiece g m (slice_range text pos end) rec after
  cut_ends text pos end p run rest r m after rec is at one says =
      let last = last_of_run p run in
      let split : (p ∷ run) ++ rest ≡ last.0 ++ last.1 ∷ rest = ap (λ (ps : List Token). ps ++ rest) last.2 ∙ append_assoc last.0 (last.1 ∷ []) rest in
      let read = is ∙ ap (λ (ps : List Token). record { pieces = ps; end = r }) split in
      let part : Ends pos between (drop pos text) last.0 last.1 rest r = ends (drop pos text) pos r between last.0 rest last.1 tt read in
      let to : pos + length part.front ≡ end = part.place ∙ sym last.3 ∙ at in
      let own : lex pos between part.front ≡ record { pieces = p ∷ run; end = Ok (end_of last.1) } = part.read ∙ ap (λ (ps : List Token). record { pieces = ps; end = Ok (end_of last.1) }) (sym last.2) in
      subst (λ (bytes : List ℕ). IsPiece g m bytes rec after) (sym (front_is text pos end part.front part.rest part.whole to))
      (piece_is m after part.front pos (end_of last.1) (p ∷ run) rec own part.left.0 last.3 one says)

  some_cut : (m after : M) (text : List ℕ) (pos start end : ℕ) (ps rest : List Token) (r : Result ℕ Fault) (rec : R)
      → lex pos between (drop pos text) ≡ record { pieces = ps ++ rest; end = r }
      → cut (g.ending m) [] ps ≡ Some (ps, [])
      → read_form g m ps ≡ Ok (rec, after)
      → span_of ps ≡ record { lo = start; hi = end }
      → IsPiece g m (slice_range text pos end) rec after
  unfolding cut
  some_cut m after text pos start end [] rest r rec is one says at = absurd (cc)
  some_cut m after text pos start end (p ∷ run) rest r rec is one says at = cut_ends text pos end p run rest r m after rec is (ap (λ (s : Span). s.hi) at) one says

  pub statements_are_pieces : StatementsArePieces g
  statements_are_pieces m after text pos start end ps rec within at read span =
      let l = left_from text pos in
      let left = left_from text end in
      let c = is_cut (g.ending m) l left ps at in
      let all : l.pieces ≡ ps ++ left.pieces = cut_joins (g.ending m) [] l.pieces ps left.pieces c.0 in
      let first : cut (g.ending m) [] (ps ++ left.pieces) ≡ Some (ps, left.pieces) = rw (← all) c.0 in
      let one = cut_own (g.ending m) ps left.pieces first in
      let says = form_read g m after l left ps rec at read in
      some_cut m after text pos start end ps left.pieces l.end rec (ap (λ (qs : List Token). record { pieces = qs; end = l.end }) all) one says span
