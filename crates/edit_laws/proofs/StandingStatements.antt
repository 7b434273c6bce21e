-- A statement among those of tokens that read to their end.
use Rattle.std.proofs.Common.{◌≡◌, ℕ, List, [], ◌∷◌, ◌++◌, zip, Result, Ok, ap, ◌∙◌, append-nil}
use Rattle.design_model.specs.declared.fault.Fault.{Fault}
use Rattle.statement_model.specs.Tokens.{Token, Lexed}
use Rattle.statement_model.specs.Boundaries.{Ending, statements}
use Rattle.statement_model.specs.Folds.{◌>>◌, all_from}
use Rattle.statement_model.specs.Grammar.{Key, Grammar}
use Rattle.statement_model.specs.Reading.{read_one, at_last, read_from}
use Rattle.statement_laws.proofs.Reading.{reading_by_steps}
use Rattle.edit_laws.proofs.CutStatements.{parted}
use Rattle.edit_laws.proofs.SameWords.{then_goes}
use Rattle.edit_laws.proofs.Stands.{firsts, split, whole_text}

pair_same : {A B : Type 0} (a b : A) (c d : B) → a ≡ b → c ≡ d → ◌≡◌ {A = A × B} (a, c) (b, d)
pair_same a b c d e f = cc

module _ {M R : Type 0} (g : Grammar M R) (ending : List ℕ → Ending) (ends : (m : M) → g.ending m ≡ ending) where
  -- a statement among those of a text that reads: the tokens before and after it, and the state from which it is read
  pub record Stands (l : Lexed) (s : List Token) (rec : R) : Type 0 where
    pub front : List Token
    pub behind : List Token
    pub at : M × List Key
    pub after : M × List Key
    pub pieces : l.pieces ≡ front ++ (s ++ behind)
    pub one_read : read_one g at s ≡ Ok (rec, after)

  -- the records of what is left, from those of its statements
  pub rest_reads : (state end : M × List Key) (ps : List Token) (ss : List (List Token)) (recs : List R) (last : Result ℕ Fault) → statements ending [] ps ≡ (ss, []) → all_from (read_one g) state ss ≡ Ok (recs, end)
      → at_last g end [] last ≡ Ok [] → read_from g state (record { pieces = ps; end = last }) ≡ Ok recs
  rest_reads state end ps ss recs last cut read done =
      let x : List R × (M × List Key) = (recs, end) in
      reading_by_steps g ending ends state [] ps last
      ∙ (ap (λ (s : List (List Token) × List Token). all_from (read_one g) state s.0 >> λ x. (at_last g x.1 s.1 last >> λ later. Ok (x.0 ++ later))) cut
      ∙ (then_goes (all_from (read_one g) state ss) (λ x. (at_last g x.1 [] last >> λ later. Ok (x.0 ++ later))) x read
      ∙ (then_goes (at_last g end [] last) (λ later. Ok (recs ++ later)) [] done ∙ ap (λ (l : List R). Ok l) (append-nil recs))))

  pub stands : (state : M × List Key) (l : Lexed) (recs : List R) (first : List (List Token × R)) (s : List Token) (rec : R) (others : List (List Token × R)) → read_from g state l ≡ Ok recs
      → zip (statements ending [] l.pieces).0 recs ≡ first ++ (s, rec) ∷ others → Stands l s rec
  stands state l recs first s rec others reads located =
      let all = statements ending [] l.pieces in
      let w = whole_text g ending ends state l recs reads in
      let x : List R × (M × List Key) = (recs, w.end) in
      let p = split g state all.0 x first s rec others w.read located in
      let parts = parted ending l.pieces (firsts first) s (firsts others) (pair_same all.0 (firsts first ++ s ∷ firsts others) all.1 [] p.statements w.none) in
      record {
        front = parts.front;
        behind = parts.behind;
        at = p.at;
        after = p.after;
        pieces = parts.pieces;
        one_read = p.one_read;
      }
