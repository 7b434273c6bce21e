-- Where the statements of a text of pieces stand.
use Rattle.std.specs.Prelude.{◌≡◌, ℕ, ◌+◌, List, [], ◌∷◌, ◌++◌, length, map, Ok}
use Rattle.std.specs.List.{concat}
use Rattle.statement_model.specs.Tokens.{Token, lex, tokens}
use Rattle.statement_model.specs.Tokens.Open.{between}
use Rattle.statement_model.specs.Grammar.{Grammar}
use Rattle.statement_model.specs.Reading.{read_from}
use Rattle.statement_reader.specs.Located.{located_from}
use Rattle.lefdef_tokens.specs.Laws.{moved_token}
use Rattle.piece_laws.specs.Pieces.{keyless, AreApart, AreChained, IsTail}

-- the statements of pieces from a place on, with what they say
abbrev pub placed_pieces : {R : Type 0} → ℕ → List (List ℕ) → List R → List (List Token × R)
placed_pieces pos (p ∷ ps) (r ∷ rs) = (map (moved_token pos) (tokens p).pieces, r) ∷ placed_pieces (pos + length p) ps rs
placed_pieces pos [] rs = []
placed_pieces pos (p ∷ ps) [] = []

module _ {M R : Type 0} (g : Grammar M R) where
  -- The statements of a text of pieces, and then more that begins apart, are those of the pieces, each at its place, and
  -- then those of the rest.
  abbrev pub PiecesAreLocated : Type 0
  PiecesAreLocated = (pos : ℕ) (m last : M) (ps : List (List ℕ)) (recs : List R) (rest : List ℕ)
      → AreChained g m ps recs last
      → AreApart ps rest
      → located_from g m (lex pos between (concat ps ++ rest)) ≡ placed_pieces pos ps recs ++ located_from g last (lex (pos + length (concat ps)) between rest)

  -- A text of pieces and a tail is read as what the pieces say, and its statements are those of the pieces.
  abbrev pub TextsAreRead : Type 0
  TextsAreRead = (first last : M) (ps : List (List ℕ)) (recs : List R) (tail : List ℕ)
      → AreChained g first ps recs last
      → AreApart ps tail
      → IsTail g last tail
      → (read_from (keyless g) (first, []) (tokens (concat ps ++ tail)) ≡ Ok recs) × (located_from g first (tokens (concat ps ++ tail)) ≡ placed_pieces 0 ps recs)
