-- Lines that are made of the statements of a text chunk by chunk.
use Rattle.std.proofs.Common.{◌≡◌, ℕ, List, ◌++◌, Option, flat_map, map, ap, ◌∙◌, arith}
use Rattle.std.proofs.lemmas.Grind.{flat_map-append}
use Rattle.std.proofs.lemmas.List.{map-append}
use Rattle.design_model.specs.declared.identifier.StmtId.{StmtId}
use Rattle.def_grammar.specs.Records.{Record}
use Rattle.line_laws.specs.Lines.{SameLines, times}
use Rattle.line_laws.proofs.PairSums.{times-append}
use Rattle.text_pieces.specs.Tables.{Kept}
use Rattle.design_text.proofs.ChunkWalks.{says}

module _ (slots : List (Option Kept)) (f : Record → List (List ℕ)) where
  -- the lines on the statements under some numbers
  abbrev pub lines_of : List StmtId → List (List ℕ)
  lines_of ids = flat_map f (map (says slots) ids)

  pub lines_parted : (a b : List StmtId) → lines_of (a ++ b) ≡ lines_of a ++ lines_of b
  lines_parted a b = ap (flat_map f) (map-append (says slots) a b) ∙ flat_map-append f (map (says slots) a) (map (says slots) b)

-- three parts, of which the first is in whatever order
pub in_parts : (counts headers each rest with_each all : List (List ℕ)) → SameLines headers counts → with_each ≡ headers ++ each → all ≡ with_each ++ rest → SameLines all (counts ++ (each ++ rest))
in_parts counts headers each rest with_each all same second third = record {
  often = λ q.
      let a = same.often q in
      let b = ap (times q) (third ∙ ap (λ (l : List (List ℕ)). l ++ rest) second) in
      omega (arith, a, b, times-append q (headers ++ each) rest, times-append q headers each, times-append q counts (each ++ rest), times-append q each rest);
}
