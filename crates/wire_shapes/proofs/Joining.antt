-- The pieces of a path go on from the place that its front reaches.
use Rattle.std.proofs.Common.{List, [], ◌∷◌, ◌++◌, refl, ap, sym, ◌∙◌}
use Rattle.std.proofs.lemmas.List.{append_assoc}
use Rattle.wire_rules.specs.Paths.{Piece, WireMakings, PiecesJoin, pieces_at, pieces_from, place_after, place_after_all}

pub pieces_join : (rules : WireMakings) → PiecesJoin rules
unfolding pieces_from place_after_all
pieces_join rules p [] rest = refl
pieces_join rules p (i ∷ is) rest = ap (λ (z : List Piece). pieces_at rules p i ++ z) (pieces_join rules (place_after rules p i) is rest) ∙ sym (append_assoc (pieces_at rules p i) (pieces_from rules (place_after rules p i) is) (pieces_from rules (place_after_all rules (place_after rules p i) is) rest))
