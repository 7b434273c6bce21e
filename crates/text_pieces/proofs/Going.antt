-- An exchange, turn by turn.
use Rattle.std.proofs.Common.{◌≡◌, ◌≤◌, ◌<◌, ◌+◌, ℕ, List, [], ◌∷◌, ◌++◌, length, get_or, set, map, take, drop, refl, ap, ◌∙◌, arith, add-one, append_assoc}
use Rattle.std.proofs.Math.ListN.{length-set}
use Rattle.std.proofs.Math.Seq.{drop-cons}
use Rattle.std.proofs.lemmas.List.{map-set, map-append, drop-set-lt, take_more_set}
use Rattle.text_pieces.specs.Chunks.{Numbers, Replacement, exchanged, no_numbers, ArePlaces}

module _ {V C : Type 0} (f : V → Numbers) (s : C → Replacement) where
  -- after i turns: the chunks that were exchanged, and those that are still to be
  pub record Going (cs : List V) (rs : List C) (i : ℕ) (now : List V) (left : List C) : Type 0 where
    pub within : i ≤ length left
    pub chunks : (exchanged (map f cs) (map s rs)).0 ≡ (exchanged (map f now) (map s (drop i left))).0
    pub changes : (exchanged (map f cs) (map s rs)).1 ≡ map s (take i left) ++ (exchanged (map f now) (map s (drop i left))).1
    pub places : ArePlaces (length now) (map s (drop i left))

  first : (left : List C) (i : ℕ) (d : C) → i < length left → map s (drop i left) ≡ s (get_or left i d) ∷ map s (drop (i + 1) left)
  first left i d below = rw (add-one i) (ap (map s) (drop-cons left i d below))

  pub place_below : (cs : List V) (rs : List C) (i : ℕ) (now : List V) (left : List C) (d : C) → Going cs rs i now left → i < length left → (s (get_or left i d)).0 < length now
  place_below cs rs i now left d g below = let p = rw (first left i d below) at g.places in p.0

  pub turn : (cs : List V) (rs : List C) (i : ℕ) (now : List V) (left : List C) (d e : C) (v : V) → Going cs rs i now left → i < length left
      → f v ≡ (s (get_or left i d)).1 → s e ≡ ((s (get_or left i d)).0, get_or (map f now) (s (get_or left i d)).0 no_numbers)
      → Going cs rs (i + 1) (set now (s (get_or left i d)).0 v) (set left i e)
  turn cs rs i now left d e v g below put back =
      let r = s (get_or left i d) in
      let long : length (set left i e) ≡ length left = length-set left i e in
      let rest : drop (i + 1) (set left i e) ≡ drop (i + 1) left = drop-set-lt (i + 1) left i e (omega arith) in
      let done : map s (take (i + 1) (set left i e)) ≡ map s (take i left) ++ s e ∷ [] = ap (map s) (take_more_set left i e below) ∙ map-append s (take i left) (e ∷ []) in
      let chunks : map f (set now r.0 v) ≡ set (map f now) r.0 r.1 = map-set f now r.0 v ∙ ap (λ (x : Numbers). set (map f now) r.0 x) put in
      let many : length (set now r.0 v) ≡ length now = length-set now r.0 v in
      record {
        within = omega (arith, long);
        chunks = rw (first left i d below) at g.chunks ∙ rw (rest, chunks) refl;
        changes = rw (first left i d below) at g.changes ∙ rw (rest, done, chunks, back, append_assoc) refl;
        places = rw (rest, many) ((rw (first left i d below) at g.places).2);
      }
