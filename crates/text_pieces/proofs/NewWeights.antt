-- How many bytes parts of a chunk have.
use Rattle.std.proofs.Common.{◌≡◌, ◌<◌, ◌≤◌, ◌+◌, ◌-◌, ℕ, zero, suc, List, [], ◌∷◌, ◌++◌, length, take, drop, get_or, Option, refl, sym, ap, ◌∙◌, append_assoc, arith, length-append}
use Rattle.std.proofs.lemmas.List.{drop_at, drop-drop, length-drop, length-take-le, take-append-drop}
use Rattle.std.proofs.Math.Seq.{take-append_seam}
use Rattle.design_model.specs.declared.TheConstants.{MAX_TEXT}
use Rattle.design_model.specs.declared.identifier.StmtId.{StmtId}
use Rattle.text_pieces.specs.Chunks.{Numbers, ids_at, no_numbers}
use Rattle.text_pieces.specs.Lists.{IsAnew}
use Rattle.text_pieces.specs.TableChunks.{HasBytes}
use Rattle.text_pieces.specs.Tables.{AreHome, IsTable, Kept, kept_at, weight}
use Rattle.text_pieces.proofs.Slots.{home_at, home_take, len_at}
use Rattle.text_pieces.proofs.Weights.{weight_append, weight_more, weight_up_to}

-- the numbers of a chunk of a table, and their bytes
module _ (slots : List (Option Kept)) (cs : List Numbers) (k : ℕ) where
  pub home_in : IsTable (record { chunks = cs; slots = slots }) → k < length cs → AreHome slots k (ids_at cs k)
  home_in t below = let e : 0 + k ≡ k = omega arith in rw e at (home_at slots 0 cs k t.chunks below)

  pub has_bytes : (n : Numbers) → IsTable (record { chunks = cs; slots = slots }) → k < length cs → get_or cs k no_numbers ≡ n → HasBytes (record { chunks = cs; slots = slots }) k n.len
  has_bytes n t below is =
      let more = weight_more slots cs k n t.chunks below is in
      let few = weight_up_to slots cs (k + 1) in
      record {
        is = ap (λ (m : Numbers). m.len) (sym is) ∙ len_at slots 0 cs k t.chunks below;
        more = more;
        fits = omega (arith, more, few, t.fits);
      }

  pub fits_in : IsTable (record { chunks = cs; slots = slots }) → k < length cs → weight slots (ids_at cs k) ≤ MAX_TEXT
  fits_in t below = let h = has_bytes _ t below refl in omega (arith, h.is, h.fits)

-- numbers of which the first are old ones, with the last old ones behind them
pub anew : (ids old : List StmtId) (place gone : ℕ) (all : List StmtId) → take place ids ≡ take place old → all ≡ ids ++ drop (place + gone) old → IsAnew old place gone all
anew ids old place gone all front is =
    let rest = drop (place + gone) old in
    record {
      others = drop place ids;
      is = is ∙ ap (λ (l : List StmtId). l ++ rest) (sym (take-append-drop place ids)) ∙ append_assoc (take place ids) (drop place ids) rest ∙ ap (λ (l : List StmtId). l ++ (drop place ids ++ rest)) front;
    }

module _ (slots : List (Option Kept)) where
  home_drop : (k : ℕ) (ids : List StmtId) (i : ℕ) → AreHome slots k ids → AreHome slots k (drop i ids)
  home_drop k ids zero h = h
  home_drop k [] (suc i) h = h
  home_drop k (x ∷ xs) (suc i) h = home_drop k xs i h.2

  pub home_part : (k : ℕ) (ids : List StmtId) (i n : ℕ) → AreHome slots k ids → AreHome slots k (take n (drop i ids))
  home_part k ids i n h = home_take slots k (drop i ids) n (home_drop k ids i h)

  pub weight_parts : (ids : List StmtId) (i : ℕ) → weight slots ids ≡ weight slots (take i ids) + weight slots (drop i ids)
  weight_parts ids i = ap (weight slots) (sym (take-append-drop i ids)) ∙ weight_append slots (take i ids) (drop i ids)

  pub part_within : (ids : List StmtId) (i n : ℕ) → weight slots (take n (drop i ids)) ≤ weight slots ids
  part_within ids i n = omega (arith, weight_parts ids i, weight_parts (drop i ids) n)

  pub part_fits : (ids : List StmtId) (i n m : ℕ) → weight slots ids ≤ m → weight slots (take n (drop i ids)) ≤ m
  part_fits ids i n m fits = omega (arith, part_within ids i n, fits)

  pub front_fits : (ids : List StmtId) (i m : ℕ) → weight slots ids ≤ m → weight slots (take i ids) ≤ m
  front_fits ids i m fits = omega (arith, weight_parts ids i, fits)

  weight_thirds : (ids : List StmtId) (i m n : ℕ) → m ≡ n → weight slots ids ≡ weight slots (take i ids) + (weight slots (take m (drop i ids)) + weight slots (drop (i + n) ids))
  weight_thirds ids i m n e =
      let behind = weight_parts (drop i ids) m in
      let rest : weight slots (drop m (drop i ids)) ≡ weight slots (drop (i + n) ids) = ap (weight slots) (drop-drop m i ids ∙ ap (λ (j : ℕ). drop (i + j) ids) e) in
      omega (arith, weight_parts ids i, behind, rest)

  pub weight_one : (ids : List StmtId) (i : ℕ) (d : StmtId) → i < length ids → weight slots (take 1 (drop i ids)) ≡ length (kept_at slots (get_or ids i d)).bytes
  weight_one [] i d below = absurd (omega (arith, below))
  weight_one (x ∷ xs) zero d below = omega arith
  weight_one (x ∷ xs) (suc i) d below = weight_one xs i d (omega (arith, below))

  -- what is new of a list
  module _ (old new : List StmtId) (place gone : ℕ) (a : IsAnew old place gone new) (inside : place + gone ≤ length old) where
    front_long : length (take place old) ≡ place
    front_long = length-take-le place old (omega (arith, inside))

    new_long : length new ≡ place + (length a.others + (length old - (place + gone)))
    new_long =
        let whole = ap (λ (l : List StmtId). length l) a.is in
        omega (arith, whole, front_long, length-append (take place old) (a.others ++ drop (place + gone) old), length-append a.others (drop (place + gone) old), length-drop (place + gone) old)

    others_are : take ((length new - (length old - (place + gone))) - place) (drop place new) ≡ a.others
    others_are =
        let many : (length new - (length old - (place + gone))) - place ≡ length a.others = omega (arith, new_long) in
        let behind : drop place new ≡ a.others ++ drop (place + gone) old = ap (drop place) a.is ∙ drop_at (take place old) (a.others ++ drop (place + gone) old) place front_long in
        rw (many, behind) (take-append_seam a.others (drop (place + gone) old))

    weight_new : weight slots new ≡ weight slots (take place old) + (weight slots a.others + weight slots (drop (place + gone) old))
    weight_new =
        let whole = ap (weight slots) a.is in
        omega (arith, whole, weight_append slots (take place old) (a.others ++ drop (place + gone) old), weight_append slots a.others (drop (place + gone) old))

    pub weights_are : weight slots old + weight slots (take ((length new - (length old - (place + gone))) - place) (drop place new)) ≡ weight slots new + weight slots (take (place + gone - place) (drop place old))
    weights_are = omega (arith, weight_thirds old place (place + gone - place) gone (omega arith), ap (weight slots) others_are, weight_new)
