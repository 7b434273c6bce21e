-- How few statements are read again: the new pieces end where statements of the new stretch do.
use Rattle.std.proofs.Common.{◌≡◌, ◌<◌, ◌≤◌, ◌+◌, ◌-◌, ◌∙◌, ℕ, zero, suc, true, List, [], ◌∷◌, ◌++◌, length, take, drop, Option, Some, refl, sym, ap, ap₂, subst, ⊎_elim, arith, length-append}
use Rattle.std.specs.Prelude.{slice_get}
use Rattle.std.specs.List.{concat}
use Rattle.std.proofs.lemmas.Bool.{cases_lt}
use Rattle.std.proofs.lemmas.List.{map-append}
use Rattle.std.proofs.lemmas.List.Folds.{concat-append}
use Rattle.design_model.specs.declared.mode.Mode.{Mode}
use Rattle.design_model.specs.declared.mode.Mode.TheVariants.{After}
use Rattle.form_meanings.specs.Words.{◌>>=◌}
use Rattle.statement_model.specs.Cuts.{Cut, with_cuts}
use Rattle.rereading.specs.Rereading.{NoneShared, NotShared}
use Rattle.rereading.specs.Segments.{OldBytes, mode_at}
use Rattle.rereading.specs.Segments as behind_edit
use Rattle.rereading.specs.declared.pieces.NewPiece.{NewPiece}
use Rattle.text_pieces.specs.Behind.{segments}
use Rattle.text_pieces.specs.Content.{bytes_of}
use Rattle.text_pieces.specs.NewStretches.{End, end_before, ends_of, is_kept, last_end, new_stretch, up_to}
use Rattle.text_pieces.specs.Storing.{new_kept, news_of}
use Rattle.text_pieces.specs.Tables.{Kept}
use Rattle.text_pieces.specs.Touched.{AreTouched}
use Rattle.text_pieces.proofs.NewEnds.{few_up_to, was_there}
use Rattle.text_pieces.proofs.PieceEnds.{AllFull, above, all_above, below, end_at, ends_append, last_front, many_ends, mode_or, mode_there, none_above, none_below, piece_ends, size, size_more}
use Rattle.text_pieces.proofs.Replaced.{segments_up_to}
use Rattle.text_pieces.proofs.TouchedPieces.{segment_from}

size_append : (xs ys : List Kept) → size (xs ++ ys) ≡ size xs + size ys
size_append xs ys =
    ap (λ (l : List (List ℕ)). length (concat l)) (map-append (λ (k : Kept). k.bytes) xs ys)
    ∙ ap (λ (l : List ℕ). length l) (concat-append (bytes_of xs) (bytes_of ys))
    ∙ length-append (concat (bytes_of xs)) (concat (bytes_of ys))

-- the first of some have no more bytes than more of them, and those up to a place in the first part are in it
size_up_to : (a b : ℕ) (ks : List Kept) → a ≤ b → size (take a ks) ≤ size (take b ks)
size_up_to zero b ks low = omega arith
size_up_to (suc a) zero ks low = absurd (omega (arith, low))
size_up_to (suc a) (suc b) [] low = omega arith
size_up_to (suc a) (suc b) (k ∷ ks) low = omega (arith, size_more k (take a ks), size_more k (take b ks), size_up_to a b ks (omega (arith, low)))

size_front : (n : ℕ) (xs ys : List Kept) → n ≤ length xs → size (take n (xs ++ ys)) ≤ size xs
size_front zero xs ys low = omega arith
size_front (suc n) [] ys low = absurd (omega (arith, low))
size_front (suc n) (x ∷ xs) ys low = omega (arith, size_more x xs, size_more x (take n (xs ++ ys)), size_front n xs ys (omega (arith, low)))

taken_behind : (xs ys : List Kept) (n : ℕ) → take (length xs + n) (xs ++ ys) ≡ xs ++ take n ys
taken_behind [] ys n = let e : 0 + n ≡ n = omega arith in ap (λ (m : ℕ). take m ys) e
taken_behind (x ∷ xs) ys n =
    let e : suc (length xs) + n ≡ suc (length xs + n) = omega arith in
    ap (λ (m : ℕ). take m (x ∷ (xs ++ ys))) e ∙ ap (λ (l : List Kept). x ∷ l) (taken_behind xs ys n)

dropped_behind : (xs ys : List Kept) (n : ℕ) → drop (length xs + n) (xs ++ ys) ≡ drop n ys
dropped_behind [] ys n = let e : 0 + n ≡ n = omega arith in ap (λ (m : ℕ). drop m ys) e
dropped_behind (x ∷ xs) ys n =
    let e : suc (length xs) + n ≡ suc (length xs + n) = omega arith in
    ap (λ (m : ℕ). drop m (x ∷ (xs ++ ys))) e ∙ dropped_behind xs ys n

abbrev bytes_in : List OldBytes → ℕ
bytes_in ss = length (behind_edit.bytes_of ss)

bytes_on : (n k : ℕ) (ss : List OldBytes) → bytes_in (take (n + k) ss) ≡ bytes_in (take n ss) + bytes_in (take k (drop n ss))
bytes_on zero k ss = let e : 0 + k ≡ k = omega arith in ap (λ (m : ℕ). bytes_in (take m ss)) e ∙ omega arith
bytes_on (suc n) k [] = none (suc n + k) k
  where
    none : (a b : ℕ) → bytes_in (take a []) ≡ 0 + bytes_in (take b [])
    none zero zero = refl
    none zero (suc b) = refl
    none (suc a) zero = refl
    none (suc a) (suc b) = refl
bytes_on (suc n) k (s ∷ ss) =
    let e : suc n + k ≡ suc (n + k) = omega arith in
    ap (λ (m : ℕ). bytes_in (take m (s ∷ ss))) e
    ∙ omega (arith, bytes_on n k ss, length-append s.bytes (behind_edit.bytes_of (take (n + k) ss)), length-append s.bytes (behind_edit.bytes_of (take n ss)))

-- a new piece stands where none of the old ones does in its mode
pub unshared_at : (A : Type 0) (chunk : ℕ) (raw : List ℕ) (ss : List OldBytes) (place : ℕ) (ps : List (NewPiece A)) (left : List Kept) (j : ℕ) → NoneShared raw ss place ps → j < length ps
    → NotShared raw ss (place + size (take j (news_of chunk ps ++ left))) (mode_or After (drop j (news_of chunk ps ++ left)))
unshared_at A chunk raw ss place [] left j h low = absurd (omega (arith, low))
unshared_at A chunk raw ss place (p ∷ ps) left zero h low = let e : place ≡ place + 0 = omega arith in subst (λ (n : ℕ). NotShared raw ss n p.mode) e h.0
unshared_at A chunk raw ss place (p ∷ ps) left (suc j) h low =
    let rest = news_of chunk ps ++ left in
    let e : place + length p.bytes.items + size (take j rest) ≡ place + size (new_kept chunk p ∷ take j rest) = omega (arith, size_more (new_kept chunk p) (take j rest)) in
    subst (λ (n : ℕ). NotShared raw ss n (mode_or After (drop j rest))) e (unshared_at A chunk raw ss (place + length p.bytes.items) ps left j h.1 (omega (arith, low)))

-- Pieces in front of an edit and behind it, and those that then stand behind those in front, of which the first so many are new.
module _ (text : List ℕ) (cut : Cut) (front behind later : List Kept) (tail : List ℕ) (start m : ℕ) (olds : ends_of text ≡ piece_ends 0 After (front ++ behind))
    (news : ends_of (with_cuts (cut ∷ []) text) ≡ piece_ends 0 After (front ++ later)) (start_is : start ≡ size front) (low : 0 < length front → start < cut.lo)
    (high : 0 < length behind → cut.lo ≤ start + size (take 1 behind)) (order : cut.lo ≤ cut.hi) (under : start ≤ cut.lo) where
  abbrev P : List End
  P = piece_ends start After later

  place_is : 0 + size front ≡ start
  place_is = omega (arith, start_is)

  begins_there : end_before cut (piece_ends 0 After (front ++ behind)) ≡ start
  begins_there =
      ap (λ (es : List End). last_end 0 (below cut.lo es)) (ends_append 0 After front behind)
      ∙ last_front 0 cut.lo (mode_or After behind) front (piece_ends (0 + size front) After behind) (λ some. omega (arith, place_is, low some))
      ∙ ap (λ (n : ℕ). last_end n (below cut.lo (piece_ends n After behind))) place_is
      ∙ ap (last_end start) (none_below start cut.lo After behind high)

  later_ends : AllFull later → above start (piece_ends 0 After (front ++ later)) ≡ piece_ends start After later
  later_ends full =
      ap (above start) (ends_append 0 After front later)
      ∙ none_above 0 start (mode_or After later) front (piece_ends (0 + size front) After later) (omega (arith, place_is))
      ∙ ap (λ (n : ℕ). above start (piece_ends n After later)) place_is
      ∙ all_above start start After later full (omega arith)

  stretch_is : AllFull later → new_stretch text cut ≡ up_to (is_kept cut (piece_ends 0 After (front ++ behind))) (piece_ends start After later)
  stretch_is full =
      ap₂ (λ (es fs : List End). up_to (is_kept cut es) (above (end_before cut es) fs)) olds news
      ∙ ap (λ (n : ℕ). up_to (is_kept cut (piece_ends 0 After (front ++ behind))) (above n (piece_ends 0 After (front ++ later)))) begins_there
      ∙ ap (up_to (is_kept cut (piece_ends 0 After (front ++ behind)))) (later_ends full)

  module _ (old : List ℕ) (n : ℕ) (touched : AreTouched (segments behind tail) (cut.hi - start) old n) (some : 0 < n) (room : cut.hi - start ≤ length old) (raw : List ℕ)
      (raw_long : length raw ≡ (cut.lo - start) + (length cut.put + (length old - (cut.hi - start)))) (many : length (segments behind tail) ≡ length behind + 1)
      (unshared : (j : ℕ) → j < m → NotShared raw (drop n (segments behind tail)) (size (take j later)) (mode_or After (drop j later))) where
    -- an old statement that ends behind the edit goes on behind what is touched
    shared : (j q : ℕ) (e o : End) → suc j < m → q < length behind → e.0 ≡ start + size (take (suc j) later) → e.1 ≡ mode_or After (drop (suc j) later) → o.0 ≡ start + size (take (suc q) behind)
        → o.1 ≡ mode_or After (drop (suc q) behind) → cut.hi ≤ o.0 → e.0 ≡ (o.0 - cut.hi) + (cut.lo + length cut.put) → o.1 ≡ e.1 → ⊥
    shared j q e o more within end mode old_end old_mode past moved same =
        let up_q = ap (λ (l : List ℕ). length l) (segments_up_to behind tail (suc q) (omega (arith, within))) in
        ⊎_elim
        (λ (inside : suc q < n).
        let few = size_up_to (suc q) (n - 1) behind (omega (arith, inside)) in
        let up_n = ap (λ (l : List ℕ). length l) (segments_up_to behind tail (n - 1) (omega (arith, many, touched.within))) in
        absurd (omega (arith, touched.tight (omega (arith, inside)), up_n, few, old_end, past)))
        (λ (there : n ≤ suc q).
        let k = suc q - n in
        let q_is : n + k ≡ suc q = omega (arith, there) in
        let own = ap (λ (l : List ℕ). length l) touched.is in
        let on = bytes_on n k (segments behind tail) in
        let on_q = ap (λ (a : ℕ). bytes_in (take a (segments behind tail))) q_is in
        let place : size (take (suc j) later) ≡ length raw + bytes_in (take k (drop n (segments behind tail))) = omega (arith, end, moved, old_end, up_q, on, on_q, own, raw_long, room, past, order, under) in
        let stands : mode_at (drop n (segments behind tail)) k ≡ Some (mode_or After (drop (suc j) later)) =
        ap (λ (s : Option OldBytes). s >>= λ x. x.mode) (segment_from (segments behind tail) n k)
        ∙ ap (mode_at (segments behind tail)) q_is
        ∙ mode_there behind tail (suc q) (omega (arith, within))
        ∙ ap (λ (a : Mode). Some a) (sym old_mode ∙ same ∙ mode) in
        unshared (suc j) more k place stands)
        (cases_lt (suc q) n)

    -- an end of the new text that is kept isn't in front of the last new piece's
    few_before : (j : ℕ) (e : End) → slice_get (piece_ends start After later) j ≡ Some e → is_kept cut (piece_ends 0 After (front ++ behind)) e ≡ true → m ≤ suc j
    few_before j e at kept =
        let f = end_at start After later j e at in
        let w = was_there cut (piece_ends 0 After (front ++ behind)) e kept in
        let g = end_at 0 After (front ++ behind) w.place w.old w.at in
        ⊎_elim
        (λ (more : suc j < m).
        ⊎_elim
        (λ (first : w.place < length front). absurd (omega (arith, g.1, size_front (suc w.place) front behind (omega (arith, first)), start_is, low (omega (arith, first)), order, w.behind)))
        (λ (past : length front ≤ w.place).
        let q = w.place - length front in
        let q_is : suc w.place ≡ length front + suc q = omega (arith, past) in
        let taken : size (take (suc w.place) (front ++ behind)) ≡ size front + size (take (suc q) behind) =
        ap (λ (a : ℕ). size (take a (front ++ behind))) q_is ∙ ap size (taken_behind front behind (suc q)) ∙ size_append front (take (suc q) behind) in
        let dropped : drop (suc w.place) (front ++ behind) ≡ drop (suc q) behind = ap (λ (a : ℕ). drop a (front ++ behind)) q_is ∙ dropped_behind front behind (suc q) in
        let within : q < length behind = omega (arith, g.0, past, length-append front behind) in
        absurd (shared j q e w.old more within f.1 f.2 (omega (arith, g.1, taken, start_is)) (g.2 ∙ ap (mode_or After) dropped) w.behind w.moved w.mode))
        (cases_lt w.place (length front)))
        (λ done. done)
        (cases_lt (suc j) m)

    pub few_reads : AllFull later → m ≤ length later → m ≤ length (new_stretch text cut)
    few_reads full all = rw (stretch_is full) (few_up_to (is_kept cut (piece_ends 0 After (front ++ behind))) m (piece_ends start After later) (omega (arith, all, many_ends start After later)) few_before)
