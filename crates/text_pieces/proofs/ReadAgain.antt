-- A stretch that is read again has no more new pieces than the text has new statements.
use Rattle.std.proofs.Common.{◌≡◌, ◌<◌, ◌≤◌, ◌+◌, ◌-◌, ◌∙◌, ℕ, List, ◌++◌, length, take, drop, sym, ap, subst, arith, length-append}
use Rattle.std.specs.List.{take-map}
use Rattle.std.proofs.lemmas.List.{length-drop, length-map, length-take}
use Rattle.design_model.specs.declared.mode.Mode.TheVariants.{After}
use Rattle.def_grammar.specs.Records.{def}
use Rattle.piece_laws.specs.PlaceLaws.{TextsAreRead}
use Rattle.rereading.specs.Rereading.{IsReread, NotShared}
use Rattle.rereading.specs.declared.pieces.Reread.{Reread}
use Rattle.text_pieces.specs.Behind.{ids_from}
use Rattle.text_pieces.specs.Content.{Content, IsText, text_of}
use Rattle.text_pieces.specs.NewStretches.{ends_of, new_stretch}
use Rattle.text_pieces.specs.Storing.{new_kept}
use Rattle.text_pieces.specs.Stretches.{cut_text}
use Rattle.text_pieces.specs.Tables.{Kept, ids_before, kept_at, standing}
use Rattle.text_pieces.specs.Touched.{AreTouched, BeginsAt}
use Rattle.text_pieces.specs.declared.table.Place.{Place}
use Rattle.text_pieces.proofs.FewReads.{few_reads, unshared_at}
use Rattle.text_pieces.proofs.Opened.{weight_is}
use Rattle.text_pieces.proofs.PieceEnds.{chain_full, mode_or, piece_ends, size, text_ends}
use Rattle.text_pieces.proofs.Stretching.{F, Follows, K, L, accepted, left, long_is, mid, news, raw, room, some_segments, standing_is, start_is, start_low, the_cut}

module _ (c : Content) (t : IsText c) (lo hi : ℕ) (put : List ℕ) (p : Place) (b : BeginsAt c.table lo p) (order : lo ≤ hi) (within : hi ≤ length (text_of c)) (old : List ℕ) (n : ℕ)
    (touched : AreTouched (L c t lo hi put p b order within) (hi - p.start) old n) (A : Type 0) (x : Reread A)
    (is : IsReread (mid c t lo hi put p b order within old n touched) (raw c t lo hi put p b order within old n touched) (drop n (L c t lo hi put p b order within)) x) (law : TextsAreRead def) where
  abbrev front : List Kept
  front = F c t lo hi put p b order within

  abbrev behind : List Kept
  behind = K c t lo hi put p b order within

  abbrev later : List Kept
  later = news c t lo hi put p b order within old n touched A x is ++ left c t lo hi put p b order within old n touched A x is

  old_ends : ends_of (text_of c) ≡ piece_ends 0 After (front ++ behind)
  old_ends =
      text_ends law (standing c.table) c.tail (record { chain = record { recs = t.recs; chained = t.chained; modes = t.modes }; apart = t.apart; ends = t.ends })
      ∙ ap (piece_ends 0 After) (standing_is c t p.chunk p.index b.within)

  low_front : 0 < length front → p.start < lo
  low_front some = b.low (omega (arith, some, length-map (ids_before c.table.chunks p.chunk p.index) (kept_at c.table.slots)))

  high_behind : 0 < length behind → lo ≤ p.start + size (take 1 behind)
  high_behind some =
      let ids = ids_from c.table.chunks p.chunk p.index in
      let first = ap size (take-map (kept_at c.table.slots) 1 ids) in
      omega (arith, b.high (omega (arith, some, length-map ids (kept_at c.table.slots))), first, weight_is c.table.slots (take 1 ids))

  raw_long : length (raw c t lo hi put p b order within old n touched) ≡ (lo - p.start) + (length put + (length old - (hi - p.start)))
  raw_long = omega (
    arith,
    room c t lo hi put p b order within old n touched,
    order,
    length-append (take (lo - p.start) old) (put ++ drop (hi - p.start) old),
    length-append put (drop (hi - p.start) old),
    length-take (lo - p.start) old,
    length-drop (hi - p.start) old,
  )

  apart : (j : ℕ) → j < length x.pieces.items → NotShared (raw c t lo hi put p b order within old n touched) (drop n (L c t lo hi put p b order within)) (size (take j later)) (mode_or After (drop j later))
  apart j low =
      let e : 0 + size (take j later) ≡ size (take j later) = omega arith in
      subst (λ (place : ℕ). NotShared (raw c t lo hi put p b order within old n touched) (drop n (L c t lo hi put p b order within)) place (mode_or After (drop j later))) e
      (unshared_at A p.chunk (raw c t lo hi put p b order within old n touched) (drop n (L c t lo hi put p b order within)) 0 x.pieces.items (left c t lo hi put p b order within old n touched A x is) j is.unshared low)

  pub few_again : (tail : List ℕ) → Follows c t lo hi put p b order within old n touched A x is tail → x.reads ≤ length (new_stretch (text_of c) (the_cut c t lo hi put p b order within))
  few_again tail follows =
      let both = accepted c t lo hi put p b order within old n touched A x is tail follows in
      let new_ends : ends_of (cut_text c (the_cut c t lo hi put p b order within)) ≡ piece_ends 0 After (front ++ later) = ap ends_of (sym both.1) ∙ text_ends law (front ++ later) tail both.0 in
      let many = length-append (news c t lo hi put p b order within old n touched A x is) (left c t lo hi put p b order within old n touched A x is) in
      let own = length-map x.pieces.items (new_kept p.chunk) in
      let few = few_reads (text_of c) (the_cut c t lo hi put p b order within) front behind later c.tail p.start (length x.pieces.items) old_ends new_ends (start_is c t lo hi put p b order within) low_front high_behind order
      (start_low c t lo hi put p b order within) old n touched (touched.some (some_segments c t lo hi put p b order within)) (room c t lo hi put p b order within old n touched)
      (raw c t lo hi put p b order within old n touched) raw_long (long_is c t lo hi put p b order within old n touched A x is) apart (chain_full (mid c t lo hi put p b order within old n touched) After later follows.0.chain)
      (omega (arith, many, own)) in
      omega (arith, few, is.reads)
