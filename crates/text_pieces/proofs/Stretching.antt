-- A stretch of a text in pieces that is read again.
use Rattle.std.proofs.Common.{◌≡◌, ◌<◌, ◌≤◌, ◌+◌, ◌-◌, ℕ, zero, suc, List, [], ◌∷◌, ◌++◌, length, map, take, drop, Option, Some, None, Err, refl, sym, ap, ap₂, ◌∙◌, subst, append_assoc, append-nil, arith, length-append, slice_range}
use Rattle.std.specs.Prelude.{MatchOption}
use Rattle.std.specs.List.{concat, slice_get}
use Rattle.std.proofs.lemmas.List.{drop_all, drop_at, drop-append-le, drop-drop, drop-map, length-drop, length-map, length-take, map-append, take-append-drop, take-append-le}
use Rattle.std.proofs.lemmas.List.Folds.{concat-append}
use Rattle.std.proofs.lemmas.Option.{slice_get_within}
use Rattle.design_model.specs.declared.TheConstants.{MAX_TEXT}
use Rattle.design_model.specs.declared.fault.Fault as fault
use Rattle.design_model.specs.declared.fault.ReadError.{ReadError}
use Rattle.design_model.specs.declared.fault.ReadError.TheVariants.{Fault, Memory}
use Rattle.design_model.specs.declared.mode.Mode.{Mode}
use Rattle.design_model.specs.declared.mode.Mode.TheVariants.{Top, After}
use Rattle.design_model.specs.declared.identifier.StmtId.{StmtId}
use Rattle.statement_model.specs.Cuts.{Cut, with_cuts}
use Rattle.statement_model.specs.Reading.{read_from}
use Rattle.statement_model.specs.Tokens.{tokens}
use Rattle.lefdef_tokens.specs.Laws.{BeginsApart, TokensMove}
use Rattle.def_grammar.specs.Records.{def}
use Rattle.piece_laws.specs.PieceLaws.{PiecesAreRead, TailsMayEnd}
use Rattle.piece_laws.specs.Pieces.{keyless, AreApart}
use Rattle.rereading.specs.Rereading.{IsReread, Rereads, all_bytes}
use Rattle.rereading.specs.Segments.{OldBytes, AreFull, BeginApart, mode_at}
use Rattle.rereading.specs.Segments as behind_edit
use Rattle.rereading.specs.declared.pieces.Reread.{Reread}
use Rattle.text_pieces.specs.Behind.{ids_from, kept_from, old_bytes, segments}
use Rattle.text_pieces.specs.Chunks.{Numbers, all_ids, ids_at}
use Rattle.text_pieces.specs.Content.{Content, IsText, bytes_of, read_keyless, text_of}
use Rattle.text_pieces.specs.Lists.{ids_left}
use Rattle.text_pieces.specs.Storing.{news_of}
use Rattle.text_pieces.specs.Stretches.{EndsText, IsChain, ReadsStretch, cut_text}
use Rattle.text_pieces.specs.Tables.{Kept, ids_before, ids_of, kept_at, standing}
use Rattle.text_pieces.specs.Touched.{AreTouched, BeginsAt}
use Rattle.text_pieces.specs.declared.table.Place.{Place}
use Rattle.text_pieces.proofs.Chains.{apart_behind, apart_front, chain_part}
use Rattle.text_pieces.proofs.FaultsBehind.{fault_behind}
use Rattle.text_pieces.proofs.FullPieces.{are_full, begin_from, chain_full, full_from, mode_first}
use Rattle.text_pieces.proofs.Ids.{cut_at, ids_from as chunks_from}
use Rattle.text_pieces.proofs.Opened.{read_is, weight_is}
use Rattle.text_pieces.proofs.Replaced.{apart_from, apart_other, front_stays, landed, none_left, read_out, segment_bytes, segments_from}

-- all numbers are those before a place, and those from it on
pub split_at : (cs : List Numbers) (k i : ℕ) → k < length cs → all_ids cs ≡ ids_before cs k i ++ ids_from cs k i
split_at cs k i below =
    let ids = ids_at cs k in
    let more = all_ids (drop (k + 1) cs) in
    cut_at cs k
    ∙ ap (λ (l : List StmtId). all_ids (take k cs) ++ l) (chunks_from cs k below ∙ ap (λ (l : List StmtId). l ++ more) (sym (take-append-drop i ids)) ∙ append_assoc (take i ids) (drop i ids) more)
    ∙ sym (append_assoc (all_ids (take k cs)) (take i ids) (drop i ids ++ more))

-- a cut behind some bytes is one of those behind them
cut_behind : (front old rest put : List ℕ) (start lo hi : ℕ) → start ≡ length front → start ≤ lo → lo ≤ hi → hi - start ≤ length old
    → with_cuts (record { lo = lo; hi = hi; put = put } ∷ []) (front ++ (old ++ rest)) ≡ front ++ ((take (lo - start) old ++ (put ++ drop (hi - start) old)) ++ rest)
cut_behind front old rest put start lo hi at low order room =
    let a = lo - start in
    let b = hi - start in
    let lo_is : lo ≡ length front + a = omega (arith, at, low) in
    let hi_is : hi ≡ length front + b = omega (arith, at, low, order) in
    let text = front ++ (old ++ rest) in
    let first : take lo text ≡ front ++ take a old =
    ap (λ (n : ℕ). take n text) lo_is ∙ taken front (old ++ rest) a ∙ ap (λ (l : List ℕ). front ++ l) (take-append-le a old rest (omega (arith, room, order))) in
    let last : drop hi text ≡ drop b old ++ rest =
    ap (λ (n : ℕ). drop n text) hi_is ∙ sym (drop-drop b (length front) text) ∙ ap (drop b) (drop_at front (old ++ rest) (length front) refl) ∙ drop-append-le b old rest room in
    let from_first : lo - 0 ≡ lo = omega arith in
    ap (λ (n : ℕ). take n text ++ (put ++ drop hi text)) from_first
    ∙ ap₂ (λ (l m : List ℕ). l ++ (put ++ m)) first last
    ∙ append_assoc front (take a old) (put ++ (drop b old ++ rest))
    ∙ ap (λ (l : List ℕ). front ++ (take a old ++ l)) (sym (append_assoc put (drop b old) rest))
    ∙ ap (λ (l : List ℕ). front ++ l) (sym (append_assoc (take a old) (put ++ drop b old) rest))
  where
    taken : (xs ys : List ℕ) (n : ℕ) → take (length xs + n) (xs ++ ys) ≡ xs ++ take n ys
    taken [] ys n = ap (λ (m : ℕ). take m ys) (let e : 0 + n ≡ n = omega arith in e)
    taken (x ∷ xs) ys n = ap (λ (m : ℕ). take m (x ∷ (xs ++ ys))) (let e : suc (length xs) + n ≡ suc (length xs + n) = omega arith in e) ∙ ap (λ (l : List ℕ). x ∷ l) (taken xs ys n)

-- bytes of which the first stay begin as they did
begins_on : (n : ℕ) (old rest more : List ℕ) → 0 < n → n ≤ length old → BeginsApart (old ++ rest) → BeginsApart (take n old ++ more)
begins_on zero old rest more some room h = absurd (omega (arith, some))
begins_on (suc n) [] rest more some room h = absurd (omega (arith, room))
begins_on (suc n) (b ∷ bs) rest more some room h = h

apart_last : (ps : List (List ℕ)) (rest : List ℕ) → 0 < length ps → AreApart ps rest → BeginsApart rest
apart_last [] rest some h = absurd (omega (arith, some))
apart_last (p ∷ []) rest some h = h.0
apart_last (p ∷ q ∷ ps) rest some h = apart_last (q ∷ ps) rest (omega arith) h.1

joined_segments : (n : ℕ) (ss : List OldBytes) → behind_edit.bytes_of ss ≡ behind_edit.bytes_of (take n ss) ++ behind_edit.bytes_of (drop n ss)
joined_segments n ss =
    ap behind_edit.bytes_of (sym (take-append-drop n ss))
    ∙ ap concat (map-append (λ (s : OldBytes). s.bytes) (take n ss) (drop n ss))
    ∙ concat-append (map (λ (s : OldBytes). s.bytes) (take n ss)) (map (λ (s : OldBytes). s.bytes) (drop n ss))

chain_from : (m last : Mode) (ks : List Kept) (n : ℕ) → IsChain m ks last → (mid : Mode) × IsChain mid (drop n ks) last
chain_from m last ks n c = let parts = chain_part m last (take n ks) (drop n ks) (subst (λ (l : List Kept). IsChain m l last) (sym (take-append-drop n ks)) c) in (parts.0, parts.2)

-- where a text is parted
module _ (c : Content) (t : IsText c) (k i : ℕ) (below : k < length c.table.chunks) where
  abbrev pub front : List Kept
  front = map (kept_at c.table.slots) (ids_before c.table.chunks k i)

  abbrev pub back : List Kept
  back = kept_from c.table k i

  pub standing_is : standing c.table ≡ front ++ back
  standing_is = ap (map (kept_at c.table.slots)) (split_at c.table.chunks k i below) ∙ map-append (kept_at c.table.slots) (ids_before c.table.chunks k i) (ids_from c.table.chunks k i)

  bytes_are : bytes_of (standing c.table) ≡ bytes_of front ++ bytes_of back
  bytes_are = ap bytes_of standing_is ∙ map-append (λ (q : Kept). q.bytes) front back

  pub chains : (mid : Mode) × IsChain Top front mid × IsChain mid back After
  chains = chain_part Top After front back (subst (λ (l : List Kept). IsChain Top l After) standing_is (record { recs = t.recs; chained = t.chained; modes = t.modes }))

  whole_apart : AreApart (bytes_of front ++ bytes_of back) c.tail
  whole_apart = subst (λ (l : List (List ℕ)). AreApart l c.tail) bytes_are t.apart

  back_apart : AreApart (bytes_of back) c.tail
  back_apart = apart_behind (bytes_of front) (bytes_of back) c.tail whole_apart

  front_apart : AreApart (bytes_of front) (behind_edit.bytes_of (segments back c.tail))
  front_apart = subst (AreApart (bytes_of front)) (sym (segment_bytes back c.tail)) (apart_front (bytes_of front) (bytes_of back) c.tail whole_apart)

  text_is : text_of c ≡ concat (bytes_of front) ++ behind_edit.bytes_of (segments back c.tail)
  text_is =
      ap (λ (l : List (List ℕ)). concat l ++ c.tail) bytes_are
      ∙ ap (λ (l : List ℕ). l ++ c.tail) (concat-append (bytes_of front) (bytes_of back))
      ∙ append_assoc (concat (bytes_of front)) (concat (bytes_of back)) c.tail
      ∙ ap (λ (l : List ℕ). concat (bytes_of front) ++ l) (sym (segment_bytes back c.tail))

  pub begin_apart : (n : ℕ) → 0 < n → BeginApart (drop n (segments back c.tail))
  begin_apart n some = begin_from n back c.tail some back_apart

  pub full : (n : ℕ) → AreFull (drop n (segments back c.tail))
  full n = full_from n (segments back c.tail) (are_full chains.0 After back c.tail chains.2)

  pub mode_is : mode_at (segments back c.tail) 0 ≡ Some chains.0
  mode_is = mode_first chains.0 back c.tail chains.2

-- a text has no more statements than bytes
pub few_ids : (c : Content) → IsText c → length (ids_of c.table) ≤ MAX_TEXT
few_ids c t =
    let bytes = bytes_of (standing c.table) in
    let full = chain_full Top After bytes t.recs t.chained in
    omega (arith, full, t.fits, length-append (concat bytes) c.tail, length-map (standing c.table) (λ k. k.bytes), length-map (ids_of c.table) (kept_at c.table.slots))

-- where a cut is made
module _ (c : Content) (t : IsText c) (lo hi : ℕ) (put : List ℕ) (p : Place) (b : BeginsAt c.table lo p) (order : lo ≤ hi) (within : hi ≤ length (text_of c)) where
  abbrev pub F : List Kept
  F = front c t p.chunk p.index b.within

  abbrev pub K : List Kept
  K = back c t p.chunk p.index b.within

  abbrev pub L : List OldBytes
  L = segments K c.tail

  abbrev pub the_cut : Cut
  the_cut = record { lo = lo; hi = hi; put = put }

  pub start_is : p.start ≡ length (concat (bytes_of F))
  start_is = b.bytes ∙ sym (weight_is c.table.slots (ids_before c.table.chunks p.chunk p.index))

  none_start : (ids : List StmtId) → length ids ≡ 0 → length (concat (bytes_of (map (kept_at c.table.slots) ids))) ≡ 0
  none_start [] e = refl
  none_start (x ∷ xs) e = absurd (omega (arith, e))

  pub start_low : p.start ≤ lo
  start_low = low_of (length (ids_before c.table.chunks p.chunk p.index)) refl
    where
      low_of : (n : ℕ) → n ≡ length (ids_before c.table.chunks p.chunk p.index) → p.start ≤ lo
      low_of zero e = omega (arith, start_is, none_start (ids_before c.table.chunks p.chunk p.index) (sym e))
      low_of (suc n) e = omega (arith, b.low (omega (arith, e)))

  pub some_segments : 0 < length L
  some_segments = omega (arith, length-append (map old_bytes K) (record { bytes = c.tail; mode = Some After } ∷ []))

  module _ (old : List ℕ) (n : ℕ) (touched : AreTouched L (hi - p.start) old n) where
    abbrev D : List ℕ
    D = behind_edit.bytes_of (drop n L)

    abbrev pub raw : List ℕ
    raw = take (lo - p.start) old ++ (put ++ drop (hi - p.start) old)

    pub room : hi - p.start ≤ length old
    room =
        let long = ap (λ (l : List ℕ). length l) (text_is c t p.chunk p.index b.within) in
        touched.enough (omega (arith, long, within, start_is, length-append (concat (bytes_of F)) (behind_edit.bytes_of L)))

    old_is : behind_edit.bytes_of L ≡ old ++ D
    old_is = joined_segments n L ∙ ap (λ (l : List ℕ). l ++ D) (sym touched.is)

    pub cut_is : concat (bytes_of F) ++ (raw ++ D) ≡ cut_text c the_cut
    cut_is = sym (
        ap (with_cuts (the_cut ∷ [])) (text_is c t p.chunk p.index b.within ∙ ap (λ (l : List ℕ). concat (bytes_of F) ++ l) old_is)
        ∙ cut_behind (concat (bytes_of F)) old D put p.start lo hi start_is start_low order room)

    -- the bytes between the places
    pub range_is : slice_range (text_of c) lo hi ≡ slice_range old (lo - p.start) (hi - p.start)
    range_is =
        let low = start_low in
        let a = lo - p.start in
        let front_bytes = concat (bytes_of F) in
        let text : text_of c ≡ front_bytes ++ (old ++ D) = text_is c t p.chunk p.index b.within ∙ ap (λ (l : List ℕ). front_bytes ++ l) old_is in
        let lo_is : lo ≡ length front_bytes + a = omega (arith, low, start_is) in
        let size : hi - lo ≡ (hi - p.start) - (lo - p.start) = omega (arith, low, order) in
        let behind : drop lo (text_of c) ≡ drop a old ++ D =
        ap (drop lo) text ∙ ap (λ (n : ℕ). drop n (front_bytes ++ (old ++ D))) lo_is ∙ sym (drop-drop a (length front_bytes) (front_bytes ++ (old ++ D)))
        ∙ ap (drop a) (drop_at front_bytes (old ++ D) (length front_bytes) refl) ∙ drop-append-le a old D (omega (arith, room, order)) in
        ap (take (hi - lo)) behind ∙ take-append-le (hi - lo) (drop a old) D (omega (arith, room, order, low, length-drop a old)) ∙ ap (λ (n : ℕ). take n (drop a old)) size

    begins : 0 < length (bytes_of F) → BeginsApart (raw ++ D)
    begins some =
        let ids = ids_before c.table.chunks p.chunk p.index in
        let low = b.low (omega (arith, some, length-map F (λ q. q.bytes), length-map ids (kept_at c.table.slots))) in
        subst BeginsApart (sym (append_assoc (take (lo - p.start) old) (put ++ drop (hi - p.start) old) D))
        (begins_on (lo - p.start) old D ((put ++ drop (hi - p.start) old) ++ D) (omega (arith, low)) (omega (arith, room, order))
        (subst BeginsApart old_is (apart_last (bytes_of F) (behind_edit.bytes_of L) some (front_apart c t p.chunk p.index b.within))))

    apart : AreApart (bytes_of F) (raw ++ D)
    apart = apart_other (bytes_of F) (behind_edit.bytes_of L) (raw ++ D) (front_apart c t p.chunk p.index b.within) begins

    -- as many segments as statements, and one
    pub few_segments : length L ≤ MAX_TEXT + 1
    few_segments =
        let ids = ids_from c.table.chunks p.chunk p.index in
        let all = ap (λ (l : List StmtId). length l) (split_at c.table.chunks p.chunk p.index b.within) in
        omega (
          arith,
          all,
          few_ids c t,
          length-append (ids_before c.table.chunks p.chunk p.index) ids,
          length-append (map old_bytes K) (record { bytes = c.tail; mode = Some After } ∷ []),
          length-map K old_bytes,
          length-map ids (kept_at c.table.slots),
        )

    abbrev pub mid : Mode
    mid = (chains c t p.chunk p.index b.within).0

    -- the fault of what is read again
    pub faulty : TokensMove → PiecesAreRead def → length (cut_text c the_cut) ≤ MAX_TEXT → (f : fault.Fault) → read_from (keyless def) (mid, []) (tokens (all_bytes raw (drop n L))) ≡ Err f
        → (e : fault.Fault) × (read_keyless (cut_text c the_cut) ≡ Err e)
    faulty moves reads fits f h =
        let chain = (chains c t p.chunk p.index b.within).1 in
        let there = fault_behind moves reads mid (bytes_of F) chain.recs (raw ++ D) f chain.chained apart h in
        (there.0, read_is (cut_text c the_cut) fits ∙ ap (λ (l : List ℕ). read_from (keyless def) (Top, []) (tokens l)) (sym cut_is) ∙ there.1)

    pub refused : (A : Type 0) → TokensMove → PiecesAreRead def → length (cut_text c the_cut) ≤ MAX_TEXT → (e : ReadError) → Rereads {A = A} mid raw (drop n L) (Err e) → ReadsStretch {A = A} c the_cut (Err e)
    refused A moves reads fits (Fault f) h = faulty moves reads fits f h
    refused A moves reads fits Memory h = tt

    module _ (A : Type 0) (x : Reread A) (is : IsReread mid raw (drop n L) x) where
      abbrev out : ℕ
      out = n + x.used

      abbrev pub news : List Kept
      news = news_of p.chunk x.pieces.items

      abbrev pub left : List Kept
      left = map (kept_at c.table.slots) (ids_left c.table.chunks p.chunk p.index (n + x.used))

      abbrev pub Follows : List ℕ → Type 0
      Follows tail = EndsText mid (news ++ left) tail × (concat (bytes_of (news ++ left)) ++ tail ≡ raw ++ D)

      pub long_is : length L ≡ length K + 1
      long_is = omega (arith, length-append (map old_bytes K) (record { bytes = c.tail; mode = Some After } ∷ []), length-map K old_bytes)

      left_is : left ≡ drop (n + x.used) K
      left_is = sym (drop-map (kept_at c.table.slots) (n + x.used) (ids_from c.table.chunks p.chunk p.index))

      -- an old statement goes on
      pub lands : (s : OldBytes) → slice_get (drop n L) x.used ≡ Some s → Follows c.tail
      lands s at =
          let inside : x.used < length (drop n L) = slice_get_within (drop n L) x.used s at in
          let low : n ≤ length K = omega (arith, inside, long_is, length-drop n L) in
          let same : drop n L ≡ segments (drop n K) c.tail = segments_from K c.tail n low in
          let here = subst (λ (ss : List OldBytes). IsReread mid raw ss x) same is in
          let chain = chain_from mid After K n (chains c t p.chunk p.index b.within).2 in
          let end : EndsText After [] c.tail = record { chain = record { recs = []; chained = refl; modes = refl }; apart = tt; ends = t.ends } in
          let few : x.used ≤ length (drop n K) = omega (arith, inside, long_is, length-drop n L, length-drop n K) in
          let found = landed A p.chunk mid raw (drop n K) c.tail x here end chain.0 chain.1 (apart_from K n c.tail (back_apart c t p.chunk p.index b.within)) few s (ap (λ (ss : List OldBytes). slice_get ss x.used) (sym same) ∙ at) in
          let lefts : drop x.used (drop n K) ≡ left = drop-drop x.used n K ∙ sym left_is in
          let rest : concat (bytes_of (drop n K)) ++ c.tail ≡ D = sym (ap behind_edit.bytes_of same ∙ segment_bytes (drop n K) c.tail) in
          subst (λ (ks : List Kept). EndsText mid (news ++ ks) c.tail × (concat (bytes_of (news ++ ks)) ++ c.tail ≡ raw ++ D)) lefts (found.0, found.1 ∙ ap (λ (l : List ℕ). raw ++ l) rest)

      -- all is read
      pub finishes : TailsMayEnd def → slice_get (drop n L) x.used ≡ None → Follows x.rest.items
      finishes may_end at =
          let past = none_left (drop n L) x.used at in
          let none : left ≡ [] = left_is ∙ drop_all (n + x.used) K (omega (arith, past, long_is, length-drop n L)) in
          let found = read_out A p.chunk mid raw (drop n L) x is may_end at in
          subst (λ (ks : List Kept). EndsText mid ks x.rest.items × (concat (bytes_of ks) ++ x.rest.items ≡ raw ++ D)) (sym (ap (λ (ks : List Kept). news ++ ks) none ∙ append-nil news)) found

      pub accepted : (tail : List ℕ) → Follows tail → EndsText Top (F ++ (news ++ left)) tail × (concat (bytes_of (F ++ (news ++ left))) ++ tail ≡ cut_text c the_cut)
      accepted tail e = (
        front_stays F (news ++ left) mid tail (chains c t p.chunk p.index b.within).1 (subst (AreApart (bytes_of F)) (sym e.1) apart) e.0,
        ap (λ (l : List (List ℕ)). concat l ++ tail) (map-append (λ (q : Kept). q.bytes) F (news ++ left))
            ∙ ap (λ (l : List ℕ). l ++ tail) (concat-append (bytes_of F) (bytes_of (news ++ left)))
            ∙ append_assoc (concat (bytes_of F)) (concat (bytes_of (news ++ left))) tail
            ∙ ap (λ (l : List ℕ). concat (bytes_of F) ++ l) e.1
            ∙ cut_is,
      )

      -- by what comes next
      pub ended : TailsMayEnd def → (o : Option OldBytes) (v : List ℕ) → slice_get (drop n L) x.used ≡ o → MatchOption o (v ≡ x.rest.items) (λ s. v ≡ c.tail) → Follows v
      ended may_end None v at same = subst Follows (sym same) (finishes may_end at)
      ended may_end (Some s) v at same = subst Follows (sym same) (lands s at)

-- how many bytes the text with a cut has
pub cut_long : (c : Content) (cut : Cut) → cut.lo ≤ cut.hi → cut.hi ≤ length (text_of c) → length (cut_text c cut) ≡ (length (text_of c) - (cut.hi - cut.lo)) + length cut.put
cut_long c cut order within =
    let text = text_of c in
    omega (arith, order, within, length-append (slice_range text 0 cut.lo) (cut.put ++ drop cut.hi text), length-append cut.put (drop cut.hi text), length-drop cut.hi text, length-take (cut.lo - 0) text)
