-- New pieces in the place of others.
use Rattle.std.proofs.Common.{◌≡◌, ◌<◌, ◌≤◌, ℕ, zero, suc, List, [], ◌∷◌, ◌++◌, length, map, take, drop, Option, refl, sym, ap, ap₂, ◌∙◌, subst, append_assoc, arith, length-append}
use Rattle.std.specs.List.{concat}
use Rattle.std.proofs.lemmas.List.{length-map, map-append, take-append-drop}
use Rattle.design_model.specs.declared.TheConstants.{MAX_TEXT}
use Rattle.design_model.specs.declared.identifier.StmtId.{StmtId}
use Rattle.design_model.specs.declared.mode.Mode.TheVariants.{Top, After}
use Rattle.statement_model.specs.Cuts.{Cut}
use Rattle.piece_laws.specs.Pieces.{AreApart}
use Rattle.text_pieces.specs.Behind.{ids_from}
use Rattle.text_pieces.specs.Changes.{Prepared, changed}
use Rattle.text_pieces.specs.Chunks.{Numbers, Replacement, all_ids, ids_at, AreOnce, IsAbsent}
use Rattle.text_pieces.specs.Content.{Content, IsText, bytes_of, text_of}
use Rattle.text_pieces.specs.Lists.{ids_left}
use Rattle.text_pieces.specs.Preparing.{IsPrepared, IsPut, put_bytes}
use Rattle.text_pieces.specs.Storing.{AreFree, StaysKept, new_kept, news_of}
use Rattle.text_pieces.specs.Stretches.{IsChain, IsStretch, cut_text, stretched}
use Rattle.text_pieces.specs.Tables.{Kept, ids_before, ids_of, kept_at, standing, weight, AreChunks, IsTable}
use Rattle.text_pieces.specs.declared.stretch.Stretch.{Stretch}
use Rattle.text_pieces.proofs.Found.{AreHeld, chunks_held}
use Rattle.text_pieces.proofs.Ids.{absent_append}
use Rattle.text_pieces.proofs.Opened.{weight_is}
use Rattle.text_pieces.proofs.Slots.{unheld}
use Rattle.text_pieces.proofs.StoredPieces.{all_stay, chunks_stay, kept_stays}
use Rattle.text_pieces.proofs.Stretching.{split_at}

-- numbers that are apart from others
abbrev AllAbsent : List StmtId → List StmtId → Type 0
AllAbsent [] ys = Unit {0}
AllAbsent (x ∷ xs) ys = IsAbsent x ys × AllAbsent xs ys

absent_first : (id : StmtId) (xs ys : List StmtId) → IsAbsent id (xs ++ ys) → IsAbsent id xs
absent_first id [] ys h = tt
absent_first id (x ∷ xs) ys h = (h.0, absent_first id xs ys h.1)

absent_last : (id : StmtId) (xs ys : List StmtId) → IsAbsent id (xs ++ ys) → IsAbsent id ys
absent_last id [] ys h = h
absent_last id (x ∷ xs) ys h = absent_last id xs ys h.1

all_first : (ps xs ys : List StmtId) → AllAbsent ps (xs ++ ys) → AllAbsent ps xs
all_first [] xs ys h = tt
all_first (p ∷ ps) xs ys h = (absent_first p xs ys h.0, all_first ps xs ys h.1)

all_last : (ps xs ys : List StmtId) → AllAbsent ps (xs ++ ys) → AllAbsent ps ys
all_last [] xs ys h = tt
all_last (p ∷ ps) xs ys h = (absent_last p xs ys h.0, all_last ps xs ys h.1)

all_both : (ps xs ys : List StmtId) → AllAbsent ps xs → AllAbsent ps ys → AllAbsent ps (xs ++ ys)
all_both [] xs ys h k = tt
all_both (p ∷ ps) xs ys h k = (absent_append p xs ys h.0 k.0, all_both ps xs ys h.1 k.1)

none_absent : (ps : List StmtId) → AllAbsent ps []
none_absent [] = tt
none_absent (p ∷ ps) = (tt, none_absent ps)

turned : (ps xs : List StmtId) → AllAbsent ps xs → AllAbsent xs ps
turned [] xs h = none_absent xs
turned (p ∷ ps) xs h = front_of xs h.0 (turned ps xs h.1)
  where
    front_of : (ys : List StmtId) → IsAbsent p ys → AllAbsent ys ps → AllAbsent ys (p ∷ ps)
    front_of [] a b = tt
    front_of (y ∷ ys) a b = ((λ e. a.0 (sym e), b.0), front_of ys a.1 b.1)

once_join : (xs ys : List StmtId) → AreOnce xs → AreOnce ys → AllAbsent xs ys → AreOnce (xs ++ ys)
once_join [] ys h k a = k
once_join (x ∷ xs) ys h k a = (absent_append x xs ys h.0 a.0, once_join xs ys h.1 k a.1)

once_first : (xs ys : List StmtId) → AreOnce (xs ++ ys) → AreOnce xs
once_first [] ys h = tt
once_first (x ∷ xs) ys h = (absent_first x xs ys h.0, once_first xs ys h.1)

once_last : (xs ys : List StmtId) → AreOnce (xs ++ ys) → AreOnce ys
once_last [] ys h = h
once_last (x ∷ xs) ys h = once_last xs ys h.1

once_apart : (xs ys : List StmtId) → AreOnce (xs ++ ys) → AllAbsent xs ys
once_apart [] ys h = tt
once_apart (x ∷ xs) ys h = (absent_last x xs ys h.0, once_apart xs ys h.1)

-- numbers that take the place of others stand once
once_put : (before out left ids : List StmtId) → AreOnce (before ++ (out ++ left)) → AreOnce ids → AllAbsent ids (before ++ (out ++ left)) → AreOnce (before ++ (ids ++ left))
once_put before out left ids old new apart =
    let rest = once_last before (out ++ left) old in
    let back = all_last ids before (out ++ left) apart in
    once_join before (ids ++ left) (once_first before (out ++ left) old)
    (once_join ids left new (once_last out left rest) (all_last ids out left back))
    (all_both before ids left (turned ids before (all_first ids before (out ++ left) apart)) (all_last before out left (once_apart before (out ++ left) old)))

free_apart : (slots : List (Option Kept)) (cs : List Numbers) (ids : List StmtId) → AreChunks slots 0 cs → AreFree slots ids → AllAbsent ids (all_ids cs)
free_apart slots cs [] h f = tt
free_apart slots cs (x ∷ xs) h f = (unheld slots 0 cs x h f.0, free_apart slots cs xs h f.1)

held_first : (slots : List (Option Kept)) (xs ys : List StmtId) → AreHeld slots (xs ++ ys) → AreHeld slots xs
held_first slots [] ys h = tt
held_first slots (x ∷ xs) ys h = (h.0, held_first slots xs ys h.1)

held_last : (slots : List (Option Kept)) (xs ys : List StmtId) → AreHeld slots (xs ++ ys) → AreHeld slots ys
held_last slots [] ys h = h
held_last slots (x ∷ xs) ys h = held_last slots xs ys h.1

held_drop : (slots : List (Option Kept)) (n : ℕ) (ids : List StmtId) → AreHeld slots ids → AreHeld slots (drop n ids)
held_drop slots zero ids h = h
held_drop slots (suc n) [] h = tt
held_drop slots (suc n) (x ∷ xs) h = held_drop slots n xs h.1

module _ (old new : List (Option Kept)) (stays : StaysKept old new) where
  held_same : (ids : List StmtId) → AreHeld old ids → map (kept_at new) ids ≡ map (kept_at old) ids
  held_same [] h = refl
  held_same (x ∷ xs) h = ap₂ (λ (p : Kept) (ps : List Kept). p ∷ ps) (kept_stays old new stays x h.0) (held_same xs h.1)

  -- what then stands
  pub then_standing : (cs : List Numbers) (k i out : ℕ) (ids : List StmtId) (ks : List Kept) → AreChunks old 0 cs → k < length cs → map (kept_at new) ids ≡ ks
      → map (kept_at new) (ids_before cs k i ++ (ids ++ ids_left cs k i out)) ≡ map (kept_at old) (ids_before cs k i) ++ (ks ++ map (kept_at old) (ids_left cs k i out))
  then_standing cs k i out ids ks kept below own =
      let before = ids_before cs k i in
      let left = ids_left cs k i out in
      let held = subst (AreHeld old) (split_at cs k i below) (chunks_held old 0 cs kept) in
      map-append (kept_at new) before (ids ++ left)
      ∙ ap₂ (λ (l m : List Kept). l ++ m) (held_same before (held_first old before (ids_from cs k i) held))
      (map-append (kept_at new) ids left ∙ ap₂ (λ (l m : List Kept). l ++ m) own (held_same left (held_drop old out (ids_from cs k i) (held_last old before (ids_from cs k i) held))))

  pub then_fits : (cs : List Numbers) (k i out : ℕ) (ids : List StmtId) (ks : List Kept) → AreChunks old 0 cs → k < length cs → map (kept_at new) ids ≡ ks
      → weight new (ids_before cs k i ++ (ids ++ ids_left cs k i out)) ≡ length (put_bytes (record { chunks = cs; slots = old }) k i out ks)
  then_fits cs k i out ids ks kept below own =
      sym (weight_is new (ids_before cs k i ++ (ids ++ ids_left cs k i out))) ∙ ap (λ (l : List Kept). length (concat (bytes_of l))) (then_standing cs k i out ids ks kept below own)

-- the list of a chunk begins with what stands before, and the new numbers
pub regrouped : (cs : List Numbers) (k i : ℕ) (after ids left : List StmtId) → after ≡ take i (ids_at cs k) ++ ids → (all_ids (take k cs) ++ after) ++ left ≡ ids_before cs k i ++ (ids ++ left)
regrouped cs k i after ids left is =
    ap (λ (l : List StmtId). (all_ids (take k cs) ++ l) ++ left) is
    ∙ ap (λ (l : List StmtId). l ++ left) (sym (append_assoc (all_ids (take k cs)) (take i (ids_at cs k)) ids))
    ∙ append_assoc (all_ids (take k cs) ++ take i (ids_at cs k)) ids left

-- a table whose statements stay is one
pub table_stays : (old new : List (Option Kept)) → StaysKept old new → (cs : List Numbers) → IsTable (record { chunks = cs; slots = old }) → IsTable (record { chunks = cs; slots = new })
table_stays old new stays cs t =
    let heavy = sym (weight_is new (all_ids cs)) ∙ ap (λ (ks : List Kept). length (concat (bytes_of ks))) (all_stay old new stays 0 cs t.chunks) ∙ weight_is old (all_ids cs) in
    record { chunks = chunks_stay old new stays 0 cs t.chunks; once = t.once; fits = omega (arith, heavy, t.fits) }

-- a content whose statements stay is a text, and the same
module _ (c : Content) (t : IsText c) (new : List (Option Kept)) (stays : StaysKept c.table.slots new) where
  abbrev still : List Numbers → Content
  still cs = record { table = record { chunks = cs; slots = new }; tail = c.tail; len = c.len }

  same_standing : standing (still c.table.chunks).table ≡ standing c.table
  same_standing = all_stay c.table.slots new stays 0 c.table.chunks t.table.chunks

  same_text : text_of (still c.table.chunks) ≡ text_of c
  same_text = ap (λ (ks : List Kept). concat (bytes_of ks) ++ c.tail) same_standing

  same_weight : weight new (ids_of c.table) ≡ weight c.table.slots (ids_of c.table)
  same_weight =
      sym (weight_is new (ids_of c.table)) ∙ ap (λ (ks : List Kept). length (concat (bytes_of ks))) same_standing ∙ weight_is c.table.slots (ids_of c.table)

  text_there : IsText (still c.table.chunks)
  text_there =
      let chain = subst (λ (ks : List Kept). IsChain Top ks After) (sym same_standing) (record { recs = t.recs; chained = t.chained; modes = t.modes }) in
      record {
        table = record { chunks = chunks_stay c.table.slots new stays 0 c.table.chunks t.table.chunks; once = t.table.once; fits = omega (arith, same_weight, t.table.fits) };
        recs = chain.recs;
        chained = chain.chained;
        modes = chain.modes;
        apart = subst (λ (ks : List Kept). AreApart (bytes_of ks) c.tail) (sym same_standing) t.apart;
        ends = t.ends;
        whole = t.whole ∙ ap (λ (l : List ℕ). length l) (sym same_text);
        fits = omega (arith, t.fits, ap (λ (l : List ℕ). length l) same_text);
      }

  pub text_stays : (cs : List Numbers) → cs ≡ c.table.chunks → IsText (still cs)
  text_stays cs same = subst (λ (l : List Numbers). IsText (still l)) (sym same) text_there

  pub text_same : (cs : List Numbers) → cs ≡ c.table.chunks → text_of (still cs) ≡ text_of c
  text_same cs same = ap (λ (l : List Numbers). text_of (still l)) same ∙ same_text

  -- and a change of it is prepared
  module _ (A : Type 0) (cut : Cut) (x : Stretch A) (s : IsStretch c cut x) (fits : length (cut_text c cut) ≤ MAX_TEXT) (len : ℕ) (long : len ≡ length (cut_text c cut)) (changes : List Replacement) (out ids : List StmtId) (goes : out ≡ take x.out (ids_from c.table.chunks x.chunk x.index)) where
    abbrev own_put : List Numbers → Type 0
    own_put cs = IsPut c.table (record { chunks = cs; slots = new }) x.chunk x.index x.out (news_of x.chunk x.pieces.items) changes ids

    abbrev own_prepared : List Numbers → Type 0
    own_prepared cs = IsPrepared c (still cs) (cut_text c cut) (record { changes = changes; tail = x.tail.items; len = len; out = out; put = ids; reads = x.reads })

    prepared_there : own_put c.table.chunks → own_prepared c.table.chunks
    prepared_there put =
        let cs = c.table.chunks in
        let before = ids_before cs x.chunk x.index in
        let from = ids_from cs x.chunk x.index in
        let left = ids_left cs x.chunk x.index x.out in
        let p : Prepared = record { changes = changes; tail = x.tail.items; len = len; out = out; put = ids; reads = x.reads } in
        let other : Content = changed (still cs) p in
        let were : all_ids cs ≡ before ++ (take x.out from ++ left) = split_at cs x.chunk x.index s.within ∙ ap (λ (l : List StmtId). before ++ l) (sym (take-append-drop x.out from)) in
        let stand : standing other.table ≡ stretched c x =
        ap (map (kept_at new)) put.lists.are ∙ then_standing c.table.slots new stays cs x.chunk x.index x.out ids (news_of x.chunk x.pieces.items) t.table.chunks s.within put.own in
        let text : text_of other ≡ cut_text c cut = ap (λ (ks : List Kept). concat (bytes_of ks) ++ x.tail.items) stand ∙ s.whole in
        let size = ap (λ (l : List ℕ). length l) text in
        let chain = subst (λ (ks : List Kept). IsChain Top ks After) (sym stand) s.ends.chain in
        let heavy = weight_is new (ids_of other.table) in
        let many : length (map (kept_at new) ids) ≡ length (news_of x.chunk x.pieces.items) = ap (λ (ks : List Kept). length ks) put.own in
        let once = once_put before (take x.out from) left ids (subst AreOnce were t.table.once) put.once (subst (AllAbsent ids) were (free_apart c.table.slots cs ids t.table.chunks put.free)) in
        let other_text : IsText other = record {
          table = record {
            chunks = put.lists.kept;
            once = subst AreOnce (sym put.lists.are) once;
            fits = omega (arith, heavy, size, fits, length-append (concat (bytes_of (standing other.table))) x.tail.items);
          };
          recs = chain.recs;
          chained = chain.chained;
          modes = chain.modes;
          apart = subst (λ (ks : List Kept). AreApart (bytes_of ks) x.tail.items) (sym stand) s.ends.apart;
          ends = s.ends.ends;
          whole = long ∙ sym size;
          fits = omega (arith, size, fits);
        } in
        record {
          other = other;
          between = record {
            places = put.lists.places;
            base_is = refl;
            other_is = refl;
            text = other_text;
            front = before;
            rest = left;
            goes = were ∙ ap (λ (l : List StmtId). before ++ (l ++ left)) (sym goes);
            comes = put.lists.are;
          };
          text = text;
          free = put.free;
          read = omega (arith, s.read, many, length-map ids (kept_at new), length-map x.pieces.items (new_kept x.chunk));
        }

    pub prepared : (cs : List Numbers) → cs ≡ c.table.chunks → own_put cs → own_prepared cs
    prepared cs same put = subst own_prepared (sym same) (prepared_there (subst own_put same put))
