-- Pieces that are put behind others, under numbers that were free.
use Rattle.std.proofs.Common.{◌≡◌, ◌≢◌, ◌≤◌, ℕ, suc, ◌+◌, ◌-◌, List, [], ◌∷◌, ◌++◌, length, get_or, map, Option, Some, None, refl, sym, ap, ap₂, ◌∙◌, subst, append_assoc, append-nil, arith, slice_range}
use Rattle.std.specs.Prelude.{option_map}
use Rattle.std.proofs.lemmas.List.{map-append}
use Rattle.slab.specs.Slab.{Slab, Updates, get}
use Rattle.design_model.specs.declared.identifier.StmtId.{StmtId}
use Rattle.design_model.specs.declared.mode.Mode.{Mode}
use Rattle.def_grammar.specs.Records.{Record, def}
use Rattle.piece_laws.specs.ChainLaws.{ChainsJoin, ChainsLead}
use Rattle.text_pieces.specs.Chunks.{Numbers, all_ids, IsAbsent, AreOnce}
use Rattle.text_pieces.specs.Opening.{AreRead, IsOpened, PieceAt}
use Rattle.text_pieces.specs.Storing.{AreFree, StaysKept, Stores, StoresAll}
use Rattle.text_pieces.specs.declared.table.Piece.{Piece}
use Rattle.text_pieces.specs.Tables.{Kept, kept, slot, kept_at, kept_or, weight, AreHome, AreChunks}
use Rattle.text_pieces.proofs.Ids.{absent_append, all_ids_append}
use Rattle.text_pieces.proofs.ReadPieces.{range_long, read_on}
use Rattle.text_pieces.proofs.Slots.{slot_map, unheld, unheld_home}
use Rattle.text_pieces.proofs.Weights.{weight_append}

module _ (old new : List (Option Kept)) (stays : StaysKept old new) where
  held_stays : (id : StmtId) → slot old id ≡ Some (kept_at old id) → slot new id ≡ slot old id
  held_stays id h = stays id.0 (kept_at old id) h ∙ sym h

  pub kept_stays : (id : StmtId) → slot old id ≡ Some (kept_at old id) → kept_at new id ≡ kept_at old id
  kept_stays id h = ap kept_or (held_stays id h)

  -- numbers of a chunk keep what is kept under them
  pub ids_stay : (k : ℕ) (ids : List StmtId) → AreHome old k ids → map (kept_at new) ids ≡ map (kept_at old) ids
  ids_stay k [] h = refl
  ids_stay k (x ∷ xs) h = ap₂ (λ (p : Kept) (ps : List Kept). p ∷ ps) (kept_stays x h.0) (ids_stay k xs h.2)

  pub home_stays : (k : ℕ) (ids : List StmtId) → AreHome old k ids → AreHome new k ids
  home_stays k [] h = tt
  home_stays k (x ∷ xs) h =
      let e = kept_stays x h.0 in
      (held_stays x h.0 ∙ h.0 ∙ ap (λ (p : Kept). Some p) (sym e), ap (λ (p : Kept). p.chunk) e ∙ h.1, home_stays k xs h.2)

  weight_stays : (k : ℕ) (ids : List StmtId) → AreHome old k ids → weight new ids ≡ weight old ids
  weight_stays k [] h = refl
  weight_stays k (x ∷ xs) h = let e = ap (λ (p : Kept). length p.bytes) (kept_stays x h.0) in omega (arith, e, weight_stays k xs h.2)

  pub chunks_stay : (k : ℕ) (cs : List Numbers) → AreChunks old k cs → AreChunks new k cs
  chunks_stay k [] h = tt
  chunks_stay k (c ∷ cs) h = (home_stays k c.ids h.0, h.1 ∙ sym (weight_stays k c.ids h.0), chunks_stay (suc k) cs h.2)

  pub all_stay : (k : ℕ) (cs : List Numbers) → AreChunks old k cs → map (kept_at new) (all_ids cs) ≡ map (kept_at old) (all_ids cs)
  all_stay k [] h = refl
  all_stay k (c ∷ cs) h =
      map-append (kept_at new) c.ids (all_ids cs)
      ∙ ap₂ (λ (ps qs : List Kept). ps ++ qs) (ids_stay k c.ids h.0) (all_stay (suc k) cs h.2)
      ∙ sym (map-append (kept_at old) c.ids (all_ids cs))

pub home_append : (slots : List (Option Kept)) (k : ℕ) (xs ys : List StmtId) → AreHome slots k xs → AreHome slots k ys → AreHome slots k (xs ++ ys)
home_append slots k [] ys h i = i
home_append slots k (x ∷ xs) ys h i = (h.0, h.1, home_append slots k xs ys h.2 i)

-- the last of some chunks
chunk_last : (slots : List (Option Kept)) (k : ℕ) (cs : List Numbers) (c : Numbers) → AreChunks slots k (cs ++ c ∷ []) → AreHome slots (k + length cs) c.ids × (c.len ≡ weight slots c.ids)
chunk_last slots k [] c h = let e : k + 0 ≡ k = omega arith in (rw e h.0, h.1)
chunk_last slots k (d ∷ ds) c h = let e : suc k + length ds ≡ k + suc (length ds) = omega arith in rw e at (chunk_last slots (suc k) ds c h.2)

chunks_front : (slots : List (Option Kept)) (k : ℕ) (cs : List Numbers) (c : Numbers) → AreChunks slots k (cs ++ c ∷ []) → AreChunks slots k cs
chunks_front slots k [] c h = tt
chunks_front slots k (d ∷ ds) c h = (h.0, h.1, chunks_front slots (suc k) ds c h.2)

chunks_more : (slots : List (Option Kept)) (k : ℕ) (cs : List Numbers) (c : Numbers) → AreChunks slots k cs → AreHome slots (k + length cs) c.ids → c.len ≡ weight slots c.ids → AreChunks slots k (cs ++ c ∷ [])
chunks_more slots k [] c h home len = let e : k + 0 ≡ k = omega arith in (rw e at home, len, tt)
chunks_more slots k (d ∷ ds) c h home len =
    let e : suc k + length ds ≡ k + suc (length ds) = omega arith in
    (h.0, h.1, chunks_more slots (suc k) ds c h.2 (rw e home) len)

once_more : (xs : List StmtId) (id : StmtId) → AreOnce xs → IsAbsent id xs → AreOnce (xs ++ id ∷ [])
once_more [] id h a = (tt, tt)
once_more (x ∷ xs) id h a = (absent_append x xs (id ∷ []) h.0 (λ e. a.0 (sym e), tt), once_more xs id h.1 a.1)

abbrev pub numbers_of : List StmtId → ℕ → Numbers
numbers_of ids len = record { ids = ids; len = len }

pub last_ids : (front : List Numbers) (c : Numbers) → all_ids (front ++ c ∷ []) ≡ all_ids front ++ c.ids
last_ids front c = all_ids_append front (c ∷ []) ∙ ap (λ (l : List StmtId). all_ids front ++ l) (append-nil c.ids)

pub ids_more : (front : List Numbers) (ids : List StmtId) (len more : ℕ) (id : StmtId) → all_ids (front ++ numbers_of (ids ++ id ∷ []) more ∷ []) ≡ all_ids (front ++ numbers_of ids len ∷ []) ++ id ∷ []
ids_more front ids len more id =
    last_ids front (numbers_of (ids ++ id ∷ []) more) ∙ sym (append_assoc (all_ids front) ids (id ∷ [])) ∙ ap (λ (l : List StmtId). l ++ id ∷ []) (sym (last_ids front (numbers_of ids len)))

-- a chunk that has no numbers yet
pub opened_empty : (text : List ℕ) (front : List Numbers) (recs : List Record) (slots : List (Option Kept)) (mode : Mode) (pos len : ℕ) → len ≡ 0 → IsOpened text front recs slots mode pos
    → IsOpened text (front ++ numbers_of [] len ∷ []) recs slots mode pos
opened_empty text front recs slots mode pos len none o =
    let same : all_ids (front ++ numbers_of [] len ∷ []) ≡ all_ids front = last_ids front (numbers_of [] len) ∙ append-nil (all_ids front) in
    record {
      read = subst (λ (l : List StmtId). AreRead text (map (kept_at slots) l) recs mode pos) (sym same) o.read;
      chunks = chunks_more slots 0 front (numbers_of [] len) o.chunks tt none;
      once = subst AreOnce (sym same) o.once;
    }

-- a piece more in the last chunk
module _ (text : List ℕ) (front : List Numbers) (ids : List StmtId) (recs : List Record) (old new : List (Option Kept)) (mode : Mode) (from pos : ℕ) where
  pub opened_more : ChainsJoin def → ChainsLead def → IsOpened text (front ++ numbers_of ids (pos - from) ∷ []) recs old mode pos → from ≤ pos → (end : ℕ) (next : Mode) (rec : Record) (k : Kept) (id : StmtId)
      → PieceAt mode text pos end next rec → k.mode ≡ mode → k.bytes ≡ slice_range text pos end → k.chunk ≡ length front → Stores old new k id
      → IsOpened text (front ++ numbers_of (ids ++ id ∷ []) (end - from) ∷ []) (recs ++ rec ∷ []) new next end
  opened_more joins leads o low end next rec k id piece mode_is bytes chunk s =
      let before = front ++ numbers_of ids (pos - from) ∷ [] in
      let more = ids_more front ids (pos - from) (end - from) id in
      let own : kept_at new id ≡ k = ap kept_or s.held in
      let stays = chunks_stay old new s.stays 0 before o.chunks in
      let last = chunk_last new 0 front (numbers_of ids (pos - from)) stays in
      let ks : map (kept_at new) (all_ids before ++ id ∷ []) ≡ map (kept_at old) (all_ids before) ++ k ∷ [] =
      map-append (kept_at new) (all_ids before) (id ∷ []) ∙ ap₂ (λ (ps : List Kept) (p : Kept). ps ++ p ∷ []) (all_stay old new s.stays 0 before o.chunks) own in
      let home : AreHome new (0 + length front) (id ∷ []) = (s.held ∙ ap (λ (p : Kept). Some p) (sym own), ap (λ (p : Kept). p.chunk) own ∙ chunk ∙ omega arith, tt) in
      let long = range_long text pos end piece.0 piece.1 in
      let bytes_long : length (kept_at new id).bytes ≡ length k.bytes = ap (λ (p : Kept). length p.bytes) own in
      let heavy : end - from ≡ weight new (ids ++ id ∷ []) = omega (arith, long, low, piece.0, last.1, bytes_long, ap (λ (b : List ℕ). length b) bytes, weight_append new ids (id ∷ [])) in
      record {
        read = subst (λ (l : List StmtId). AreRead text (map (kept_at new) l) (recs ++ rec ∷ []) next end) (sym more)
            (subst (λ (l : List Kept). AreRead text l (recs ++ rec ∷ []) next end) (sym ks) (read_on text (map (kept_at old) (all_ids before)) recs mode pos o.read joins leads end next rec k piece bytes mode_is));
        chunks = chunks_more new 0 front (numbers_of (ids ++ id ∷ []) (end - from)) (chunks_front new 0 front (numbers_of ids (pos - from)) stays) (home_append new (0 + length front) ids (id ∷ []) last.0 home) heavy;
        once = subst AreOnce (sym more) (once_more (all_ids before) id o.once (unheld old 0 before id o.chunks s.free));
      }

-- what a slab keeps under a number that was free
pub stores_is : {A : Type 0} (old mid new : Slab (Piece A)) (key : ℕ) (p : Piece A) (bytes : List ℕ) → mid.slots ≡ old.slots → get mid key ≡ None → Updates mid new key (Some p) → p.bytes ≡ bytes
    → Stores (map (option_map kept) old.slots) (map (option_map kept) new.slots) (record { mode = p.mode; bytes = bytes; chunk = p.chunk }) (record { 0 = key })
stores_is old mid new key p bytes same free updates is =
    let none : get_or old.slots key None ≡ None = ap (λ (l : List (Option (Piece _))). get_or l key None) (sym same) ∙ free in
    record {
      free = slot_map kept old.slots key ∙ ap (option_map kept) none;
      held = slot_map kept new.slots key ∙ ap (option_map kept) updates.changed ∙ ap (λ (b : List ℕ). Some (record { mode = p.mode; bytes = b; chunk = p.chunk })) is;
      stays = λ n k h.
          let was : option_map kept (get_or old.slots n None) ≡ Some k = sym (slot_map kept old.slots n) ∙ h in
          let apart : n ≢ key = λ (e : n ≡ key). let gone : None ≡ Some k = ap (option_map kept) (sym none) ∙ ap (λ (m : ℕ). option_map kept (get_or old.slots m None)) (sym e) ∙ was in absurd (cc) in
          slot_map kept new.slots n ∙ ap (option_map kept) (updates.others n apart ∙ ap (λ (l : List (Option (Piece _))). get_or l n None) same) ∙ was;
    }

free_append : (slots : List (Option Kept)) (xs ys : List StmtId) → AreFree slots xs → AreFree slots ys → AreFree slots (xs ++ ys)
free_append slots [] ys h k = k
free_append slots (x ∷ xs) ys h k = (h.0, free_append slots xs ys h.1 k)

-- a number that is free after others were put was free before
free_before : (old mid : List (Option Kept)) (id : StmtId) (o : Option Kept) → StaysKept old mid → slot mid id ≡ None → slot old id ≡ o → slot old id ≡ None
free_before old mid id None stays free is = is
free_before old mid id (Some k) stays free is = let there = stays id.0 k is in absurd (cc)

pub stays_on : (old mid new : List (Option Kept)) → StaysKept old mid → StaysKept mid new → StaysKept old new
stays_on old mid new h k n p e = k n p (h n p e)

-- one more
pub all_more : (old mid new : List (Option Kept)) (ks : List Kept) (chunk : ℕ) (before after later : List StmtId) (k : Kept) (id : StmtId) → StoresAll old mid ks chunk before after → StaysKept old mid → Stores mid new k id
    → k.chunk ≡ chunk → later ≡ after ++ id ∷ [] → StoresAll old new (ks ++ k ∷ []) chunk before later
all_more old mid new ks chunk before after later k id a stays s same is =
    let own : kept_at new id ≡ k = ap kept_or s.held in
    record {
      ids = a.ids ++ id ∷ [];
      is = is ∙ ap (λ (l : List StmtId). l ++ id ∷ []) a.is ∙ append_assoc before a.ids (id ∷ []);
      free = free_append old a.ids (id ∷ []) a.free (free_before old mid id (slot old id) stays s.free refl, tt);
      once = once_more a.ids id a.once (unheld_home mid chunk a.ids id a.home s.free);
      home = home_append new chunk a.ids (id ∷ []) (home_stays mid new s.stays chunk a.ids a.home) (s.held ∙ ap (λ (p : Kept). Some p) (sym own), ap (λ (p : Kept). p.chunk) own ∙ same, tt);
      kept = map-append (kept_at new) a.ids (id ∷ []) ∙ ap₂ (λ (ps : List Kept) (p : Kept). ps ++ p ∷ []) (ids_stay mid new s.stays chunk a.ids a.home ∙ a.kept) own;
    }
