-- Statements that are told as they are read.
use Rattle.std.proofs.Common.{◌≡◌, ◌≤◌, ◌-◌, ℕ, suc, List, [], ◌∷◌, ◌++◌, length, drop, map, Option, None, Ok, Err, refl, sym, ap, ◌∙◌, subst, append_assoc, append-nil, arith, slice_range}
use Rattle.std.specs.List.{zip}
use Rattle.std.proofs.lemmas.List.{length-map}
use Rattle.design_model.specs.declared.TheConstants.{MAX_TEXT}
use Rattle.design_model.specs.declared.fault.ReadError.{ReadError}
use Rattle.design_model.specs.declared.fault.ReadError.TheVariants.{Fault, Memory}
use Rattle.design_model.specs.declared.identifier.StmtId.{StmtId}
use Rattle.design_model.specs.declared.mode.Mode.{Mode}
use Rattle.design_model.specs.declared.mode.Mode.TheVariants.{Top, After}
use Rattle.statement_model.specs.Tokens.{Token, left_from}
use Rattle.statement_model.specs.Reading.{read_at}
use Rattle.def_grammar.specs.Records.{Record, def}
use Rattle.piece_laws.specs.ChainLaws.{ChainsJoin, ChainsLead}
use Rattle.piece_laws.specs.PieceLaws.{TailsAreFound, TailsMayEnd}
use Rattle.piece_laws.specs.PlaceLaws.{TextsAreRead}
use Rattle.piece_laws.specs.Pieces.{AreChained}
use Rattle.text_pieces.specs.Chunks.{Numbers, all_ids}
use Rattle.text_pieces.specs.Content.{Content, IsText, Opens, bytes_of}
use Rattle.text_pieces.specs.Lent.{numbered_records}
use Rattle.text_pieces.specs.Opening.{AreTold, IsOpened, PieceAt, ReadsChunk}
use Rattle.text_pieces.specs.Storing.{Stores}
use Rattle.text_pieces.specs.Tables.{Kept, ids_of, kept_at, standing}
use Rattle.text_pieces.specs.Told.{Tells}
use Rattle.text_pieces.proofs.Opened.{content, opened_said, opened_start, read_is}
use Rattle.text_pieces.proofs.PlacedPieces.{records_placed}
use Rattle.text_pieces.proofs.StoredPieces.{ids_more, last_ids, numbers_of, opened_empty, opened_more}

zip_more : (ids : List StmtId) (rs : List Record) (id : StmtId) (r : Record) → length ids ≡ length rs → zip (ids ++ id ∷ []) (rs ++ r ∷ []) ≡ zip ids rs ++ (id, r) ∷ []
zip_more [] [] id r long = refl
zip_more [] (x ∷ xs) id r long = absurd (omega (arith, long))
zip_more (i ∷ is) [] id r long = absurd (omega (arith, long))
zip_more (i ∷ is) (x ∷ xs) id r long = ap (λ (l : List (StmtId × Record)). (i, x) ∷ l) (zip_more is xs id r (omega (arith, long)))

chain_long : (m last : Mode) (ps : List (List ℕ)) (recs : List Record) → AreChained def m ps recs last → length ps ≡ length recs
chain_long m last [] [] chain = refl
chain_long m last [] (r ∷ rs) chain = absurd chain
chain_long m last (p ∷ ps) [] chain = absurd chain
chain_long m last (p ∷ ps) (r ∷ rs) chain = ap (λ (n : ℕ). suc n) (chain_long chain.0 last ps rs chain.2)

-- there are as many numbers as statements
as_long : (text : List ℕ) (front : List Numbers) (recs : List Record) (slots : List (Option Kept)) (mode : Mode) (pos : ℕ) → IsOpened text front recs slots mode pos → length (all_ids front) ≡ length recs
as_long text front recs slots mode pos o =
    let ks = map (kept_at slots) (all_ids front) in
    sym (length-map (all_ids front) (kept_at slots)) ∙ sym (length-map ks (λ (k : Kept). k.bytes)) ∙ chain_long Top mode (bytes_of ks) recs o.read.chained

module _ {T : Type 0} (says : T → List (StmtId × Record) → Type 0) where
  tells_none : (t : T) → Tells says t t []
  tells_none t xs h = subst (says t) (sym (append-nil xs)) h

  tells_more : (begun old new : T) (ys : List (StmtId × Record)) (x : StmtId × Record) → Tells says begun old ys → ((xs : List (StmtId × Record)) → says old xs → says new (xs ++ x ∷ [])) → Tells says begun new (ys ++ x ∷ [])
  tells_more begun old new ys x h more xs s = subst (says new) (append_assoc xs ys (x ∷ [])) (more (xs ++ ys) (h xs s))

  pub told_start : (t : T) (text : List ℕ) → AreTold says t t text [] [] Top 0
  told_start t text = record { recs = []; opened = opened_start text; told = tells_none t }

  -- a chunk that has no numbers yet
  pub told_empty : (begun now : T) (text : List ℕ) (front : List Numbers) (slots : List (Option Kept)) (mode : Mode) (pos len : ℕ) → len ≡ 0 → AreTold says begun now text front slots mode pos
      → AreTold says begun now text (front ++ numbers_of [] len ∷ []) slots mode pos
  told_empty begun now text front slots mode pos len none t =
      let same : all_ids front ≡ all_ids (front ++ numbers_of [] len ∷ []) = sym (last_ids front (numbers_of [] len) ∙ append-nil (all_ids front)) in
      record {
        recs = t.recs;
        opened = opened_empty text front t.recs slots mode pos len none t.opened;
        told = subst (λ (l : List StmtId). Tells says begun now (zip l t.recs)) same t.told;
      }

  -- a piece more in the last chunk
  module _ (begun before after : T) (text : List ℕ) (front : List Numbers) (ids : List StmtId) (old new : List (Option Kept)) (mode : Mode) (from pos : ℕ) where
    pub told_more : ChainsJoin def → ChainsLead def → AreTold says begun before text (front ++ numbers_of ids (pos - from) ∷ []) old mode pos → from ≤ pos → (end : ℕ) (next : Mode) (rec : Record) (k : Kept) (id : StmtId)
        → PieceAt mode text pos end next rec → k.mode ≡ mode → k.bytes ≡ slice_range text pos end → k.chunk ≡ length front → Stores old new k id → ((xs : List (StmtId × Record)) → says before xs → says after (xs ++ (id, rec) ∷ []))
        → AreTold says begun after text (front ++ numbers_of (ids ++ id ∷ []) (end - from) ∷ []) new next end
    told_more joins leads t low end next rec k id piece mode_is bytes chunk s tells =
        let last = front ++ numbers_of ids (pos - from) ∷ [] in
        let long = as_long text last t.recs old mode pos t.opened in
        let numbered : zip (all_ids (front ++ numbers_of (ids ++ id ∷ []) (end - from) ∷ [])) (t.recs ++ rec ∷ []) ≡ zip (all_ids last) t.recs ++ (id, rec) ∷ [] =
        ap (λ (l : List StmtId). zip l (t.recs ++ rec ∷ [])) (ids_more front ids (pos - from) (end - from) id) ∙ zip_more (all_ids last) t.recs id rec long in
        record {
          recs = t.recs ++ rec ∷ [];
          opened = opened_more text front ids t.recs old new mode from pos joins leads t.opened low end next rec k id piece mode_is bytes chunk s;
          told = subst (Tells says begun after) (sym numbered) (tells_more begun before after (zip (all_ids last) t.recs) (id, rec) t.told tells);
        }

  -- what a chunk answers that isn't read is what the text answers
  pub failed : (A : Type 0) (text : List ℕ) (cs : List Numbers) (mode : Mode) (pos number : ℕ) (old new : List (Option Kept)) (begun before after : T) (e : ReadError) → length text ≤ MAX_TEXT → length cs ≡ number
      → AreTold says begun before text cs old mode pos → ReadsChunk {A = A} says text mode pos number old new before after (Err e) → Opens text (Err e)
  failed A text cs mode pos number old new begun before after (Fault f) fits n t h = read_is text fits ∙ h begun cs n t
  failed A text cs mode pos number old new begun before after Memory fits n t h = tt

-- what the statements of a text say, under their numbers
said : TextsAreRead def → (c : Content) (t : IsText c) → numbered_records c ≡ zip (ids_of c.table) t.recs
said law c t =
    let ps = bytes_of (standing c.table) in
    let located = (law Top After ps t.recs c.tail t.chained t.apart t.ends).1 in
    ap (λ (l : List (List Token × Record)). zip (ids_of c.table) (map (λ x. x.1) l)) located ∙ ap (zip (ids_of c.table)) (records_placed 0 Top After ps t.recs t.chained)

-- all statements of a text that is read to its end were told
pub all_told : {T : Type 0} (says : T → List (StmtId × Record) → Type 0) (begun now : T) (text : List ℕ) (cs : List Numbers) (slots : List (Option Kept)) (mode : Mode) (pos : ℕ) (tail : List ℕ)
    (t : AreTold says begun now text cs slots mode pos) → tail ≡ drop pos text → TextsAreRead def → TailsAreFound def → TailsMayEnd def → read_at def mode (left_from text pos) ≡ Ok None → length text ≤ MAX_TEXT
    → Tells says begun now (numbered_records (content cs slots tail (length text)))
all_told says begun now text cs slots mode pos tail t is law found may_end ends fits =
    let s = opened_said text cs t.recs slots mode pos tail t.opened is found may_end ends fits in
    subst (Tells says begun now) (sym (said law (content cs slots tail (length text)) s.0 ∙ ap (zip (all_ids cs)) s.1)) t.told
