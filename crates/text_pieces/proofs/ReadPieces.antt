-- How far a text is read, piece by piece.
use Rattle.std.proofs.Common.{◌≡◌, ◌≤◌, ◌<◌, ℕ, ◌+◌, ◌-◌, List, [], ◌∷◌, ◌++◌, length, drop, Result, Ok, Err, refl, sym, ap, ap₂, ◌∙◌, subst, append_assoc, append-nil, arith, length-append, drop_at, slice_range}
use Rattle.std.specs.List.{concat, fold}
use Rattle.std.proofs.lemmas.List.{take-append-drop, length-drop, length-take, drop-drop, map-append}
use Rattle.std.proofs.lemmas.List.Folds.{concat-append}
use Rattle.design_model.specs.declared.fault.Fault.{Fault}
use Rattle.design_model.specs.declared.mode.Mode.{Mode}
use Rattle.design_model.specs.declared.mode.Mode.TheVariants.{Top}
use Rattle.statement_model.specs.Tokens.{lex, tokens, left_from}
use Rattle.statement_model.specs.Tokens.Open.{between}
use Rattle.statement_model.specs.Folds.{◌>>◌}
use Rattle.statement_model.specs.Grammar.{Key}
use Rattle.statement_model.specs.Reading.{read_at, read_from}
use Rattle.lefdef_tokens.specs.Laws.{BeginsApart}
use Rattle.statement_reader.proofs.Steps.{faults_stop}
use Rattle.def_grammar.specs.Records.{Record, def}
use Rattle.piece_laws.specs.ChainLaws.{ChainsJoin, ChainsLead}
use Rattle.piece_laws.specs.PieceLaws.{PiecesAreRead}
use Rattle.piece_laws.specs.Pieces.{keyless, AreApart, modes_from}
use Rattle.piece_laws.proofs.Keyless.{same_read}
use Rattle.text_pieces.specs.Content.{bytes_of}
use Rattle.text_pieces.specs.Opening.{AreRead, PieceAt}
use Rattle.text_pieces.specs.Tables.{Kept}

pub read_start : (text : List ℕ) → AreRead text [] [] Top 0
read_start text = record { chained = refl; modes = refl; left = text; whole = refl; at = refl; apart = tt }

modes_more : (m : Mode) (recs : List Record) (rec : Record) → modes_from def m (recs ++ rec ∷ []) ≡ modes_from def m recs ++ fold def.after m recs ∷ []
modes_more m [] rec = refl
modes_more m (r ∷ rs) rec = ap (λ (ms : List Mode). m ∷ ms) (modes_more (def.after m r) rs rec)

joined_one : (done : List (List ℕ)) (p : List ℕ) → concat (done ++ p ∷ []) ≡ concat done ++ p
joined_one done p = concat-append done (p ∷ []) ∙ ap (λ (t : List ℕ). concat done ++ t) (append-nil p)

apart_more : (done : List (List ℕ)) (p left : List ℕ) → AreApart done (p ++ left) → BeginsApart left → AreApart (done ++ p ∷ []) left
apart_more [] p left apart next = (next, tt)
apart_more (d ∷ ds) p left apart next =
    let same : concat ds ++ (p ++ left) ≡ concat (ds ++ p ∷ []) ++ left = sym (append_assoc (concat ds) p left) ∙ ap (λ (t : List ℕ). t ++ left) (sym (joined_one ds p)) in
    (subst BeginsApart same apart.0, apart_more ds p left apart.1 next)

split_at : (text : List ℕ) (pos end : ℕ) → pos ≤ end → drop pos text ≡ slice_range text pos end ++ drop end text
split_at text pos end low =
    let sum : pos + (end - pos) ≡ end = omega (arith, low) in
    sym (take-append-drop (end - pos) (drop pos text)) ∙ ap (λ (t : List ℕ). slice_range text pos end ++ t) (drop-drop (end - pos) pos text ∙ ap (λ (k : ℕ). drop k text) sum)

pub range_long : (text : List ℕ) (pos end : ℕ) → pos < end → end ≤ length text → pos + length (slice_range text pos end) ≡ end
range_long text pos end low high = omega (arith, low, high, length-take (end - pos) (drop pos text), length-drop pos text)

module _ (text : List ℕ) (ks : List Kept) (recs : List Record) (mode : Mode) (pos : ℕ) (g : AreRead text ks recs mode pos) where
  pub left_at : drop pos text ≡ g.left
  left_at = ap (drop pos) g.whole ∙ drop_at (concat (bytes_of ks)) g.left pos (sym g.at)

  -- one piece more
  pub read_on : ChainsJoin def → ChainsLead def → (end : ℕ) (next : Mode) (rec : Record) (k : Kept) → PieceAt mode text pos end next rec → k.bytes ≡ slice_range text pos end → k.mode ≡ mode
      → AreRead text (ks ++ k ∷ []) (recs ++ rec ∷ []) next end
  read_on joins leads end next rec k piece bytes same =
      let b = slice_range text pos end in
      let left = drop end text in
      let done = bytes_of ks in
      let more : bytes_of (ks ++ k ∷ []) ≡ done ++ b ∷ [] = map-append (λ (q : Kept). q.bytes) ks (k ∷ []) ∙ ap (λ (t : List ℕ). done ++ t ∷ []) bytes in
      let split : g.left ≡ b ++ left = sym left_at ∙ split_at text pos end (omega (arith, piece.0)) in
      let long = range_long text pos end piece.0 piece.1 in
      let leads_here : k.mode ≡ fold def.after Top recs = same ∙ leads Top mode done recs g.chained in
      record {
        chained = rw more (joins Top mode next done (b ∷ []) recs (rec ∷ []) g.chained (next, piece.2, refl));
        modes = map-append (λ (q : Kept). q.mode) ks (k ∷ []) ∙ ap₂ (λ (ms : List Mode) (m : Mode). ms ++ m ∷ []) g.modes leads_here ∙ sym (modes_more Top recs rec);
        left = left;
        whole = rw more (g.whole ∙ ap (λ (t : List ℕ). concat done ++ t) split ∙ sym (append_assoc (concat done) b left) ∙ ap (λ (t : List ℕ). t ++ left) (sym (joined_one done b)));
        at = rw more (omega (arith, g.at, long, ap (λ (t : List ℕ). length t) (joined_one done b), length-append (concat done) b));
        apart = rw more (apart_more done b left (subst (AreApart done) split g.apart) piece.3);
      }

  -- the fault of the next statement is that of the text
  pub read_fault : PiecesAreRead def → (f : Fault) → read_at def mode (left_from text pos) ≡ Err f → read_from (keyless def) (Top, []) (tokens text) ≡ Err f
  read_fault law f read =
      let l = lex (0 + length (concat (bytes_of ks))) between g.left in
      let place : 0 + length (concat (bytes_of ks)) ≡ pos = omega (arith, g.at) in
      let same : l ≡ left_from text pos = ap₂ (λ (k : ℕ) (t : List ℕ). lex k between t) place (sym left_at) in
      let here : read_at (keyless def) mode l ≡ Err f = ap (read_at (keyless def) mode) same ∙ same_read def mode (left_from text pos) ∙ read in
      let state : Mode × List Key = (Top, []) in
      ap (λ (t : List ℕ). read_from (keyless def) state (tokens t)) g.whole
      ∙ law 0 Top mode (bytes_of ks) recs g.left g.chained g.apart
      ∙ ap (λ (r : Result (List Record) Fault). r >> λ later. Ok (recs ++ later)) (faults_stop (keyless def) mode [] l f here)
