-- How far rereading has come, over all bytes from the edit on.
use Rattle.std.proofs.Common.{◌≡◌, ◌≤◌, ◌<◌, ℕ, ◌+◌, ◌-◌, List, [], ◌∷◌, ◌++◌, length, drop, Result, Ok, Err, refl, sym, ap, ap₂, ◌∙◌, subst, append_assoc, append-nil, arith, length-append, drop_at, slice_range}
use Rattle.std.specs.List.{concat, fold}
use Rattle.std.proofs.lemmas.List.{take-append-drop, length-drop, length-take, drop-drop, drop-append-le, map-append}
use Rattle.std.proofs.lemmas.List.Folds.{concat-append}
use Rattle.design_model.specs.declared.fault.Fault.{Fault}
use Rattle.design_model.specs.declared.mode.Mode.{Mode}
use Rattle.statement_model.specs.Tokens.{lex, tokens, left_from}
use Rattle.statement_model.specs.Tokens.Open.{between}
use Rattle.statement_model.specs.Folds.{◌>>◌}
use Rattle.statement_model.specs.Grammar.{Key}
use Rattle.statement_model.specs.Reading.{read_at, read_from}
use Rattle.lefdef_tokens.specs.Laws.{BeginsApart}
use Rattle.statement_reader.proofs.Steps.{faults_stop}
use Rattle.def_grammar.specs.Records.{Record, def}
use Rattle.piece_laws.specs.ChainLaws.{ApartJoins, ChainsJoin, ChainsLead, ModesJoin}
use Rattle.piece_laws.specs.PieceLaws.{PiecesAreRead}
use Rattle.piece_laws.specs.Pieces.{keyless, AreApart, AreChained, modes_from}
use Rattle.piece_laws.proofs.Keyless.{same_read}
use Rattle.rereading.specs.Rereading.{new_bytes, new_modes}
use Rattle.rereading.specs.Steps.{PieceAt}
use Rattle.rereading.specs.declared.pieces.NewPiece.{NewPiece}
use Rattle.rereading.proofs.AllBytes.{apart_append}

-- pieces that were read, and what is left of all bytes
pub record Going {A : Type 0} (first : Mode) (all : List ℕ) (ps : List (NewPiece A)) (mode : Mode) (pos : ℕ) : Type 0 where
  pub recs : List Record
  pub chained : AreChained def first (new_bytes ps) recs mode
  pub modes : new_modes ps ≡ modes_from def first recs
  pub left : List ℕ
  pub whole : all ≡ concat (new_bytes ps) ++ left
  pub at : pos ≡ length (concat (new_bytes ps))
  pub apart : AreApart (new_bytes ps) left

pub going_start : {A : Type 0} (first : Mode) (all : List ℕ) → Going {A = A} first all [] first 0
going_start first all = record { recs = []; chained = refl; modes = refl; left = all; whole = refl; at = refl; apart = tt }

-- one piece more
joined_one : (done : List (List ℕ)) (p : List ℕ) → concat (done ++ p ∷ []) ≡ concat done ++ p
joined_one done p = concat-append done (p ∷ []) ∙ ap (λ (t : List ℕ). concat done ++ t) (append-nil p)

-- bytes from a position on, in two parts
pub split_at : (window : List ℕ) (pos end : ℕ) → pos ≤ end → drop pos window ≡ slice_range window pos end ++ drop end window
split_at window pos end low =
    let sum : pos + (end - pos) ≡ end = omega (arith, low) in
    sym (take-append-drop (end - pos) (drop pos window)) ∙ ap (λ (t : List ℕ). slice_range window pos end ++ t) (drop-drop (end - pos) pos window ∙ ap (λ (k : ℕ). drop k window) sum)

range_long : (window : List ℕ) (pos end : ℕ) → pos < end → end ≤ length window → pos + length (slice_range window pos end) ≡ end
range_long window pos end low high = omega (arith, low, high, length-take (end - pos) (drop pos window), length-drop pos window)

module _ {A : Type 0} (first mode : Mode) (all : List ℕ) (ps : List (NewPiece A)) (pos : ℕ) (g : Going first all ps mode pos) where
  pub left_at : drop pos all ≡ g.left
  left_at = ap (drop pos) g.whole ∙ drop_at (concat (new_bytes ps)) g.left pos (sym g.at)

  -- what is left of all bytes is what is left of the window, and then what is behind it
  pub left_is : (window behind : List ℕ) → all ≡ window ++ behind → pos ≤ length window → g.left ≡ drop pos window ++ behind
  left_is window behind is within = sym left_at ∙ ap (drop pos) is ∙ drop-append-le pos window behind within

  pub going_on : ChainsJoin def → ChainsLead def → ModesJoin def → ApartJoins → (next : Mode) (window behind : List ℕ) (end : ℕ) (p : NewPiece A) → all ≡ window ++ behind → BeginsApart behind → PieceAt mode window pos (end, next)
      → p.bytes.items ≡ slice_range window pos end → p.mode ≡ mode → Going first all (ps ++ p ∷ []) next end
  going_on joins leads modes_join apart_joins next window behind end p is apart piece bytes same =
      let b = slice_range window pos end in
      let left = drop end window ++ behind in
      let done = new_bytes ps in
      let more : new_bytes (ps ++ p ∷ []) ≡ done ++ b ∷ [] = map-append (λ (q : NewPiece A). q.bytes.items) ps (p ∷ []) ∙ ap (λ (t : List ℕ). done ++ t ∷ []) bytes in
      let here = left_is window behind is (omega (arith, piece.0, piece.1)) in
      let split : g.left ≡ b ++ left = here ∙ ap (λ (t : List ℕ). t ++ behind) (split_at window pos end (omega (arith, piece.0))) ∙ append_assoc b (drop end window) behind in
      let long = range_long window pos end piece.0 piece.1 in
      let begins = apart_append (drop end window) behind piece.3 apart in
      let leads_here : p.mode ≡ fold def.after first g.recs = same ∙ leads first mode done g.recs g.chained in
      record {
        recs = g.recs ++ piece.2.0 ∷ [];
        chained = rw more (joins first mode next done (b ∷ []) g.recs (piece.2.0 ∷ []) g.chained (next, piece.2.1, refl));
        modes = map-append (λ (q : NewPiece A). q.mode) ps (p ∷ []) ∙ ap₂ (λ (ms : List Mode) (m : Mode). ms ++ m ∷ []) g.modes leads_here ∙ sym (modes_join first g.recs (piece.2.0 ∷ []));
        left = left;
        whole = rw more (g.whole ∙ ap (λ (t : List ℕ). concat done ++ t) split ∙ sym (append_assoc (concat done) b left) ∙ ap (λ (t : List ℕ). t ++ left) (sym (joined_one done b)));
        at = rw more (omega (arith, g.at, long, ap (λ (t : List ℕ). length t) (joined_one done b), length-append (concat done) b));
        apart = rw more ((apart_joins done (b ∷ []) left).1 (subst (AreApart done) (split ∙ ap (λ (t : List ℕ). t ++ left) (sym (append-nil b))) g.apart, (begins, tt)));
      }

  -- the fault of the next statement is that of all bytes
  pub going_fault : PiecesAreRead def → (f : Fault) → read_at def mode (left_from all pos) ≡ Err f → read_from (keyless def) (first, []) (tokens all) ≡ Err f
  going_fault law f read =
      let l = lex (0 + length (concat (new_bytes ps))) between g.left in
      let place : 0 + length (concat (new_bytes ps)) ≡ pos = omega (arith, g.at) in
      let same : l ≡ left_from all pos = ap₂ (λ (k : ℕ) (t : List ℕ). lex k between t) place (sym left_at) in
      let here : read_at (keyless def) mode l ≡ Err f = ap (read_at (keyless def) mode) same ∙ same_read def mode (left_from all pos) ∙ read in
      let state : Mode × List Key = (first, []) in
      ap (λ (t : List ℕ). read_from (keyless def) state (tokens t)) g.whole
      ∙ law 0 first mode (new_bytes ps) g.recs g.left g.chained g.apart
      ∙ ap (λ (r : Result (List Record) Fault). r >> λ later. Ok (g.recs ++ later)) (faults_stop (keyless def) mode [] l f here)
