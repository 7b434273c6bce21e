-- Where rereading begins, goes on and ends.
use Rattle.std.proofs.Common.{◌≡◌, ◌≤◌, ℕ, ◌+◌, List, [], ◌∷◌, ◌++◌, length, take, drop, Option, Some, None, Result, Ok, Err, sym, ap, ◌∙◌, append_assoc, append-nil, arith, length-append, slice_range}
use Rattle.std.specs.Prelude.{MatchOption, slice_get}
use Rattle.std.specs.List.{concat}
use Rattle.std.proofs.lemmas.List.{append_cancel_right, length-drop}
use Rattle.std.proofs.lemmas.Option.{slice_get_past}
use Rattle.std.proofs.Math.Seq.{drop-length, take-length}
use Rattle.design_model.specs.declared.fault.ReadError.{ReadError}
use Rattle.design_model.specs.declared.fault.ReadError.TheVariants.{Fault, Memory}
use Rattle.design_model.specs.declared.mode.Mode.{Mode}
use Rattle.statement_model.specs.Tokens.{left_from}
use Rattle.statement_model.specs.Reading.{read_at}
use Rattle.def_grammar.specs.Records.{def}
use Rattle.piece_laws.specs.ChainLaws.{ApartJoins, ChainsJoin, ChainsLead, ModesJoin}
use Rattle.piece_laws.specs.PieceLaws.{PiecesAreRead, TailsAreFound}
use Rattle.piece_laws.specs.Pieces.{IsTail}
use Rattle.rereading.specs.Rereading.{NotShared, NoneShared, IsReread, Rereads, all_bytes, new_bytes}
use Rattle.rereading.specs.Segments.{OldBytes, BeginApart, bytes_of}
use Rattle.rereading.specs.Steps.{PieceAt, NextWhole, NextNew, Stops}
use Rattle.rereading.specs.Windows.{Holds}
use Rattle.rereading.specs.declared.pieces.NewPiece.{NewPiece}
use Rattle.rereading.specs.declared.pieces.Reread.{Reread}
use Rattle.rereading.proofs.AllBytes.{all_is, apart_behind}
use Rattle.rereading.proofs.Going.{Going, going_fault, going_on, left_is}

pub holds_start : (raw : List ℕ) (segments : List OldBytes) (window : List ℕ) → window ≡ raw → Holds raw segments 0 window
holds_start raw segments window is = record { within = omega arith; is = is ∙ sym (append-nil raw) }

-- one statement more is counted
pub counted_more : {X : Type 0} (old new : List X) (x : X) (before after : ℕ) → new ≡ old ++ x ∷ [] → before ≡ length old → after ≡ before + 1 → after ≡ length new
counted_more old new x before after is counted more =
    let long = ap (λ (t : List _). length t) is in
    omega (arith, long, counted, more, length-append old (x ∷ []))

-- the next piece, where no old statement stands at its place
pub next_new : (raw : List ℕ) (segments : List OldBytes) (mode : Mode) (pos used : ℕ) (window : List ℕ) (r : Result (Option (ℕ × Mode)) ReadError) → NotShared raw segments pos mode
    → NextWhole raw segments mode pos used window r → NextNew raw segments mode pos used window r
next_new raw segments mode pos used window (Ok (Some x)) alone next = (next.0, next.1, alone)
next_new raw segments mode pos used window (Ok None) alone next =
    let past : slice_get segments used ≡ None = slice_get_past segments used (omega (arith, next.1.0)) in
    (next.0, rw past next.1.1)
next_new raw segments mode pos used window (Err (Fault f)) alone next = next
next_new raw segments mode pos used window (Err Memory) alone next = tt

-- where reading stops, the bytes that are left are a tail, or an old statement comes next
abbrev Left : Mode → List ℕ → ℕ → Option OldBytes → Type 0
Left mode window pos next = MatchOption next (read_at def mode (left_from window pos) ≡ Ok None) (λ (s : OldBytes). (pos ≡ length window) × (s.mode ≡ Some mode))

abbrev Lands : Mode → List ℕ → Option OldBytes → Type 0
Lands mode rest next = MatchOption next (IsTail def mode rest) (λ (s : OldBytes). (rest ≡ []) × (s.mode ≡ Some mode))

stops_at : TailsAreFound def → (mode : Mode) (window rest : List ℕ) (pos : ℕ) (next : Option OldBytes) → rest ≡ drop pos window → Left mode window pos next → Lands mode rest next
stops_at law mode window rest pos None is stops = rw is (law pos mode (drop pos window) stops)
stops_at law mode window rest pos (Some s) is stops = (is ∙ ap (λ (k : ℕ). drop k window) stops.0 ∙ drop-length window, stops.1)

module _ {A : Type 0} (first : Mode) (raw : List ℕ) (segments : List OldBytes) where
  -- one piece more
  pub pushed : ChainsJoin def → ChainsLead def → ModesJoin def → ApartJoins → (window : List ℕ) (n pos end : ℕ) (mode next : Mode) (ps : List (NewPiece A)) (p : NewPiece A) → BeginApart segments → Holds raw segments n window
      → PieceAt mode window pos (end, next) → p.bytes.items ≡ slice_range window pos end → p.mode ≡ mode → Going first (all_bytes raw segments) ps mode pos → Going first (all_bytes raw segments) (ps ++ p ∷ []) next end
  pushed joins leads modes_join apart_joins window n pos end mode next ps p apart holds piece bytes same g =
      going_on first mode (all_bytes raw segments) ps pos g joins leads modes_join apart_joins next window (bytes_of (drop n segments)) end p (all_is raw segments n window holds) (apart_behind n segments apart) piece bytes same

  pub ended : TailsAreFound def → (window : List ℕ) (n pos : ℕ) (mode : Mode) (x : Reread A) → pos ≤ length window → Holds raw segments n window → Stops segments mode pos n window
      → Going first (all_bytes raw segments) x.pieces.items mode pos → NoneShared raw segments 0 x.pieces.items → x.reads ≡ length x.pieces.items
      → x.again ≤ x.used → x.rest.items ≡ slice_range window pos (length window) → x.mode ≡ mode → x.used ≡ n → IsReread first raw segments x
  ended law window n pos mode x within holds stops g alone counted again range same used =
      let done = concat (new_bytes x.pieces.items) in
      let left = drop pos window in
      let behind = bytes_of (drop n segments) in
      let rest : x.rest.items ≡ left = range ∙ ap (λ (k : ℕ). take k left) (sym (length-drop pos window)) ∙ take-length left in
      let is = all_is raw segments n window holds in
      let left_over = left_is first mode (all_bytes raw segments) x.pieces.items pos g window behind is within in
      let both : (done ++ left) ++ behind ≡ window ++ behind = append_assoc done left behind ∙ ap (λ (t : List ℕ). done ++ t) (sym left_over) ∙ sym g.whole ∙ is in
      record {
        recs = g.recs;
        chained = rw same g.chained;
        modes = g.modes;
        reads = counted;
        again = again;
        used = rw used holds.within;
        whole = rw (rest, used) (append_cancel_right (done ++ left) window behind both ∙ holds.is);
        apart = rw (rest, used) (rw left_over at g.apart);
        unshared = alone;
        lands = rw (used, same) (stops_at law mode window x.rest.items pos (slice_get segments n) rest stops);
      }

  -- a fault of the next statement, or want of memory
  pub failed : PiecesAreRead def → (window : List ℕ) (used pos : ℕ) (mode : Mode) (ps : List (NewPiece A)) (error : ReadError) → Going first (all_bytes raw segments) ps mode pos
      → NextNew raw segments mode pos used window (Err error) → Rereads {A = A} first raw segments (Err error)
  failed law window used pos mode ps (Fault f) g read = going_fault first mode (all_bytes raw segments) ps pos g law f read
  failed law window used pos mode ps Memory g read = tt
