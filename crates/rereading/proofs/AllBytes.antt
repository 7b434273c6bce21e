-- All bytes from an edit on: those of a window, and then those of the segments that aren't in it.
use Rattle.std.proofs.Common.{◌≡◌, ◌≢◌, ◌≤◌, ℕ, zero, suc, List, [], ◌∷◌, ◌++◌, length, map, take, drop, Err, sym, ap, ◌∙◌, append_assoc, arith, length-append}
use Rattle.std.specs.List.{concat}
use Rattle.std.proofs.lemmas.List.{take-append-drop, drop-append-le, map-append}
use Rattle.std.proofs.lemmas.List.Elements.{All-head, All-tail}
use Rattle.std.proofs.lemmas.List.Folds.{concat-append}
use Rattle.design_model.specs.declared.fault.Fault.{Fault}
use Rattle.design_model.specs.declared.fault.FaultCode.TheVariants.{Unfinished, OpenString}
use Rattle.design_model.specs.declared.mode.Mode.{Mode}
use Rattle.statement_model.specs.Tokens.{lex, left_from}
use Rattle.statement_model.specs.Tokens.Open.{between}
use Rattle.statement_model.specs.Reading.{read_at}
use Rattle.lefdef_tokens.specs.Laws.{BeginsApart}
use Rattle.def_grammar.specs.Records.{def}
use Rattle.piece_laws.specs.PieceLaws.{FaultsStand}
use Rattle.rereading.specs.Rereading.{all_bytes}
use Rattle.rereading.specs.Segments.{OldBytes, BeginApart, bytes_of}
use Rattle.rereading.specs.Windows.{Holds}

bytes_append : (ss ts : List OldBytes) → bytes_of (ss ++ ts) ≡ bytes_of ss ++ bytes_of ts
bytes_append ss ts = ap concat (map-append (λ (s : OldBytes). s.bytes) ss ts) ∙ concat-append (map (λ (s : OldBytes). s.bytes) ss) (map (λ (s : OldBytes). s.bytes) ts)

pub all_is : (raw : List ℕ) (segments : List OldBytes) (n : ℕ) (window : List ℕ) → Holds raw segments n window → all_bytes raw segments ≡ window ++ bytes_of (drop n segments)
all_is raw segments n window holds =
    let front = bytes_of (take n segments) in
    let behind = bytes_of (drop n segments) in
    let split : bytes_of segments ≡ front ++ behind = ap bytes_of (sym (take-append-drop n segments)) ∙ bytes_append (take n segments) (drop n segments) in
    ap (λ (t : List ℕ). raw ++ t) split ∙ sym (append_assoc raw front behind) ∙ ap (λ (t : List ℕ). t ++ behind) (sym holds.is)

pub window_within : (raw : List ℕ) (segments : List OldBytes) (n : ℕ) (window : List ℕ) → Holds raw segments n window → length window ≤ length (all_bytes raw segments)
window_within raw segments n window holds =
    let long = ap (λ (t : List ℕ). length t) (all_is raw segments n window holds) in
    omega (arith, long, length-append window (bytes_of (drop n segments)))

-- segments begin apart
pub apart_append : (s t : List ℕ) → BeginsApart s → BeginsApart t → BeginsApart (s ++ t)
apart_append [] t a b = b
apart_append (x ∷ s) t a b = a

abbrev Apart : OldBytes → Type 0
Apart s = BeginsApart s.bytes

apart_bytes : (segments : List OldBytes) → BeginApart segments → BeginsApart (bytes_of segments)
apart_bytes [] all = tt
apart_bytes (s ∷ ss) all = apart_append s.bytes (bytes_of ss) (All-head Apart s ss all) (apart_bytes ss (All-tail Apart s ss all))

pub apart_behind : (n : ℕ) (segments : List OldBytes) → BeginApart segments → BeginsApart (bytes_of (drop n segments))
apart_behind zero ss all = apart_bytes ss all
apart_behind (suc n) [] all = tt
apart_behind (suc n) (s ∷ ss) all = apart_behind n ss (All-tail Apart s ss all)

-- a fault in the window that stays is that of all bytes
pub final_fault : FaultsStand def → (raw : List ℕ) (segments : List OldBytes) (n : ℕ) (window : List ℕ) (mode : Mode) (pos : ℕ) (f : Fault) → BeginApart segments → Holds raw segments n window
    → pos ≤ length window → read_at def mode (left_from window pos) ≡ Err f → (f.code ≢ Unfinished) × (f.code ≢ OpenString) → read_at def mode (left_from (all_bytes raw segments) pos) ≡ Err f
final_fault law raw segments n window mode pos f apart holds within read stays =
    let behind = bytes_of (drop n segments) in
    let same : drop pos (all_bytes raw segments) ≡ drop pos window ++ behind = ap (drop pos) (all_is raw segments n window holds) ∙ drop-append-le pos window behind within in
    ap (λ (t : List ℕ). read_at def mode (lex pos between t)) same ∙ law mode pos (drop pos window) behind f (apart_behind n segments apart) read stays.0 stays.1
