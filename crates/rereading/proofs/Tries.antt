-- How often a statement is tried again.
use Rattle.std.proofs.Common.{◌≡◌, ◌≤◌, ◌<◌, ℕ, ◌+◌, ◌-◌, List, [], ◌∷◌, ◌++◌, length, take, drop, Option, Some, None, Result, Ok, Err, ap, ◌∙◌, subst, arith, length-append, slice_range, ⊎_elim, inl, inr}
use Rattle.std.specs.Prelude.{◌⊎◌}
use Rattle.std.proofs.lemmas.Bool.{cases_lt}
use Rattle.std.proofs.lemmas.List.{drop-append-le, length-drop, take-append-le}
use Rattle.design_model.specs.declared.fault.ReadError.{ReadError}
use Rattle.design_model.specs.declared.mode.Mode.{Mode}
use Rattle.statement_model.specs.Tokens.{lex}
use Rattle.statement_model.specs.Tokens.Open.{between}
use Rattle.statement_model.specs.Reading.{read_at}
use Rattle.lefdef_tokens.specs.Laws.{BeginsApart}
use Rattle.def_grammar.specs.Records.{def}
use Rattle.piece_laws.specs.PieceLaws.{PiecesAreFound}
use Rattle.piece_laws.specs.Pieces.{IsPiece}
use Rattle.rereading.specs.Segments.{OldBytes, bytes_of}
use Rattle.rereading.specs.Steps.{IsShort, NextWhole, PieceAt, TriedFor, TriesAgain}
use Rattle.rereading.specs.Windows.{Holds, IsTight}
use Rattle.rereading.proofs.Going.{split_at}

pub longer_pos : (pos : ℕ) (window new : List ℕ) → (more : List ℕ) × (new ≡ window ++ more) → pos ≤ length window → pos ≤ length new
longer_pos pos window new longer within = let long = ap (λ (t : List ℕ). length t) longer.1 in omega (arith, long, within, length-append window longer.0)

apart_front : (s t : List ℕ) → BeginsApart (s ++ t) → BeginsApart s
apart_front [] t apart = tt
apart_front (x ∷ s) t apart = apart

-- a statement that ends within a window is whole in it
whole_within : PiecesAreFound def → (mode : Mode) (pos : ℕ) (short more : List ℕ) (x : ℕ × Mode) → PieceAt mode (short ++ more) pos x → x.0 ≤ length short → IsShort mode pos short → ⊥
whole_within law mode pos short more x piece within none =
    let end = x.0 in
    let p = slice_range short pos end in
    let left = drop end short in
    let low : pos ≤ length short = omega (arith, piece.0, within) in
    let fits : end - pos ≤ length (drop pos short) = omega (arith, within, length-drop pos short) in
    let same : slice_range (short ++ more) pos end ≡ p = ap (take (end - pos)) (drop-append-le pos short more low) ∙ take-append-le (end - pos) (drop pos short) more fits in
    let apart : BeginsApart left = apart_front left more (subst BeginsApart (drop-append-le end short more within) piece.3) in
    let is : IsPiece def mode p piece.2.0 x.1 = subst (λ (bytes : List ℕ). IsPiece def mode bytes piece.2.0 x.1) same piece.2.1 in
    let split = split_at short pos end (omega (arith, piece.0)) in
    none (piece.2.0, x.1, lex (pos + length p) between left) (ap (λ (t : List ℕ). read_at def mode (lex pos between t)) split ∙ law pos mode x.1 p left piece.2.0 is apart)

ends_behind : PiecesAreFound def → (mode : Mode) (pos : ℕ) (short more : List ℕ) (x : ℕ × Mode) → PieceAt mode (short ++ more) pos x → IsShort mode pos short → length short < x.0
ends_behind law mode pos short more x piece none = ⊎_elim (λ (less : length short < x.0). less) (λ (within : x.0 ≤ length short). absurd (whole_within law mode pos short more x piece within none)) (cases_lt (length short) x.0)

-- The next statement was tried in windows with fewer segments, and in the last of these it wasn't whole.
pub record Short (raw : List ℕ) (segments : List OldBytes) (mode : Mode) (pos used old again now : ℕ) (window : List ℕ) : Type 0 where
  pub k : ℕ
  pub short : List ℕ
  pub more : List ℕ
  pub holds : Holds raw segments k short
  pub longer : window ≡ short ++ more
  pub none : IsShort mode pos short
  pub tries : again + used ≤ old + (k + 1)
  pub fewer : k < now

abbrev pub Tried : List ℕ → List OldBytes → Mode → ℕ → ℕ → ℕ → ℕ → ℕ → List ℕ → Type 0
Tried raw segments mode pos used old again now window = ((again ≡ old) × (now ≡ used)) ⊎ Short raw segments mode pos used old again now window

tried_few : (raw : List ℕ) (segments : List OldBytes) (mode : Mode) (pos used old again now : ℕ) (window : List ℕ) → Tried raw segments mode pos used old again now window → again + used ≤ old + now
tried_few raw segments mode pos used old again now window (inl first) = omega (arith, first.0, first.1)
tried_few raw segments mode pos used old again now window (inr s) = omega (arith, s.tries, s.fewer)

pub tried_more : (raw : List ℕ) (segments : List OldBytes) (mode : Mode) (pos used old again n next : ℕ) (window new : List ℕ) → Tried raw segments mode pos used old again n window → Holds raw segments n window
    → IsShort mode pos window → (more : List ℕ) × (new ≡ window ++ more) → n < next → Tried raw segments mode pos used old (again + 1) next new
tried_more raw segments mode pos used old again n next window new tried holds none longer further =
    let few = tried_few raw segments mode pos used old again n window tried in
    inr (record { k = n; short = window; more = longer.0; holds = holds; longer = longer.1; none = none; tries = omega (arith, few); fewer = further })

tried_for : PiecesAreFound def → (raw : List ℕ) (segments : List OldBytes) (mode : Mode) (pos used now old again : ℕ) (window : List ℕ) (x : ℕ × Mode) → Tried raw segments mode pos used old again now window
    → PieceAt mode window pos x → TriedFor raw segments used now old again x.0
tried_for law raw segments mode pos used now old again window x (inl first) piece = inl (omega (arith, first.1), first.0)
tried_for law raw segments mode pos used now old again window x (inr s) piece =
    let there : PieceAt mode (s.short ++ s.more) pos x = subst (λ (t : List ℕ). PieceAt mode t pos x) s.longer piece in
    let behind = ends_behind law mode pos s.short s.more x there s.none in
    let long = ap (λ (t : List ℕ). length t) s.holds.is in
    inr (s.k, s.fewer, s.tries, omega (arith, behind, long, length-append raw (bytes_of (take s.k segments))))

pub tries_again : PiecesAreFound def → (raw : List ℕ) (segments : List OldBytes) (mode : Mode) (pos used now old again : ℕ) (window : List ℕ) (r : Result (Option (ℕ × Mode)) ReadError)
    → Tried raw segments mode pos used old again now window → NextWhole raw segments mode pos now window r → TriesAgain raw segments used now old again r
tries_again law raw segments mode pos used now old again window (Ok (Some x)) tried next = tried_for law raw segments mode pos used now old again window x tried next.1
tries_again law raw segments mode pos used now old again window (Ok None) tried next = tried_few raw segments mode pos used old again now window tried
tries_again law raw segments mode pos used now old again window (Err e) tried next = tt

-- once segments are given back, there are still as many as tries
pub few_again : (raw : List ℕ) (segments : List OldBytes) (used now old again left pos end : ℕ) → TriedFor raw segments used now old again end → old ≤ used → IsTight raw segments used pos → pos < end
    → ((k : ℕ) → k < now → length raw + length (bytes_of (take k segments)) < end → k < left) → again ≤ left
few_again raw segments used now old again left pos end (inr more) few tight further kept = let last = kept more.0 more.1 more.3 in omega (arith, last, more.2, few)
few_again raw segments used now old again left pos end (inl none) few tight further kept = ⊎_elim
    (λ (some : 0 < used). let last = kept (used - 1) (omega (arith, some, none.0)) (omega (arith, tight some, further)) in omega (arith, last, none.1, few))
    (λ (zero_used : used ≤ 0). omega (arith, zero_used, none.1, few))
    (cases_lt 0 used)
