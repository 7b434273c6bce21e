-- Where the pieces of a text end, and the modes to which they lead.
use Rattle.std.proofs.Common.{◌≡◌, ◌<◌, ◌≤◌, ◌+◌, ℕ, zero, suc, true, false, List, [], ◌∷◌, ◌++◌, length, map, take, drop, Some, refl, sym, ap, ap₂, ◌∙◌, arith, length-append}
use Rattle.std.specs.Prelude.{filter, nat_lt, slice_get}
use Rattle.std.specs.List.{concat}
use Rattle.std.proofs.lemmas.Bool.Decides.{nat_tests}
use Rattle.design_model.specs.declared.mode.Mode.{Mode}
use Rattle.design_model.specs.declared.mode.Mode.TheVariants.{Top, After}
use Rattle.lefdef_tokens.specs.declared.span.Span.{Span}
use Rattle.def_grammar.specs.Records.{Record, def}
use Rattle.piece_laws.specs.PlaceLaws.{TextsAreRead, placed_pieces}
use Rattle.piece_laws.specs.Pieces.{AreChained, modes_from}
use Rattle.piece_laws.proofs.Chaining.{piece_leads}
use Rattle.rereading.specs.Segments.{mode_at}
use Rattle.text_pieces.specs.Behind.{segments}
use Rattle.text_pieces.specs.Content.{bytes_of}
use Rattle.text_pieces.specs.NewStretches.{End, ends_from, ends_of, last_end}
use Rattle.text_pieces.specs.Stretches.{EndsText, IsChain}
use Rattle.text_pieces.specs.Tables.{Kept}
use Rattle.text_pieces.proofs.Chains.{parted}
use Rattle.text_pieces.proofs.FullPieces.{piece_full}
use Rattle.text_pieces.proofs.PlacedPieces.{piece_spans}

-- the mode in which the first of some stands, or the one to which they lead
abbrev pub mode_or : Mode → List Kept → Mode
mode_or last [] = last
mode_or last (k ∷ ks) = k.mode

-- where pieces end, the first of which begins at a place, and the modes in which the next ones stand
abbrev pub piece_ends : ℕ → Mode → List Kept → List End
piece_ends at last [] = []
piece_ends at last (k ∷ ks) = (at + length k.bytes, mode_or last ks) ∷ piece_ends (at + length k.bytes) last ks

-- how many bytes pieces have
abbrev pub size : List Kept → ℕ
size ks = length (concat (bytes_of ks))

pub size_more : (k : Kept) (ks : List Kept) → size (k ∷ ks) ≡ length k.bytes + size ks
size_more k ks = length-append k.bytes (concat (bytes_of ks))

next_mode : (m last : Mode) (ks : List Kept) (recs : List Record) → AreChained def m (bytes_of ks) recs last → map (λ k. k.mode) ks ≡ modes_from def m recs → mode_or last ks ≡ m
next_mode m last [] [] chain modes = sym chain
next_mode m last [] (r ∷ rs) chain modes = absurd chain
next_mode m last (k ∷ ks) [] chain modes = absurd chain
next_mode m last (k ∷ ks) (r ∷ rs) chain modes = cc

ends_are : (at : ℕ) (m last : Mode) (ks : List Kept) (recs : List Record) → AreChained def m (bytes_of ks) recs last → map (λ k. k.mode) ks ≡ modes_from def m recs
    → ends_from m (placed_pieces at (bytes_of ks) recs) ≡ piece_ends at last ks
ends_are at m last [] [] chain modes = refl
ends_are at m last [] (r ∷ rs) chain modes = absurd chain
ends_are at m last (k ∷ ks) [] chain modes = absurd chain
ends_are at m last (k ∷ ks) (r ∷ rs) chain modes =
    let leads : chain.0 ≡ def.after m r = piece_leads def m chain.0 k.bytes r chain.1 in
    let rest : map (λ k. k.mode) ks ≡ modes_from def (def.after m r) rs = cc in
    let own : map (λ k. k.mode) ks ≡ modes_from def chain.0 rs = rest ∙ ap (λ (n : Mode). modes_from def n rs) (sym leads) in
    let next = next_mode chain.0 last ks rs chain.2 own in
    let end = ap (λ (s : Span). s.hi) (piece_spans at m chain.0 k.bytes r chain.1) in
    ap₂ (λ (e : End) (es : List End). e ∷ es)
    (ap₂ (λ (n : ℕ) (mode : Mode). (n, mode)) end (sym leads ∙ sym next))
    (ap (λ (n : Mode). ends_from n (placed_pieces (at + length k.bytes) (bytes_of ks) rs)) (sym leads) ∙ ends_are (at + length k.bytes) chain.0 last ks rs chain.2 own)

pub text_ends : TextsAreRead def → (ks : List Kept) (tail : List ℕ) → EndsText Top ks tail → ends_of (concat (bytes_of ks) ++ tail) ≡ piece_ends 0 After ks
text_ends law ks tail e =
    ap (ends_from Top) (law Top After (bytes_of ks) e.chain.recs tail e.chain.chained e.apart e.ends).1 ∙ ends_are 0 Top After ks e.chain.recs e.chain.chained e.chain.modes

pub ends_append : (at : ℕ) (last : Mode) (xs ys : List Kept) → piece_ends at last (xs ++ ys) ≡ piece_ends at (mode_or last ys) xs ++ piece_ends (at + size xs) last ys
ends_append at last [] ys = let e : at ≡ at + 0 = omega arith in ap (λ (n : ℕ). piece_ends n last ys) e
ends_append at last (x ∷ []) ys =
    let e : at + length x.bytes + 0 ≡ at + size (x ∷ []) = omega (arith, size_more x []) in
    ap (λ (es : List End). (at + length x.bytes, mode_or last ys) ∷ es) (ends_append (at + length x.bytes) last [] ys ∙ ap (λ (n : ℕ). piece_ends n last ys) e)
ends_append at last (x ∷ y ∷ xs) ys =
    let e : at + length x.bytes + size (y ∷ xs) ≡ at + size (x ∷ y ∷ xs) = omega (arith, size_more x (y ∷ xs)) in
    ap (λ (es : List End). (at + length x.bytes, y.mode) ∷ es)
    (ends_append (at + length x.bytes) last (y ∷ xs) ys ∙ ap (λ (n : ℕ). piece_ends (at + length x.bytes) (mode_or last ys) (y ∷ xs) ++ piece_ends n last ys) e)

pub many_ends : (at : ℕ) (last : Mode) (ks : List Kept) → length (piece_ends at last ks) ≡ length ks
many_ends at last [] = refl
many_ends at last (k ∷ ks) = ap (λ (n : ℕ). suc n) (many_ends (at + length k.bytes) last ks)

-- the end of the piece at a place of some
pub end_at : (at : ℕ) (last : Mode) (ks : List Kept) (n : ℕ) (e : End) → slice_get (piece_ends at last ks) n ≡ Some e
    → (n < length ks) × (e.0 ≡ at + size (take (suc n) ks)) × (e.1 ≡ mode_or last (drop (suc n) ks))
end_at at last [] n e h = absurd (cc)
end_at at last (k ∷ ks) zero e h =
    let is : (at + length k.bytes, mode_or last ks) ≡ e = cc in
    (omega arith, sym (ap (λ (x : End). x.0) is) ∙ omega (arith, size_more k []), sym (ap (λ (x : End). x.1) is))
end_at at last (k ∷ ks) (suc n) e h =
    let f = end_at (at + length k.bytes) last ks n e h in
    (omega (arith, f.0), omega (arith, f.1, size_more k (take (suc n) ks)), f.2)

-- the mode in which a segment stands
pub mode_there : (ks : List Kept) (tail : List ℕ) (n : ℕ) → n ≤ length ks → mode_at (segments ks tail) n ≡ Some (mode_or After (drop n ks))
mode_there [] tail zero low = refl
mode_there [] tail (suc n) low = absurd (omega (arith, low))
mode_there (k ∷ ks) tail zero low = refl
mode_there (k ∷ ks) tail (suc n) low = mode_there ks tail n (omega (arith, low))

abbrev pub below : ℕ → List End → List End
below place = filter (λ e. nat_lt e.0 place)

abbrev pub above : ℕ → List End → List End
above place = filter (λ e. nat_lt place e.0)

is_below : (a b : ℕ) → a < b → nat_lt a b ≡ true
is_below a b h = grind (arith, nat_tests)

isnt_below : (a b : ℕ) → b ≤ a → nat_lt a b ≡ false
isnt_below a b h = grind (arith, nat_tests)

-- pieces that end in front of a place
pub last_front : (at lo : ℕ) (last : Mode) (ks : List Kept) (rest : List End) → (0 < length ks → at + size ks < lo) → last_end at (below lo (piece_ends at last ks ++ rest)) ≡ last_end (at + size ks) (below lo rest)
last_front at lo last [] rest low = let e : at ≡ at + 0 = omega arith in ap (λ (n : ℕ). last_end n (below lo rest)) e
last_front at lo last (k ∷ ks) rest low =
    let all : at + size (k ∷ ks) < lo = low (omega arith) in
    let e : at + length k.bytes + size ks ≡ at + size (k ∷ ks) = omega (arith, size_more k ks) in
    rw (is_below (at + length k.bytes) lo (omega (arith, all, e)))
    (last_front (at + length k.bytes) lo last ks rest (λ _. omega (arith, all, e)) ∙ ap (λ (n : ℕ). last_end n (below lo rest)) e)

-- and those that don't
none_further : (at lo : ℕ) (last : Mode) (ks : List Kept) → lo ≤ at → below lo (piece_ends at last ks) ≡ []
none_further at lo last [] past = refl
none_further at lo last (k ∷ ks) past = rw (isnt_below (at + length k.bytes) lo (omega (arith, past))) (none_further (at + length k.bytes) lo last ks (omega (arith, past)))

pub none_below : (at lo : ℕ) (last : Mode) (ks : List Kept) → (0 < length ks → lo ≤ at + size (take 1 ks)) → below lo (piece_ends at last ks) ≡ []
none_below at lo last [] past = refl
none_below at lo last (k ∷ ks) past =
    let low : lo ≤ at + length k.bytes = omega (arith, past (omega arith), size_more k []) in
    rw (isnt_below (at + length k.bytes) lo low) (none_further (at + length k.bytes) lo last ks low)

-- pieces up to a place, and behind it
pub none_above : (at place : ℕ) (last : Mode) (ks : List Kept) (rest : List End) → at + size ks ≤ place → above place (piece_ends at last ks ++ rest) ≡ above place rest
none_above at place last [] rest low = refl
none_above at place last (k ∷ ks) rest low =
    let e = size_more k ks in
    rw (isnt_below place (at + length k.bytes) (omega (arith, e, low))) (none_above (at + length k.bytes) place last ks rest (omega (arith, e, low)))

abbrev pub AllFull : List Kept → Type 0
AllFull [] = Unit {0}
AllFull (k ∷ ks) = (0 < length k.bytes) × AllFull ks

pub chain_full : (m last : Mode) (ks : List Kept) → IsChain m ks last → AllFull ks
chain_full m last [] c = tt
chain_full m last (k ∷ ks) c = let p = parted m last k ks c in (piece_full m p.after k.bytes p.rec p.piece, chain_full p.after last ks p.later)

pub all_above : (at place : ℕ) (last : Mode) (ks : List Kept) → AllFull ks → place ≤ at → above place (piece_ends at last ks) ≡ piece_ends at last ks
all_above at place last [] full low = refl
all_above at place last (k ∷ ks) full low =
    rw (is_below place (at + length k.bytes) (omega (arith, full.0, low)))
    (ap (λ (es : List End). (at + length k.bytes, mode_or last ks) ∷ es) (all_above (at + length k.bytes) place last ks full.1 (omega (arith, low))))
