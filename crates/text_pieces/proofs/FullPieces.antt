-- Pieces have bytes, and segments behind the first begin apart.
use Rattle.std.proofs.Common.{◌≡◌, ◌<◌, ◌≤◌, ℕ, zero, suc, List, [], ◌∷◌, ◌++◌, length, drop, Some, sym, ap, arith, length-append}
use Rattle.std.specs.List.{concat}
use Rattle.std.proofs.lemmas.List.Elements.{All-cons, All-drop, All-nil}
use Rattle.design_model.specs.declared.mode.Mode.{Mode}
use Rattle.design_model.specs.declared.mode.Mode.TheVariants.{After}
use Rattle.statement_model.specs.Boundaries.{cut}
use Rattle.statement_model.specs.Tokens.{Token, lex}
use Rattle.lefdef_tokens.specs.Laws.{BeginsApart}
use Rattle.def_grammar.specs.Records.{Record, def}
use Rattle.piece_laws.specs.Pieces.{AreApart, AreChained, IsPiece}
use Rattle.rereading.specs.Segments.{OldBytes, AreFull, BeginApart, mode_at}
use Rattle.text_pieces.specs.Behind.{old_bytes, segments}
use Rattle.text_pieces.specs.Content.{bytes_of}
use Rattle.text_pieces.specs.Stretches.{IsChain}
use Rattle.text_pieces.specs.Tables.{Kept}
use Rattle.text_pieces.proofs.Chains.{none_chained, parted}

none_whole : (m : Mode) (own : List Token) → own ≡ [] → cut (def.ending m) [] own ≡ Some (own, []) → ⊥
unfolding cut
none_whole m [] e h = absurd (cc)
none_whole m (p ∷ ps) e h = absurd (cc)

pub piece_full : (m after : Mode) (bytes : List ℕ) (rec : Record) → IsPiece def m bytes rec after → 0 < length bytes
unfolding lex
piece_full m after [] rec is = absurd (none_whole m is.statement (sym is.tokens.pieces) is.one)
piece_full m after (b ∷ bs) rec is = omega arith

-- as many bytes as pieces at least
pub chain_full : (m last : Mode) (ps : List (List ℕ)) (recs : List Record) → AreChained def m ps recs last → length ps ≤ length (concat ps)
chain_full m last [] recs chain = omega arith
chain_full m last (p ∷ ps) [] chain = absurd chain
chain_full m last (p ∷ ps) (r ∷ rs) chain = omega (arith, piece_full m chain.0 p r chain.1, chain_full chain.0 last ps rs chain.2, length-append p (concat ps))

pub are_full : (m last : Mode) (ks : List Kept) (tail : List ℕ) → IsChain m ks last → AreFull (segments ks tail)
are_full m last [] tail c = tt
are_full m last (k ∷ []) tail c = let p = parted m last k [] c in (piece_full m p.after k.bytes p.rec p.piece, tt)
are_full m last (k ∷ l ∷ ks) tail c = let p = parted m last k (l ∷ ks) c in (piece_full m p.after k.bytes p.rec p.piece, are_full p.after last (l ∷ ks) tail p.later)

pub full_from : (n : ℕ) (ss : List OldBytes) → AreFull ss → AreFull (drop n ss)
full_from zero ss h = h
full_from (suc n) [] h = tt
full_from (suc n) (s ∷ []) h = full_from n [] tt
full_from (suc n) (s ∷ t ∷ ss) h = full_from n (t ∷ ss) h.1

first_apart : (p q r : List ℕ) → BeginsApart ((p ++ q) ++ r) → BeginsApart p
first_apart [] q r h = tt
first_apart (b ∷ bs) q r h = h

abbrev Apart : OldBytes → Type 0
Apart s = BeginsApart s.bytes

begin_all : (ks : List Kept) (tail : List ℕ) → BeginsApart (concat (bytes_of ks) ++ tail) → AreApart (bytes_of ks) tail → BeginApart (segments ks tail)
begin_all [] tail b h = All-cons Apart (record { bytes = tail; mode = Some After }) [] b (All-nil Apart)
begin_all (k ∷ ks) tail b h = All-cons Apart (old_bytes k) (segments ks tail) (first_apart k.bytes (concat (bytes_of ks)) tail b) (begin_all ks tail h.0 h.1)

pub begin_from : (n : ℕ) (ks : List Kept) (tail : List ℕ) → 0 < n → AreApart (bytes_of ks) tail → BeginApart (drop n (segments ks tail))
begin_from zero ks tail some h = absurd (omega (arith, some))
begin_from (suc n) [] tail some h = All-drop Apart n [] (All-nil Apart)
begin_from (suc n) (k ∷ ks) tail some h = All-drop Apart n (segments ks tail) (begin_all ks tail h.0 h.1)

-- the mode in which the first stands
pub mode_first : (m : Mode) (ks : List Kept) (tail : List ℕ) → IsChain m ks After → mode_at (segments ks tail) 0 ≡ Some m
mode_first m [] tail c = ap (λ (n : Mode). Some n) (sym (none_chained m After c.recs c.chained))
mode_first m (k ∷ ks) tail c = let p = parted m After k ks c in ap (λ (n : Mode). Some n) p.mode
