-- A text has at most one token for two of its bytes.
use Rattle.std.proofs.Common.{◌≡◌, ◌≤◌, ◌+◌, ◌*◌, ℕ, Bool, true, false, ◌==◌, List, [], ◌∷◌, ◌++◌, length, drop, refl, suc, arith, length-append, length-drop, if◌then◌else◌}
use Rattle.std.proofs.lemmas.List.{length-map, length-take}
use Rattle.design_model.specs.declared.token_kind.TokenKind.TheVariants.{Word, Quoted}
use Rattle.statement_model.specs.Tokens.{Open, between, comment, word, string, Lexed, Token, is_white, is_refused, at_end, closes, ended_by, next_open, lex, left_from, before, only_fault}
use Rattle.lefdef_tokens.specs.Views.{pieces_of, words_of}
use Rattle.lefdef_tokens.specs.declared.token_run.TokenRun.{TokenRun}

-- what may be counted ahead of a place
abbrev ahead : Open → ℕ
ahead between = 1
ahead comment = 1
ahead (word start bytes) = 2
ahead (string start bytes last) = 2

small : (s : Open) → ahead s ≤ 2
small between = omega arith
small comment = omega arith
small (word start bytes) = omega arith
small (string start bytes last) = omega arith

after_comment : (b : Bool) → ahead (if b then between else comment) ≤ 2
after_comment true = omega arith
after_comment false = omega arith

after_ended : (b : Bool) (p : Token) (s : Open) → 2 * length (if b then p ∷ [] else []) + ahead (if b then between else s) ≤ 3
after_ended true p s = omega arith
after_ended false p s = let k = small s in omega (arith, k)

one_byte : (pos : ℕ) (s : Open) (b : ℕ) → 2 * length (ended_by s b) + ahead (next_open pos s b) ≤ 1 + ahead s
one_byte pos between b = let k = small (next_open pos between b) in omega (arith, k)
one_byte pos comment b = let k = after_comment (b == 10) in omega (arith, k)
one_byte pos (word start bytes) b = let k = after_ended (is_white b) (record { kind = Word; bytes = bytes; pos = start }) (word start (bytes ++ b ∷ [])) in omega (arith, k)
one_byte pos (string start bytes last) b = let k = after_ended (closes last b) (record { kind = Quoted; bytes = bytes ++ b ∷ []; pos = start }) (string start (bytes ++ b ∷ []) b) in omega (arith, k)

at_end_of : (pos : ℕ) (s : Open) → 2 * length (at_end pos s).pieces ≤ ahead s
at_end_of pos between = omega arith
at_end_of pos comment = omega arith
at_end_of pos (word start bytes) = omega arith
at_end_of pos (string start bytes last) = omega arith

if_read : (refused : Bool) (l m : Lexed) (n : ℕ) → l.pieces ≡ [] → 2 * length m.pieces ≤ n → 2 * length (if refused then l else m).pieces ≤ n
if_read true l m n none few = rw none (omega arith)
if_read false l m n none few = few

few_lexed : (pos : ℕ) (s : Open) (bs : List ℕ) → 2 * length (lex pos s bs).pieces ≤ length bs + ahead s
unfolding lex
few_lexed pos s [] = let k = at_end_of pos s in omega (arith, k)
few_lexed pos s (b ∷ bs) =
    let ended = ended_by s b in
    let later = lex (pos + 1) (next_open pos s b) bs in
    let one = one_byte pos s b in
    let others = few_lexed (pos + 1) (next_open pos s b) bs in
    let all : length (ended ++ later.pieces) ≡ length ended + length later.pieces = length-append ended later.pieces in
    if_read (is_refused b) (only_fault _) (before ended later) (suc (length bs) + ahead s) refl (omega (arith, one, others, all))

-- the words of a run
pub few_words : (run : TokenRun) → 2 * length (words_of run) ≤ length run.text.now + 1
few_words run =
    let text = run.text.now in
    let pieces = (left_from text run.pos).pieces in
    let lexed = few_lexed run.pos between (drop run.pos text) in
    let left = length-drop run.pos text in
    let taken = length-take run.count pieces in
    let words = length-map (pieces_of run) (λ (p : Token). p.bytes) in
    omega (arith, lexed, left, taken, words)
