-- The tokens of a text that stands later.
use Rattle.std.proofs.Common.{◌≡◌, ℕ, ◌+◌, Bool, true, false, if◌then◌else◌, ◌==◌, List, [], ◌∷◌, ◌++◌, map, refl, sym, ap, ◌∙◌, arith}
use Rattle.statement_model.specs.Tokens.{Open, Token, Lexed, lex, before, next_open, ended_by, at_end, is_white, is_refused, closes, only_fault}
use Rattle.std.proofs.lemmas.List.{map-append}
use Rattle.design_model.specs.declared.fault.FaultCode.TheVariants.{RefusedByte}
use Rattle.design_model.specs.declared.token_kind.TokenKind.TheVariants.{Word, Quoted}
use Rattle.statement_model.specs.Tokens.Open.{between, comment, word, string}
use Rattle.lefdef_tokens.specs.Laws.{moved_token, moved_state, moved_end, moved, TokensMove}

push_if : {A B : Type 0} (f : A → B) (b : Bool) (x y : A) → (if b then f x else f y) ≡ f (if b then x else y)
push_if f true x y = refl
push_if f false x y = refl

push_ifs : {A B : Type 0} (f : A → B) (a b c : Bool) (x y z w : A) → (if a then f x else (if b then f y else (if c then f z else f w))) ≡ f (if a then x else (if b then y else (if c then z else w)))
push_ifs f true b c x y z w = refl
push_ifs f false true c x y z w = refl
push_ifs f false false true x y z w = refl
push_ifs f false false false x y z w = refl

moved_open : (k pos b : ℕ) (s : Open) → next_open (k + pos) (moved_state k s) b ≡ moved_state k (next_open pos s b)
moved_open k pos b between = push_ifs (moved_state k) (is_white b) (b == 35) (b == 34) between comment (string pos (b ∷ []) b) (word pos (b ∷ []))
moved_open k pos b comment = push_if (moved_state k) (b == 10) between comment
moved_open k pos b (word start bytes) = push_if (moved_state k) (is_white b) between (word start (bytes ++ b ∷ []))
moved_open k pos b (string start bytes last) = push_if (moved_state k) (closes last b) between (string start (bytes ++ b ∷ []) b)

moved_ended : (k b : ℕ) (s : Open) → ended_by (moved_state k s) b ≡ map (moved_token k) (ended_by s b)
moved_ended k b between = refl
moved_ended k b comment = refl
moved_ended k b (word start bytes) = push_if (map (moved_token k)) (is_white b) (record { kind = Word; bytes = bytes; pos = start } ∷ []) []
moved_ended k b (string start bytes last) = push_if (map (moved_token k)) (closes last b) (record { kind = Quoted; bytes = bytes ++ b ∷ []; pos = start } ∷ []) []

moved_at_end : (k pos : ℕ) (s : Open) → at_end (k + pos) (moved_state k s) ≡ moved k (at_end pos s)
moved_at_end k pos between = refl
moved_at_end k pos comment = refl
moved_at_end k pos (word start bytes) = refl
moved_at_end k pos (string start bytes last) = refl

moved_before : (k : ℕ) (ps : List Token) (l : Lexed) → moved k (before ps l) ≡ before (map (moved_token k) ps) (moved k l)
moved_before k ps l = ap (λ (qs : List Token). record { pieces = qs; end = moved_end k l.end }) (map-append (moved_token k) ps l.pieces)

lex_moved : (text : List ℕ) (k pos : ℕ) (s : Open) → lex (k + pos) (moved_state k s) text ≡ moved k (lex pos s text)
unfolding lex
lex_moved [] k pos s = moved_at_end k pos s
lex_moved (b ∷ bs) k pos s =
    let e : k + pos + 1 ≡ k + (pos + 1) = omega arith in
    let ahead = lex (pos + 1) (next_open pos s b) bs in
    let later : lex (k + pos + 1) (next_open (k + pos) (moved_state k s) b) bs ≡ moved k ahead = rw (e, moved_open k pos b s) (lex_moved bs k (pos + 1) (next_open pos s b)) in
    let inner : before (ended_by (moved_state k s) b) (lex (k + pos + 1) (next_open (k + pos) (moved_state k s) b) bs) ≡ moved k (before (ended_by s b) ahead)
    = ap (λ (ps : List Token). before ps (lex (k + pos + 1) (next_open (k + pos) (moved_state k s) b) bs)) (moved_ended k b s) ∙ ap (before (map (moved_token k) (ended_by s b))) later ∙ sym (moved_before k (ended_by s b) ahead) in
    ap (λ (l : Lexed). if is_refused b then only_fault (record { code = RefusedByte; pos = k + pos }) else l) inner
    ∙ push_if (moved k) (is_refused b) (only_fault (record { code = RefusedByte; pos = pos })) (before (ended_by s b) ahead)

pub tokens_move : TokensMove
tokens_move text k pos = lex_moved text k pos between
