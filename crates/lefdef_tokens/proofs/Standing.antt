-- Where the tokens of a text stand.
use Rattle.std.proofs.Common.{◌≡◌, ℕ, zero, suc, ◌+◌, ◌-◌, ◌<◌, ◌≤◌, Bool, true, false, ◌==◌, if◌then◌else◌, List, [], ◌∷◌, ◌++◌, length, get_or, drop, subst, sym, ap, ◌∙◌, arith, ⊎_elim, le_refl}
use Rattle.std.specs.List.{slice_range}
use Rattle.std.proofs.lemmas.Bool.{cases_Bool}
use Rattle.std.proofs.lemmas.List.Edits.{between_more, length-between}
use Rattle.statement_model.specs.Tokens.{Open, Token, Lexed, lex, before, next_open, ended_by, at_end, is_white, is_refused, closes}
use Rattle.statement_model.specs.Tokens.Open.{between, comment, word, string}
use Rattle.design_model.specs.declared.token_kind.TokenKind.{TokenKind}
use Rattle.design_model.specs.declared.token_kind.TokenKind.TheVariants.{Word, Quoted}
use Rattle.lefdef_tokens.specs.Laws.{StandIn, TokensAreSlices}
use Rattle.lefdef_tokens.proofs.Lexing.{lex_step, lex_refused, lex_end, between_one}

of_if : {A : Type 0} (P : A → Type 0) (b : Bool) (x y : A) → P x → P y → P (if b then x else y)
of_if P true x y p q = p
of_if P false x y p q = q

of_ifs : {A B : Type 0} (P : A → B → Type 0) (b : Bool) (x y : A) (u v : B) → P x u → P y v → P (if b then x else y) (if b then u else v)
of_ifs P true x y u v p q = p
of_ifs P false x y u v p q = q

-- what is open at place i began no earlier than from, and has the text's bytes from there to i
abbrev Fits : List ℕ → ℕ → ℕ → Open → Type 0
Fits text from i between = from ≤ i
Fits text from i comment = from ≤ i
Fits text from i (word start bytes) = (from ≤ start) × (start < i) × (bytes ≡ slice_range text start i)
Fits text from i (string start bytes last) = (from ≤ start) × (start < i) × (bytes ≡ slice_range text start i)

token_stands : (kind : TokenKind) (text : List ℕ) (from start i : ℕ) (bytes : List ℕ) (ps : List Token) → from ≤ start → start < i → i ≤ length text → bytes ≡ slice_range text start i → StandIn text i ps
    → StandIn text from (record { kind = kind; bytes = bytes; pos = start } ∷ ps)
token_stands kind text from start i bytes ps low before within is later =
    let long : length bytes ≡ i - start = ap length is ∙ length-between text start i within in
    let end : start + length bytes ≡ i = omega arith in
    (low, omega arith, omega arith, subst (λ (j : ℕ). bytes ≡ slice_range text start j) (sym end) is, subst (λ (j : ℕ). StandIn text j ps) (sym end) later)

stands_at_end : (text : List ℕ) (from i : ℕ) (s : Open) → i ≤ length text → Fits text from i s → StandIn text from (at_end i s).pieces
stands_at_end text from i between le fits = tt
stands_at_end text from i comment le fits = tt
stands_at_end text from i (word start bytes) le fits = token_stands Word text from start i bytes [] fits.0 fits.1 le fits.2 tt
stands_at_end text from i (string start bytes last) le fits = tt

fits_open : (text : List ℕ) (from i : ℕ) → i < length text → from ≤ i → Fits text from (i + 1) (next_open i between (get_or text i 0))
fits_open text from i lt low =
    let byte = get_or text i 0 in
    let one = sym (between_one text i lt) in
    of_if (Fits text from (i + 1)) (is_white byte) between (if byte == 35 then comment else (if byte == 34 then string i (byte ∷ []) byte else word i (byte ∷ []))) (omega arith)
    (of_if (Fits text from (i + 1)) (byte == 35) comment (if byte == 34 then string i (byte ∷ []) byte else word i (byte ∷ [])) (omega arith)
    (of_if (Fits text from (i + 1)) (byte == 34) (string i (byte ∷ []) byte) (word i (byte ∷ [])) (low, omega arith, one) (low, omega arith, one)))

abbrev Later : List ℕ → ℕ → Type 0
Later text i = (from : ℕ) (s : Open) → Fits text from i s → StandIn text from (lex i s (drop i text)).pieces

grown : (text : List ℕ) (start i : ℕ) (bytes : List ℕ) → start < i → i < length text → bytes ≡ slice_range text start i → bytes ++ get_or text i 0 ∷ [] ≡ slice_range text start (i + 1)
grown text start i bytes before lt is = ap (λ (bs : List ℕ). bs ++ get_or text i 0 ∷ []) is ∙ sym (between_more text start i 0 (omega arith) lt)

stands_step : (text : List ℕ) (from i : ℕ) (s : Open) → i < length text → Fits text from i s → Later text (i + 1)
    → StandIn text from (before (ended_by s (get_or text i 0)) (lex (i + 1) (next_open i s (get_or text i 0)) (drop (i + 1) text))).pieces
stands_step text from i between lt fits later = later from _ (fits_open text from i lt fits)
stands_step text from i comment lt fits later = later from _ (of_if (Fits text from (i + 1)) (get_or text i 0 == 10) between comment (omega arith) (omega arith))
stands_step text from i (word start bytes) lt fits later =
    let byte = get_or text i 0 in
    let P = λ (ps : List Token) (s : Open). StandIn text from (ps ++ (lex (i + 1) s (drop (i + 1) text)).pieces) in
    of_ifs P (is_white byte) (record { kind = Word; bytes = bytes; pos = start } ∷ []) [] between (word start (bytes ++ byte ∷ []))
    (token_stands Word text from start i bytes _ fits.0 fits.1 (omega arith) fits.2 (later i between (omega arith)))
    (later from _ (fits.0, omega arith, grown text start i bytes fits.1 lt fits.2))
stands_step text from i (string start bytes last) lt fits later =
    let byte = get_or text i 0 in
    let P = λ (ps : List Token) (s : Open). StandIn text from (ps ++ (lex (i + 1) s (drop (i + 1) text)).pieces) in
    let more = grown text start i bytes fits.1 lt fits.2 in
    of_ifs P (closes last byte) (record { kind = Quoted; bytes = bytes ++ byte ∷ []; pos = start } ∷ []) [] between (string start (bytes ++ byte ∷ []) byte)
    (token_stands Quoted text from start (i + 1) (bytes ++ byte ∷ []) _ fits.0 (omega arith) (omega arith) more (later (i + 1) between (le_refl (i + 1))))
    (later from _ (fits.0, omega arith, more))

pub stands : (text : List ℕ) (n i : ℕ) → i + n ≡ length text → Later text i
stands text zero i e from s fits = subst (λ (l : Lexed). StandIn text from l.pieces) (sym (lex_end text i s (omega arith))) (stands_at_end text from i s (omega arith) fits)
stands text (suc n) i e from s fits =
    let lt : i < length text = omega arith in
    ⊎_elim
    (λ bad. subst (λ (l : Lexed). StandIn text from l.pieces) (sym (lex_refused text i s lt bad)) tt)
    (λ good. subst (λ (l : Lexed). StandIn text from l.pieces) (sym (lex_step text i s lt good)) (stands_step text from i s lt fits (stands text n (i + 1) (omega arith))))
    (cases_Bool (is_refused (get_or text i 0)))

pub tokens_are_slices : TokensAreSlices
tokens_are_slices text = stands text (length text) 0 (omega arith) 0 between (le_refl 0)
