-- What is read over a run of bytes.
use Rattle.std.proofs.Common.{◌≡◌, ℕ, zero, suc, ◌+◌, ◌-◌, ◌<◌, ◌≤◌, Bool, true, false, List, [], ◌∷◌, length, get_or, drop, refl, sym, ap, ◌∙◌, add-one, arith, drop-cons, le_refl, ⊎_elim, eqb-true, not, ◌&&◌, ◌==◌, Some, None, Ok}
use Rattle.std.specs.List.{slice_range}
use Rattle.std.proofs.lemmas.List.{drop_all}
use Rattle.std.proofs.lemmas.List.Edits.{between_none, between_more}
use Rattle.std.proofs.Math.Nat.{eq-or-lt_of_le}
use Rattle.memchr.specs.Find.{IsFirst, Passes, Nowhere, is_byte}
use Rattle.std.proofs.lemmas.Bool.{false_from_ne_true}
use Rattle.std.proofs.lemmas.Bool.Decides.{nat_tests}
use Rattle.statement_model.specs.Tokens.{Open, lex, at_end, before, only_fault, ended_by, next_open, is_white, is_refused, left_from}
use Rattle.lefdef_tokens.specs.Runs.{begins, stops, piece_at, IsLineEnd, GoesOn, Closes}
use Rattle.statement_model.specs.Tokens.Open.{between, comment, word, string}
use Rattle.design_model.specs.declared.fault.FaultCode.TheVariants.{RefusedByte, OpenString}
use Rattle.design_model.specs.declared.token_kind.TokenKind.TheVariants.{Word, Quoted}

-- one byte
pub lex_step : (text : List ℕ) (i : ℕ) (s : Open) → i < length text → is_refused (get_or text i 0) ≡ false
    → lex i s (drop i text) ≡ before (ended_by s (get_or text i 0)) (lex (i + 1) (next_open i s (get_or text i 0)) (drop (i + 1) text))
unfolding lex
lex_step text i s lt ok = rw (drop-cons text i 0, ok, add-one) refl

-- a byte that is refused
pub lex_refused : (text : List ℕ) (i : ℕ) (s : Open) → i < length text → is_refused (get_or text i 0) ≡ true
    → lex i s (drop i text) ≡ only_fault (record { code = RefusedByte; pos = i })
unfolding lex
lex_refused text i s lt bad = rw (drop-cons text i 0, bad) refl

-- at the end
pub lex_end : (text : List ℕ) (i : ℕ) (s : Open) → length text ≤ i → lex i s (drop i text) ≡ at_end i s
unfolding lex
lex_end text i s le = rw (drop_all i text le) refl

all_not : (x y z : Bool) → (not x && not y && not z) ≡ true → (x ≡ false) × (y ≡ false) × (z ≡ false)
all_not true y z h = cc
all_not false true z h = cc
all_not false false true h = cc
all_not false false false h = (refl, refl, refl)

begins_parts : (b : ℕ) → begins b ≡ true → (is_refused b ≡ false) × (is_white b ≡ false) × ((b == 35) ≡ false)
begins_parts b h = all_not (is_refused b) (is_white b) (b == 35) h

pub between_one : (text : List ℕ) (i : ℕ) → i < length text → slice_range text i (i + 1) ≡ get_or text i 0 ∷ []
between_one text i lt = between_more text i i 0 (le_refl i) lt ∙ rw (between_none text i) refl

-- a byte at which a word goes on
pub goes_on : (b : ℕ) → stops 32 b ≡ false → (is_refused b ≡ false) × (is_white b ≡ false)
goes_on b h = (grind (arith, nat_tests), grind (arith, nat_tests))

-- white space is not refused
pub white_accepted : (b : ℕ) → is_white b ≡ true → is_refused b ≡ false
white_accepted b white = grind (arith, nat_tests)

-- a byte at which a word stops
pub stops_here : (b : ℕ) → stops 32 b ≡ true → is_white b ≡ false → is_refused b ≡ true
stops_here b h black = grind (arith, nat_tests)

-- a refused byte stops a comment
pub refused_stops : (b : ℕ) → stops 31 b ≡ false → is_refused b ≡ false
refused_stops b h = grind (arith, nat_tests)

-- white space between two tokens
pub white_step : (text : List ℕ) (i : ℕ) → i < length text → is_refused (get_or text i 0) ≡ false → is_white (get_or text i 0) ≡ true
    → lex i between (drop i text) ≡ lex (i + 1) between (drop (i + 1) text)
white_step text i lt ok white = lex_step text i between lt ok ∙ rw white refl

-- a word grows, and ends before white space
pub word_opens : (text : List ℕ) (i : ℕ) → i < length text → begins (get_or text i 0) ≡ true → (get_or text i 0 ≡ 34 → ⊥)
    → lex i between (drop i text) ≡ lex (i + 1) (word i (slice_range text i (i + 1))) (drop (i + 1) text)
word_opens text i lt b q =
    let parts = begins_parts (get_or text i 0) b in
    let no_quote = false_from_ne_true (get_or text i 0 == 34) (λ h. q (eqb-true _ _ h)) in
    lex_step text i between lt parts.0 ∙ rw (parts.1, parts.2, no_quote, between_one text i lt) refl

pub word_grows : (text : List ℕ) (start i : ℕ) → start ≤ i → i < length text → is_refused (get_or text i 0) ≡ false → is_white (get_or text i 0) ≡ false
    → lex i (word start (slice_range text start i)) (drop i text) ≡ lex (i + 1) (word start (slice_range text start (i + 1))) (drop (i + 1) text)
word_grows text start i le lt ok black = lex_step text i (word start (slice_range text start i)) lt ok ∙ rw (black, between_more text start i 0 le lt) refl

pub word_ends : (text : List ℕ) (start i : ℕ) → i < length text → is_refused (get_or text i 0) ≡ false → is_white (get_or text i 0) ≡ true
    → lex i (word start (slice_range text start i)) (drop i text) ≡ before (piece_at Word text start i ∷ []) (lex i between (drop i text))
word_ends text start i lt ok white = lex_step text i (word start (slice_range text start i)) lt ok ∙ rw white (ap (before (piece_at Word text start i ∷ [])) (sym (white_step text i lt ok white)))

pub word_ends_text : (text : List ℕ) (start : ℕ)
    → lex (length text) (word start (slice_range text start (length text))) (drop (length text) text) ≡ before (piece_at Word text start (length text) ∷ []) (lex (length text) between (drop (length text) text))
word_ends_text text start = lex_end text (length text) _ (le_refl (length text)) ∙ ap (before (piece_at Word text start (length text) ∷ [])) (sym (lex_end text (length text) between (le_refl (length text))))

-- a word goes on
pub word_run : (text : List ℕ) (start n i j : ℕ) → i + n ≡ j → start ≤ i → j ≤ length text → Nowhere (Passes (stops 32) text) i j
    → lex i (word start (slice_range text start i)) (drop i text) ≡ lex j (word start (slice_range text start j)) (drop j text)
word_run text start zero i j e low le ok = let same : i ≡ j = omega arith in rw same refl
word_run text start (suc n) i j e low le ok =
    let goes = false_from_ne_true (stops 32 (get_or text i 0)) (ok i (omega arith) (omega arith)) in
    let sign = goes_on (get_or text i 0) goes in
    word_grows text start i low (omega arith) sign.0 sign.1
    ∙ word_run text start n (i + 1) j (omega arith) (omega arith) le (λ k a b. ok k (omega arith) b)

-- a comment goes on
pub comment_run : (text : List ℕ) (n i j : ℕ) → i + n ≡ j → j ≤ length text → Nowhere (Passes is_refused text) i j → Nowhere (Passes (is_byte 10) text) i j
    → lex i comment (drop i text) ≡ lex j comment (drop j text)
comment_run text zero i j e le ok inside = let same : i ≡ j = omega arith in rw same refl
comment_run text (suc n) i j e le ok inside =
    let not_refused = false_from_ne_true (is_refused (get_or text i 0)) (ok i (omega arith) (omega arith)) in
    let no_line_end = false_from_ne_true (is_byte 10 (get_or text i 0)) (inside i (omega arith) (omega arith)) in
    lex_step text i comment (omega arith) not_refused ∙ rw no_line_end refl
    ∙ comment_run text n (i + 1) j (omega arith) le (λ k a b. ok k (omega arith) b) (λ k a b. inside k (omega arith) b)

-- a comment opens, and ends before a line end
pub comment_opens : (text : List ℕ) (i : ℕ) → i < length text → get_or text i 0 ≡ 35 → lex i between (drop i text) ≡ lex (i + 1) comment (drop (i + 1) text)
comment_opens text i lt sign = lex_step text i between lt (rw sign refl) ∙ rw sign refl

pub comment_ends : (text : List ℕ) (i : ℕ) → i < length text → get_or text i 0 ≡ 10 → lex i comment (drop i text) ≡ lex i between (drop i text)
comment_ends text i lt is = lex_step text i comment lt (rw is refl) ∙ rw is refl ∙ sym (white_step text i lt (rw is refl) (rw is refl))

pub comment_ends_text : (text : List ℕ) → lex (length text) comment (drop (length text) text) ≡ lex (length text) between (drop (length text) text)
comment_ends_text text = lex_end text (length text) comment (le_refl (length text)) ∙ sym (lex_end text (length text) between (le_refl (length text)))

-- a string opens, goes on, and ends with a quote
pub string_opens : (text : List ℕ) (i : ℕ) → i < length text → get_or text i 0 ≡ 34
    → lex i between (drop i text) ≡ lex (i + 1) (string i (slice_range text i (i + 1)) (get_or text i 0)) (drop (i + 1) text)
string_opens text i lt quote = lex_step text i between lt (rw quote refl) ∙ rw (between_one text i lt, quote) refl

pub string_run : (text : List ℕ) (start n i j : ℕ) → i + n ≡ j → start < i → j ≤ length text → Nowhere (Passes is_refused text) i j → GoesOn text i j
    → lex i (string start (slice_range text start i) (get_or text (i - 1) 0)) (drop i text) ≡ lex j (string start (slice_range text start j) (get_or text (j - 1) 0)) (drop j text)
string_run text start zero i j e low le ok inside = let same : i ≡ j = omega arith in rw same refl
string_run text start (suc n) i j e low le ok inside =
    let not_refused = false_from_ne_true (is_refused (get_or text i 0)) (ok i (omega arith) (omega arith)) in
    let goes = inside i (omega arith) (omega arith) in
    let last : i + 1 - 1 ≡ i = omega arith in
    let here : lex i (string start (slice_range text start i) (get_or text (i - 1) 0)) (drop i text) ≡ lex (i + 1) (string start (slice_range text start (i + 1)) (get_or text (i + 1 - 1) 0)) (drop (i + 1) text)
    = lex_step text i (string start (slice_range text start i) (get_or text (i - 1) 0)) (omega arith) not_refused ∙ rw (goes, last, between_more text start i 0 (omega arith) (omega arith)) refl in
    here ∙ string_run text start n (i + 1) j (omega arith) (omega arith) le (λ k a b. ok k (omega arith) b) (λ k a b. inside k (omega arith) b)

pub string_ends : (text : List ℕ) (start i : ℕ) → start ≤ i → i < length text → get_or text i 0 ≡ 34 → (get_or text (i - 1) 0 ≡ 92 → ⊥)
    → lex i (string start (slice_range text start i) (get_or text (i - 1) 0)) (drop i text) ≡ before (piece_at Quoted text start (i + 1) ∷ []) (lex (i + 1) between (drop (i + 1) text))
string_ends text start i le lt quote plain =
    let no = false_from_ne_true (get_or text (i - 1) 0 == 92) (λ h. plain (eqb-true _ _ h)) in
    lex_step text i (string start (slice_range text start i) (get_or text (i - 1) 0)) lt (rw quote refl) ∙ rw (no, quote, between_more text start i 0 le lt, quote) refl

-- what the code's answers say
word_until : (text : List ℕ) (start p : ℕ) → start < length text → begins (get_or text start 0) ≡ true → (get_or text start 0 ≡ 34 → ⊥) → start + 1 ≤ p → p ≤ length text → Nowhere (Passes (stops 32) text) (start + 1) p
    → lex start between (drop start text) ≡ lex p (word start (slice_range text start p)) (drop p text)
word_until text start p lt opens plain low high goes =
    word_opens text start lt opens plain ∙ word_run text start (p - (start + 1)) (start + 1) p (omega arith) (omega arith) high goes

pub word_before_white : (text : List ℕ) (start p : ℕ) → start < length text → begins (get_or text start 0) ≡ true → (get_or text start 0 ≡ 34 → ⊥) → IsFirst (Passes (stops 32) text) (start + 1) (length text) (Some p) → is_white (get_or text p 0) ≡ true
    → lex start between (drop start text) ≡ before (piece_at Word text start p ∷ []) (lex p between (drop p text))
word_before_white text start p lt opens plain stop white =
    let low = stop.0.low in
    let high = stop.0.high in
    word_until text start p lt opens plain low (omega arith) stop.0.before ∙ word_ends text start p high (white_accepted (get_or text p 0) white) white

pub word_refused : (text : List ℕ) (start p : ℕ) → start < length text → begins (get_or text start 0) ≡ true → (get_or text start 0 ≡ 34 → ⊥) → IsFirst (Passes (stops 32) text) (start + 1) (length text) (Some p) → is_white (get_or text p 0) ≡ false
    → lex start between (drop start text) ≡ only_fault (record { code = RefusedByte; pos = p })
word_refused text start p lt opens plain stop black =
    let low = stop.0.low in
    let high = stop.0.high in
    word_until text start p lt opens plain low (omega arith) stop.0.before ∙ lex_refused text p _ high (stops_here (get_or text p 0) stop.1 black)

pub word_to_end : (text : List ℕ) (start : ℕ) → start < length text → begins (get_or text start 0) ≡ true → (get_or text start 0 ≡ 34 → ⊥) → IsFirst (Passes (stops 32) text) (start + 1) (length text) None
    → lex start between (drop start text) ≡ before (piece_at Word text start (length text) ∷ []) (lex (length text) between (drop (length text) text))
word_to_end text start lt opens plain goes =
    word_until text start (length text) lt opens plain (omega arith) (le_refl (length text)) goes ∙ word_ends_text text start

pub comment_bad : (text : List ℕ) (start end p : ℕ) → start < length text → get_or text start 0 ≡ 35 → IsLineEnd text (start + 1) end → IsFirst (Passes is_refused text) (start + 1) end (Some p)
    → lex start between (drop start text) ≡ only_fault (record { code = RefusedByte; pos = p })
comment_bad text start end p lt sign line bad =
    let low = bad.0.low in
    let high = bad.0.high in
    let within = line.high in
    comment_opens text start lt sign
    ∙ comment_run text (p - (start + 1)) (start + 1) p (omega arith) (omega arith) bad.0.before (λ k a b. line.inside k a (omega arith))
    ∙ lex_refused text p comment (omega arith) bad.1

pub comment_good : (text : List ℕ) (start end : ℕ) → start < length text → get_or text start 0 ≡ 35 → IsLineEnd text (start + 1) end → IsFirst (Passes is_refused text) (start + 1) end None
    → lex start between (drop start text) ≡ lex end between (drop end text)
comment_good text start end lt sign line good =
    let low = line.low in
    let high = line.high in
    comment_opens text start lt sign
    ∙ comment_run text (end - (start + 1)) (start + 1) end (omega arith) (omega arith) good line.inside
    ∙ ⊎_elim (λ e. rw e (comment_ends_text text)) (λ inside. comment_ends text end inside (line.here inside)) (eq-or-lt_of_le high)

string_begins : (text : List ℕ) (start : ℕ) → start < length text → get_or text start 0 ≡ 34
    → lex start between (drop start text) ≡ lex (start + 1) (string start (slice_range text start (start + 1)) (get_or text (start + 1 - 1) 0)) (drop (start + 1) text)
string_begins text start lt quote =
    let last : start ≡ start + 1 - 1 = omega arith in
    string_opens text start lt quote ∙ ap (λ (k : ℕ). lex (start + 1) (string start (slice_range text start (start + 1)) (get_or text k 0)) (drop (start + 1) text)) last

pub string_bad : (text : List ℕ) (start end p : ℕ) → start < length text → get_or text start 0 ≡ 34 → end ≤ length text → GoesOn text (start + 1) end → IsFirst (Passes is_refused text) (start + 1) end (Some p)
    → lex start between (drop start text) ≡ only_fault (record { code = RefusedByte; pos = p })
string_bad text start end p lt quote within inside bad =
    let low = bad.0.low in
    let high = bad.0.high in
    string_begins text start lt quote
    ∙ string_run text start (p - (start + 1)) (start + 1) p (omega arith) (omega arith) (omega arith) bad.0.before (λ k a b. inside k a (omega arith))
    ∙ lex_refused text p _ (omega arith) bad.1

pub string_good : (text : List ℕ) (start quote : ℕ) → start < length text → get_or text start 0 ≡ 34 → Closes text start quote → IsFirst (Passes is_refused text) (start + 1) quote None
    → lex start between (drop start text) ≡ before (piece_at Quoted text start (quote + 1) ∷ []) (lex (quote + 1) between (drop (quote + 1) text))
string_good text start quote lt is closing good =
    let low = closing.low in
    let high = closing.high in
    string_begins text start lt is
    ∙ string_run text start (quote - (start + 1)) (start + 1) quote (omega arith) (omega arith) (omega arith) good closing.inside
    ∙ string_ends text start quote (omega arith) high closing.here closing.free

pub string_no_end : (text : List ℕ) (start : ℕ) → start < length text → get_or text start 0 ≡ 34 → GoesOn text (start + 1) (length text) → IsFirst (Passes is_refused text) (start + 1) (length text) None
    → lex start between (drop start text) ≡ only_fault (record { code = OpenString; pos = start })
string_no_end text start lt is inside good =
    string_begins text start lt is
    ∙ string_run text start (length text - (start + 1)) (start + 1) (length text) (omega arith) (omega arith) (omega arith) good inside
    ∙ lex_end text (length text) _ (le_refl (length text))

-- what is left at the end of the text
pub left_at_end : (text : List ℕ) (i : ℕ) → i ≡ length text → left_from text i ≡ record { pieces = []; end = Ok (length text) }
left_at_end text i e = rw e (lex_end text (length text) between (le_refl (length text)))
