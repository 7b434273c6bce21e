-- What stands between the tokens of a text.
use Rattle.std.proofs.Common.{◌≡◌, ◌⊎◌, inl, inr, ℕ, suc, ◌+◌, ◌≤◌, ◌<◌, Bool, true, false, ◌==◌, if◌then◌else◌, List, [], ◌∷◌, ◌++◌, length, drop, Ok, refl, sym, ap, ◌∙◌, add-zero, arith, ⊎_elim, eqb-true, length-append}
use Rattle.std.specs.Prelude.{◌≢◌, slice_index}
use Rattle.std.proofs.Math.Nat.{eq-or-lt_of_le}
use Rattle.std.proofs.lemmas.Bool.{cases_lt}
use Rattle.std.proofs.lemmas.List.{drop-drop, get_or-drop}
use Rattle.std.proofs.lemmas.List.Elements.{All-nil, All-cons, All-append, All-head, All-tail}
use Rattle.statement_model.specs.Tokens.{Open, Token, lex, next_open, ended_by, at_end, is_white, is_refused, closes, tokens}
use Rattle.statement_model.specs.Tokens.Open.{between, comment, word, string}
use Rattle.design_model.specs.declared.token_kind.TokenKind.{TokenKind}
use Rattle.design_model.specs.declared.token_kind.TokenKind.TheVariants.{Word, Quoted}
use Rattle.std.proofs.lemmas.Bool.{cases_Bool as cases}
use Rattle.statement_laws.specs.BlankLaws.{IsInside, IsOutside, InComment, BlanksAreBetween}

abbrev IsBlank : List ℕ → ℕ → Type 0
IsBlank text k = (is_white (slice_index text k) ≡ true) ⊎ InComment text k

-- a comment that is open at a place
record IsOpen (text : List ℕ) (pos : ℕ) : Type 0 where
  start : ℕ
  before : start < pos
  hash : slice_index text start ≡ 35
  one_line : (i : ℕ) → start ≤ i → i < pos → slice_index text i ≢ 10
  no_token : (i : ℕ) → start ≤ i → i < pos → IsOutside (tokens text).pieces i

-- what is open at a place is what the text has before it
abbrev Stands : List ℕ → ℕ → Open → Type 0
Stands text pos between = Unit {0}
Stands text pos comment = IsOpen text pos
Stands text pos (word start bytes) = start + length bytes ≡ pos
Stands text pos (string start bytes last) = start + length bytes ≡ pos

-- where a token that is open begins
abbrev begin_of : ℕ → Open → ℕ
begin_of pos between = pos
begin_of pos comment = pos
begin_of pos (word start bytes) = start
begin_of pos (string start bytes last) = start

of_if : {A : Type 0} (P : A → Type 0) (b : Bool) (x y : A) → (b ≡ true → P x) → (b ≡ false → P y) → P (if b then x else y)
of_if P true x y p q = p refl
of_if P false x y p q = q refl

of_ifs : {A B : Type 0} (P : A → B → Type 0) (b : Bool) (x y : A) (u v : B) → (b ≡ true → P x u) → (b ≡ false → P y v) → P (if b then x else y) (if b then u else v)
of_ifs P true x y u v p q = p refl
of_ifs P false x y u v p q = q refl

feed_is_white : (b : ℕ) → (b == 10) ≡ true → is_white b ≡ true
feed_is_white b e = rw (eqb-true b 10 e) refl

no_feed : (b : ℕ) → (b == 10) ≡ false → b ≢ 10
no_feed b e same = let h = rw same at e in cc

hash_is_no_feed : (b : ℕ) → b ≡ 35 → b ≢ 10
hash_is_no_feed b hash feed = cc

-- a place in a token is not outside of it
in_first : (k pos start : ℕ) (kind : TokenKind) (bytes : List ℕ) (ps : List Token) → start + length bytes ≡ pos → start ≤ k → k < pos → IsOutside (record { kind = kind; bytes = bytes; pos = start } ∷ ps) k → ⊥
in_first k pos start kind bytes ps stands from to out = All-head (λ (p : Token). IsInside k p → ⊥) (record { kind = kind; bytes = bytes; pos = start }) ps out (from, omega arith)

one_longer : (start pos b : ℕ) (bytes : List ℕ) → start + length bytes ≡ pos → start + length (bytes ++ b ∷ []) ≡ pos + 1
one_longer start pos b bytes e = omega (arith, length-append bytes (b ∷ []))

outside_none : (i : ℕ) → IsOutside [] i
outside_none i = All-nil (λ (p : Token). IsInside i p → ⊥)

-- one token more that a place is not in
outside_more : (i : ℕ) (p : Token) (ps : List Token) → (IsInside i p → ⊥) → IsOutside ps i → IsOutside (p ∷ ps) i
outside_more i p ps apart out = All-cons (λ (q : Token). IsInside i q → ⊥) p ps apart out

before_token : (i start : ℕ) (kind : TokenKind) (bytes : List ℕ) → i < start → IsOutside (record { kind = kind; bytes = bytes; pos = start } ∷ []) i
before_token i start kind bytes before = outside_more i (record { kind = kind; bytes = bytes; pos = start }) [] (λ inside. omega (arith, inside.0)) (outside_none i)

before_ended : (i pos b : ℕ) (state : Open) → i < begin_of pos state → IsOutside (ended_by state b) i
before_ended i pos b between before = outside_none i
before_ended i pos b comment before = outside_none i
before_ended i pos b (word start bytes) before =
    of_if (λ ps. IsOutside ps i) (is_white b) (record { kind = Word; bytes = bytes; pos = start } ∷ []) [] (λ white. before_token i start Word bytes before) (λ more. outside_none i)
before_ended i pos b (string start bytes last) before =
    of_if (λ ps. IsOutside ps i) (closes last b) (record { kind = Quoted; bytes = bytes ++ b ∷ []; pos = start } ∷ []) [] (λ end. before_token i start Quoted (bytes ++ b ∷ []) before) (λ more. outside_none i)

before_next : (i pos b : ℕ) (state : Open) → i < pos → i < begin_of pos state → i < begin_of (pos + 1) (next_open pos state b)
before_next i pos b between lt before =
    let P = λ (state : Open). i < begin_of (pos + 1) state in
    of_if P (is_white b) between (if b == 35 then comment else (if b == 34 then string pos (b ∷ []) b else word pos (b ∷ []))) (λ white. omega arith) (λ black.
    of_if P (b == 35) comment (if b == 34 then string pos (b ∷ []) b else word pos (b ∷ [])) (λ hash. omega arith) (λ no_hash.
    of_if P (b == 34) (string pos (b ∷ []) b) (word pos (b ∷ [])) (λ quote. lt) (λ no_quote. lt)))
before_next i pos b comment lt before = of_if (λ state. i < begin_of (pos + 1) state) (b == 10) between comment (λ feed. omega arith) (λ more. omega arith)
before_next i pos b (word start bytes) lt before = of_if (λ state. i < begin_of (pos + 1) state) (is_white b) between (word start (bytes ++ b ∷ [])) (λ white. omega arith) (λ more. before)
before_next i pos b (string start bytes last) lt before = of_if (λ state. i < begin_of (pos + 1) state) (closes last b) between (string start (bytes ++ b ∷ []) b) (λ end. omega arith) (λ more. before)

before_last : (i pos : ℕ) (state : Open) → i < begin_of pos state → IsOutside (at_end pos state).pieces i
before_last i pos between before = outside_none i
before_last i pos comment before = outside_none i
before_last i pos (word start bytes) before = before_token i start Word bytes before
before_last i pos (string start bytes last) before = outside_none i

-- a place before what is open is in no token that is read from there on
before_all : (bs : List ℕ) (i pos : ℕ) (state : Open) → i < pos → i < begin_of pos state → IsOutside (lex pos state bs).pieces i
unfolding lex
before_all [] i pos state lt before = before_last i pos state before
before_all (b ∷ bs) i pos state lt before = ⊎_elim
    (λ bad. rw bad (outside_none i))
    (λ good. rw good (All-append (λ (p : Token). IsInside i p → ⊥) (ended_by state b) _ (before_ended i pos b state before) (before_all bs i (pos + 1) (next_open pos state b) (omega arith) (before_next i pos b state lt before))))
    (cases (is_refused b))

-- places from one on that are in none of these tokens are in none of the text
abbrev Covers : List ℕ → ℕ → List Token → Type 0
Covers text from ps = (i : ℕ) → from ≤ i → IsOutside ps i → IsOutside (tokens text).pieces i

module _ (text bs : List ℕ) (pos n k b : ℕ) (here : slice_index text pos ≡ b) (within : k < pos + suc (length bs)) where
  -- the tokens after the byte, where this is open
  abbrev left_in : Open → List Token
  left_in state = (lex (pos + 1) state bs).pieces

  -- what is read after the byte, with tokens that it ends, which begin at a place or after it
  abbrev Reads : ℕ → List Token → Open → Type 0
  Reads low ps state = (lex (pos + 1) state bs).end ≡ Ok n → IsOutside (ps ++ left_in state) k → Covers text low (ps ++ left_in state) → IsBlank text k

  -- at the place, and after it
  here_or_later : {P : Type 0} → pos ≤ k → (k ≡ pos → P) → (pos + 1 ≤ k → P) → P
  here_or_later {P = P} from same later = ⊎_elim (λ (e : pos ≡ k). same (sym e)) (λ (lt : pos < k). later (omega arith)) (eq-or-lt_of_le from)

  white_here : k ≡ pos → is_white b ≡ true → IsBlank text k
  white_here same white = inl (rw (same, here) white)

  byte_at : (i : ℕ) → i ≡ pos → slice_index text i ≡ b
  byte_at i same = rw same here

  module _ (later : (state : Open) → Stands text (pos + 1) state → begin_of (pos + 1) state ≤ k → Reads (begin_of (pos + 1) state) [] state) where
    -- the place is in no token
    here_outside : Covers text pos (left_in comment) → (i : ℕ) → i ≡ pos → IsOutside (tokens text).pieces i
    here_outside covers i same = covers i (omega arith) (before_all bs i (pos + 1) comment (omega arith) (omega arith))

    comment_begins : (b == 35) ≡ true → Covers text pos (left_in comment) → IsOpen text (pos + 1)
    comment_begins e covers = record {
      start = pos;
      before = omega arith;
      hash = here ∙ eqb-true b 35 e;
      one_line = λ i low high. hash_is_no_feed (slice_index text i) (byte_at i (omega arith) ∙ eqb-true b 35 e);
      no_token = λ i low high. here_outside covers i (omega arith);
    }

    comment_goes_on : IsOpen text pos → (b == 10) ≡ false → Covers text pos (left_in comment) → IsOpen text (pos + 1)
    comment_goes_on begun e covers = record {
      start = begun.start;
      before = omega (arith, begun.before);
      hash = begun.hash;
      one_line = λ i low high feed. ⊎_elim
          (λ (same : i ≡ pos). no_feed b e (sym (byte_at i same) ∙ feed))
          (λ (lt : i < pos). begun.one_line i low lt feed)
          (eq-or-lt_of_le (omega arith));
      no_token = λ i low high. ⊎_elim
          (λ (same : i ≡ pos). here_outside covers i same)
          (λ (lt : i < pos). begun.no_token i low lt)
          (eq-or-lt_of_le (omega arith));
    }

    in_comment : IsOpen text (pos + 1) → k ≡ pos → IsBlank text k
    in_comment begun same = inr (record {
      start = begun.start;
      before = omega (arith, begun.before);
      hash = begun.hash;
      one_line = λ i low high. begun.one_line i low (omega arith);
      no_token = λ i low high. begun.no_token i low (omega arith);
    })

    -- after the byte, between tokens or in a comment
    on : (state : Open) → begin_of (pos + 1) state ≡ pos + 1 → Stands text (pos + 1) state → pos + 1 ≤ k → Reads pos [] state
    on state at stands after ok out covers = later state stands (omega arith) ok out (λ i low. covers i (omega arith))

    behind_between : pos ≤ k → Reads pos [] (next_open pos between b)
    behind_between from =
        of_if (Reads pos []) (is_white b) between (if b == 35 then comment else (if b == 34 then string pos (b ∷ []) b else word pos (b ∷ [])))
        (λ white ok out covers. here_or_later from (λ same. white_here same white) (λ after. on between refl tt after ok out covers))
        (λ black. of_if (Reads pos []) (b == 35) comment (if b == 34 then string pos (b ∷ []) b else word pos (b ∷ []))
        (λ hash ok out covers. let begun = comment_begins hash covers in here_or_later from (in_comment begun) (λ after. on comment refl begun after ok out covers))
        (λ no_hash. of_if (Reads pos []) (b == 34) (string pos (b ∷ []) b) (word pos (b ∷ []))
        (λ quote. later (string pos (b ∷ []) b) refl from)
        (λ no_quote. later (word pos (b ∷ [])) refl from)))

    behind_comment : IsOpen text pos → pos ≤ k → Reads pos [] (next_open pos comment b)
    behind_comment begun from =
        of_if (Reads pos []) (b == 10) between comment
        (λ feed ok out covers. here_or_later from (λ same. white_here same (feed_is_white b feed)) (λ after. on between refl tt after ok out covers))
        (λ more ok out covers. let still = comment_goes_on begun more covers in here_or_later from (in_comment still) (λ after. on comment refl still after ok out covers))

    -- after a token that has ended before a place or at it
    behind_token : (kind : TokenKind) (start end : ℕ) (bytes : List ℕ) → start + length bytes ≡ end → start ≤ k → end ≤ pos + 1
        → (end ≤ k → Reads end [] between)
        → Reads start (record { kind = kind; bytes = bytes; pos = start } ∷ []) between
    behind_token kind start end bytes stands from low goes_on ok out covers =
        let p : Token = record { kind = kind; bytes = bytes; pos = start } in
        let ps = left_in between in
        ⊎_elim
        (λ (inside : k < end). absurd (in_first k end start kind bytes ps stands from inside out))
        (λ (behind : end ≤ k). goes_on behind ok (All-tail (λ (q : Token). IsInside k q → ⊥) p ps out) (λ i from_end outside. covers i (omega arith) (outside_more i p ps (λ inside. omega (arith, inside.1)) outside)))
        (cases_lt k end)

    behind_word : (start : ℕ) (bytes : List ℕ) → start + length bytes ≡ pos → start ≤ k → Reads start (ended_by (word start bytes) b) (next_open pos (word start bytes) b)
    behind_word start bytes stands from =
        of_ifs (Reads start) (is_white b) (record { kind = Word; bytes = bytes; pos = start } ∷ []) [] between (word start (bytes ++ b ∷ []))
        (λ white. behind_token Word start pos bytes stands from (omega arith) (λ behind ok out covers. here_or_later behind (λ same. white_here same white) (λ after. on between refl tt after ok out covers)))
        (λ more. later (word start (bytes ++ b ∷ [])) (one_longer start pos b bytes stands) from)

    behind_string : (start last : ℕ) (bytes : List ℕ) → start + length bytes ≡ pos → start ≤ k → Reads start (ended_by (string start bytes last) b) (next_open pos (string start bytes last) b)
    behind_string start last bytes stands from =
        of_ifs (Reads start) (closes last b) (record { kind = Quoted; bytes = bytes ++ b ∷ []; pos = start } ∷ []) [] between (string start (bytes ++ b ∷ []) b)
        (λ end. behind_token Quoted start (pos + 1) (bytes ++ b ∷ []) (one_longer start pos b bytes stands) from (omega arith) (λ behind. later between tt behind))
        (λ more. later (string start (bytes ++ b ∷ []) b) (one_longer start pos b bytes stands) from)

    behind : (state : Open) → Stands text pos state → begin_of pos state ≤ k → Reads (begin_of pos state) (ended_by state b) (next_open pos state b)
    behind between stands from = behind_between from
    behind comment stands from = behind_comment stands from
    behind (word start bytes) stands from = behind_word start bytes stands from
    behind (string start bytes last) stands from = behind_string start last bytes stands from

byte_here : (text bs : List ℕ) (pos b : ℕ) → drop pos text ≡ b ∷ bs → slice_index text pos ≡ b
byte_here text bs pos b left = ap (λ (i : ℕ). slice_index text i) (sym (add-zero pos)) ∙ sym (get_or-drop pos text 0 0) ∙ ap (λ (l : List ℕ). slice_index l 0) left

next_left : (text bs : List ℕ) (pos b : ℕ) → drop pos text ≡ b ∷ bs → drop (pos + 1) text ≡ bs
next_left text bs pos b left = sym (drop-drop 1 pos text) ∙ ap (drop 1) left

-- at the end of the text
at_last : (text : List ℕ) (pos n k : ℕ) (state : Open) → Stands text pos state → (at_end pos state).end ≡ Ok n → begin_of pos state ≤ k → k < pos → IsOutside (at_end pos state).pieces k → IsBlank text k
at_last text pos n k between stands ok from to out = absurd (omega arith)
at_last text pos n k comment stands ok from to out = absurd (omega arith)
at_last text pos n k (word start bytes) stands ok from to out = absurd (in_first k pos start Word bytes [] stands from to out)
at_last text pos n k (string start bytes last) stands ok from to out = absurd (cc)

blanks : (text bs : List ℕ) (pos n k : ℕ) (state : Open) → drop pos text ≡ bs → Stands text pos state → (lex pos state bs).end ≡ Ok n → begin_of pos state ≤ k → k < pos + length bs
    → IsOutside (lex pos state bs).pieces k → Covers text (begin_of pos state) (lex pos state bs).pieces → IsBlank text k
unfolding lex
blanks text [] pos n k state left stands ok from to out covers = at_last text pos n k state stands ok from (omega arith) out
blanks text (b ∷ bs) pos n k state left stands ok from to out covers = ⊎_elim
    (λ bad. let h = rw bad at ok in absurd (cc))
    (λ good.
    let h = rw good at ok in
    let o = rw good at out in
    let c = rw good at covers in
    behind text bs pos n k b (byte_here text bs pos b left) to (λ next stands from ok out covers. blanks text bs (pos + 1) n k next (next_left text bs pos b left) stands ok from (omega arith) out covers) state stands from h o c)
    (cases (is_refused b))

pub blanks_are_between : BlanksAreBetween
blanks_are_between text n k ok to out = blanks text text 0 n k between refl tt ok (omega arith) (omega arith) out (λ i low outside. outside)
