-- Going over plain bytes, word by word.
use Rattle.std.proofs.Common.{◌≡◌, ◌≢◌, ℕ, zero, suc, ◌+◌, ◌-◌, ◌<◌, ◌≤◌, true, false, nat_le, cond, List, [], ◌∷◌, ◌++◌, length, get_or, drop, refl, sym, ap, ◌∙◌, subst, arith, le_refl, add-zero, ⊎_elim, codes}
use Rattle.std.specs.List.{count_by, range_with_len, slice_range}
use Rattle.std.proofs.lemmas.Bool.{cases_Bool, cases_lt, false_from_ne_true}
use Rattle.std.proofs.lemmas.Bool.Decides.{nat_tests}
use Rattle.std.proofs.lemmas.List.{append_assoc, get_or-drop, get_or-take, length-append}
use Rattle.std.proofs.lemmas.List.Elements.{All-append, All-cons, All-nil}
use Rattle.std.proofs.lemmas.List.Sums.{sum_by-cons}
use Rattle.std.proofs.lemmas.Slice.Eq.{bytes_eq-Decides}
use Rattle.std.proofs.Math.Nat.{eq-or-lt_of_le}
use Rattle.memchr.specs.Find.{Nowhere, Passes}
use Rattle.form_meanings.specs.Words.{is_semicolon}
use Rattle.statement_model.specs.Tokens.{Lexed, Token, before, is_white, left_from}
use Rattle.design_model.specs.declared.token_kind.TokenKind.TheVariants.{Word}
use Rattle.lefdef_tokens.specs.Runs.{begins, piece_at, stops}
use Rattle.lefdef_tokens.specs.Skipping.{HasBegun, IsWordStart, Skips, begins_after, begins_at, is_special}
use Rattle.lefdef_tokens.proofs.Lexing.{white_accepted, white_step, word_before_white}

-- a plain byte is white space, or a byte that begins a word and goes on with it
white_is_small : (b : ℕ) → is_white b ≡ true → nat_le b 32 ≡ true
white_is_small b white = grind (arith, nat_tests)

white_stops : (b : ℕ) → is_white b ≡ true → stops 32 b ≡ true
white_stops b white = grind (arith, nat_tests)

black_is_large : (b : ℕ) → is_special b ≡ false → is_white b ≡ false → nat_le b 32 ≡ false
black_is_large b plain black = grind (arith, nat_tests)

black_goes_on : (b : ℕ) → is_special b ≡ false → is_white b ≡ false → stops 32 b ≡ false
black_goes_on b plain black = grind (arith, nat_tests)

black_begins : (b : ℕ) → is_special b ≡ false → is_white b ≡ false → begins b ≡ true
black_begins b plain black = grind (arith, nat_tests)

no_quote : (b : ℕ) → is_special b ≡ false → b ≢ 34
no_quote b plain is = let h = rw is at plain in cc

no_semicolon : (b : ℕ) → is_special b ≡ false → b ≢ 59
no_semicolon b plain is = let h = rw is at plain in cc

-- where a word begins
begins_not : (last b : ℕ) → is_white b ≡ true → begins_after last b ≡ false
begins_not last b white = grind (arith, nat_tests)

begins_here : (last b : ℕ) → is_white last ≡ true → is_special b ≡ false → is_white b ≡ false → begins_after last b ≡ true
begins_here last b white plain black = grind (arith, nat_tests)

goes_on_here : (last b : ℕ) → is_special last ≡ false → is_white last ≡ false → begins_after last b ≡ false
goes_on_here last b plain black = grind (arith, nat_tests)

-- the words of a plain byte's kind aren't `;`
first_of_semicolon : (w : List ℕ) → is_semicolon w ≡ true → get_or w 0 0 ≡ 59
first_of_semicolon w is = ap (λ (ws : List ℕ). get_or ws 0 0) ((bytes_eq-Decides w (codes ";")).0 is)

other_word : (text : List ℕ) (start end : ℕ) → start < end → is_special (get_or text start 0) ≡ false → is_semicolon (slice_range text start end) ≡ false
other_word text start end lt plain = false_from_ne_true _ (λ is.
    let here : get_or text start 0 ≡ 59 = sym (get_or-take (end - start) (drop start text) 0 0 (omega arith) ∙ get_or-drop start text 0 0 ∙ ap (λ (k : ℕ). get_or text k 0) (add-zero start)) ∙ first_of_semicolon (slice_range text start end) is in
    no_semicolon (get_or text start 0) plain here)

-- a place later, over white space or over a word
abbrev IsPlain : Token → Type 0
IsPlain p = is_semicolon p.bytes ≡ false

skips_none : (text : List ℕ) (from : ℕ) → Skips text from from 0
skips_none text from = record { passed = []; many = refl; goes = refl; plain = All-nil IsPlain }

skips_same : (text : List ℕ) (from start to n : ℕ) → Skips text from start n → left_from text start ≡ left_from text to → Skips text from to n
skips_same text from start to n s same = record { passed = s.passed; many = s.many; goes = s.goes ∙ ap (before s.passed) same; plain = s.plain }

skips_word : (text : List ℕ) (from start to n : ℕ) (p : Token) → Skips text from start n → left_from text start ≡ before (p ∷ []) (left_from text to) → is_semicolon p.bytes ≡ false → Skips text from to (n + 1)
skips_word text from start to n p s one plain =
    let rest = left_from text to in
    let many = s.many in
    record {
      passed = s.passed ++ p ∷ [];
      many = omega (arith, length-append s.passed (p ∷ []));
      goes = s.goes ∙ ap (before s.passed) one ∙ ap (λ (ps : List Token). let l : Lexed = record { pieces = ps; end = rest.end } in l) (sym (append_assoc s.passed (p ∷ []) rest.pieces));
      plain = All-append IsPlain s.passed (p ∷ []) s.plain (All-cons IsPlain p [] plain (All-nil IsPlain));
    }

-- one plain byte more
module _ (text : List ℕ) (from at count : ℕ) (so_far : HasBegun text from at count) (lt : at < length text) (plain : is_special (get_or text at 0) ≡ false) where
  abbrev Next : ℕ → Type 0
  Next n = HasBegun text from (at + 1) (count + n)

  after_white : is_white (get_or text at 0) ≡ true → (before : ℕ) → Skips text from (at + 1) before → from + before < at + 1 → count ≡ before → Next 0
  after_white white before skips few same =
      let opens = so_far.opens in
      let low = opens.low in
      let high = opens.high in
      record {
        within = omega arith;
        start = at + 1;
        opens = record {
          low = omega arith;
          high = le_refl (at + 1);
          apart = subst (λ (k : ℕ). is_white (get_or text k 0) ≡ true) (omega arith) white;
          whole = λ k a b. absurd (omega arith);
        };
        before = before;
        skips = skips;
        few = few;
        apart = λ e. omega arith;
        inside = λ short. absurd (omega arith);
        plain = λ k a b. absurd (omega arith);
      }

  -- the word that is open ends before white space
  word_ends_here : is_white (get_or text at 0) ≡ true → so_far.start < at → left_from text so_far.start ≡ before (piece_at Word text so_far.start at ∷ []) (left_from text at)
  word_ends_here white short =
      let start = so_far.start in
      let opens = so_far.opens in
      let here = so_far.plain start (le_refl start) short in
      let black = opens.whole start (le_refl start) short in
      word_before_white text start at (omega arith) (black_begins (get_or text start 0) here black) (no_quote (get_or text start 0) here) (
        record {
          low = omega arith;
          high = lt;
          before = λ k a b stop.
              let goes = black_goes_on (get_or text k 0) (so_far.plain k (omega arith) b) (opens.whole k (omega arith) b) in
              let both = sym goes ∙ stop in
              absurd (cc);
        },
        white_stops (get_or text at 0) white,
      )
      white

  on_white : is_white (get_or text at 0) ≡ true → Next 0
  on_white white =
      let opens = so_far.opens in
      let start = so_far.start in
      let few = so_far.few in
      let skips = so_far.skips in
      let step = white_step text at lt (white_accepted (get_or text at 0) white) white in
      ⊎_elim
      (λ none. after_white white so_far.before (skips_same text from start (at + 1) so_far.before skips (ap (left_from text) none ∙ step)) (omega arith) (so_far.apart none))
      (λ short.
      let word = piece_at Word text start at in
      let one = word_ends_here white short ∙ ap (before (word ∷ [])) step in
      after_white white (so_far.before + 1) (skips_word text from start (at + 1) so_far.before word skips one (other_word text start at short (so_far.plain start (le_refl start) short))) (omega arith) (so_far.inside short))
      (eq-or-lt_of_le opens.high)

  after_black : is_white (get_or text at 0) ≡ false → (n : ℕ) → count + n ≡ so_far.before + 1 → Next n
  after_black black n one_more =
      let opens = so_far.opens in
      let high = opens.high in
      record {
        within = omega arith;
        start = so_far.start;
        opens = record {
          low = opens.low;
          high = omega arith;
          apart = opens.apart;
          whole = λ k a b. ⊎_elim (λ earlier. opens.whole k a earlier) (λ later. subst (λ (j : ℕ). is_white (get_or text j 0) ≡ false) (omega arith) black) (cases_lt k at);
        };
        before = so_far.before;
        skips = so_far.skips;
        few = so_far.few;
        apart = λ e. absurd (omega arith);
        inside = λ short. one_more;
        plain = λ k a b. ⊎_elim (λ earlier. so_far.plain k a earlier) (λ later. subst (λ (j : ℕ). is_special (get_or text j 0) ≡ false) (omega arith) plain) (cases_lt k at);
      }

  on_black : is_white (get_or text at 0) ≡ false → Next (cond (begins_at text at) 1 0)
  on_black black =
      let opens = so_far.opens in
      let low = opens.low in
      let last = get_or text (at - 1) 0 in
      let byte = get_or text at 0 in
      ⊎_elim
      (λ none.
      let white = subst (λ (j : ℕ). is_white (get_or text (j - 1) 0) ≡ true) none opens.apart in
      let same = so_far.apart none in
      subst Next (ap (λ b. cond b 1 0) (sym (begins_here last byte white plain black))) (after_black black 1 (omega arith)))
      (λ short.
      let inner = so_far.plain (at - 1) (omega arith) (omega arith) in
      let whole = opens.whole (at - 1) (omega arith) (omega arith) in
      let same = so_far.inside short in
      subst Next (ap (λ b. cond b 1 0) (sym (goes_on_here last byte inner whole))) (after_black black 0 (omega arith)))
      (eq-or-lt_of_le opens.high)

  pub one_byte : Next (cond (begins_at text at) 1 0)
  one_byte = ⊎_elim
      (λ white. subst Next (ap (λ b. cond b 1 0) (sym (begins_not (get_or text (at - 1) 0) (get_or text at 0) white))) (on_white white))
      on_black
      (cases_Bool (is_white (get_or text at 0)))

-- many plain bytes more
pub many_bytes : (text : List ℕ) (from at count n to total : ℕ) → HasBegun text from at count → at + n ≡ to → to ≤ length text → Nowhere (Passes is_special text) at to
    → count + count_by (begins_at text) (range_with_len at n) ≡ total → HasBegun text from to total
many_bytes text from at count zero to total so_far e within plain sum =
    let same : at ≡ to = omega arith in
    let all : count ≡ total = omega arith in
    subst (λ (k : ℕ). HasBegun text from k total) same (subst (λ (k : ℕ). HasBegun text from at k) all so_far)
many_bytes text from at count (suc n) to total so_far e within plain sum =
    let here = false_from_ne_true (is_special (get_or text at 0)) (plain at (le_refl at) (omega arith)) in
    let first = one_byte text from at count so_far (omega arith) here in
    let more = sum_by-cons (λ k. cond (begins_at text k) 1 0) at (range_with_len (at + 1) n) in
    many_bytes text from (at + 1) (count + cond (begins_at text at) 1 0) n to total first (omega arith) within (λ k a b. plain k (omega arith) b) (omega arith)

-- after the white byte itself
pub begins_none : (text : List ℕ) (from : ℕ) → from < length text → is_white (get_or text from 0) ≡ true → HasBegun text from (from + 1) 0
begins_none text from lt white = record {
  within = omega arith;
  start = from + 1;
  opens = record {
    low = omega arith;
    high = le_refl (from + 1);
    apart = subst (λ (k : ℕ). is_white (get_or text k 0) ≡ true) (omega arith) white;
    whole = λ k a b. absurd (omega arith);
  };
  before = 0;
  skips = skips_same text from from (from + 1) 0 (skips_none text from) (white_step text from lt (white_accepted (get_or text from 0) white) white);
  few = omega arith;
  apart = λ e. refl;
  inside = λ short. absurd (omega arith);
  plain = λ k a b. absurd (omega arith);
}

-- one place alone is where the word begins
no_later : (text : List ℕ) (from at a b : ℕ) → IsWordStart text from at a → IsWordStart text from at b → a < b → ⊥
no_later text from at a b p q lt =
    let low = q.low in
    let high = q.high in
    let black = p.whole (b - 1) (omega arith) (omega arith) in
    let both = sym black ∙ q.apart in
    cc

pub same_start : (text : List ℕ) (from at a b : ℕ) → IsWordStart text from at a → IsWordStart text from at b → a ≡ b
same_start text from at a b p q = ⊎_elim
    (λ less. absurd (no_later text from at a b p q less))
    (λ more. ⊎_elim (λ e. sym e) (λ less. absurd (no_later text from at b a q p less)) (eq-or-lt_of_le more))
    (cases_lt a b)

-- no more words than bytes
pub few_words : (text : List ℕ) (from at count : ℕ) → HasBegun text from at count → from + count ≤ at
few_words text from at count begun =
    let few = begun.few in
    let high = begun.opens.high in
    ⊎_elim (λ none. let same = begun.apart none in omega arith) (λ short. let same = begun.inside short in omega arith) (eq-or-lt_of_le high)

-- what is passed up to where the open word begins
module _ (text : List ℕ) (from at count start : ℕ) (begun : HasBegun text from at count) (opens : IsWordStart text from at start) where
  same : begun.start ≡ start
  same = same_start text from at begun.start start begun.opens opens

  passed : (n : ℕ) → n ≡ begun.before → Skips text from start n × (from + n ≤ start)
  passed n e =
      let few = begun.few in
      (subst (λ (k : ℕ). Skips text from k n) same (subst (λ (k : ℕ). Skips text from begun.start k) (sym e) begun.skips), omega (arith, same))

  pub word_left_out : start < at → Skips text from start (count - 1) × (from + (count - 1) ≤ start)
  word_left_out short = passed (count - 1) (omega (arith, begun.inside (omega (arith, same))))

  pub no_word_open : at ≤ start → Skips text from start count × (from + count ≤ start)
  no_word_open none = passed count (begun.apart (omega (arith, same, opens.high)))
