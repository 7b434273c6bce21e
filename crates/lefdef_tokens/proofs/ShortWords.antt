-- A word that white space alone stands before, and that ends before white space near by.
use Rattle.std.proofs.Common.{◌≡◌, ◌≢◌, ℕ, zero, suc, ◌+◌, ◌-◌, ◌<◌, ◌≤◌, Bool, true, false, List, [], ◌∷◌, length, get_or, refl, subst, sym, ap, ◌∙◌, arith, inl, inr, ◌==◌, eqb-true, le_refl, Some}
use Rattle.std.proofs.lemmas.Bool.{false_from_ne_true, cases_Bool, cases_eq, cases_lt}
use Rattle.std.proofs.lemmas.Bool.Decides.{nat_tests}
use Rattle.memchr.specs.Find.{IsFirst, Nowhere, Passes}
use Rattle.statement_model.specs.Tokens.{Lexed, is_refused, is_white, before, left_from}
use Rattle.design_model.specs.declared.token_kind.TokenKind.TheVariants.{Word}
use Rattle.lefdef_tokens.specs.Runs.{begins, piece_at, stops, ComesFirst}
use Rattle.lefdef_tokens.proofs.Lexing.{lex_refused, white_accepted, white_step, word_before_white, word_refused}

plain_begins : (b : ℕ) → 35 < b → b ≢ 127 → begins b ≡ true
plain_begins b high other = grind (arith, nat_tests)

low_stops : (b : ℕ) → b ≤ 32 → stops 32 b ≡ true
low_stops b low = grind (arith, nat_tests)

low_refused : (b : ℕ) → b ≤ 32 → is_white b ≡ false → is_refused b ≡ true
low_refused b low black = grind (arith, nat_tests)

white_low : (b : ℕ) → is_white b ≡ true → b ≤ 32
white_low b white = grind (arith, nat_tests)

-- there is no token where a refused byte comes first
none_left : (l m : Lexed) → m.pieces ≡ [] → l ≡ m → 0 < length l.pieces → ⊥
none_left l m none same some = let no : length l.pieces ≡ 0 = ap (λ (x : Lexed). length x.pieces) same ∙ ap length none in absurd (omega arith)

-- before the first token, what is a blank or below is white space
over_low : (text : List ℕ) (n i j : ℕ) → i + n ≡ j → j ≤ length text → ((k : ℕ) → i ≤ k → k < j → get_or text k 0 ≤ 32) → 0 < length (left_from text i).pieces
    → left_from text i ≡ left_from text j
over_low text zero i j e high low some = let same : i ≡ j = omega arith in rw same refl
over_low text (suc n) i j e high low some =
    let byte = get_or text i 0 in
    let lt : i < length text = omega arith in
    elim (cases_Bool (is_white byte)) [
      | inl white ↦
          let step = white_step text i lt (white_accepted byte white) white in
          step ∙ over_low text n (i + 1) j (omega arith) high (λ k a b. low k (omega arith) b) (subst (λ (l : Lexed). 0 < length l.pieces) step some)
      | inr black ↦ absurd (none_left _ _ refl (lex_refused text i _ lt (low_refused byte (low i (le_refl i) (omega arith)) black)) some)
    ]

-- the first byte that passes a test, up to one that does
record Found (test : ℕ → Bool) (text : List ℕ) (from to : ℕ) : Type 0 where
  pub at : ℕ
  pub low : from ≤ at
  pub high : at ≤ to
  pub before : Nowhere (Passes test text) from at
  pub here : Passes test text at

first_found : (test : ℕ → Bool) (text : List ℕ) (n i j : ℕ) → i + n ≡ j → Passes test text j → Found test text i j
first_found test text zero i j e here = let same : j ≡ i = omega arith in record { at = i; low = le_refl i; high = omega arith; before = λ k a b. absurd (omega arith); here = subst (Passes test text) same here }
first_found test text (suc n) i j e here = elim (cases_Bool (test (get_or text i 0))) [
  | inl now ↦ record { at = i; low = le_refl i; high = omega arith; before = λ k a b. absurd (omega arith); here = now }
  | inr later ↦
      let f = first_found test text n (i + 1) j (omega arith) here in
      let low = f.low in
      let high = f.high in
      record {
        at = f.at;
        low = omega arith;
        high = high;
        before = λ k a b stop. elim (cases_eq k i) [
          | inl same ↦ let now : test (get_or text i 0) ≡ true = subst (Passes test text) same stop in let both = sym later ∙ now in cc
          | inr other ↦ f.before k (omega arith) b stop
        ];
        here = f.here;
      }
]

-- a word with no refused byte, by its first blank
word_stands : (text : List ℕ) (start end : ℕ) → start < end → end < length text → begins (get_or text start 0) ≡ true → get_or text start 0 ≢ 34
    → ((k : ℕ) → start < k → k < end → 32 < get_or text k 0) → get_or text end 0 ≤ 32 → 0 < length (left_from text start).pieces
    → left_from text start ≡ before (piece_at Word text start end ∷ []) (left_from text end)
word_stands text start end some within opens plain inside low left =
    let f = first_found (stops 32) text (end - (start + 1)) (start + 1) end (omega arith) (low_stops (get_or text end 0) low) in
    let after = f.low in
    let near = f.high in
    let stop : IsFirst (Passes (stops 32) text) (start + 1) (length text) (Some f.at) = (record { low = f.low; high = omega arith; before = f.before }, f.here) in
    elim (cases_Bool (is_white (get_or text f.at 0))) [
      | inl white ↦
          let here = white_low (get_or text f.at 0) white in
          let same : f.at ≡ end = elim (cases_lt f.at end) [
            | inl earlier ↦ let high = inside f.at (omega arith) earlier in absurd (omega arith)
            | inr not_earlier ↦ omega arith
          ] in
          subst (λ (p : ℕ). left_from text start ≡ before (piece_at Word text start p ∷ []) (left_from text p)) same (word_before_white text start f.at (omega arith) opens plain stop white)
      | inr black ↦ absurd (none_left _ _ refl (word_refused text start f.at (omega arith) opens plain stop black) left)
    ]

-- the first token of some, where what is low stands before it and right after it
pub short_word : (text : List ℕ) (from start end : ℕ) → from ≤ start → start < end → end < length text
    → ((k : ℕ) → from ≤ k → k < start → get_or text k 0 ≤ 32) → 35 < get_or text start 0
    → ((k : ℕ) → start < k → k < end → 32 < get_or text k 0) → get_or text end 0 ≤ 32 → 0 < length (left_from text from).pieces
    → ComesFirst text from start end
short_word text from start end low some within blank high inside stop left =
    let byte = get_or text start 0 in
    let same = over_low text (start - from) from start (omega arith) (omega arith) blank left in
    let here = subst (λ (l : Lexed). 0 < length l.pieces) same left in
    let other : byte ≢ 127 = λ is. none_left _ _ refl (lex_refused text start _ (omega arith) (rw is refl)) here in
    let none : (byte == 34) ≡ false = false_from_ne_true (byte == 34) (λ h. let is : byte ≡ 34 = eqb-true _ _ h in omega arith) in
    record {
      low = low;
      some = some;
      high = omega arith;
      left = same ∙ rw none (word_stands text start end some within (plain_begins byte high other) (λ is. omega arith) inside stop here);
    }
