-- The tokens of a text with changes of statements made.
use Rattle.std.proofs.Common.{◌≡◌, ◌≤◌, ◌<◌, ℕ, zero, suc, ◌+◌, ◌-◌, true, false, ◌==◌, List, [], ◌∷◌, ◌++◌, length, take, drop, Ok, arith, refl, sym, ap, ap₂, subst, ◌∙◌, ⊎_elim, append_assoc, append-nil, slice_range}
use Rattle.std.proofs.lemmas.Bool.{cases_Bool as cases, eqb-true}
use Rattle.std.proofs.lemmas.List.{map-append, take-append-drop, drop-drop, length-drop, length-take-le, take-map, drop-map}
use Rattle.statement_model.specs.Tokens.{Token, left_from}
use Rattle.statement_model.specs.Boundaries.{words}
use Rattle.statement_model.specs.Cuts.{Cut, cut_from, end_of, end_of_all}
use Rattle.statement_model.specs.Reading.{pos_of}
use Rattle.edit_rules.specs.Plans.{StatementChange, taken_tokens, tokens_before, put_apart, cut_of, cuts_for}
use Rattle.lefdef_tokens.specs.Laws.{BeginsApart}
use Rattle.splicing_laws.specs.KeepingLaws.{AreInOrder}
use Rattle.splicing_laws.specs.SplicingLaws.{AreTokens, HasWords, TokensBegin, TokensEnd, TokensArePut}
use Rattle.splicing_laws.proofs.SplicingTexts.{last_of_run}
use Rattle.splicing_laws.proofs.SplicingWords.{words_left}
use Rattle.edit_laws.specs.StatementLaws.{changed_words, BeginsWhite}
use Rattle.edit_laws.proofs.PutApart.{put_before, white_first}

-- four lists in a row
regrouped : {A : Type 0} (a b c d e : List A) → a ++ ((b ++ (c ++ d)) ++ e) ≡ (a ++ b) ++ (c ++ (d ++ e))
regrouped {A = A} a b c d e =
    ap (λ (z : List A). a ++ z) (append_assoc b (c ++ d) e ∙ ap (λ (z : List A). b ++ z) (append_assoc c d e))
    ∙ sym (append_assoc a b (c ++ (d ++ e)))

words_of_two : (ps qs : List Token) → words (ps ++ qs) ≡ words ps ++ words qs
words_of_two ps qs = map-append (λ (p : Token). p.bytes) ps qs

-- what a change has for its tokens
pub record IsPut (ps : List Token) (c : StatementChange) (put : List Token) : Type 0 where
  pub tokens : AreTokens c.put put
  pub some : 0 < length ps
  pub within : c.before + c.taken ≤ length ps
  pub apart : c.taken ≡ 0 → 0 < c.before → BeginsWhite c.put

module _ (c : StatementChange) (ps : List Token) where
  -- the tokens after those that the change takes
  abbrev pub tokens_after : List Token
  tokens_after = drop (c.before + c.taken) ps

  whole_of : ps ≡ tokens_before c ps ++ (taken_tokens c ps ++ tokens_after)
  whole_of =
      let rest = drop c.before ps in
      sym (take-append-drop c.before ps)
      ∙ ap (λ (l : List Token). tokens_before c ps ++ l) (sym (take-append-drop c.taken rest) ∙ ap (λ (l : List Token). taken_tokens c ps ++ l) (drop-drop c.taken c.before ps))

  -- the words around what is taken
  words_before : words (tokens_before c ps) ≡ take c.before (words ps)
  words_before = sym (take-map (λ (p : Token). p.bytes) c.before ps)

  words_after : words tokens_after ≡ drop (c.before + c.taken) (words ps)
  words_after = sym (drop-map (λ (p : Token). p.bytes) (c.before + c.taken) ps)

  -- where a change stands: some tokens are taken, or none, after another or before the first
  data Place : Type 0 where
    taken : (p : Token) (run : List Token) → taken_tokens c ps ≡ p ∷ run → (c.taken == 0) ≡ false → Place
    after_one : (before : List Token) (p : Token) → tokens_before c ps ≡ before ++ p ∷ [] → c.taken ≡ 0 → (c.before == 0) ≡ false → 0 < c.before → Place
    at_first : (p : Token) (run : List Token) → ps ≡ p ∷ run → c.before ≡ 0 → c.taken ≡ 0 → Place

  first_of : (run : List Token) → 0 < length run → (p : Token) × (rest : List Token) × (run ≡ p ∷ rest)
  first_of [] some = absurd (omega arith)
  first_of (p ∷ rest) some = (p, rest, refl)

  last_of_some : (run : List Token) → 0 < length run → (before : List Token) × (p : Token) × (run ≡ before ++ p ∷ [])
  last_of_some [] some = absurd (omega arith)
  last_of_some (p ∷ []) some = ([], p, refl)
  last_of_some (p ∷ q ∷ qs) some = let later = last_of_some (q ∷ qs) (omega arith) in (p ∷ later.0, later.1, ap (λ (l : List Token). p ∷ l) later.2)

  none_place : c.taken ≡ 0 → c.before + c.taken ≤ length ps → 0 < length ps → Place
  none_place none within some = ⊎_elim
      (λ (is : (c.before == 0) ≡ true). let first = first_of ps some in at_first first.0 first.1 first.2 (eqb-true c.before 0 is) none)
      (λ (not_zero : (c.before == 0) ≡ false).
      let positive : 0 < c.before = grind (arith, not_zero) in
      let long : length (tokens_before c ps) ≡ c.before = length-take-le c.before ps (omega arith) in
      let last = last_of_some (tokens_before c ps) (omega arith) in
      after_one last.0 last.1 last.2 none not_zero positive)
      (cases (c.before == 0))

  place_of : c.before + c.taken ≤ length ps → 0 < length ps → Place
  place_of within some = ⊎_elim
      (λ (is : (c.taken == 0) ≡ true). none_place (eqb-true c.taken 0 is) within some)
      (λ (not_zero : (c.taken == 0) ≡ false).
      let long : length (taken_tokens c ps) ≡ c.taken = length-take-le c.taken (drop c.before ps) (omega (arith, length-drop c.before ps)) in
      let positive : 0 < c.taken = grind (arith, not_zero) in
      let first = first_of (taken_tokens c ps) (omega arith) in
      taken first.0 first.1 first.2 not_zero)
      (cases (c.taken == 0))

end_of_last : (ps : List Token) (p : Token) → end_of_all (ps ++ p ∷ []) ≡ end_of p
end_of_last [] p = refl
end_of_last (q ∷ []) p = refl
end_of_last (q ∷ r ∷ rs) p = end_of_last (r ∷ rs) p

-- A cut from a place on, before tokens that are left there, which is made of bytes that are tokens: whatever comes to
-- stand behind it, and begins apart where what was left does, has its own words after those around the cut.
record Step (text : List ℕ) (at n : ℕ) (front : List Token) (cut : Cut) (put behind : List Token) : Type 0 where
  forward : at ≤ cut.lo
  ordered : cut.lo ≤ cut.hi
  within : cut.hi ≤ length text
  left : left_from text cut.hi ≡ record { pieces = behind; end = Ok n }
  apart : BeginsApart (drop at text) → at < cut.lo
  has : (rest : List ℕ) (ws : List (List ℕ)) → (BeginsApart (drop cut.hi text) → BeginsApart rest) → HasWords rest ws → HasWords (slice_range text at cut.lo ++ (cut.put ++ rest)) (words front ++ (words put ++ ws))

module _ (begin_so : TokensBegin) (end_so : TokensEnd) (put_so : TokensArePut) (text : List ℕ) (at n : ℕ) (at_within : at ≤ length text) where
  -- in the place of a run
  run_step : (front run behind put : List Token) (p : Token) (bytes : List ℕ) → AreTokens bytes put → left_from text at ≡ record { pieces = front ++ ((p ∷ run) ++ behind); end = Ok n }
      → Step text at n front (put_apart text p.pos (end_of_all (p ∷ run)) bytes) put behind
  run_step front run behind put p bytes are e =
      let begin = begin_so text at n front (run ++ behind) p at_within e in
      let last = last_of_run p run in
      let split : p ∷ (run ++ behind) ≡ last.0 ++ last.1 ∷ behind = ap (λ (ps : List Token). ps ++ behind) last.2 ∙ append_assoc last.0 (last.1 ∷ []) behind in
      let end = end_so text p.pos n last.0 behind last.1 begin.within (begin.left ∙ ap (λ (ps : List Token). record { pieces = ps; end = Ok n }) split) in
      let same = last.3 in
      record {
        forward = begin.forward;
        ordered = rw same end.forward;
        within = rw same end.within;
        left = rw same end.left;
        apart = begin.apart;
        has = λ rest ws alike has. begin.front ((bytes ++ _) ++ rest) (words put ++ ws) (put_before put_so bytes (drop (end_of_all (p ∷ run)) text) rest put ws are alike has);
      }

  -- right behind a token
  behind_step : (front behind put : List Token) (p : Token) (bytes : List ℕ) → AreTokens bytes put → BeginsWhite bytes → left_from text at ≡ record { pieces = front ++ p ∷ behind; end = Ok n }
      → Step text at n (front ++ p ∷ []) (put_apart text (end_of p) (end_of p) bytes) put behind
  behind_step front behind put p bytes are white e =
      let begin = begin_so text at n front behind p at_within e in
      let end = end_so text at n front behind p at_within e in
      record {
        forward = end.forward;
        ordered = omega arith;
        within = end.within;
        left = end.left;
        apart = λ apart. let later = begin.apart apart in omega arith;
        has = λ rest ws alike has. end.front ((bytes ++ _) ++ rest) (words put ++ ws) (white_first bytes _ rest white) (put_before put_so bytes (drop (end_of p) text) rest put ws are alike has);
      }

  -- where a token begins
  first_step : (front run put : List Token) (p : Token) (bytes : List ℕ) → AreTokens bytes put → left_from text at ≡ record { pieces = front ++ p ∷ run; end = Ok n }
      → Step text at n front (put_apart text p.pos p.pos bytes) put (p ∷ run)
  first_step front run put p bytes are e =
      let begin = begin_so text at n front run p at_within e in
      record {
        forward = begin.forward;
        ordered = omega arith;
        within = begin.within;
        left = begin.left;
        apart = begin.apart;
        has = λ rest ws alike has. begin.front ((bytes ++ _) ++ rest) (words put ++ ws) (put_before put_so bytes (drop p.pos text) rest put ws are alike has);
      }

  module _ (c : StatementChange) (front ps behind put : List Token) (ok : IsPut ps c put) (e : left_from text at ≡ record { pieces = front ++ (ps ++ behind); end = Ok n }) where
    abbrev Stepped : Type 0
    Stepped = Step text at n (front ++ tokens_before c ps) (cut_of text ps c) put (tokens_after c ps ++ behind)

    -- all tokens, by those that the change takes
    in_parts : front ++ (ps ++ behind) ≡ (front ++ tokens_before c ps) ++ (taken_tokens c ps ++ (tokens_after c ps ++ behind))
    in_parts = ap (λ (l : List Token). front ++ (l ++ behind)) (whole_of c ps) ∙ regrouped front (tokens_before c ps) (taken_tokens c ps) (tokens_after c ps) behind

    left_is : (all : List Token) → front ++ (ps ++ behind) ≡ all → left_from text at ≡ record { pieces = all; end = Ok n }
    left_is all same = e ∙ ap (λ (qs : List Token). record { pieces = qs; end = Ok n }) same

    step_taken : (p : Token) (run : List Token) → taken_tokens c ps ≡ p ∷ run → (c.taken == 0) ≡ false → Stepped
    step_taken p run is some =
        let cut : cut_of text ps c ≡ put_apart text p.pos (end_of_all (p ∷ run)) c.put = rw some (ap (λ (qs : List Token). put_apart text (pos_of qs) (end_of_all qs) c.put) is) in
        let all = in_parts ∙ ap (λ (l : List Token). (front ++ tokens_before c ps) ++ (l ++ (tokens_after c ps ++ behind))) is in
        subst (λ (d : Cut). Step text at n (front ++ tokens_before c ps) d put (tokens_after c ps ++ behind)) (sym cut)
        (run_step (front ++ tokens_before c ps) run (tokens_after c ps ++ behind) put p c.put ok.tokens (left_is _ all))

    step_behind : (before : List Token) (p : Token) → tokens_before c ps ≡ before ++ p ∷ [] → c.taken ≡ 0 → (c.before == 0) ≡ false → 0 < c.before → Stepped
    step_behind before p is none not_zero some =
        let none_taken : taken_tokens c ps ≡ [] = ap (λ (k : ℕ). take k (drop c.before ps)) none in
        let zero_is : (c.taken == 0) ≡ true = ap (λ (k : ℕ). k == 0) none in
        let same : end_of_all (tokens_before c ps) ≡ end_of p = ap end_of_all is ∙ end_of_last before p in
        let cut : cut_of text ps c ≡ put_apart text (end_of p) (end_of p) c.put = rw (zero_is, not_zero) (ap (λ (k : ℕ). put_apart text k k c.put) same) in
        let rest = tokens_after c ps ++ behind in
        let front_is : front ++ tokens_before c ps ≡ (front ++ before) ++ p ∷ [] = ap (λ (l : List Token). front ++ l) is ∙ sym (append_assoc front before (p ∷ [])) in
        let all = in_parts
        ∙ (ap (λ (l : List Token). (front ++ tokens_before c ps) ++ (l ++ rest)) none_taken
        ∙ (ap (λ (l : List Token). l ++ rest) front_is ∙ append_assoc (front ++ before) (p ∷ []) rest)) in
        subst (λ (d : Cut). Step text at n (front ++ tokens_before c ps) d put rest) (sym cut)
        (subst (λ (l : List Token). Step text at n l (put_apart text (end_of p) (end_of p) c.put) put rest) (sym front_is)
        (behind_step (front ++ before) rest put p c.put ok.tokens (ok.apart none some) (left_is _ all)))

    step_first : (p : Token) (run : List Token) → ps ≡ p ∷ run → c.before ≡ 0 → c.taken ≡ 0 → Stepped
    step_first p run is zero_before none =
        let zero_is : (c.taken == 0) ≡ true = ap (λ (k : ℕ). k == 0) none in
        let first_is : (c.before == 0) ≡ true = ap (λ (k : ℕ). k == 0) zero_before in
        let cut : cut_of text ps c ≡ put_apart text p.pos p.pos c.put = rw (zero_is, first_is) (ap (λ (qs : List Token). put_apart text (pos_of qs) (pos_of qs) c.put) is) in
        let none_before : front ++ tokens_before c ps ≡ front = ap (λ (k : ℕ). front ++ take k ps) zero_before ∙ append-nil front in
        let all_after : tokens_after c ps ++ behind ≡ p ∷ (run ++ behind) = ap₂ (λ (j k : ℕ). drop (j + k) ps ++ behind) zero_before none ∙ ap (λ (l : List Token). l ++ behind) is in
        subst (λ (d : Cut). Step text at n (front ++ tokens_before c ps) d put (tokens_after c ps ++ behind)) (sym cut)
        (subst (λ (l : List Token). Step text at n (front ++ tokens_before c ps) (put_apart text p.pos p.pos c.put) put l) (sym all_after)
        (subst (λ (l : List Token). Step text at n l (put_apart text p.pos p.pos c.put) put (p ∷ (run ++ behind))) (sym none_before)
        (first_step front (run ++ behind) put p c.put ok.tokens (left_is _ (ap (λ (l : List Token). front ++ (l ++ behind)) is)))))

    step : Stepped
    step = by (place_of c ps ok.within ok.some)
      where
        by : Place c ps → Stepped
        by (taken p run is some) = step_taken p run is some
        by (after_one before p is none not_zero some) = step_behind before p is none not_zero some
        by (at_first p run is zero_before none) = step_first p run is zero_before none

-- changes that stand in tokens, in their order
abbrev pub Standing : List Token → List (List Token × StatementChange) → Type 0
Standing pieces [] = Unit {0}
Standing pieces (x ∷ xs) = (front : List Token) × (behind : List Token) × (put : List Token) × (pieces ≡ front ++ (x.0 ++ behind)) × IsPut x.0 x.1 put × Standing behind xs

-- the words with these made
abbrev pub new_words : (pieces : List Token) (xs : List (List Token × StatementChange)) → Standing pieces xs → List (List ℕ)
new_words pieces [] s = words pieces
new_words pieces (x ∷ xs) s = words s.0 ++ (changed_words x.1 (words s.2) (words x.0) ++ new_words s.1 xs s.5)

first_apart : (left : List ℕ) (k : ℕ) (rest : List ℕ) → k ≤ length left → 0 < k → BeginsApart left → BeginsApart (take k left ++ rest)
first_apart [] k rest within some apart = absurd (omega arith)
first_apart (b ∷ bs) zero rest within some apart = absurd (omega arith)
first_apart (b ∷ bs) (suc k) rest within some apart = apart

-- the words around a change and after it
words_made : (c : StatementChange) (extra front ps put : List Token) (later : List (List ℕ))
    → words ((extra ++ front) ++ tokens_before c ps) ++ (words put ++ (words (tokens_after c ps) ++ later)) ≡ words extra ++ (words front ++ (changed_words c (words put) (words ps) ++ later))
words_made c extra front ps put later =
    let before = take c.before (words ps) in
    let after = drop (c.before + c.taken) (words ps) in
    let around : words ((extra ++ front) ++ tokens_before c ps) ≡ (words extra ++ words front) ++ before
    = words_of_two (extra ++ front) (tokens_before c ps) ∙ ap₂ (λ (vs us : List (List ℕ)). vs ++ us) (words_of_two extra front) (words_before c ps) in
    ap₂ (λ (vs us : List (List ℕ)). vs ++ (words put ++ (us ++ later))) around (words_after c ps)
    ∙ (sym (regrouped (words extra ++ words front) before (words put) after later) ∙ append_assoc (words extra) (words front) ((before ++ (words put ++ after)) ++ later))

-- what is left of a text at a place, with changes made
pub record IsMade (text : List ℕ) (at : ℕ) (cuts : List Cut) (ws : List (List ℕ)) : Type 0 where
  pub has : HasWords (cut_from at cuts text) ws
  pub order : AreInOrder at cuts (length text)
  pub alike : BeginsApart (drop at text) → BeginsApart (cut_from at cuts text)

module _ (begin_so : TokensBegin) (end_so : TokensEnd) (put_so : TokensArePut) (text : List ℕ) where
  pub changes_made : (xs : List (List Token × StatementChange)) (at n : ℕ) (extra pieces : List Token) → at ≤ length text → left_from text at ≡ record { pieces = extra ++ pieces; end = Ok n } → (s : Standing pieces xs)
      → IsMade text at (cuts_for text xs) (words extra ++ new_words pieces xs s)
  changes_made [] at n extra pieces within e s = record {
    has = subst (λ (ws : List (List ℕ)). HasWords (drop at text) ws) (words_of_two extra pieces) (words_left (drop at text) at n (extra ++ pieces) e);
    order = within;
    alike = λ apart. apart;
  }
  changes_made (x ∷ xs) at n extra pieces within e s =
      let c = x.1 in
      let ps = x.0 in
      let all : extra ++ pieces ≡ (extra ++ s.0) ++ (ps ++ s.1) = ap (λ (l : List Token). extra ++ l) s.3 ∙ sym (append_assoc extra s.0 (ps ++ s.1)) in
      let cut = cut_of text ps c in
      let one = step begin_so end_so put_so text at n within c (extra ++ s.0) ps s.1 s.2 s.4 (e ∙ ap (λ (qs : List Token). record { pieces = qs; end = Ok n }) all) in
      let later = changes_made xs cut.hi n (tokens_after c ps) s.1 one.within one.left s.5 in
      let left = cut_from cut.hi (cuts_for text xs) text in
      let ordered = one.ordered in
      let cut_within = one.within in
      record {
        has = subst (λ (ws : List (List ℕ)). HasWords (slice_range text at cut.lo ++ (cut.put ++ left)) ws) (words_made c extra s.0 ps s.2 (new_words s.1 xs s.5))
            (one.has left (words (tokens_after c ps) ++ new_words s.1 xs s.5) later.alike later.has);
        order = (one.forward, one.ordered, later.order);
        alike = λ apart.
            let some = one.apart apart in
            first_apart (drop at text) (cut.lo - at) (cut.put ++ left) (omega (arith, length-drop at text, ordered, cut_within, some)) (omega (arith, some)) apart;
      }
