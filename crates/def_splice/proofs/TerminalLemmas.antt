-- The tokens of an entry of a net before and behind one of its terminals, counted.
use Rattle.std.proofs.Common.{◌≡◌, ◌≤◌, ◌+◌, ◌-◌, ℕ, Bool, true, false, not, List, [], ◌∷◌, length, take_while, drop, Some, refl, ap, ◌∙◌, arith, length-drop, length-append}
use Rattle.std.specs.List.{list_any}
use Rattle.std.proofs.lemmas.List.Sums.{take_while-cons}
use Rattle.form_meanings.specs.Meaning.{spell_all}
use Rattle.form_meanings.specs.Words.{Rest}
use Rattle.statement_model.specs.Form.{read, spell}
use Rattle.statement_model.specs.Tokens.{Token}
use Rattle.def_grammar.specs.Terminals.{Terminal, terminal}
use Rattle.lefdef_tokens.specs.Places.{behind, past}
use Rattle.lefdef_tokens.proofs.PlaceLemmas.{behind_is_drop}
use Rattle.edit_laws.proofs.NetEntries.{terminal_words}
use Rattle.edit_rules.specs.NetEdits.{before_terminal, front_of, is_terminal, tokens_of_first, tokens_of_terminals}
use Rattle.def_splice.specs.NetViews.{IsAround, tokens_before, tokens_taken}

past_two : (ps : List Token) → length (past 2 ps) ≡ length ps - 2
past_two [] = refl
past_two (p ∷ []) = refl
past_two (p ∷ q ∷ ps) = omega arith

left_behind : (ws : List (List ℕ)) (ps : List Token) → length (behind ws (past 2 ps)) ≡ (length ps - 2) - length ws
left_behind ws ps = ap length (behind_is_drop ws (past 2 ps)) ∙ length-drop (length ws) (past 2 ps) ∙ ap (λ (n : ℕ). n - length ws) (past_two ps)

-- the terminals of an entry stand behind its first two tokens, and so many are left behind them
module _ (ts : List Terminal) (ps : List Token) (left : ℕ) (is : left ≡ length (behind (spell_all (spell terminal) ts) (past 2 ps))) where
  pub left_within : left ≤ length ps
  left_within = let n = is ∙ left_behind (spell_all (spell terminal) ts) ps in omega (arith, n)

  pub end_is : front_of ts ≤ length ps → length ps - left ≡ front_of ts
  end_is fits = let n = is ∙ left_behind (spell_all (spell terminal) ts) ps in omega (arith, n, fits)

-- a terminal that is read leaves so many words fewer
pub words_left : (r : Rest) (t : Terminal) (later : Rest) → read terminal r ≡ Some (t, later) → length r.words ≡ length (spell terminal t) + length later.words
words_left r t later reads = ap length (terminal.exact.shows r (t, later) reads).words ∙ length-append (spell terminal t) later.words

-- the first of some elements passes a test, or doesn't
module _ {A : Type 0} (t : A → Bool) (x : A) (xs : List A) where
  none_first : t x ≡ true → take_while (λ y. not (t y)) (x ∷ xs) ≡ []
  none_first is = take_while-cons (λ y. not (t y)) x xs ∙ rw is refl

  one_first : t x ≡ false → take_while (λ y. not (t y)) (x ∷ xs) ≡ x ∷ take_while (λ y. not (t y)) xs
  one_first isnt = take_while-cons (λ y. not (t y)) x xs ∙ rw isnt refl

  any_here : t x ≡ true → list_any t (x ∷ xs) ≡ true
  any_here is = rw is refl

  any_later : t x ≡ false → list_any t (x ∷ xs) ≡ list_any t xs
  any_later isnt = rw isnt refl

module _ (c p : List ℕ) where
  -- the first terminal is this one, or another
  module _ (t : Terminal) (ts : List Terminal) where
    none_before : is_terminal c p t ≡ true → before_terminal c p (t ∷ ts) ≡ []
    none_before is = none_first (is_terminal c p) t ts is

    one_before : is_terminal c p t ≡ false → before_terminal c p (t ∷ ts) ≡ t ∷ before_terminal c p ts
    one_before isnt = one_first (is_terminal c p) t ts isnt

    here_before : is_terminal c p t ≡ true → tokens_before c p (t ∷ ts) ≡ 0
    here_before is = ap tokens_of_terminals (none_before is)

    here_taken : is_terminal c p t ≡ true → tokens_taken c p (t ∷ ts) ≡ length (spell terminal t)
    here_taken is = ap (λ (us : List Terminal). tokens_of_first (drop (length us) (t ∷ ts))) (none_before is)

    later_before : is_terminal c p t ≡ false → tokens_before c p (t ∷ ts) ≡ length (spell terminal t) + tokens_before c p ts
    later_before isnt = ap tokens_of_terminals (one_before isnt) ∙ length-append (spell terminal t) (spell_all (spell terminal) (before_terminal c p ts))

    later_taken : is_terminal c p t ≡ false → tokens_taken c p (t ∷ ts) ≡ tokens_taken c p ts
    later_taken isnt = ap (λ (us : List Terminal). tokens_of_first (drop (length us) (t ∷ ts))) (one_before isnt)

  -- terminals are passed, of which none is this one: these are left, with so many tokens
  pub record Going (all : List Terminal) (count : ℕ) (left : List Terminal) (here : ℕ) : Type 0 where
    pub listed : list_any (is_terminal c p) all ≡ list_any (is_terminal c p) left
    pub before : here + tokens_before c p all ≡ count + tokens_before c p left
    pub taken : tokens_taken c p all ≡ tokens_taken c p left

  pub start : (all : List Terminal) (count : ℕ) → Going all count all count
  start all count = record { listed = refl; before = refl; taken = refl }

  module _ (all : List Terminal) (count : ℕ) (left : List Terminal) (here : ℕ) (going : Going all count left here) (t : Terminal) (later : List Terminal) (next : left ≡ t ∷ later) (after : ℕ) (words : here ≡ length (spell terminal t) + after) where
    pub passed : is_terminal c p t ≡ false → Going all count later after
    passed isnt =
        let old = going.before ∙ ap (λ (ts : List Terminal). count + tokens_before c p ts) next in
        let now = later_before t later isnt in
        record {
          listed = going.listed ∙ ap (list_any (is_terminal c p)) next ∙ any_later (is_terminal c p) t later isnt;
          before = omega (arith, old, now, words);
          taken = going.taken ∙ ap (tokens_taken c p) next ∙ later_taken t later isnt;
        }

    pub found : is_terminal c p t ≡ true → IsAround c p all count here after
    found is =
        let old = going.before ∙ ap (λ (ts : List Terminal). count + tokens_before c p ts) next in
        let now = here_before t later is in
        let own : tokens_taken c p all ≡ length (spell terminal t) = going.taken ∙ ap (tokens_taken c p) next ∙ here_taken t later is in
        record {
          listed = going.listed ∙ ap (list_any (is_terminal c p)) next ∙ any_here (is_terminal c p) t later is;
          first = omega (arith, old, now);
          own = omega (arith, own, words);
          some = let long = terminal_words t in omega (arith, long, words);
        }

  pub none_found : (all : List Terminal) (count : ℕ) (left : List Terminal) (here : ℕ) → Going all count left here → left ≡ [] → list_any (is_terminal c p) all ≡ false
  none_found all count left here going none = going.listed ∙ ap (list_any (is_terminal c p)) none
