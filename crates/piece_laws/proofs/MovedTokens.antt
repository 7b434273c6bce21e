-- Tokens and statements that stand later in a text.
use Rattle.std.proofs.Common.{◌≡◌, ℕ, ◌+◌, Bool, true, false, if◌then◌else◌, ◌==◌, List, [], ◌∷◌, ◌++◌, map, Some, refl, sym, ap, ◌∙◌, ⊎_elim, append_assoc, add-zero, arith}
use Rattle.std.proofs.lemmas.Bool.{cases_Bool as cases}
use Rattle.std.proofs.lemmas.List.{map-append}
use Rattle.form_meanings.proofs.Steps.{some_same}
use Rattle.statement_model.specs.Tokens.{Open, Token, next_open, is_white, closes}
use Rattle.statement_model.specs.Tokens.Open.{between, comment, word, string}
use Rattle.statement_model.specs.Boundaries.{Ending, words, last_of, is_whole, cut}
use Rattle.lefdef_tokens.specs.Laws.{state_after, IsClosed, moved_token, moved_state}

-- words are the same wherever they stand
pub moved_words : (k : ℕ) (ps : List Token) → words (map (moved_token k) ps) ≡ words ps
moved_words k [] = refl
moved_words k (p ∷ ps) = ap (λ (ws : List (List ℕ)). p.bytes ∷ ws) (moved_words k ps)

last_moved : (k : ℕ) (p : Token) (ps : List Token) → (last_of (moved_token k p) (map (moved_token k) ps)).bytes ≡ (last_of p ps).bytes
unfolding last_of
last_moved k p [] = refl
last_moved k p (q ∷ qs) = last_moved k q qs

pub whole_moved : (e : List ℕ → Ending) (k : ℕ) (ps : List Token) → is_whole e (map (moved_token k) ps) ≡ is_whole e ps
whole_moved e k [] = refl
whole_moved e k (p ∷ []) = refl
whole_moved e k (p ∷ q ∷ qs) = rw (last_moved k q qs) refl

pub one_longer : (k : ℕ) (begun : List Token) (p : Token) → map (moved_token k) (begun ++ p ∷ []) ≡ map (moved_token k) begun ++ moved_token k p ∷ []
one_longer k begun p = map-append (moved_token k) begun (p ∷ [])

-- a statement that is cut is cut wherever it stands
pub cut_moved : (e : List ℕ → Ending) (k : ℕ) (begun ps s rest : List Token) → cut e begun ps ≡ Some (s, rest)
    → cut e (map (moved_token k) begun) (map (moved_token k) ps) ≡ Some (map (moved_token k) s, map (moved_token k) rest)
unfolding cut
cut_moved e k begun [] s rest h = absurd (cc)
cut_moved e k begun (p ∷ ps) s rest h = ⊎_elim
    (λ whole.
    let there = rw whole at h in
    let x : List Token × List Token = (begun ++ p ∷ [], ps) in
    let y : List Token × List Token = (s, rest) in
    let same = some_same x y there in
    let here : is_whole e (map (moved_token k) begun ++ moved_token k p ∷ []) ≡ true = rw (← one_longer k begun p) (whole_moved e k (begun ++ p ∷ []) ∙ whole) in
    rw (here, ← one_longer k begun p) (ap (λ (z : List Token × List Token). Some (map (moved_token k) z.0, map (moved_token k) z.1)) same))
    (λ more.
    let there = rw more at h in
    let here : is_whole e (map (moved_token k) begun ++ moved_token k p ∷ []) ≡ false = rw (← one_longer k begun p) (whole_moved e k (begun ++ p ∷ []) ∙ more) in
    rw (here, ← one_longer k begun p) (cut_moved e k (begun ++ p ∷ []) ps s rest there))
    (cases (is_whole e (begun ++ p ∷ [])))

module _ (e : List ℕ → Ending) where
  none_moved : (k : ℕ) (ps : List Token) → map (moved_token k) ps ≡ [] → ps ≡ []
  none_moved k [] h = refl
  none_moved k (p ∷ ps) h = absurd (cc)

  -- tokens that are one statement are so wherever they stand
  pub cut_back : (k : ℕ) (begun ps s : List Token) → cut e (map (moved_token k) begun) (map (moved_token k) ps) ≡ Some (s, []) → cut e begun ps ≡ Some (begun ++ ps, [])
  unfolding cut
  cut_back k begun [] s h = absurd (cc)
  cut_back k begun (p ∷ ps) s h = ⊎_elim
      (λ whole.
      let here : is_whole e (map (moved_token k) begun ++ moved_token k p ∷ []) ≡ true = rw (← one_longer k begun p) (whole_moved e k (begun ++ p ∷ []) ∙ whole) in
      let there = rw here at h in
      let x : List Token × List Token = (map (moved_token k) begun ++ moved_token k p ∷ [], map (moved_token k) ps) in
      let y : List Token × List Token = (s, []) in
      let none = none_moved k ps (ap (λ (z : List Token × List Token). z.1) (some_same x y there)) in
      rw (whole, none) refl)
      (λ no.
      let here : is_whole e (map (moved_token k) begun ++ moved_token k p ∷ []) ≡ false = rw (← one_longer k begun p) (whole_moved e k (begun ++ p ∷ []) ∙ no) in
      let there = rw here at h in
      let longer : cut e (map (moved_token k) (begun ++ p ∷ [])) (map (moved_token k) ps) ≡ Some (s, []) = rw (one_longer k begun p) there in
      rw no (cut_back k (begun ++ p ∷ []) ps s longer ∙ ap (λ (z : List Token). Some (z, [])) (append_assoc begun (p ∷ []) ps)))
      (cases (is_whole e (begun ++ p ∷ [])))

-- what is open after bytes that stand later
push_if : {A B : Type 0} (f : A → B) (b : Bool) (x y : A) → (if b then f x else f y) ≡ f (if b then x else y)
push_if f true x y = refl
push_if f false x y = refl

push_ifs : {A B : Type 0} (f : A → B) (a b c : Bool) (x y z w : A) → (if a then f x else (if b then f y else (if c then f z else f w))) ≡ f (if a then x else (if b then y else (if c then z else w)))
push_ifs f true b c x y z w = refl
push_ifs f false true c x y z w = refl
push_ifs f false false true x y z w = refl
push_ifs f false false false x y z w = refl

moved_open : (k pos b : ℕ) (s : Open) → next_open (k + pos) (moved_state k s) b ≡ moved_state k (next_open pos s b)
moved_open k pos b between = push_ifs (moved_state k) (is_white b) (b == 35) (b == 34) between comment (string pos (b ∷ []) b) (word pos (b ∷ []))
moved_open k pos b comment = push_if (moved_state k) (b == 10) between comment
moved_open k pos b (word start bytes) = push_if (moved_state k) (is_white b) between (word start (bytes ++ b ∷ []))
moved_open k pos b (string start bytes last) = push_if (moved_state k) (closes last b) between (string start (bytes ++ b ∷ []) b)

state_moved : (bytes : List ℕ) (k pos : ℕ) (s : Open) → state_after (k + pos) (moved_state k s) bytes ≡ moved_state k (state_after pos s bytes)
unfolding state_after
state_moved [] k pos s = refl
state_moved (b ∷ bs) k pos s =
    let e : k + pos + 1 ≡ k + (pos + 1) = omega arith in
    rw (e, moved_open k pos b s) (state_moved bs k (pos + 1) (next_open pos s b))

closed_later : (k : ℕ) (s : Open) → IsClosed s → IsClosed (moved_state k s)
closed_later k between closed = tt
closed_later k comment closed = closed
closed_later k (word start bytes) closed = tt
closed_later k (string start bytes last) closed = closed

pub closed_at : (bytes : List ℕ) (k : ℕ) → IsClosed (state_after 0 between bytes) → IsClosed (state_after k between bytes)
closed_at bytes k closed =
    let same : state_after k between bytes ≡ moved_state k (state_after 0 between bytes) = ap (λ (j : ℕ). state_after j between bytes) (sym (add-zero k)) ∙ state_moved bytes k 0 between in
    rw same (closed_later k (state_after 0 between bytes) closed)

closed_back : (k : ℕ) (s : Open) → IsClosed (moved_state k s) → IsClosed s
closed_back k between closed = tt
closed_back k comment closed = closed
closed_back k (word start bytes) closed = tt
closed_back k (string start bytes last) closed = closed

pub closed_first : (bytes : List ℕ) (k : ℕ) → IsClosed (state_after k between bytes) → IsClosed (state_after 0 between bytes)
closed_first bytes k closed =
    let same : state_after k between bytes ≡ moved_state k (state_after 0 between bytes) = ap (λ (j : ℕ). state_after j between bytes) (sym (add-zero k)) ∙ state_moved bytes k 0 between in
    let there = rw same at closed in
    closed_back k (state_after 0 between bytes) there
