-- The tokens of two texts, one after the other.
use Rattle.std.proofs.Common.{◌≡◌, ℕ, suc, ◌+◌, Bool, true, false, List, [], ◌∷◌, ◌++◌, length, refl, sym, ap, ◌∙◌, append_assoc, add-zero, zero-add, arith, eqb-true, ◌&&◌, ◌||◌, not, ◌==◌, nat_lt, ⊎_elim, Ok}
use Rattle.std.proofs.lemmas.Bool.{cases_Bool}
use Rattle.statement_model.specs.Tokens.{Open, Token, lex, before, next_open, ended_by, at_end, is_white, is_refused}
use Rattle.statement_model.specs.Tokens.Open.{between, comment, word, string}
use Rattle.lefdef_tokens.specs.Laws.{state_after, IsClosed, BeginsApart, TokensJoin}

not_either : (x y z : Bool) → y ≡ true → z ≡ false → ((x && not y) || z) ≡ false
not_either true true z h no_z = no_z
not_either false true z h no_z = no_z
not_either x false z h no_z = cc

white_is_not_refused : (b : ℕ) → is_white b ≡ true → is_refused b ≡ false
white_is_not_refused b h = ⊎_elim
    (λ del. let h127 = rw (eqb-true b 127 del) at h in absurd (cc))
    (λ no_del. not_either (nat_lt b 32) (is_white b) (b == 127) h no_del)
    (cases_Bool (b == 127))

-- a word that ends where the text does, or before white space
closed_end : (pos : ℕ) (state : Open) (t : List ℕ) → IsClosed state → BeginsApart t → lex pos state t ≡ before (at_end pos state).pieces (lex pos between t)
unfolding lex
closed_end pos between t closed apart = refl
closed_end pos comment t closed apart = absurd closed
closed_end pos (string start bytes last) t closed apart = absurd closed
closed_end pos (word start bytes) [] closed apart = refl
closed_end pos (word start bytes) (b ∷ bs) closed apart = rw (white_is_not_refused b apart, apart) refl

pub join : (s t : List ℕ) (pos n : ℕ) (state : Open) → (lex pos state s).end ≡ Ok n → IsClosed (state_after pos state s) → BeginsApart t
    → lex pos state (s ++ t) ≡ before (lex pos state s).pieces (lex (pos + length s) between t)
unfolding lex state_after
join [] t pos n state ok closed apart = rw add-zero (closed_end pos state t closed apart)
join (b ∷ s) t pos n state ok closed apart = ⊎_elim
    (λ bad. let h = rw bad at ok in cc)
    (λ good.
    let h = rw good at ok in
    let later = join s t (pos + 1) n (next_open pos state b) h closed apart in
    let sum : pos + suc (length s) ≡ pos + 1 + length s = omega arith in
    rw (good, sum) (ap (before (ended_by state b)) later ∙ ap (λ (ps : List Token). record { pieces = ps; end = (lex (pos + 1 + length s) between t).end }) (sym (append_assoc (ended_by state b) (lex (pos + 1) (next_open pos state b) s).pieces (lex (pos + 1 + length s) between t).pieces))))
    (cases_Bool (is_refused b))

pub tokens_join : TokensJoin
tokens_join s t n ok closed apart = rw (← zero-add (length s)) (join s t 0 n between ok closed apart)
