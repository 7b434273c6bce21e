-- The words of texts one after the other.
use Rattle.std.proofs.Common.{◌≡◌, ℕ, suc, ◌+◌, List, [], ◌∷◌, ◌++◌, length, map, zero-add, Ok, Err, refl, sym, ap, ap₂, subst, ◌∙◌, ⊎_elim, add-zero, append_assoc, arith, Result}
use Rattle.std.proofs.lemmas.List.{map-append}
use Rattle.design_model.specs.declared.fault.Fault.{Fault}
use Rattle.statement_model.specs.Tokens.{Open, Token, Lexed, lex, before, next_open, ended_by, is_refused, tokens}
use Rattle.statement_model.specs.Tokens.Open.{between, comment, word, string}
use Rattle.statement_model.specs.Boundaries.{words}
use Rattle.std.proofs.lemmas.Bool.{cases_Bool as cases}
use Rattle.lefdef_tokens.specs.Laws.{state_after, BeginsApart, moved_token, moved_end, moved}
use Rattle.lefdef_tokens.proofs.Joining.{tokens_join}
use Rattle.lefdef_tokens.proofs.Moving.{tokens_move}
use Rattle.splicing_laws.specs.SplicingLaws.{AreTokens, HasWords}

-- what is read ends where the text does
pub end_is : (text : List ℕ) (pos n : ℕ) (state : Open) → (lex pos state text).end ≡ Ok n → n ≡ pos + length text
unfolding lex
end_is [] pos n between e = let same : pos ≡ n = cc in omega arith
end_is [] pos n comment e = let same : pos ≡ n = cc in omega arith
end_is [] pos n (word start bytes) e = let same : pos ≡ n = cc in omega arith
end_is [] pos n (string start bytes last) e = absurd (cc)
end_is (b ∷ bs) pos n state e = ⊎_elim
    (λ refused. let h = rw refused at e in absurd (cc))
    (λ good. let h = rw good at e in let k = end_is bs (pos + 1) n (next_open pos state b) h in omega arith)
    (cases (is_refused b))

-- words are the same wherever they stand
moved_words : (k : ℕ) (ps : List Token) → words ps ≡ words (map (moved_token k) ps)
moved_words k [] = refl
moved_words k (p ∷ ps) = ap (λ (ws : List (List ℕ)). p.bytes ∷ ws) (moved_words k ps)

pub read_at : (text : List ℕ) (k : ℕ) → lex k between text ≡ moved k (tokens text)
read_at text k = ap (λ (j : ℕ). lex j between text) (sym (add-zero k)) ∙ tokens_move text k 0

-- a text from a place on that has these words
pub record HasWordsAt (k : ℕ) (text : List ℕ) (ws : List (List ℕ)) : Type 0 where
  pub words : words (lex k between text).pieces ≡ ws
  pub end : (lex k between text).end ≡ Ok (k + length text)

pub at_place : (text : List ℕ) (ws : List (List ℕ)) (k : ℕ) → HasWords text ws → HasWordsAt k text ws
at_place text ws k has = record {
  words = ap (λ (l : Lexed). words l.pieces) (read_at text k) ∙ (sym (moved_words k (tokens text).pieces) ∙ has.words);
  end = ap (λ (l : Lexed). l.end) (read_at text k) ∙ ap (moved_end k) has.end;
}

-- an end that was moved
pub end_at : (k n : ℕ) (end : Result ℕ Fault) → moved_end k end ≡ Ok n → (m : ℕ) × (end ≡ Ok m)
end_at k n (Ok m) e = (m, refl)
end_at k n (Err f) e = absurd (cc)

-- what is read from a place on
pub words_left : (text : List ℕ) (k n : ℕ) (ps : List Token) → lex k between text ≡ record { pieces = ps; end = Ok n } → HasWords text (words ps)
words_left text k n ps e =
    let here : moved k (tokens text) ≡ record { pieces = ps; end = Ok n } = sym (read_at text k) ∙ e in
    let end = end_at k n (tokens text).end (ap (λ (l : Lexed). l.end) here) in
    record {
      words = moved_words k (tokens text).pieces ∙ ap (λ (l : Lexed). words l.pieces) here;
      end = end.1 ∙ ap (λ (j : ℕ). Ok j) (end_is text 0 end.0 between end.1 ∙ zero-add (length text));
    }

-- what is left at a place is read as two
pub joined : (at : ℕ) (front rest : List ℕ) (ps : List Token) (ws : List (List ℕ)) → (lex at between front).pieces ≡ ps
    → lex at between (front ++ rest) ≡ before (lex at between front).pieces (lex (at + length front) between rest) → HasWords rest ws → HasWords (front ++ rest) (words ps ++ ws)
joined at front rest ps ws is e has =
    let later = at_place rest ws (at + length front) has in
    let qs = (lex (at + length front) between rest).pieces in
    let all : lex at between (front ++ rest) ≡ record { pieces = (lex at between front).pieces ++ qs; end = Ok (at + length front + length rest) }
    = e ∙ ap (λ (r : Result ℕ Fault). record { pieces = (lex at between front).pieces ++ qs; end = r }) later.end in
    subst (λ (vs : List (List ℕ)). HasWords (front ++ rest) vs)
    (map-append (λ (p : Token). p.bytes) (lex at between front).pieces qs ∙ ap₂ (λ (vs us : List (List ℕ)). vs ++ us) (ap words is) later.words)
    (words_left (front ++ rest) at (at + length front + length rest) ((lex at between front).pieces ++ qs) all)

-- whole tokens before a text that begins apart
pub tokens_before : (put rest : List ℕ) (ps : List Token) (ws : List (List ℕ)) → AreTokens put ps → BeginsApart rest → HasWords rest ws → HasWords (put ++ rest) (words ps ++ ws)
tokens_before put rest ps ws are apart has =
    joined 0 put rest ps ws are.pieces (tokens_join put rest (length put) are.end are.closed apart ∙ ap (λ (k : ℕ). before (tokens put).pieces (lex k between rest)) (sym (zero-add (length put)))) has

-- bytes after which nothing is open, before any text
pub closed_before : (front rest : List ℕ) (pos n : ℕ) (state : Open) → (lex pos state front).end ≡ Ok n → state_after pos state front ≡ between
    → lex pos state (front ++ rest) ≡ before (lex pos state front).pieces (lex (pos + length front) between rest)
unfolding lex state_after
closed_before [] rest pos n state ok closed = rw (add-zero, closed) refl
closed_before (b ∷ bs) rest pos n state ok closed = ⊎_elim
    (λ refused. let h = rw refused at ok in absurd (cc))
    (λ good.
    let h = rw good at ok in
    let later = closed_before bs rest (pos + 1) n (next_open pos state b) h closed in
    let sum : pos + suc (length bs) ≡ pos + 1 + length bs = omega arith in
    let behind = lex (pos + 1 + length bs) between rest in
    rw (good, sum) (ap (before (ended_by state b)) later ∙ ap (λ (ps : List Token). record { pieces = ps; end = behind.end }) (sym (append_assoc (ended_by state b) (lex (pos + 1) (next_open pos state b) bs).pieces behind.pieces))))
    (cases (is_refused b))

pub gap_before : (front rest : List ℕ) (n : ℕ) (ps : List Token) (ws : List (List ℕ)) → tokens front ≡ record { pieces = ps; end = Ok n } → state_after 0 between front ≡ between → HasWords rest ws
    → HasWords (front ++ rest) (words ps ++ ws)
gap_before front rest n ps ws is closed has = joined 0 front rest ps ws (ap (λ (l : Lexed). l.pieces) is) (closed_before front rest 0 n between (ap (λ (l : Lexed). l.end) is) closed) has

-- a text with a space before it
pub space_first : (text : List ℕ) (ws : List (List ℕ)) → HasWords text ws → HasWords (32 ∷ text) ws
unfolding lex
space_first text ws has =
    let later = at_place text ws 1 has in
    let long : 1 + length text ≡ suc (length text) = omega arith in
    record { words = later.words; end = later.end ∙ ap (λ (k : ℕ). Ok k) long }
