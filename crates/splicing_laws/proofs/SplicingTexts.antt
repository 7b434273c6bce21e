-- Texts with other bytes put in.
use Rattle.std.proofs.Common.{◌≡◌, ◌≤◌, ◌<◌, inl, inr, ℕ, ◌+◌, ◌-◌, List, [], ◌∷◌, ◌++◌, length, take, drop, Ok, Result, refl, sym, ap, ap₂, ◌∙◌, subst, arith, length-append, take_at, drop_at, slice_range}
use Rattle.std.proofs.lemmas.List.{append_cancel_left, drop-drop, length-drop}
use Rattle.design_model.specs.declared.fault.Fault.{Fault}
use Rattle.statement_model.specs.Tokens.{Open, Token, Lexed, lex, before, tokens}
use Rattle.statement_model.specs.Tokens.Open.{between}
use Rattle.statement_model.specs.Boundaries.{words}
use Rattle.statement_model.specs.Cuts.{end_of, end_of_all}
use Rattle.lefdef_tokens.specs.Laws.{BeginsApart}
use Rattle.lefdef_tokens.proofs.Joining.{join}
use Rattle.splicing_laws.specs.SplicingLaws.{HasWords, TokensBegin, TokensEnd, TokensArePut}
use Rattle.splicing_laws.proofs.PutTokens.{white_is_not_refused}
use Rattle.splicing_laws.proofs.SplicingParts.{Part, none_is_one}
use Rattle.splicing_laws.proofs.SplicingEnds.{Ends, ends}
use Rattle.splicing_laws.proofs.SplicingPlaces.{Starts, token_starts}
use Rattle.splicing_laws.proofs.SplicingWords.{closed_before, gap_before, joined, tokens_before}

module _ (Left : Open → List ℕ → Type 0) (state : Open) (text : List ℕ) (at : ℕ) (ps : List Token) (to : ℕ) (part : Part Left at state (drop at text) ps to) where
  -- the bytes of a part of what is left at a place, and those after it
  pub part_front : slice_range text at to ≡ part.front
  part_front =
      let place = part.place in
      let long : length part.front ≡ to - at = omega arith in
      ap (take (to - at)) part.whole ∙ take_at part.front part.rest (to - at) long

  pub part_rest : drop to text ≡ part.rest
  part_rest =
      ap (λ (k : ℕ). drop k text) (sym part.place)
      ∙ (sym (drop-drop (length part.front) at text) ∙ (ap (drop (length part.front)) part.whole ∙ drop_at part.front part.rest (length part.front) refl))

  -- it ends within the text
  part_within : at ≤ length text → to ≤ length text
  part_within at_within =
      let place = part.place in
      let all : length (drop at text) ≡ length (part.front ++ part.rest) = ap length part.whole in
      omega (arith, all, length-drop at text, length-append part.front part.rest)

-- what is read after some tokens
pub behind : (ps qs : List Token) (l : Lexed) (end : Result ℕ Fault) → before ps l ≡ record { pieces = ps ++ qs; end = end } → l ≡ record { pieces = qs; end = end }
behind ps qs l end e =
    let pieces : l.pieces ≡ qs = append_cancel_left ps l.pieces qs (ap (λ (k : Lexed). k.pieces) e) in
    let ends : l.end ≡ end = ap (λ (k : Lexed). k.end) e in
    ap₂ (λ (rs : List Token) (r : Result ℕ Fault). record { pieces = rs; end = r }) pieces ends

-- what is read from the place of a token on
pub from_token : (bytes : List ℕ) (at : ℕ) (first run : List Token) (p : Token) (end : Result ℕ Fault) (part : Starts at between bytes first p) → lex at between bytes ≡ record { pieces = first ++ run; end = end }
    → lex p.pos between part.rest ≡ record { pieces = run; end = end }
from_token bytes at first run p end part is =
    let ended : (lex at between part.front).end ≡ Ok p.pos = ap (λ (l : Lexed). l.end) part.read in
    let both : lex at between bytes ≡ before (lex at between part.front).pieces (lex (at + length part.front) between part.rest)
    = ap (lex at between) part.whole ∙ closed_before part.front part.rest at p.pos between ended part.left in
    let parted : lex at between bytes ≡ before first (lex p.pos between part.rest)
    = both ∙ ap₂ (λ (ps : List Token) (k : ℕ). before ps (lex k between part.rest)) (ap (λ (l : Lexed). l.pieces) part.read) part.place in
    behind first run (lex p.pos between part.rest) end (sym parted ∙ is)

-- the last of some tokens, and those before it
abbrev pub LastOf : Token → List Token → Type 0
LastOf p run = (first : List Token) × (last : Token) × (p ∷ run ≡ first ++ last ∷ []) × (end_of_all (p ∷ run) ≡ end_of last)

pub last_of_run : (p : Token) (run : List Token) → LastOf p run
last_of_run p [] = ([], p, refl, refl)
last_of_run p (q ∷ qs) = let later = last_of_run q qs in (p ∷ later.0, later.1, ap (λ (ps : List Token). p ∷ ps) later.2, later.3)

-- no token begins with white space
begins_later : (bytes : List ℕ) (at n : ℕ) (first after : List Token) (p : Token) → lex at between bytes ≡ record { pieces = first ++ p ∷ after; end = Ok n } → BeginsApart bytes → at < p.pos
unfolding lex
begins_later [] at n first after p e apart = absurd (none_is_one first after p (ap (λ (l : Lexed). l.pieces) e))
begins_later (b ∷ bytes) at n first after p e apart =
    let h = rw (white_is_not_refused b apart, apart) at e in
    let part = token_starts bytes (at + 1) (Ok n) first after p h in
    let place = part.place in
    omega arith

pub tokens_begin : TokensBegin
tokens_begin text at n first after p within e =
    let part = token_starts (drop at text) at (Ok n) first after p e in
    let place = part.place in
    let ended : (lex at between part.front).end ≡ Ok p.pos = ap (λ (l : Lexed). l.end) part.read in
    record {
      forward = omega arith;
      within = part_within _ between text at first p.pos part within;
      apart = begins_later (drop at text) at n first after p e;
      left = ap (lex p.pos between) (part_rest _ between text at first p.pos part) ∙ from_token (drop at text) at first (p ∷ after) p (Ok n) part e;
      front = λ rest ws has. subst (λ (front : List ℕ). HasWords (front ++ rest) (words first ++ ws)) (sym (part_front _ between text at first p.pos part))
          (joined at part.front rest first ws (ap (λ (l : Lexed). l.pieces) part.read) (closed_before part.front rest at p.pos between ended part.left) has);
    }

pub tokens_end : TokensEnd
tokens_end text at n first after p within e =
    let part : Ends at between (drop at text) first p after (Ok n) = ends (drop at text) at (Ok n) between first after p tt e in
    let place = part.place in
    let all = first ++ p ∷ [] in
    let ended : (lex at between part.front).end ≡ Ok (end_of p) = ap (λ (l : Lexed). l.end) part.read in
    record {
      forward = omega arith;
      within = part_within _ between text at all (end_of p) part within;
      left = ap (lex (end_of p) between) (part_rest _ between text at all (end_of p) part) ∙ part.left.1;
      front = λ rest ws apart has. subst (λ (front : List ℕ). HasWords (front ++ rest) (words all ++ ws)) (sym (part_front _ between text at all (end_of p) part))
          (joined at part.front rest all ws (ap (λ (l : Lexed). l.pieces) part.read) (join part.front rest at (end_of p) between ended part.left.0 apart) has);
    }

pub tokens_are_put : TokensArePut
tokens_are_put put rest ps ws are (inl closed) has =
    let read : tokens put ≡ record { pieces = ps; end = Ok (length put) } = ap₂ (λ (qs : List Token) (r : Result ℕ Fault). record { pieces = qs; end = r }) are.pieces are.end in
    gap_before put rest (length put) ps ws read closed has
tokens_are_put put rest ps ws are (inr apart) has = tokens_before put rest ps ws are apart has
