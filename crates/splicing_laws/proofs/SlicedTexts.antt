-- The bytes of tokens in a row.
use Rattle.std.proofs.Common.{◌≡◌, ℕ, ◌+◌, ◌-◌, List, [], ◌∷◌, ◌++◌, length, take, drop, Ok, Result, sym, ap, ap₂, ◌∙◌, subst, append_assoc, zero-add, arith, take_at, slice_range}
use Rattle.design_model.specs.declared.fault.Fault.{Fault}
use Rattle.statement_model.specs.Tokens.{Token, Lexed, lex, tokens}
use Rattle.statement_model.specs.Tokens.Open.{between}
use Rattle.statement_model.specs.Cuts.{end_of_all}
use Rattle.lefdef_tokens.specs.Laws.{moved}
use Rattle.splicing_laws.specs.SliceLaws.{HasRun, RunsAreTexts}
use Rattle.splicing_laws.proofs.SplicingEnds.{Ends, ends}
use Rattle.splicing_laws.proofs.SplicingPlaces.{token_starts}
use Rattle.splicing_laws.proofs.SplicingTexts.{from_token, last_of_run, part_rest}
use Rattle.splicing_laws.proofs.SplicingWords.{end_at, end_is, read_at}

-- bytes that are read from a place on as a run
read_from : (bytes : List ℕ) (from to : ℕ) (run : List Token) → lex from between bytes ≡ record { pieces = run; end = Ok to } → from + length bytes ≡ to → HasRun from to run bytes
read_from bytes from to run is long =
    let here : moved from (tokens bytes) ≡ record { pieces = run; end = Ok to } = sym (read_at bytes from) ∙ is in
    let own = (tokens bytes).pieces in
    let end = end_at from to (tokens bytes).end (ap (λ (l : Lexed). l.end) here) in
    let whole : (tokens bytes).end ≡ Ok (length bytes) = end.1 ∙ ap (λ (k : ℕ). Ok k) (end_is bytes 0 end.0 between end.1 ∙ zero-add (length bytes)) in
    (own, ap (λ (r : Result ℕ Fault). record { pieces = own; end = r }) whole, ap (λ (l : Lexed). l.pieces) here, long)

-- the bytes of a run are the front of what is left from its first token on
run_front : (text : List ℕ) (from to : ℕ) (front rest : List ℕ) → drop from text ≡ front ++ rest → from + length front ≡ to → slice_range text from to ≡ front
run_front text from to front rest is long =
    let size : length front ≡ to - from = omega arith in
    ap (take (to - from)) is ∙ take_at front rest (to - from) size

pub runs_are_texts : RunsAreTexts
runs_are_texts text first run after p is =
    let end = (tokens text).end in
    let whole : tokens text ≡ record { pieces = first ++ ((p ∷ run) ++ after); end = end } = ap (λ (ps : List Token). record { pieces = ps; end = end }) is in
    let start = token_starts text 0 end first (run ++ after) p whole in
    let last = last_of_run p run in
    let split : (p ∷ run) ++ after ≡ last.0 ++ last.1 ∷ after = ap (λ (ps : List Token). ps ++ after) last.2 ∙ append_assoc last.0 (last.1 ∷ []) after in
    let read : lex p.pos between start.rest ≡ record { pieces = last.0 ++ last.1 ∷ after; end = end }
    = from_token text 0 first ((p ∷ run) ++ after) p end start whole ∙ ap (λ (ps : List Token). record { pieces = ps; end = end }) split in
    let part : Ends p.pos between start.rest last.0 last.1 after end = ends start.rest p.pos end between last.0 after last.1 tt read in
    let to : p.pos + length part.front ≡ end_of_all (p ∷ run) = part.place ∙ sym last.3 in
    let own : lex p.pos between part.front ≡ record { pieces = p ∷ run; end = Ok (end_of_all (p ∷ run)) }
    = part.read ∙ ap₂ (λ (ps : List Token) (k : ℕ). record { pieces = ps; end = Ok k }) (sym last.2) (sym last.3) in
    let left = part_rest _ between text 0 first p.pos start ∙ part.whole in
    subst (HasRun p.pos (end_of_all (p ∷ run)) (p ∷ run)) (sym (run_front text p.pos (end_of_all (p ∷ run)) part.front part.rest left to))
    (read_from part.front p.pos (end_of_all (p ∷ run)) (p ∷ run) own to)
