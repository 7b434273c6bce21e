-- What is read of some bytes, where more follows them.
use Rattle.std.proofs.Common.{◌≡◌, ℕ, ◌+◌, List, [], ◌∷◌, ◌++◌, length, drop, Option, Some, None, Result, Ok, Err, refl, sym, ap, ◌∙◌, ⊎_elim, append_assoc}
use Rattle.std.specs.Prelude.{◌≢◌}
use Rattle.std.specs.List.{All}
use Rattle.std.proofs.lemmas.Bool.{cases_Bool as cases}
use Rattle.std.proofs.lemmas.List.Elements.{All-head}
use Rattle.design_model.specs.declared.fault.Fault.{Fault}
use Rattle.design_model.specs.declared.fault.FaultCode.TheVariants.{Unfinished, OpenString}
use Rattle.statement_model.specs.Tokens.{Open, Token, Lexed, lex, before, next_open, ended_by, is_refused, left_from}
use Rattle.statement_model.specs.Tokens.Open.{between, comment, word, string}
use Rattle.statement_model.specs.Boundaries.{cut, statements, statement_at, statement_from, unfinished, last_of}
use Rattle.statement_model.specs.Grammar.{Grammar}
use Rattle.statement_model.specs.Reading.{read_form, read_found, read_at, nothing_left, with_left}
use Rattle.lefdef_tokens.specs.Laws as laws
use Rattle.lefdef_tokens.specs.Laws.{IsClosed, BeginsApart}
use Rattle.lefdef_tokens.specs.TokenViews.{span_of, end_after}
use Rattle.lefdef_tokens.specs.declared.span.Span.{Span}
use Rattle.lefdef_tokens.proofs.Joining.{join}
use Rattle.statement_laws.specs.BoundaryLaws.{EndApart}
use Rattle.statement_laws.proofs.StatementEnds.{statement_ends}
use Rattle.statement_laws.proofs.StatementLists.{first_of_all}
use Rattle.statement_laws.proofs.StatementParts.{IsStatement, statement_parts}
use Rattle.statement_laws.proofs.WordEnds.{WordEndsApart, words_end}
use Rattle.statement_reader.proofs.Steps.{is_cut, form_read, form_fault}
use Rattle.def_grammar.specs.Records.{def, def_ending}
use Rattle.piece_laws.specs.PieceLaws.{FaultsStand, StatementsEndBeforeBlanks}
use Rattle.piece_laws.proofs.Cutting.{cut_more}

-- the first tokens of bytes and then more are those of the bytes
abbrev FrontTokens : ℕ → Open → List ℕ → List ℕ → Type 0
FrontTokens pos state s t = (more : List Token) × ((lex pos state (s ++ t)).pieces ≡ (lex pos state s).pieces ++ more)

front_tokens : (s t : List ℕ) (pos : ℕ) (state : Open) → BeginsApart t → FrontTokens pos state s t
unfolding lex laws.state_after
front_tokens [] t pos between apart = (_, refl)
front_tokens [] t pos comment apart = (_, refl)
front_tokens [] t pos (string start bytes last) apart = (_, refl)
front_tokens [] t pos (word start bytes) apart = (_, ap (λ (l : Lexed). l.pieces) (join [] t pos pos (word start bytes) refl tt apart))
front_tokens (b ∷ s) t pos state apart = ⊎_elim
    (λ bad. rw bad ([], refl))
    (λ good.
    let later = front_tokens s t (pos + 1) (next_open pos state b) apart in
    rw good (later.0, ap (λ (ps : List Token). ended_by state b ++ ps) later.1 ∙ sym (append_assoc (ended_by state b) (lex (pos + 1) (next_open pos state b) s).pieces later.0)))
    (cases (is_refused b))

-- a refused byte is met whatever follows
refused_stays : (s t : List ℕ) (pos : ℕ) (state : Open) (f : Fault) → (lex pos state s).end ≡ Err f → f.code ≢ OpenString → lex pos state (s ++ t) ≡ lex pos state s
unfolding lex
refused_stays [] t pos between f e closed = absurd (cc)
refused_stays [] t pos comment f e closed = absurd (cc)
refused_stays [] t pos (word start bytes) f e closed = absurd (cc)
refused_stays [] t pos (string start bytes last) f e closed = let same : record { code = OpenString; pos = start } ≡ f = cc in absurd (closed (sym (ap (λ (x : Fault). x.code) same)))
refused_stays (b ∷ s) t pos state f e closed = ⊎_elim
    (λ bad. rw bad refl)
    (λ good. let h = rw good at e in rw good (ap (before (ended_by state b)) (refused_stays s t (pos + 1) (next_open pos state b) f h closed)))
    (cases (is_refused b))

module _ {M R : Type 0} (g : Grammar M R) where
  nothing_fault : (m : M) (n : ℕ) (f : Fault) → nothing_left g m (Ok n) ≡ Err f → f.code ≢ Unfinished → ⊥
  nothing_fault m n f e whole = ⊎_elim
      (λ may. let h = rw may at e in cc)
      (λ others. let h = rw others at e in let same : record { code = Unfinished; pos = n } ≡ f = cc in whole (sym (ap (λ (x : Fault). x.code) same)))
      (cases (g.may_end m))

  stands_last : (m : M) (s t : List ℕ) (pos : ℕ) (f : Fault) (ps : List Token) (end : Result ℕ Fault)
      → (lex pos between s).pieces ≡ ps → (lex pos between s).end ≡ end
      → read_found g m (lex pos between s) (unfinished ps end) ≡ Err f → f.code ≢ Unfinished → f.code ≢ OpenString
      → lex pos between (s ++ t) ≡ lex pos between s
  stands_last m s t pos f ps (Err h) p e is no_end no_string =
      let same : h ≡ f = cc in
      refused_stays s t pos between h e (rw same no_string)
  stands_last m s t pos f [] (Ok n) p e is no_end no_string =
      let there : nothing_left g m (Ok n) ≡ Err f = rw e at is in
      absurd (nothing_fault m n f there no_end)
  stands_last m s t pos f (q ∷ qs) (Ok n) p e is no_end no_string =
      let same : record { code = Unfinished; pos = q.pos } ≡ f = cc in absurd (no_end (sym (ap (λ (x : Fault). x.code) same)))

  stands_cut : (m : M) (s t : List ℕ) (pos : ℕ) (f : Fault) (o : Option (List Token × List Token)) → BeginsApart t
      → cut (g.ending m) [] (lex pos between s).pieces ≡ o
      → read_found g m (lex pos between s) (statement_from o (lex pos between s)) ≡ Err f → f.code ≢ Unfinished → f.code ≢ OpenString
      → read_at g m (lex pos between (s ++ t)) ≡ Err f
  unfolding read_at statement_at
  stands_cut m s t pos f None apart c is no_end no_string =
      let l = lex pos between s in
      let same = stands_last m s t pos f l.pieces l.end refl refl is no_end no_string in
      ap (read_at g m) same ∙ (ap (λ (o : Option (List Token × List Token)). read_found g m l (statement_from o l)) c ∙ is)
  stands_cut m s t pos f (Some x) apart c is no_end no_string =
      let l = lex pos between (s ++ t) in
      let more = front_tokens s t pos between apart in
      let there : cut (g.ending m) [] l.pieces ≡ Some (x.0, x.1 ++ more.0) = ap (cut (g.ending m) []) more.1 ∙ cut_more (g.ending m) [] (lex pos between s).pieces x.0 x.1 more.0 c in
      let form = form_fault g (record { pieces = x.1; end = (lex pos between s).end }) (read_form g m x.0) f is in
      let left : Lexed = record { pieces = x.1 ++ more.0; end = l.end } in
      ap (λ (o : Option (List Token × List Token)). read_found g m l (statement_from o l)) there ∙ ap (with_left g left) form

  pub faults_stand : FaultsStand g
  unfolding read_at statement_at
  faults_stand m pos s t f apart is no_end no_string = stands_cut m s t pos f (cut (g.ending m) [] (lex pos between s).pieces) apart refl is no_end no_string

-- after the last of some tokens
ends_after : (text : List ℕ) (p : Token) (ps : List Token) → EndApart text (p ∷ ps) → BeginsApart (drop (end_after (p.pos + length p.bytes) ps) text)
unfolding last_of
ends_after text p [] is = is
ends_after text p (q ∷ qs) is = ends_after text q qs is

ends_span : (text : List ℕ) (ps : List Token) (start end : ℕ) → IsStatement def_ending ps → span_of ps ≡ record { lo = start; hi = end } → EndApart text ps → BeginsApart (drop end text)
ends_span text [] start end is span apart = absurd is
ends_span text (p ∷ ps) start end is span apart = rw (← ap (λ (s : Span). s.hi) span) (ends_after text p ps apart)

pub statements_end_before_blanks : StatementsEndBeforeBlanks def
statements_end_before_blanks m after text pos start end ps rec at read span =
    let l = left_from text pos in
    let left = left_from text end in
    let c = is_cut def_ending l left ps at in
    let all = statement_parts def_ending (WordEndsApart text) l.pieces (words_end text (drop pos text) pos between refl tt) in
    let first = first_of_all def_ending l.pieces [] ps left.pieces c.0 in
    let Part = λ (s : List Token). IsStatement def_ending s × All (WordEndsApart text) s in
    let parts : All Part (ps ∷ (statements def_ending [] left.pieces).0) = rw first at all in
    let one = All-head Part ps (statements def_ending [] left.pieces).0 parts in
    let says = form_read def m after l left ps rec at read in
    ends_span text ps start end one.0 span (statement_ends text m ps (rec, after) one.0 one.1 says)
