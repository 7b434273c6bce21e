-- The wiring clauses that a text says, read one after the other from its words, without the ; behind them: each but the last
-- ends with the + of the next one, and the body of the last where the text does.
use Rattle.std.proofs.Common.{◌≡◌, ◌⊎◌, ◌≤◌, ◌<◌, inl, inr, ℕ, zero, suc, ◌==◌, Bool, true, false, not, ◌&&◌, List, [], ◌∷◌, ◌++◌, length, Option, Some, None, if◌then◌else◌, is_none, arith, refl, sym, ap, ◌∙◌, ⊎_elim, codes}
use Rattle.std.specs.List.{list_all}
use Rattle.std.proofs.lemmas.Bool.{cases_Bool as cases}
use Rattle.std.proofs.lemmas.Bool.Decides.{nat_tests}
use Rattle.form_meanings.specs.Words.{◌>>=◌, Rest, is_done, is_plus, is_semicolon, is_stop, is_word, key, next_passes}
use Rattle.form_meanings.specs.Meaning.{Meaning, or_other, repeat}
use Rattle.statement_model.specs.Form.{Form, ◌▸◌, closed, many, on, or_else, read, upto}
use Rattle.def_grammar.specs.Clauses.{KeptClause, kept_clause}
use Rattle.def_grammar.specs.Parts.{is_some}
use Rattle.edit_rules.specs.NetEdits.{Role, is_alone, is_of_wiring, is_wiring, whole_text}
use Rattle.net_wiring.specs.WiringViews.{closed_rest, if_wiring, is_ended, past_body, past_clause}
use Rattle.net_wiring.proofs.ClosedForms.{Closes, Shortens, closed_read, end, passes_closed, shorter}

never_none : (n : ℕ) → (suc n == 0) ≡ false
never_none n = grind (arith, nat_tests)

some_if : {A : Type 0} (b : Bool) (x : A) → is_some (if b then Some x else None) ≡ b
some_if true x = refl
some_if false x = refl

and_middle : (a l n : Bool) → l ≡ false → ((a && l) && n) ≡ false
and_middle true l n e = rw e refl
and_middle false l n e = refl

and_last : (a n : Bool) → n ≡ false → (a && n) ≡ false
and_last true n e = e
and_last false n e = refl

and_true : (a : Bool) → (a && true) ≡ a
and_true true = refl
and_true false = refl

-- with as many turns as there are words, or more, a repetition reads the same
module _ {A : Type 0} (t : List ℕ → Bool) (f : Meaning A) (short : Shortens f) where
  abbrev pub one_then : A → Option (List A × Rest) → Option (List A × Rest)
  one_then a others = others >>= λ o. Some (a ∷ o.0, o.1)

  none_left : (n : ℕ) (ws : List (List ℕ)) (bad : Option ℕ) → length ws ≤ 0 → repeat n t f.read (record { words = ws; bad = bad }) ≡ Some ([], record { words = ws; bad = bad })
  unfolding repeat
  none_left zero [] bad few = refl
  none_left (suc n) [] bad few = refl
  none_left n (w ∷ ws) bad few = absurd (omega (arith, few))

  each_same : (o : Option (A × Rest)) (g h : A × Rest → Option (List A × Rest)) → ((p : A × Rest) → o ≡ Some p → g p ≡ h p) → (o >>= g) ≡ (o >>= h)
  each_same None g h same = refl
  each_same (Some p) g h same = same p refl

  same_repeat : (n m : ℕ) (r : Rest) → length r.words ≤ n → length r.words ≤ m → repeat n t f.read r ≡ repeat m t f.read r
  unfolding repeat
  same_repeat zero m r few low = none_left 0 r.words r.bad few ∙ sym (none_left m r.words r.bad few)
  same_repeat (suc n) zero r few low = none_left (suc n) r.words r.bad low ∙ sym (none_left 0 r.words r.bad low)
  same_repeat (suc n) (suc m) r few low =
      ap (λ (o : Option (List A × Rest)). if next_passes t r then o else Some ([], r))
      (each_same (f.read r) (λ p. one_then p.0 (repeat n t f.read p.1)) (λ p. one_then p.0 (repeat m t f.read p.1)) (λ p reads.
      let fewer = short.shortens r p reads in
      ap (one_then p.0) (same_repeat n m p.1 (omega (arith, fewer, few)) (omega (arith, fewer, low)))))

  abbrev pub all_from : Rest → Option (List A × Rest)
  all_from r = repeat (length r.words) t f.read r

  pub first_then : (r : Rest) → next_passes t r ≡ true → all_from r ≡ (f.read r >>= λ p. one_then p.0 (all_from p.1))
  unfolding repeat
  first_then r passes = by_words r.words r.bad passes
    where
      by_words : (ws : List (List ℕ)) (bad : Option ℕ) → next_passes t (record { words = ws; bad = bad }) ≡ true
          → all_from (record { words = ws; bad = bad }) ≡ (f.read (record { words = ws; bad = bad }) >>= λ p. one_then p.0 (all_from p.1))
      by_words [] bad passes = absurd (cc)
      by_words (w ∷ ws) bad passes =
          let r : Rest = record { words = w ∷ ws; bad = bad } in
          rw passes (each_same (f.read r) (λ p. one_then p.0 (repeat (length ws) t f.read p.1)) (λ p. one_then p.0 (all_from p.1)) (λ p reads.
          let fewer = short.shortens r p reads in
          ap (one_then p.0) (same_repeat (length ws) (length p.1.words) p.1 (omega (arith, fewer)) (omega arith))))

  pub none_then : (r : Rest) → next_passes t r ≡ false → all_from r ≡ Some ([], r)
  unfolding repeat
  none_then r fails = by_words r.words r.bad fails
    where
      by_words : (ws : List (List ℕ)) (bad : Option ℕ) → next_passes t (record { words = ws; bad = bad }) ≡ false → all_from (record { words = ws; bad = bad }) ≡ Some ([], record { words = ws; bad = bad })
      by_words [] bad fails = refl
      by_words (w ∷ ws) bad fails = rw fails refl

-- clauses: SUBNET, one whose body is read before a stop, or one that is kept
module _ {B : Type 0} (body : Form B) (role : List (List ℕ) ⊎ (B ⊎ KeptClause) → Role) where
  abbrev pub C : Type 0
  C = List (List ℕ) ⊎ (B ⊎ KeptClause)

  abbrev pub clause : Form C
  clause = codes "+" ▸ on (codes "SUBNET") (upto is_semicolon) (or_else (closed is_stop body) kept_clause)

  abbrev pub body_role : B → Role
  body_role b = role (inr (inl b))

  abbrev said : Option (List C × Rest) → Bool
  said o = is_some (whole_text clause role o)

  -- whether the words that are left, with a ; behind them, are wiring clauses alone
  abbrev pub is_said_from : Rest → Bool
  is_said_from r = said (read (many is_plus clause) (closed_rest r))

  short : Shortens clause.of
  short = shorter clause (λ c. omega arith)

  abbrev others : Rest → Option (List C × Rest)
  others r = read (many is_plus clause) r

  abbrev with_first : Option (C × Rest) → Option (List C × Rest)
  with_first o = o >>= λ p. one_then is_plus clause.of short p.0 (others p.1)

  said_is : (cs : List C) (rest : Rest) → said (Some (cs, rest)) ≡ ((is_alone clause role rest.words rest.bad && list_all (is_of_wiring clause role) cs) && not (length cs == 0))
  said_is cs rest = some_if ((is_alone clause role rest.words rest.bad && list_all (is_of_wiring clause role) cs) && not (length cs == 0)) cs

  none_said : (rest : Rest) → said (Some ([], rest)) ≡ false
  none_said rest = said_is [] rest ∙ and_last (is_alone clause role rest.words rest.bad && true) false refl

  -- none is said where the first clause isn't wiring
  no_first : (c : C) (o : Option (List C × Rest)) → is_wiring (role c) ≡ false → said (one_then is_plus clause.of short c o) ≡ false
  no_first c None isnt = refl
  no_first c (Some x) isnt =
      let none : list_all (is_of_wiring clause role) (c ∷ x.0) ≡ false = rw isnt refl in
      said_is (c ∷ x.0) x.1 ∙ and_middle (is_alone clause role x.1.words x.1.bad) (list_all (is_of_wiring clause role) (c ∷ x.0)) (not (length (c ∷ x.0) == 0)) none

  no_wiring : (o : Option (C × Rest)) → if_wiring role o ≡ None → said (with_first o) ≡ false
  no_wiring None none = refl
  no_wiring (Some p) none = ⊎_elim
      (λ (is : is_wiring (role p.0) ≡ true). let k : Some p.1 ≡ None = rw is at none in absurd (cc))
      (λ (no : is_wiring (role p.0) ≡ false). no_first p.0 (others p.1) no)
      (cases (is_wiring (role p.0)))

  -- behind wiring the others are said, if there are some
  module _ (c : C) (is : is_wiring (role c) ≡ true) where
    all_more : (cs : List C) → list_all (is_of_wiring clause role) (c ∷ cs) ≡ list_all (is_of_wiring clause role) cs
    all_more cs = rw is refl

    one_more_said : (cs : List C) (rest : Rest) → said (one_then is_plus clause.of short c (Some (cs, rest))) ≡ (is_alone clause role rest.words rest.bad && list_all (is_of_wiring clause role) cs)
    one_more_said cs rest =
        said_is (c ∷ cs) rest
        ∙ ap (λ (b : Bool). (is_alone clause role rest.words rest.bad && b) && not (length (c ∷ cs) == 0)) (all_more cs)
        ∙ ap (λ (b : Bool). (is_alone clause role rest.words rest.bad && list_all (is_of_wiring clause role) cs) && not b) (never_none (length cs))
        ∙ and_true (is_alone clause role rest.words rest.bad && list_all (is_of_wiring clause role) cs)

    some_said : (d : C) (cs : List C) (rest : Rest) → said (Some (d ∷ cs, rest)) ≡ (is_alone clause role rest.words rest.bad && list_all (is_of_wiring clause role) (d ∷ cs))
    some_said d cs rest =
        said_is (d ∷ cs) rest
        ∙ ap (λ (b : Bool). (is_alone clause role rest.words rest.bad && list_all (is_of_wiring clause role) (d ∷ cs)) && not b) (never_none (length cs))
        ∙ and_true (is_alone clause role rest.words rest.bad && list_all (is_of_wiring clause role) (d ∷ cs))

    behind_first : (d : C) (o : Option (List C × Rest)) → said (one_then is_plus clause.of short c (one_then is_plus clause.of short d o)) ≡ said (one_then is_plus clause.of short d o)
    behind_first d None = refl
    behind_first d (Some x) = one_more_said (d ∷ x.0) x.1 ∙ sym (some_said d x.0 x.1)

    behind_read : (o : Option (C × Rest)) → said (one_then is_plus clause.of short c (with_first o)) ≡ said (with_first o)
    behind_read None = refl
    behind_read (Some p) = behind_first p.0 (others p.1)

    last_said : (s : Rest) → next_passes is_plus s ≡ false → said (one_then is_plus clause.of short c (others s)) ≡ is_alone clause role s.words s.bad
    last_said s fails =
        ap (λ (o : Option (List C × Rest)). said (one_then is_plus clause.of short c o)) (none_then is_plus clause.of short s fails)
        ∙ one_more_said [] s ∙ and_true (is_alone clause role s.words s.bad)

  two_words : (v : List ℕ) (vs : List (List ℕ)) (bad : Option ℕ) → is_alone clause role (v ∷ (vs ++ end)) bad ≡ false
  two_words v [] bad = refl
  two_words v (u ∷ us) bad = refl

  -- what is left of a text whose clauses are wiring, or aren't
  pub data Going (r : Rest) : Type 0 where
    stops : is_ended (past_body body role r) ≡ false → past_clause clause role r ≡ None → is_said_from r ≡ false → Going r
    ends : (e : Rest) → past_body body role r ≡ Some e → is_done e ≡ true → is_said_from r ≡ is_none e.bad → Going r
    goes : (e : Rest) → is_ended (past_body body role r) ≡ false → past_clause clause role r ≡ Some e → is_said_from r ≡ is_said_from e → Going r

  module _ (closes : Closes body.of) (no_subnet : (tokens : List (List ℕ)) → is_wiring (role (inl tokens)) ≡ false) (no_kept : (k : KeptClause) → is_wiring (role (inr (inr k))) ≡ false) where
    -- a clause that is SUBNET, or that is kept
    subnet_is_none : (o : Option (List (List ℕ) × Rest)) → if_wiring role (o >>= λ a. Some (inl a.0, a.1)) ≡ None
    subnet_is_none None = refl
    subnet_is_none (Some a) = rw (no_subnet a.0) refl

    abbrev by_listed : Option (B × Rest) → Option (KeptClause × Rest) → Option (C × Rest)
    by_listed o k = or_other o k >>= λ b. Some (inr b.0, b.1)

    kept_is_none : (k : Option (KeptClause × Rest)) → if_wiring role (by_listed None k) ≡ None
    kept_is_none None = refl
    kept_is_none (Some k) = rw (no_kept k.0) refl

    other_is_none : (b : B) (e : Rest) (stop : Bool) (k : Option (KeptClause × Rest)) → is_wiring (body_role b) ≡ false → if_wiring role (by_listed (if stop then Some (b, e) else None) k) ≡ None
    other_is_none b e true k isnt = rw isnt refl
    other_is_none b e false k isnt = kept_is_none k

    abbrev as_listed : B × Rest → Option ((B ⊎ KeptClause) × Rest)
    as_listed a = Some (inl a.0, a.1)

    abbrev as_clause : (B ⊎ KeptClause) × Rest → Option (C × Rest)
    as_clause b = Some (inr b.0, b.1)

    of_body : (o : Option (B × Rest)) → if_wiring role ((o >>= as_listed) >>= as_clause) ≡ if_wiring body_role o
    of_body None = refl
    of_body (Some b) = refl

    -- a clause behind its +
    module _ (bad : Option ℕ) (w : List ℕ) (ws : List (List ℕ)) (plus : is_plus w ≡ true) where
      abbrev r : Rest
      r = record { words = w ∷ ws; bad = bad }

      abbrev s : Rest
      s = record { words = ws; bad = bad }

      abbrev subnet : Rest → Option (C × Rest)
      subnet x = (key (codes "SUBNET") x >>= λ a. (upto is_semicolon).of.read a) >>= λ a. Some (inl a.0, a.1)

      abbrev listed : Option (B × Rest) → Option (B × Rest)
      listed o = o >>= λ a. (if next_passes is_stop a.1 then Some a else None)

      abbrev other : Option (B × Rest) → Option (KeptClause × Rest) → Option (C × Rest)
      other o k = by_listed (listed o) k

      abbrev is_subnet : Rest → Bool
      is_subnet x = next_passes (is_word (codes "SUBNET")) x

      read_is : read clause r ≡ (if is_subnet s then subnet s else other (body.of.read s) (kept_clause.of.read s))
      read_is = rw plus refl

      closed_is : read clause (closed_rest r) ≡ (if is_subnet s then subnet (closed_rest s) else other (closed_read (body.of.read s)) (kept_clause.of.read (closed_rest s)))
      closed_is =
          let first : read clause (closed_rest r) ≡ (if is_subnet (closed_rest s) then subnet (closed_rest s) else other (body.of.read (closed_rest s)) (kept_clause.of.read (closed_rest s))) = rw plus refl in
          first
          ∙ ap (λ (b : Bool). if b then subnet (closed_rest s) else other (body.of.read (closed_rest s)) (kept_clause.of.read (closed_rest s))) (passes_closed (is_word (codes "SUBNET")) refl s)
          ∙ ap (λ (o : Option (B × Rest)). if is_subnet s then subnet (closed_rest s) else other o (kept_clause.of.read (closed_rest s))) (closes.closes s)

      body_is : past_body body role r ≡ (if is_subnet s then None else if_wiring body_role (body.of.read s))
      body_is = rw plus (ap (λ (o : Option Rest). if is_subnet s then None else o) (of_body (body.of.read s)))

      said_first : is_said_from r ≡ said (with_first (read clause (closed_rest r)))
      said_first = ap said (first_then is_plus clause.of short (closed_rest r) plus)

      -- neither reading is of wiring
      stopped : is_ended (past_body body role r) ≡ false → if_wiring role (read clause r) ≡ None → if_wiring role (read clause (closed_rest r)) ≡ None → Going r
      stopped unended own later = stops unended own (said_first ∙ no_wiring (read clause (closed_rest r)) later)

      -- the wiring clause is read in both, and this is left
      module _ (b : B) (e : Rest) (isnt_subnet : is_subnet s ≡ false) (reads : body.of.read s ≡ Some (b, e)) (wires : is_wiring (body_role b) ≡ true) where
        abbrev c : C
        c = inr (inl b)

        past_is : past_body body role r ≡ Some e
        past_is =
            body_is ∙ ap (λ (x : Bool). if x then None else if_wiring body_role (body.of.read s)) isnt_subnet ∙ ap (if_wiring body_role) reads ∙ rw wires refl

        closed_so : read clause (closed_rest r) ≡ other (Some (b, closed_rest e)) (kept_clause.of.read (closed_rest s))
        closed_so =
            closed_is
            ∙ ap (λ (x : Bool). if x then subnet (closed_rest s) else other (closed_read (body.of.read s)) (kept_clause.of.read (closed_rest s))) isnt_subnet
            ∙ ap (λ (o : Option (B × Rest)). other (closed_read o) (kept_clause.of.read (closed_rest s))) reads

        own_so : read clause r ≡ other (Some (b, e)) (kept_clause.of.read s)
        own_so =
            read_is ∙ ap (λ (x : Bool). if x then subnet s else other (body.of.read s) (kept_clause.of.read s)) isnt_subnet
            ∙ ap (λ (o : Option (B × Rest)). other o (kept_clause.of.read s)) reads

        read_before : (x : Rest) (k : Option (KeptClause × Rest)) → next_passes is_stop x ≡ true → other (Some (b, x)) k ≡ Some (c, x)
        read_before x k stop = rw stop refl

        said_so : next_passes is_stop (closed_rest e) ≡ true → is_said_from r ≡ said (one_then is_plus clause.of short c (others (closed_rest e)))
        said_so stop = said_first ∙ ap (λ (o : Option (C × Rest)). said (with_first o)) (closed_so ∙ read_before (closed_rest e) (kept_clause.of.read (closed_rest s)) stop)

        alone_good : (bad : Option ℕ) → is_alone clause role end (closed_rest (record { words = []; bad = bad })).bad ≡ is_none bad
        alone_good None = refl
        alone_good (Some n) = refl

        at_end : e.words ≡ [] → Going r
        at_end none =
            let stop : next_passes is_stop (closed_rest e) ≡ true = rw none refl in
            let last : next_passes is_plus (closed_rest e) ≡ false = rw none refl in
            let alone : is_alone clause role (closed_rest e).words (closed_rest e).bad ≡ is_none e.bad = ap (λ (us : List (List ℕ)). is_alone clause role (us ++ end) (closed_rest e).bad) none ∙ alone_good e.bad in
            let done : is_done e ≡ true = rw none refl in
            ends e past_is done (said_so stop ∙ last_said c wires (closed_rest e) last ∙ alone)

        unended : (v : List ℕ) (vs : List (List ℕ)) → e.words ≡ v ∷ vs → is_ended (past_body body role r) ≡ false
        unended v vs some = ap is_ended past_is ∙ rw some refl

        goes_on : (v : List ℕ) (vs : List (List ℕ)) → e.words ≡ v ∷ vs → is_stop v ≡ true → Going r
        goes_on v vs some is =
            let stop : next_passes is_stop e ≡ true = rw some is in
            let stop_closed : next_passes is_stop (closed_rest e) ≡ true = rw some is in
            let past : past_clause clause role r ≡ Some e = ap (if_wiring role) (own_so ∙ read_before e (kept_clause.of.read s) stop) ∙ rw wires refl in
            goes e (unended v vs some) past (said_so stop_closed ∙ behind)
          where
            behind : said (one_then is_plus clause.of short c (others (closed_rest e))) ≡ is_said_from e
            behind = ⊎_elim
                (λ (more : next_passes is_plus (closed_rest e) ≡ true).
                let first = first_then is_plus clause.of short (closed_rest e) more in
                ap (λ (o : Option (List C × Rest)). said (one_then is_plus clause.of short c o)) first ∙ behind_read c wires (read clause (closed_rest e)) ∙ sym (ap said first))
                (λ (last : next_passes is_plus (closed_rest e) ≡ false).
                let none = none_then is_plus clause.of short (closed_rest e) last in
                let two : is_alone clause role (closed_rest e).words (closed_rest e).bad ≡ false = ap (λ (us : List (List ℕ)). is_alone clause role (us ++ end) (closed_rest e).bad) some ∙ two_words v vs (closed_rest e).bad in
                last_said c wires (closed_rest e) last ∙ two ∙ sym (ap said none ∙ none_said (closed_rest e)))
                (cases (next_passes is_plus (closed_rest e)))

        no_stop : (v : List ℕ) (vs : List (List ℕ)) → e.words ≡ v ∷ vs → is_stop v ≡ false → Going r
        no_stop v vs some isnt =
            let stop : next_passes is_stop e ≡ false = rw some isnt in
            let stop_closed : next_passes is_stop (closed_rest e) ≡ false = rw some isnt in
            let kept : (x : Rest) (k : Option (KeptClause × Rest)) → next_passes is_stop x ≡ false → if_wiring role (other (Some (b, x)) k) ≡ None = λ x k no_more. rw no_more (kept_is_none k) in
            stopped (unended v vs some) (ap (if_wiring role) own_so ∙ kept e (kept_clause.of.read s) stop) (ap (if_wiring role) closed_so ∙ kept (closed_rest e) (kept_clause.of.read (closed_rest s)) stop_closed)

        wiring_goes : Going r
        wiring_goes = by_words e.words refl
          where
            by_words : (us : List (List ℕ)) → e.words ≡ us → Going r
            by_words [] none = at_end none
            by_words (v ∷ vs) some = ⊎_elim (λ (is : is_stop v ≡ true). goes_on v vs some is) (λ (isnt : is_stop v ≡ false). no_stop v vs some isnt) (cases (is_stop v))

      by_body : is_subnet s ≡ false → (o : Option (B × Rest)) → body.of.read s ≡ o → Going r
      by_body isnt o is = by_read o is (past_so o is) (own_so o is) (closed_so o is)
        where
          past_so : (o : Option (B × Rest)) → body.of.read s ≡ o → past_body body role r ≡ if_wiring body_role o
          past_so o is = body_is ∙ ap (λ (x : Bool). if x then None else if_wiring body_role (body.of.read s)) isnt ∙ ap (if_wiring body_role) is

          own_so : (o : Option (B × Rest)) → body.of.read s ≡ o → read clause r ≡ other o (kept_clause.of.read s)
          own_so o is =
              read_is ∙ ap (λ (x : Bool). if x then subnet s else other (body.of.read s) (kept_clause.of.read s)) isnt
              ∙ ap (λ (o : Option (B × Rest)). other o (kept_clause.of.read s)) is

          closed_so : (o : Option (B × Rest)) → body.of.read s ≡ o → read clause (closed_rest r) ≡ other (closed_read o) (kept_clause.of.read (closed_rest s))
          closed_so o is =
              closed_is
              ∙ ap (λ (x : Bool). if x then subnet (closed_rest s) else other (closed_read (body.of.read s)) (kept_clause.of.read (closed_rest s))) isnt
              ∙ ap (λ (o : Option (B × Rest)). other (closed_read o) (kept_clause.of.read (closed_rest s))) is

          by_read : (o : Option (B × Rest)) → body.of.read s ≡ o → past_body body role r ≡ if_wiring body_role o → read clause r ≡ other o (kept_clause.of.read s)
              → read clause (closed_rest r) ≡ other (closed_read o) (kept_clause.of.read (closed_rest s)) → Going r
          by_read None is past own later = stopped (ap is_ended past) (ap (if_wiring role) own ∙ kept_is_none (kept_clause.of.read s)) (ap (if_wiring role) later ∙ kept_is_none (kept_clause.of.read (closed_rest s)))
          by_read (Some x) is past own later = ⊎_elim
              (λ (wires : is_wiring (body_role x.0) ≡ true). wiring_goes x.0 x.1 isnt is wires)
              (λ (other_role : is_wiring (body_role x.0) ≡ false).
              let none : if_wiring body_role (Some x) ≡ None = rw other_role refl in
              stopped (ap is_ended (past ∙ none))
              (ap (if_wiring role) own ∙ other_is_none x.0 x.1 (next_passes is_stop x.1) (kept_clause.of.read s) other_role)
              (ap (if_wiring role) later ∙ other_is_none x.0 (closed_rest x.1) (next_passes is_stop (closed_rest x.1)) (kept_clause.of.read (closed_rest s)) other_role))
              (cases (is_wiring (body_role x.0)))

      plus_goes : Going r
      plus_goes = ⊎_elim
          (λ (is : is_subnet s ≡ true).
          let past : past_body body role r ≡ None = body_is ∙ ap (λ (x : Bool). if x then None else if_wiring body_role (body.of.read s)) is in
          let own : if_wiring role (read clause r) ≡ None =
          ap (if_wiring role) (read_is ∙ ap (λ (x : Bool). if x then subnet s else other (body.of.read s) (kept_clause.of.read s)) is) ∙ subnet_is_none (key (codes "SUBNET") s >>= λ a. (upto is_semicolon).of.read a) in
          let later : if_wiring role (read clause (closed_rest r)) ≡ None =
          ap (if_wiring role) (closed_is ∙ ap (λ (x : Bool). if x then subnet (closed_rest s) else other (closed_read (body.of.read s)) (kept_clause.of.read (closed_rest s))) is)
          ∙ subnet_is_none (key (codes "SUBNET") (closed_rest s) >>= λ a. (upto is_semicolon).of.read a) in
          stopped (ap is_ended past) own later)
          (λ (isnt : is_subnet s ≡ false). by_body isnt (body.of.read s) refl)
          (cases (is_subnet s))

    pub going : (r : Rest) → Going r
    going r = by_words r.words r.bad
      where
        by_words : (ws : List (List ℕ)) (bad : Option ℕ) → Going (record { words = ws; bad = bad })
        by_words [] bad =
            let r : Rest = record { words = []; bad = bad } in
            stops refl refl (ap said (none_then is_plus clause.of short (closed_rest r) refl) ∙ none_said (closed_rest r))
        by_words (w ∷ ws) bad =
            let r : Rest = record { words = w ∷ ws; bad = bad } in
            ⊎_elim
            (λ (is : is_plus w ≡ true). plus_goes bad w ws is)
            (λ (isnt : is_plus w ≡ false).
            let past : past_body body role r ≡ None = rw isnt refl in
            let own : past_clause clause role r ≡ None = rw isnt refl in
            stops (ap is_ended past) own (ap said (none_then is_plus clause.of short (closed_rest r) isnt) ∙ none_said (closed_rest r)))
            (cases (is_plus w))

    past_shortens : (r e : Rest) (o : Option (C × Rest)) → read clause r ≡ o → if_wiring role o ≡ Some e → length e.words < length r.words
    past_shortens r e None reads past = absurd (cc)
    past_shortens r e (Some p) reads past = ⊎_elim
        (λ (is : is_wiring (role p.0) ≡ true).
        let same : Some p.1 ≡ Some e = rw is at past in
        let left : p.1 ≡ e = cc in
        rw (← left) (short.shortens r p reads))
        (λ (isnt : is_wiring (role p.0) ≡ false). let none : None ≡ Some e = rw isnt at past in absurd (cc))
        (cases (is_wiring (role p.0)))

    -- fewer words are left behind a clause
    pub past_fewer : (r e : Rest) → past_clause clause role r ≡ Some e → length e.words < length r.words
    past_fewer r e past = past_shortens r e (read clause r) refl past
