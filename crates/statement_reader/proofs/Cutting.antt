-- The first statement, as a loop finds it.
use Rattle.std.proofs.Common.{◌≡◌, ℕ, suc, ◌+◌, Bool, true, false, cond, List, [], ◌∷◌, ◌++◌, length, take, drop, refl, sym, ap, subst, ◌∙◌, add-one, zero-add, arith, Option, Some, Result, Ok, Err}
use Rattle.std.specs.List.{All}
use Rattle.std.proofs.lemmas.List.Elements.{All-head, All-tail}
use Rattle.design_model.specs.declared.fault.Fault.{Fault}
use Rattle.design_model.specs.declared.fault.FaultCode.TheVariants.{Unfinished}
use Rattle.statement_model.specs.Tokens.{Token, Lexed, before, left_from, only_fault}
use Rattle.statement_model.specs.Boundaries.{Ending, is_alone, is_last, last_of, is_whole, cut, statement_at, statement_from, unfinished}
use Rattle.lefdef_tokens.specs.TokenViews.{end_after}
use Rattle.statement_reader.specs.Passing.{PassesOver}
use Rattle.statement_reader.proofs.ListSteps.{take_more, drop_more}

last_of_more : (q : Token) (qs : List Token) (p : Token) → last_of q (qs ++ p ∷ []) ≡ p
unfolding last_of
last_of_more q [] p = refl
last_of_more q (r ∷ qs) p = last_of_more r qs p

end_of_more : (place : ℕ) (ps : List Token) (p : Token) → end_after place (ps ++ p ∷ []) ≡ p.pos + length p.bytes
end_of_more place [] p = refl
end_of_more place (q ∷ qs) p = end_of_more (q.pos + length q.bytes) qs p

-- where some tokens end, with one more of them
pub one_later : (start size : ℕ) (ps rest : List Token) (later : ℕ) (p : Token) → drop later ps ≡ p ∷ rest → end_after (start + size) (take (later + 1) ps) ≡ p.pos + length p.bytes
one_later start size ps rest later p h = rw (take_more ps later p rest h) (end_of_more (start + size) (take later ps) p)

-- where none were passed
pub none_later : (place to n second : ℕ) (ps : List Token) → place ≡ second → (to ≡ second) × (n ≡ 0) → end_after place (take n ps) ≡ to
none_later place to n second ps here none = rw none.1 (here ∙ sym none.0)

-- the state of the loop: the statement so far, and what is left
abbrev pub cut_from : (List ℕ → Ending) → Bool → Token → List Token → List Token → Option (List Token × List Token)
cut_from e done first mid ps = cond done (Some (first ∷ mid, ps)) (cut e (first ∷ mid) ps)

module _ (e : List ℕ → Ending) where
  pub whole_more : (first : Token) (mid : List Token) (p : Token) → is_whole e (first ∷ (mid ++ p ∷ [])) ≡ is_last (e first.bytes) p.bytes
  unfolding last_of
  whole_more first [] p = refl
  whole_more first (q ∷ qs) p = ap (λ (r : Token). is_last (e first.bytes) r.bytes) (last_of_more q qs p)

  pub cut_first : (first : Token) (ps : List Token) → cut e [] (first ∷ ps) ≡ cut_from e (is_alone (e first.bytes)) first [] ps
  unfolding cut
  cut_first first ps = refl

  pub cut_next : (first p : Token) (mid ps : List Token) → cut e (first ∷ mid) (p ∷ ps) ≡ cut_from e (is_last (e first.bytes) p.bytes) first (mid ++ p ∷ []) ps
  unfolding cut
  cut_next first p mid ps = rw (whole_more first mid p) refl

-- the loop: the first token, what was left after it, how many tokens came since, and what is left now
pub record Going (e : List ℕ → Ending) (l : Lexed) (first : Token) (q : Lexed) (done : Bool) (later : ℕ) (rest : Lexed) : Type 0 where
  pub whole : l ≡ before (first ∷ []) q
  pub left : drop later q.pieces ≡ rest.pieces
  pub few : later + length rest.pieces ≡ length q.pieces
  pub end : rest.end ≡ q.end
  pub so_far : cut_from e done first (take later q.pieces) rest.pieces ≡ cut e [] (first ∷ q.pieces)

module _ (e : List ℕ → Ending) where
  pub going_start : (l q : Lexed) (first : Token) → l ≡ before (first ∷ []) q → Going e l first q (is_alone (e first.bytes)) 0 q
  going_start l q first h = record { whole = h; left = refl; few = omega arith; end = refl; so_far = sym (cut_first e first q.pieces) }

  pub going_on : (l q rest next : Lexed) (first p : Token) (later : ℕ) → Going e l first q false later rest → rest ≡ before (p ∷ []) next → Going e l first q (is_last (e first.bytes) p.bytes) (later + 1) next
  going_on l q rest next first p later g h =
      let pieces : rest.pieces ≡ p ∷ next.pieces = ap (λ (x : Lexed). x.pieces) h in
      let end : rest.end ≡ next.end = ap (λ (x : Lexed). x.end) h in
      let n : length rest.pieces ≡ suc (length next.pieces) = ap length pieces in
      let few = g.few in
      record {
        whole = g.whole;
        left = drop_more q.pieces later p next.pieces (g.left ∙ pieces);
        few = omega arith;
        end = sym end ∙ g.end;
        so_far = rw (take_more q.pieces later p next.pieces (g.left ∙ pieces)) (sym (cut_next e first p (take later q.pieces) next.pieces) ∙ ap (cut e (first ∷ take later q.pieces)) (sym pieces) ∙ g.so_far);
      }

  -- several tokens more, none of which is the last
  pub going_past : (l q : Lexed) (first : Token) (ps : List Token) (rest next : Lexed) (later many : ℕ) → Going e l first q false later rest → rest ≡ before ps next
      → All (λ (p : Token). is_last (e first.bytes) p.bytes ≡ false) ps → later + length ps ≡ many → Going e l first q false many next
  going_past l q first [] rest next later many g h more sum =
      let n : later ≡ many = omega arith in
      subst (λ (k : ℕ). Going e l first q false k next) n (subst (Going e l first q false later) h g)
  going_past l q first (p ∷ ps) rest next later many g h more sum =
      let goes = All-head (λ (p : Token). is_last (e first.bytes) p.bytes ≡ false) p ps more in
      let one = subst (λ (b : Bool). Going e l first q b (later + 1) (before ps next)) goes (going_on l q rest (before ps next) first p later g h) in
      going_past l q first ps (before ps next) next (later + 1) many one refl (All-tail (λ (p : Token). is_last (e first.bytes) p.bytes ≡ false) p ps more) (omega arith)

  -- the loop's start, where some tokens were passed
  pub going_from : (text : List ℕ) (second to n : ℕ) (ending : Ending) (l : Lexed) (first : Token) (done : Bool) → l ≡ before (first ∷ []) (left_from text second) → e first.bytes ≡ ending
      → PassesOver text second ending to n → done ≡ is_alone ending → Going e l first (left_from text second) done n (left_from text to)
  going_from text second to n ending l first true h same past is =
      let none = past.none (sym is) in
      let start = subst (λ (b : Bool). Going e l first (left_from text second) b 0 (left_from text second)) (ap is_alone same ∙ sym is) (going_start l (left_from text second) first h) in
      subst (λ (k : ℕ). Going e l first (left_from text second) true k (left_from text to)) (sym none.1) (subst (λ (k : ℕ). Going e l first (left_from text second) true 0 (left_from text k)) (sym none.0) start)
  going_from text second to n ending l first false h same past is =
      let start = subst (λ (b : Bool). Going e l first (left_from text second) b 0 (left_from text second)) (ap is_alone same ∙ sym is) (going_start l (left_from text second) first h) in
      going_past l (left_from text second) first past.passed (left_from text second) (left_from text to) 0 n start past.goes (subst (λ (x : Ending). All (λ (p : Token). is_last x p.bytes ≡ false) past.passed) (sym same) past.more) (zero-add (length past.passed) ∙ past.many)

  pub going_done : (l q rest : Lexed) (first : Token) (later : ℕ) → Going e l first q true later rest → statement_at e l ≡ Ok (Some (take (later + 1) l.pieces, rest))
  unfolding statement_at
  going_done l q rest first later g =
      rw (g.whole, add-one)
      (ap (λ x. statement_from x (before (first ∷ []) q)) (sym g.so_far) ∙ ap (λ (r : Result ℕ Fault). Ok (Some (first ∷ take later q.pieces, record { pieces = rest.pieces; end = r }))) (sym g.end))

  -- none of the tokens ends the statement
  none_left : (l q rest : Lexed) (first : Token) (later : ℕ) → Going e l first q false later rest → rest.pieces ≡ [] → statement_at e l ≡ unfinished (first ∷ q.pieces) rest.end
  unfolding statement_at cut
  none_left l q rest first later g h =
      rw (g.whole, g.end) (ap (λ x. statement_from x (before (first ∷ []) q)) (sym g.so_far ∙ ap (cut e (first ∷ take later q.pieces)) h))

  pub going_fault : (l q rest : Lexed) (first : Token) (later : ℕ) (f : Fault) → Going e l first q false later rest → rest ≡ only_fault f → statement_at e l ≡ Err f
  going_fault l q rest first later f g h =
      none_left l q rest first later g (ap (λ (x : Lexed). x.pieces) h) ∙ ap (unfinished (first ∷ q.pieces)) (ap (λ (x : Lexed). x.end) h)

  pub going_ends : (l q rest : Lexed) (first : Token) (later n : ℕ) → Going e l first q false later rest → rest ≡ record { pieces = []; end = Ok n } → statement_at e l ≡ Err (record { code = Unfinished; pos = first.pos })
  going_ends l q rest first later n g h =
      none_left l q rest first later g (ap (λ (x : Lexed). x.pieces) h) ∙ ap (unfinished (first ∷ q.pieces)) (ap (λ (x : Lexed). x.end) h)

  pub at_fault : (l : Lexed) (f : Fault) → l ≡ only_fault f → statement_at e l ≡ Err f
  unfolding statement_at cut
  at_fault l f h = ap (statement_at e) h
