-- The tokens of some of the statements that tokens are cut into.
use Rattle.std.proofs.Common.{◌≡◌, ℕ, List, [], ◌∷◌, ◌++◌, refl, sym, ap, ◌∙◌, ⊎_elim, append_assoc}
use Rattle.std.specs.List.{All}
use Rattle.std.proofs.lemmas.List.{append-nil}
use Rattle.std.proofs.lemmas.List.Elements.{All-nil, All-cons, All-head, All-tail}
use Rattle.statement_model.specs.Tokens.{Token}
use Rattle.statement_model.specs.Boundaries.{Ending, is_whole, statements}
use Rattle.std.proofs.lemmas.Bool.{cases_Bool as cases}
use Rattle.statement_laws.proofs.StatementLists.{statements_join}

-- the tokens of statements one after the other
abbrev pub joined : List (List Token) → List Token
joined [] = []
joined (s ∷ ss) = s ++ joined ss

joined_append : (xs ys : List (List Token)) → joined (xs ++ ys) ≡ joined xs ++ joined ys
joined_append [] ys = refl
joined_append (x ∷ xs) ys = ap (λ (l : List Token). x ++ l) (joined_append xs ys) ∙ sym (append_assoc x (joined xs) (joined ys))

module _ (P : List Token → Type 0) where
  all_front : (xs ys : List (List Token)) → All P (xs ++ ys) → All P xs
  all_front [] ys all = All-nil P
  all_front (x ∷ xs) ys all = All-cons P x xs (All-head P x (xs ++ ys) all) (all_front xs ys (All-tail P x (xs ++ ys) all))

  all_behind : (xs ys : List (List Token)) → All P (xs ++ ys) → All P ys
  all_behind [] ys all = all
  all_behind (x ∷ xs) ys all = all_behind xs ys (All-tail P x (xs ++ ys) all)

module _ (ending : List ℕ → Ending) where
  -- tokens that are one whole statement
  abbrev IsOne : List Token → Type 0
  IsOne s = statements ending [] s ≡ (s ∷ [], [])

  -- tokens of which no statement is whole
  abbrev IsBegun : List Token → Type 0
  IsBegun ps = statements ending [] ps ≡ ([], ps)

  -- the tokens of the statements, and those left over, are all
  pub all_kept : (before ps : List Token) → joined (statements ending before ps).0 ++ (statements ending before ps).1 ≡ before ++ ps
  unfolding statements
  all_kept before [] = sym (append-nil before)
  all_kept before (p ∷ ps) =
      let begun = before ++ p ∷ [] in
      let later = statements ending [] ps in
      ⊎_elim
      (λ whole. rw whole (append_assoc begun (joined later.0) later.1 ∙ ap (λ (l : List Token). begun ++ l) (all_kept [] ps) ∙ append_assoc before (p ∷ []) ps))
      (λ more. rw more (all_kept begun ps ∙ append_assoc before (p ∷ []) ps))
      (cases (is_whole ending begun))

  -- where tokens that end no statement stand first, the statements of more are cut as if these were read before
  after_begun : (before ps : List Token) → IsBegun before → statements ending [] (before ++ ps) ≡ statements ending before ps
  after_begun before ps begun =
      statements_join ending before ps []
      ∙ ap (λ (s : List (List Token) × List Token). (s.0 ++ (statements ending s.1 ps).0, (statements ending s.1 ps).1)) begun

  -- each statement is one by itself
  each_is_one : (before ps : List Token) → IsBegun before → All IsOne (statements ending before ps).0
  unfolding statements
  each_is_one before [] begun = All-nil IsOne
  each_is_one before (p ∷ ps) begun =
      let next = after_begun before (p ∷ []) begun in
      ⊎_elim
      (λ whole.
      let one : IsOne (before ++ p ∷ []) = next ∙ rw whole refl in
      rw whole (All-cons IsOne (before ++ p ∷ []) (statements ending [] ps).0 one (each_is_one [] ps refl)))
      (λ more.
      let still : IsBegun (before ++ p ∷ []) = next ∙ rw more refl in
      rw more (each_is_one (before ++ p ∷ []) ps still))
      (cases (is_whole ending (before ++ p ∷ [])))

  -- so they are what their tokens are cut into
  joined_is_cut : (ss : List (List Token)) → All IsOne ss → statements ending [] (joined ss) ≡ (ss, [])
  unfolding statements
  joined_is_cut [] all = refl
  joined_is_cut (s ∷ ss) all =
      let later = joined ss in
      statements_join ending s later []
      ∙ ap (λ (x : List (List Token) × List Token). (x.0 ++ (statements ending x.1 later).0, (statements ending x.1 later).1)) (All-head IsOne s ss all)
      ∙ ap (λ (x : List (List Token) × List Token). (s ∷ x.0, x.1)) (joined_is_cut ss (All-tail IsOne s ss all))

  -- tokens are those of some statements, of one, and of others
  pub record Parted (ps : List Token) (xs : List (List Token)) (s : List Token) (ys : List (List Token)) : Type 0 where
    pub front : List Token
    pub behind : List Token
    pub pieces : ps ≡ front ++ (s ++ behind)
    pub first : statements ending [] front ≡ (xs, [])
    pub others : statements ending [] behind ≡ (ys, [])

  pub parted : (ps : List Token) (xs : List (List Token)) (s : List Token) (ys : List (List Token)) → statements ending [] ps ≡ (xs ++ s ∷ ys, []) → Parted ps xs s ys
  unfolding statements
  parted ps xs s ys e =
      let all : All IsOne (xs ++ s ∷ ys) = rw (← ap (λ (x : List (List Token) × List Token). x.0) e) (each_is_one [] ps refl) in
      let kept : joined (xs ++ s ∷ ys) ++ [] ≡ ps = ap (λ (x : List (List Token) × List Token). joined x.0 ++ x.1) (sym e) ∙ all_kept [] ps in
      record {
        front = joined xs;
        behind = joined ys;
        pieces = sym kept ∙ append-nil (joined (xs ++ s ∷ ys)) ∙ joined_append xs (s ∷ ys);
        first = joined_is_cut xs (all_front IsOne xs (s ∷ ys) all);
        others = joined_is_cut ys (All-tail IsOne s ys (all_behind IsOne xs (s ∷ ys) all));
      }
