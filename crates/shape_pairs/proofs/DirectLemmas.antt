-- The pairs of a list that pass a test, one after the other.
use Rattle.std.proofs.Common.{◌≡◌, ℕ, Bool, List, ◌∷◌, map, filter, ap, subst, sym, ◌∙◌}
use Rattle.shape_rules.specs.Meeting.{pairs_of}
use Rattle.shape_pairs.specs.declared.pairs.Numbered.{Numbered}
use Rattle.shape_pairs.specs.Pairs.{CallsLead, one_if}
use Rattle.shape_pairs.proofs.Calls.{folds_append, filter_one, filter_append}

module _ (test : Numbered × Numbered → Bool) where
  -- the pairs of one with others that pass
  abbrev pub pairs_with : Numbered → List Numbered → List (Numbered × Numbered)
  pairs_with first others = filter test (map (λ other. (first, other)) others)

  -- the pairs of a list that pass
  abbrev pub pairs_within : List Numbered → List (Numbered × Numbered)
  pairs_within items = filter test (pairs_of items)

  module _ {B : Type 0} (call : B → ℕ → ℕ → B → Type 0) where
    pub next_one : (a b last : B) (first other : Numbered) (later : List Numbered) → CallsLead call a (one_if (test (first, other)) (first, other)) b
        → CallsLead call b (pairs_with first later) last → CallsLead call a (pairs_with first (other ∷ later)) last
    next_one a b last first other later f g =
        subst (λ ps. CallsLead call a ps last) (sym (filter_one test (first, other) (map (λ other. (first, other)) later)))
        (folds_append (λ a p b. call a p.0.id p.1.id b) a b last (one_if (test (first, other)) (first, other)) (pairs_with first later) f g)

    pub next_list : (a b last : B) (rest : List Numbered) (first : Numbered) (later : List Numbered) → rest ≡ first ∷ later → CallsLead call a (pairs_with first later) b
        → CallsLead call b (pairs_within later) last → CallsLead call a (pairs_within rest) last
    next_list a b last rest first later is f g =
        subst (λ ps. CallsLead call a ps last) (sym (ap pairs_within is ∙ filter_append test (map (λ other. (first, other)) later) (pairs_of later)))
        (folds_append (λ a p b. call a p.0.id p.1.id b) a b last (pairs_with first later) (pairs_within later) f g)
