-- The lines of all pairs of things, put in by calls at the pairs whose rectangles meet.
use Rattle.std.proofs.Common.{◌≡◌, ◌+◌, ℕ, Bool, true, false, cond, List, [], ◌∷◌, ◌++◌, map, filter, refl, sym, ap, subst, ◌∙◌, append_assoc, Option, Result, Ok, Err, IfOk}
use Rattle.std.proofs.lemmas.List.{append-nil}
use Rattle.design_model.specs.Geometry.{Rectangle}
use Rattle.design_model.specs.Views.{rectangle_of}
use Rattle.design_model.specs.Families.{pair_lines}
use Rattle.shape_rules.specs.Meeting.{meets, pairs_of}
use Rattle.line_laws.specs.Lines.{SameLines, SameThings, times}
use Rattle.line_laws.proofs.EachSums.{each_is_unordered}
use Rattle.line_laws.proofs.PairSums.{times-append}
use Rattle.shape_pairs.specs.declared.pairs.Numbered.{Numbered}
use Rattle.shape_pairs.specs.Pairs.{CallsLead, LeadsOverMeetingPairs, is_meeting, meeting_pairs}
use Rattle.shape_pairs.specs.PairLaws.{lines_of_pairs}
use Rattle.shape_pairs.proofs.PairLemmas.{meeting_pairs_have_the_lines}
use Rattle.net_touches.specs.Things.{Adds, Thing, box_of, lines_at, lines_of_found, lines_of_two}
use Rattle.net_touches.specs.ThingViews.{seen, seen_at}
use Rattle.net_touches.proofs.BoolLemmas.{split}
use Rattle.net_touches.proofs.LineLemmas.{apart_none}
use Rattle.net_touches.proofs.PairLemmas.{TheLines, pairs_mapped, pairs_same}

module _ (name_of : ℕ → List ℕ) (xs : List Thing) where
  -- what two rectangles have, by the things whose places they have
  abbrev pub at_places : Numbered → Numbered → TheLines
  at_places a b = lines_at name_of xs a.id b.id

  -- each call adds lines
  abbrev pub Step : {E : Type 0} → Result TheLines E → ℕ → ℕ → Result TheLines E → Type 0
  Step from i j to = Adds (lines_at name_of xs i j) from to

  added : {E : Type 0} (ps : List (Numbered × Numbered)) (from to : Result TheLines E) → CallsLead Step from ps to → Adds (lines_of_pairs at_places ps) from to
  added [] from (Ok l) e = (l, e, sym (append-nil l))
  added [] from (Err x) e = tt
  added {E} (p ∷ ps) from (Ok l) e =
      let later = added ps e.0 (Ok l) e.2 in
      let now : Adds (at_places p.0 p.1) from (Ok later.0) = subst (λ (m : Result TheLines E). Adds (at_places p.0 p.1) from m) later.1 e.1 in
      let joined : l ≡ (now.0 ++ at_places p.0 p.1) ++ lines_of_pairs at_places ps = later.2 ∙ ap (λ (ls : TheLines). ls ++ lines_of_pairs at_places ps) now.2 in
      (now.0, now.1, joined ∙ append_assoc now.0 (at_places p.0 p.1) (lines_of_pairs at_places ps))
  added (p ∷ ps) from (Err x) e = tt

  abbrev TheSeen : Type 0
  TheSeen = Option Thing × Rectangle

  -- the same where rectangles meet, and else none
  abbrev guarded : TheSeen → TheSeen → TheLines
  guarded a b = cond (meets a.1 b.1) (lines_of_found name_of a.0 b.0) []

  abbrev guarded_at : Numbered → Numbered → TheLines
  guarded_at a b = guarded (seen_at xs a) (seen_at xs b)

  of_meeting : (ps : List (Numbered × Numbered)) → lines_of_pairs at_places (filter is_meeting ps) ≡ lines_of_pairs guarded_at (filter is_meeting ps)
  of_meeting [] = refl
  of_meeting (p ∷ ps) =
      let r = of_meeting ps in
      split (is_meeting p)
      (λ (t : is_meeting p ≡ true).
      let e : guarded_at p.0 p.1 ≡ at_places p.0 p.1 = ap (λ (b : Bool). cond b (at_places p.0 p.1) []) t in
      let kept : filter is_meeting (p ∷ ps) ≡ p ∷ filter is_meeting ps = ap (λ (b : Bool). cond b (p ∷ filter is_meeting ps) (filter is_meeting ps)) t in
      ap (λ (qs : List (Numbered × Numbered)). lines_of_pairs at_places qs) kept
      ∙ ap (λ (ls : TheLines). at_places p.0 p.1 ++ ls) r
      ∙ ap (λ (ls : TheLines). ls ++ lines_of_pairs guarded_at (filter is_meeting ps)) (sym e)
      ∙ ap (λ (qs : List (Numbered × Numbered)). lines_of_pairs guarded_at qs) (sym kept))
      (λ (t : is_meeting p ≡ false).
      let left : filter is_meeting (p ∷ ps) ≡ filter is_meeting ps = ap (λ (b : Bool). cond b (p ∷ filter is_meeting ps) (filter is_meeting ps)) t in
      ap (λ (qs : List (Numbered × Numbered)). lines_of_pairs at_places qs) left ∙ r ∙ ap (λ (qs : List (Numbered × Numbered)). lines_of_pairs guarded_at qs) (sym left))

  guarded_seen : (x y : Thing) → guarded (seen x) (seen y) ≡ lines_of_two name_of x y
  guarded_seen x y =
      split (meets (box_of x) (box_of y))
      (λ t. ap (λ (b : Bool). cond b (lines_of_two name_of x y) []) t)
      (λ t. ap (λ (b : Bool). cond b (lines_of_two name_of x y) []) t ∙ sym (apart_none name_of x y t))

  of_things : (items : List Numbered) → map (seen_at xs) items ≡ map seen xs → lines_of_pairs at_places (meeting_pairs items) ≡ pair_lines (lines_of_two name_of) xs
  of_things items numbered =
      of_meeting (pairs_of items)
      ∙ sym (meeting_pairs_have_the_lines Numbered guarded_at (λ n. rectangle_of n.rect) items (λ a b t. ap (λ (m : Bool). cond m (at_places a b) []) t))
      ∙ sym (pairs_mapped guarded (seen_at xs) items)
      ∙ ap (λ (ss : List TheSeen). pair_lines guarded ss) numbered
      ∙ pairs_mapped guarded seen xs
      ∙ pairs_same (λ x y. guarded (seen x) (seen y)) (lines_of_two name_of) guarded_seen xs

  same_as : (items : List Numbered) (met : List (Numbered × Numbered)) (old l : TheLines) → map (seen_at xs) items ≡ map seen xs → SameThings met (meeting_pairs items)
      → l ≡ old ++ lines_of_pairs at_places met → SameLines l (old ++ pair_lines (lines_of_two name_of) xs)
  same_as items met old l numbered same is =
      let unordered = each_is_unordered (Numbered × Numbered) (λ p. at_places p.0 p.1) met (meeting_pairs items) same in
      record {
        often = λ q.
            ap (times q) is
            ∙ times-append q old (lines_of_pairs at_places met)
            ∙ ap (λ (n : ℕ). times q old + n) (unordered.often q ∙ ap (times q) (of_things items numbered))
            ∙ sym (times-append q old (pair_lines (lines_of_two name_of) xs));
      }

  -- calls that lead over the pairs that meet put in the lines of all pairs
  pub lead_to_lines : {E : Type 0} (items : List Numbered) (old : TheLines) (to : Result TheLines E) → map (seen_at xs) items ≡ map seen xs
      → LeadsOverMeetingPairs Step items (Ok old) to → IfOk to (λ l. SameLines l (old ++ pair_lines (lines_of_two name_of) xs))
  lead_to_lines {E} items old (Ok l) numbered led =
      let all : Adds (lines_of_pairs at_places led.0) (Ok old) (Ok l) = added led.0 (Ok old) (Ok l) led.2 in
      let e : ◌≡◌ {A = Result TheLines E} (Ok old) (Ok all.0) = all.1 in
      let first : old ≡ all.0 = cc in
      same_as items led.0 old l numbered led.1 (all.2 ∙ ap (λ (ls : TheLines). ls ++ lines_of_pairs at_places led.0) (sym first))
  lead_to_lines items old (Err e) numbered led = tt
