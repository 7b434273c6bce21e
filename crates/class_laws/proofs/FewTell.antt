-- Few parts tell that one more is in a class of theirs.
use Rattle.std.proofs.Common.{◌≡◌, ◌<◌, ℕ, zero, suc, Bool, true, cond, List, [], ◌∷◌, filter, refl, sym, ap, subst, ◌∙◌, arith, count_by}
use Rattle.std.specs.Prelude.{Option, Some, None, ◌==◌, slice_get}
use Rattle.std.specs.List.{cons_option}
use Rattle.std.proofs.lemmas.List.Sums.{sum_by-cons}
use Rattle.std.proofs.lemmas.Option.{slice_get_within}
use Rattle.shape_rules.specs.Classes.{distinct, label_at}
use Rattle.connection_rules.specs.NetParts.{Part}
use Rattle.connection_rules.specs.PartClasses.{are_joined, part_labels, pin_marks}
use Rattle.part_classes.specs.Laws.{LabelsAreClasses}
use Rattle.part_classes.proofs.CountLaws.{holding_few, is_in}
use Rattle.part_classes.proofs.LabelLaws.{split}
use Rattle.class_laws.specs.OneMore.{AreJoinedAt, FewTell, IsInAClass, parts_at}
use Rattle.class_laws.proofs.Differences.{StandsAlone, both_parts, in_filter, one_is_one, one_stands, passes}
use Rattle.class_laws.proofs.JoinedPairs.{JoinsKept}
use Rattle.class_laws.proofs.Marked.{HasLabel, found_marked, length_labels, marked_there}
use Rattle.class_laws.proofs.WithOne.{all_labels, finest, is_near, label_of, labels_kept, labels_with, one_more}

by_option : {X P : Type 0} (o : Option X) → (o ≡ None → P) → ((x : X) → o ≡ Some x → P) → P
by_option None none some = none refl
by_option (Some x) none some = some x refl

-- the labels that parts at some places have among all parts
abbrev put_label : Option Part → ℕ → List ℕ → List ℕ
put_label None l ls = ls
put_label (Some q) l ls = l ∷ ls

abbrev labels_at : List ℕ → List Part → List ℕ → List ℕ
labels_at ls ps [] = []
labels_at ls ps (i ∷ is) = put_label (slice_get ps i) (label_at ls i) (labels_at ls ps is)

-- where a part at one of the places stands among all,
record StandsFor (ls : List ℕ) (ps : List Part) (places : List ℕ) (k : ℕ) (q : Part) : Type 0 where
  place : ℕ
  at : slice_get ps place ≡ Some q
  label : label_at (labels_at ls ps places) k ≡ label_at ls place

-- and the other way
record StandsAmong (ls : List ℕ) (ps : List Part) (places : List ℕ) (i : ℕ) (q : Part) : Type 0 where
  spot : ℕ
  at : slice_get (parts_at ps places) spot ≡ Some q
  label : label_at (labels_at ls ps places) spot ≡ label_at ls i

module _ (ls : List ℕ) (ps : List Part) where
  in_front : (i : ℕ) (is : List ℕ) (r : Part) (k : ℕ) (q : Part) → slice_get ps i ≡ Some r → slice_get (r ∷ parts_at ps is) k ≡ Some q
      → ((j : ℕ) → slice_get (parts_at ps is) j ≡ Some q → StandsFor ls ps is j q) → StandsFor ls ps (i ∷ is) k q
  in_front i is r zero q some at later = record {
    place = i;
    at = some ∙ at;
    label = ap (λ o. label_at (put_label o (label_at ls i) (labels_at ls ps is)) 0) some;
  }
  in_front i is r (suc k) q some at later = let f = later k at in record {
    place = f.place;
    at = f.at;
    label = ap (λ o. label_at (put_label o (label_at ls i) (labels_at ls ps is)) (suc k)) some ∙ f.label;
  }

  stands_for : (places : List ℕ) (k : ℕ) (q : Part) → slice_get (parts_at ps places) k ≡ Some q → StandsFor ls ps places k q
  stands_for [] k q at = absurd (cc)
  stands_for (i ∷ is) k q at =
      by_option (slice_get ps i)
      (λ none. let f = stands_for is k q (sym (ap (λ o. slice_get (cons_option o (parts_at ps is)) k) none) ∙ at) in record {
        place = f.place;
        at = f.at;
        label = ap (λ o. label_at (put_label o (label_at ls i) (labels_at ls ps is)) k) none ∙ f.label;
      })
      (λ r some. in_front i is r k q some (sym (ap (λ o. slice_get (cons_option o (parts_at ps is)) k) some) ∙ at) (λ j. stands_for is j q))

  stands_among : (places : List ℕ) (i : ℕ) (q : Part) → slice_get ps i ≡ Some q → 0 < count_by (λ k. k == i) places → StandsAmong ls ps places i q
  stands_among [] i q at h = absurd (omega (arith, h))
  stands_among (k ∷ ks) i q at h =
      let parts : Option Part → ℕ → Option Part = λ o j. slice_get (cons_option o (parts_at ps ks)) j in
      let labels : Option Part → ℕ → ℕ = λ o j. label_at (put_label o (label_at ls k) (labels_at ls ps ks)) j in
      split (k == i)
      (λ t. let e : k ≡ i = grind (arith, t) in
      let some : slice_get ps k ≡ Some q = ap (slice_get ps) e ∙ at in
      record { spot = 0; at = ap (λ o. parts o 0) some; label = ap (λ o. labels o 0) some ∙ ap (label_at ls) e })
      (λ t. let s = sum_by-cons (λ k. cond (k == i) 1 0) k ks in
      let none = ap (λ b. cond {A = ℕ} b 1 0) t in
      let f = stands_among ks i q at (omega (arith, h, s, none)) in
      by_option (slice_get ps k)
      (λ none. record { spot = f.spot; at = ap (λ o. parts o f.spot) none ∙ f.at; label = ap (λ o. labels o f.spot) none ∙ f.label })
      (λ r some. record { spot = suc f.spot; at = ap (λ o. parts o (suc f.spot)) some ∙ f.at; label = ap (λ o. labels o (suc f.spot)) some ∙ f.label }))

abbrev is_pin : Part → Bool
is_pin p = p.is_pin

abbrev any_part : Part → Bool
any_part p = true

-- all parts that one is joined to are of one class, of which are a pin and one that it is joined to
record JoinedToOne (p : Part) (ps : List Part) : Type 0 where
  label : ℕ
  near : HasLabel (are_joined p) ps (part_labels ps) label
  pin_there : HasLabel is_pin ps (part_labels ps) label
  alone : (i : ℕ) (q : Part) → slice_get ps i ≡ Some q → are_joined p q ≡ true → label_of ps i ≡ label

-- it is among the labels of those that pass
has_label : (test : Part → Bool) (ps : List Part) (k : ℕ) → HasLabel test ps (part_labels ps) k → is_in k (labels_with test ps) ≡ true
has_label test ps k h = subst (λ l. is_in l (labels_with test ps) ≡ true) h.label (marked_there test ps (part_labels ps) h.place h.part (length_labels ps) h.at h.passes)

module _ (classes : LabelsAreClasses) (p : Part) (pin_first : p.is_pin ≡ true) where
  -- where it adds no class of a kind, one label of that kind is near
  one_near : (ps : List Part) (test : Part → Bool) → test p ≡ true → distinct (labels_with test (p ∷ ps)) ≡ distinct (labels_with test ps)
      → distinct (filter (is_near p ps) (labels_with test ps)) ≡ 1
  one_near ps test t e = let a = one_more classes p ps test t in let b = both_parts (is_near p ps) (labels_with test ps) in omega (arith, a, b, e)

  -- so all that it is joined to have that label
  near_label : (ps : List Part) (d : ℕ) → StandsAlone (filter (is_near p ps) (labels_with any_part ps)) d
      → (i : ℕ) (q : Part) → slice_get ps i ≡ Some q → are_joined p q ≡ true → label_of ps i ≡ d
  near_label ps d s i q at t =
      let labels = part_labels ps in
      let is_one = marked_there (are_joined p) ps labels i q (length_labels ps) at t in
      s.alone (label_of ps i) (in_filter (is_near p ps) (label_of ps i) is_one (labels_with any_part ps) ∙ marked_there any_part ps labels i q (length_labels ps) at refl)

  near_alike : (ps : List Part) (c d : ℕ) → StandsAlone (filter (is_near p ps) (labels_with any_part ps)) d → HasLabel (are_joined p) ps (part_labels ps) c
      → (i : ℕ) (q : Part) → slice_get ps i ≡ Some q → are_joined p q ≡ true → label_of ps i ≡ c
  near_alike ps c d s h i q at t = near_label ps d s i q at t ∙ sym (near_label ps d s h.place h.part h.at h.passes) ∙ h.label

  told_by_labels : (ps : List Part) (c d : ℕ) → StandsAlone (filter (is_near p ps) (labels_with is_pin ps)) c
      → StandsAlone (filter (is_near p ps) (labels_with any_part ps)) d → JoinedToOne p ps
  told_by_labels ps c d first second =
      let both = passes (is_near p ps) c (labels_with is_pin ps) first.stands in
      let near = found_marked (are_joined p) ps (part_labels ps) c both.0 in
      record { label = c; near = near; pin_there = found_marked is_pin ps (part_labels ps) c both.1; alone = near_alike ps c d second near }

  all_as_many : (ps : List Part) → IsInAClass p ps → distinct (labels_with any_part (p ∷ ps)) ≡ distinct (labels_with any_part ps)
  all_as_many ps told =
      let few_now = holding_few (pin_marks (p ∷ ps)) (part_labels (p ∷ ps)) in
      let few_before = holding_few (pin_marks ps) (part_labels ps) in
      let pins = told.classes in
      let bare_too = told.floating in
      let now = ap distinct (all_labels (p ∷ ps)) in
      let before = ap distinct (all_labels ps) in
      omega (arith, pins, bare_too, few_now, few_before, now, before)

  -- where a pin is in a class of parts, all that it is joined to are of one,
  joined_to_one : (ps : List Part) → IsInAClass p ps → JoinedToOne p ps
  joined_to_one ps told =
      let first = one_stands (filter (is_near p ps) (labels_with is_pin ps)) (one_near ps is_pin pin_first told.classes) in
      let second = one_stands (filter (is_near p ps) (labels_with any_part ps)) (one_near ps any_part refl (all_as_many ps told)) in
      told_by_labels ps first.0 second.0 first.1 second.1

  -- and the other way
  in_a_class : (ps : List Part) → JoinedToOne p ps → IsInAClass p ps
  in_a_class ps one =
      let near = is_near p ps in
      let c = one.label in
      let c_near = has_label (are_joined p) ps c one.near in
      let no_other : (k : ℕ) → near k ≡ true → k ≡ c =
      λ k t. let f = found_marked (are_joined p) ps (part_labels ps) k t in sym f.label ∙ one.alone f.place f.part f.at f.passes in
      let as_many : (test : Part → Bool) → test p ≡ true → is_in c (labels_with test ps) ≡ true → distinct (labels_with test (p ∷ ps)) ≡ distinct (labels_with test ps) =
      λ test t there.
      let a = one_more classes p ps test t in
      let b = both_parts near (labels_with test ps) in
      let only = one_is_one (filter near (labels_with test ps)) c (record {
        stands = in_filter near c c_near (labels_with test ps) ∙ there;
        alone = λ k h. no_other k (passes near k (labels_with test ps) h).0;
      }) in
      omega (arith, a, b, only) in
      let pins = as_many is_pin pin_first (has_label is_pin ps c one.pin_there) in
      let all_there : is_in c (labels_with any_part ps) ≡ true =
      has_label any_part ps c (record { place = one.near.place; part = one.near.part; at = one.near.at; passes = refl; label = one.near.label }) in
      let all = sym (ap distinct (all_labels (p ∷ ps))) ∙ as_many any_part refl all_there ∙ ap distinct (all_labels ps) in
      record { classes = pins; floating = omega (arith, pins, all) }

  -- where all that it is joined to stand at some places
  module _ (ps : List Part) (places : List ℕ) (joined : AreJoinedAt p ps places) (one : JoinedToOne p (parts_at ps places)) where
    abbrev few : List Part
    few = parts_at ps places

    abbrev among_all : ℕ → ℕ
    among_all = label_at (labels_at (part_labels ps) ps places)

    -- two of these that are joined have one label among all
    few_kept : JoinsKept among_all few
    few_kept i j a b first second t =
        let f = stands_for (part_labels ps) ps places i a first in
        let g = stands_for (part_labels ps) ps places j b second in
        f.label ∙ labels_kept classes ps f.place g.place a b f.at g.at t ∙ sym g.label

    -- a part at one of the places, of the class that it is joined to
    carried : (test : Part → Bool) → HasLabel test few (part_labels few) one.label → HasLabel test ps (part_labels ps) (among_all one.near.place)
    carried test h =
        let f = stands_for (part_labels ps) ps places h.place h.part h.at in
        let same = finest classes few among_all few_kept h.place one.near.place (slice_get_within few h.place h.part h.at) (slice_get_within few one.near.place one.near.part one.near.at)
        (h.label ∙ sym one.near.label) in
        record { place = f.place; part = h.part; at = f.at; passes = h.passes; label = sym f.label ∙ same }

    joined_in_all : JoinedToOne p ps
    joined_in_all = record {
      label = among_all one.near.place;
      near = carried (are_joined p) one.near;
      pin_there = carried is_pin one.pin_there;
      alone = λ i q at t.
          let g = stands_among (part_labels ps) ps places i q at (joined i q at t) in
          sym g.label
          ∙ finest classes few among_all few_kept g.spot one.near.place (slice_get_within few g.spot q g.at) (slice_get_within few one.near.place one.near.part one.near.at)
          (one.alone g.spot q g.at t ∙ sym one.near.label);
    }

pub few_tell : LabelsAreClasses → FewTell
few_tell classes p ps places pin_first joined told =
    in_a_class classes p pin_first ps (joined_in_all classes p pin_first ps places joined (joined_to_one classes p pin_first (parts_at ps places) told))
