-- What the heads of parts tell of the parts, and how many classes there are at most.
use Rattle.std.proofs.Common.{◌≡◌, ◌≤◌, ℕ, suc, Bool, not, ◌||◌, List, [], ◌∷◌, map, drop, length, refl, ap, ◌∙◌, arith}
use Rattle.std.specs.Prelude.{cond, ◌==◌}
use Rattle.std.specs.List.{list_any}
use Rattle.std.proofs.lemmas.List.{length-map}
use Rattle.shape_rules.specs.Classes.{distinct, numbers}
use Rattle.connection_rules.specs.NetParts.{Part}
use Rattle.connection_rules.specs.NetLines.{is_drawn}
use Rattle.connection_rules.specs.PartClasses.{joins, part_labels, pin_marks, with_pins, without_pins}
use Rattle.net_lists.specs.declared.parts.NetShape.{NetShape}
use Rattle.net_lists.specs.declared.parts.PartHead.{PartHead}
use Rattle.net_lists.specs.Counts.{shape_count}
use Rattle.net_lists.specs.PartCuts.{part_with, parts_of}
use Rattle.net_lists.proofs.CutLemmas.{cut_length}
use Rattle.part_classes.proofs.CountLaws.{holding_few}
use Rattle.part_classes.proofs.LabelLaws.{length_numbers, split}
use Rattle.net_classes.proofs.JoinedLabels.{length_all_joined}

pub length_parts : (hs : List PartHead) (ss : List NetShape) → length (parts_of hs ss) ≡ length hs
length_parts hs ss = cut_length shape_count part_with hs ss

pub heads_mark : (hs : List PartHead) (ss : List NetShape) → map (λ (h : PartHead). h.is_pin) hs ≡ pin_marks (parts_of hs ss)
heads_mark [] ss = refl
heads_mark (h ∷ hs) ss = ap (λ (l : List Bool). h.is_pin ∷ l) (heads_mark hs (drop h.shapes ss))

pub heads_tell : (hs : List PartHead) (ss : List NetShape) → list_any (λ (h : PartHead). not h.is_pin) hs ≡ is_drawn (parts_of hs ss)
heads_tell [] ss = refl
heads_tell (h ∷ hs) ss = ap (λ (t : Bool). not h.is_pin || t) (heads_tell hs (drop h.shapes ss))

pub length_labels : (parts : List Part) → length (part_labels parts) ≡ length parts
length_labels parts = length_all_joined (joins parts) (numbers 0 (length parts)) ∙ length_numbers 0 (length parts)

distinct_few : (ls : List ℕ) → distinct ls ≤ length ls
unfolding distinct
distinct_few [] = omega arith
distinct_few (l ∷ ls) =
    let r = distinct_few ls in
    split (list_any (λ k. k == l) ls)
    (λ t. let e : distinct (l ∷ ls) ≡ distinct ls = ap (λ (b : Bool). cond b (distinct ls) (suc (distinct ls))) t in omega (arith, e, r))
    (λ t. let e : distinct (l ∷ ls) ≡ suc (distinct ls) = ap (λ (b : Bool). cond b (distinct ls) (suc (distinct ls))) t in omega (arith, e, r))

-- no more classes than parts
pub few_with_pins : (parts : List Part) → with_pins parts ≤ length parts
few_with_pins parts =
    let a = holding_few (pin_marks parts) (part_labels parts) in
    let b = distinct_few (part_labels parts) in
    let c = length_labels parts in
    omega (arith, a, b, c)

pub few_without_pins : (parts : List Part) → without_pins parts ≤ length parts
few_without_pins parts =
    let b = distinct_few (part_labels parts) in
    let c = length_labels parts in
    omega (arith, b, c)

pub length_marks : (parts : List Part) → length (pin_marks parts) ≡ length parts
length_marks parts = length-map parts (λ (p : Part). p.is_pin)
