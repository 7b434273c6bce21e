-- The labels after the parts of all pairs of shapes that meet are joined, where they lie on one layer.
use Rattle.std.proofs.Common.{◌≡◌, ℕ, zero, suc, Bool, true, false, not, cond, ◌&&◌, ◌||◌, List, [], ◌∷◌, ◌++◌, map, length, drop, refl, sym, ap, ap₂, subst, ◌∙◌, arith}
use Rattle.std.specs.Prelude.{Option, Some, None, Result, Ok, Err, IfOk, ◌==◌, slice_get}
use Rattle.std.specs.List.{list_any, FoldsTo}
use Rattle.std.proofs.lemmas.List.{length-map}
use Rattle.std.proofs.lemmas.List.Folds.{list_any-append}
use Rattle.design_model.specs.declared.geometry.Rect.{Rect}
use Rattle.design_model.specs.Views.{rectangle_of}
use Rattle.shape_rules.specs.Classes.{all_joined, joined, numbers}
use Rattle.shape_rules.specs.Meeting.{meets, pairs_of}
use Rattle.connection_rules.specs.NetParts.{Part}
use Rattle.connection_rules.specs.PartClasses.{joins, part_labels}
use Rattle.line_laws.specs.Lines.{SameThings}
use Rattle.part_classes.proofs.CountLaws.{or_false}
use Rattle.part_classes.proofs.LabelLaws.{length_numbers, order_is_open}
use Rattle.shape_pairs.specs.declared.pairs.Numbered.{Numbered}
use Rattle.shape_pairs.specs.Pairs.{LeadsOverMeetingPairs, is_meeting, meeting_pairs}
use Rattle.shape_pairs.proofs.Leading.{leads_by}
use Rattle.net_classes.specs.declared.part_shapes.PartShape.{PartShape}
use Rattle.net_classes.specs.PartShapes.{join_them, joined_at, joined_found, numbered_from, of_part, shapes_from}
use Rattle.net_classes.proofs.AnyPairs.{and_false, any_filter, any_never, any_of_same, any_pair, pairs_any, pairs_map, pairs_same}
use Rattle.net_classes.proofs.Tests.{all_below, is_below, parts_them, respect_alike, tested_below}
use Rattle.net_classes.proofs.TouchingShapes.{any_join, joins_below, touching_are_joined, touching_pass}

-- the joins that two shapes make, of which there may be none
abbrev joins_of : ℕ → Option PartShape → Option PartShape → List (ℕ × ℕ)
joins_of n (Some a) (Some b) = cond (join_them n a b) ((a.part, b.part) ∷ []) []
joins_of n (Some a) None = []
joins_of n None b = []

joined_one : (t : Bool) (e : ℕ × ℕ) (ls : List ℕ) → cond t (joined e ls) ls ≡ all_joined (cond t (e ∷ []) []) ls
unfolding all_joined
joined_one true e ls = refl
joined_one false e ls = refl

joined_is : (a b : Option PartShape) (ls : List ℕ) → joined_found a b ls ≡ all_joined (joins_of (length ls) a b) ls
unfolding all_joined
joined_is (Some a) (Some b) ls = joined_one (join_them (length ls) a b) (a.part, b.part) ls
joined_is (Some a) None ls = refl
joined_is None b ls = refl

all_joined_append : (es fs : List (ℕ × ℕ)) (ls : List ℕ) → all_joined (es ++ fs) ls ≡ all_joined es (all_joined fs ls)
unfolding all_joined
all_joined_append [] fs ls = refl
all_joined_append (e ∷ es) fs ls = ap (joined e) (all_joined_append es fs ls)

pub length_all_joined : (es : List (ℕ × ℕ)) (ls : List ℕ) → length (all_joined es ls) ≡ length ls
unfolding all_joined
length_all_joined [] ls = refl
length_all_joined (e ∷ es) ls = length-map (all_joined es ls) _ ∙ length_all_joined es ls

turned : (a b : Bool) → (a || b) ≡ (b || a)
turned true true = refl
turned true false = refl
turned false true = refl
turned false false = refl

module _ (ss : List PartShape) (n : ℕ) where
  abbrev joins_at : Numbered × Numbered → List (ℕ × ℕ)
  joins_at p = joins_of n (slice_get ss p.0.id) (slice_get ss p.1.id)

  -- the joins that pairs make, of which the last comes first
  abbrev joins_back : List (Numbered × Numbered) → List (ℕ × ℕ)
  joins_back [] = []
  joins_back (p ∷ ps) = joins_back ps ++ joins_at p

  any_back : (test : ℕ × ℕ → Bool) (ps : List (Numbered × Numbered)) → list_any test (joins_back ps) ≡ list_any (λ p. list_any test (joins_at p)) ps
  any_back test [] = refl
  any_back test (p ∷ ps) =
      list_any-append test (joins_back ps) (joins_at p)
      ∙ ap (λ (t : Bool). t || list_any test (joins_at p)) (any_back test ps)
      ∙ turned (list_any (λ q. list_any test (joins_at q)) ps) (list_any test (joins_at p))

  one_below : (layer below : Bool) (e : ℕ × ℕ) → is_below n e ≡ below → list_any (λ f. not (is_below n f)) (cond (layer && below) (e ∷ []) []) ≡ false
  one_below true true e h = ap (λ (t : Bool). not t || false) h
  one_below true false e h = refl
  one_below false below e h = refl

  made_below : (a b : Option PartShape) → list_any (λ e. not (is_below n e)) (joins_of n a b) ≡ false
  made_below (Some a) (Some b) = one_below (a.layer.0 == b.layer.0) (is_below n (a.part, b.part)) (a.part, b.part) refl
  made_below (Some a) None = refl
  made_below None b = refl

  back_below : (ps : List (Numbered × Numbered)) → list_any (λ e. not (is_below n e)) (joins_back ps) ≡ false
  back_below ps =
      any_back (λ e. not (is_below n e)) ps
      ∙ any_never (λ (p : Numbered × Numbered). list_any (λ e. not (is_below n e)) (joins_at p)) (λ p. made_below (slice_get ss p.0.id) (slice_get ss p.1.id)) ps

  -- steps that join, seen by their labels
  module _ {B : Type 0} (view : B → List ℕ) where
    pub along : (ps : List (Numbered × Numbered)) (from to : B) → length (view from) ≡ n
        → FoldsTo (λ a p b. view b ≡ joined_at ss p.0.id p.1.id (view a)) from ps to → view to ≡ all_joined (joins_back ps) (view from)
    unfolding all_joined
    along [] from to size f = sym (ap view f)
    along (p ∷ ps) from to size f =
        let made : view f.0 ≡ all_joined (joins_at p) (view from) =
        f.1 ∙ joined_is (slice_get ss p.0.id) (slice_get ss p.1.id) (view from)
        ∙ ap (λ (k : ℕ). all_joined (joins_of k (slice_get ss p.0.id) (slice_get ss p.1.id)) (view from)) size in
        let same : length (view f.0) ≡ n = ap length made ∙ length_all_joined (joins_at p) (view from) ∙ size in
        along ps f.0 to same f.2
        ∙ ap (all_joined (joins_back ps)) made
        ∙ sym (all_joined_append (joins_back ps) (joins_at p) (view from))

-- a rectangle with the shape that is looked up at its number
abbrev found_at : List PartShape → Numbered → Rect × Option PartShape
found_at ss x = (x.rect, slice_get ss x.id)

first_left : (all : List PartShape) (k : ℕ) (s : PartShape) (ss : List PartShape) → drop k all ≡ s ∷ ss → slice_get all k ≡ Some s
first_left [] zero s ss h = absurd (cc)
first_left [] (suc k) s ss h = absurd (cc)
first_left (x ∷ all) zero s ss h = cc
first_left (x ∷ all) (suc k) s ss h = first_left all k s ss h

others_left : (all : List PartShape) (k : ℕ) (s : PartShape) (ss : List PartShape) → drop k all ≡ s ∷ ss → drop (suc k) all ≡ ss
others_left [] zero s ss h = absurd (cc)
others_left [] (suc k) s ss h = absurd (cc)
others_left (x ∷ all) zero s ss h = cc
others_left (x ∷ all) (suc k) s ss h = others_left all k s ss h

own_rect : PartShape → Rect × Option PartShape
own_rect s = (s.rect, Some s)

all_found : (all : List PartShape) (k : ℕ) (ss : List PartShape) → drop k all ≡ ss → map (found_at all) (numbered_from k ss) ≡ map own_rect ss
unfolding own_rect
all_found all k [] h = refl
all_found all k (s ∷ ss) h =
    ap₂ (λ (x : Option PartShape) (l : List (Rect × Option PartShape)). (s.rect, x) ∷ l) (first_left all k s ss h) (all_found all (suc k) ss (others_left all k s ss h))

-- the test of a pair that meets
one_pair : (test : ℕ × ℕ → Bool) (meet layer below : Bool) (e : ℕ × ℕ) → (meet && list_any test (cond (layer && below) (e ∷ []) [])) ≡ ((layer && meet) && (below && test e))
one_pair test true true true e = or_false (test e)
one_pair test true true false e = refl
one_pair test true false below e = refl
one_pair test false true below e = refl
one_pair test false false below e = refl

module _ (test : ℕ × ℕ → Bool) (n : ℕ) where
  abbrev found_pass : Rect × Option PartShape → Rect × Option PartShape → Bool
  found_pass a b = meets (rectangle_of a.0) (rectangle_of b.0) && list_any test (joins_of n a.1 b.1)

  abbrev below_too : ℕ × ℕ → Bool
  below_too e = is_below n e && test e

  meeting_pass : (ss : List PartShape)
      → list_any (λ p. list_any test (joins_at ss n p)) (meeting_pairs (numbered_from 0 ss)) ≡ pairs_any (touching_pass below_too) (map of_part ss)
  unfolding own_rect
  meeting_pass ss =
      any_filter (λ p. list_any test (joins_at ss n p)) is_meeting (pairs_of (numbered_from 0 ss))
      ∙ any_pair (λ (p : Numbered × Numbered). is_meeting p && list_any test (joins_at ss n p)) (numbered_from 0 ss)
      ∙ sym (pairs_map found_pass (found_at ss) (numbered_from 0 ss))
      ∙ ap (pairs_any found_pass) (all_found ss 0 ss refl)
      ∙ pairs_map found_pass own_rect ss
      ∙ pairs_same
      (λ (a b : PartShape). found_pass (own_rect a) (own_rect b))
      (λ (a b : PartShape). touching_pass below_too (of_part a) (of_part b))
      (λ a b. one_pair test (meets (rectangle_of a.rect) (rectangle_of b.rect)) (a.layer.0 == b.layer.0) (is_below n (a.part, b.part)) (a.part, b.part))
      ss
      ∙ sym (pairs_map (touching_pass below_too) of_part ss)

own_label : (m : ℕ → ℕ) (i : ℕ) → parts_them m (i, i) ≡ false
own_label m i = grind arith

-- a labelling parts the joins of the pairs that meet as it parts those of the parts
joins_alike : (m : ℕ → ℕ) (ss : List PartShape) (parts : List Part) (met : List (Numbered × Numbered))
    → map of_part ss ≡ shapes_from 0 parts → SameThings met (meeting_pairs (numbered_from 0 ss))
    → list_any (parts_them m) (joins_back ss (length parts) met) ≡ list_any (parts_them m) (joins parts)
joins_alike m ss parts met shapes same =
    let n = length parts in
    let test = parts_them m in
    any_back ss n test met
    ∙ any_of_same (λ p. list_any test (joins_at ss n p)) met (meeting_pairs (numbered_from 0 ss)) same
    ∙ meeting_pass test n ss
    ∙ ap (pairs_any (touching_pass (below_too test n))) shapes
    ∙ touching_are_joined (below_too test n) (λ i. ap (λ (b : Bool). is_below n (i, i) && b) (own_label m i) ∙ and_false (is_below n (i, i))) 0 parts
    ∙ sym (any_join (below_too test n) parts)
    ∙ all_below n test (joins parts) (joins_below parts)

-- joins over the pairs that meet lead from parts that stand alone to the labels of the parts
pub labels_led_to : {B : Type 0} (view : B → List ℕ) (ss : List PartShape) (parts : List Part) (from to : B)
    → map of_part ss ≡ shapes_from 0 parts → view from ≡ numbers 0 (length parts)
    → (met : List (Numbered × Numbered)) → SameThings met (meeting_pairs (numbered_from 0 ss))
    → FoldsTo (λ a p b. view b ≡ joined_at ss p.0.id p.1.id (view a)) from met to
    → view to ≡ part_labels parts
labels_led_to view ss parts from to shapes alone met same f =
    let n = length parts in
    along ss n view met from to (ap length alone ∙ length_numbers 0 n) f
    ∙ ap (all_joined (joins_back ss n met)) alone
    ∙ order_is_open n (joins_back ss n met) (joins parts) (tested_below n (joins_back ss n met) (back_below ss n met)) (tested_below n (joins parts) (joins_below parts))
    (λ m. respect_alike m (joins_back ss n met) (joins parts) (joins_alike m ss parts met shapes same))

-- the same, of what may have failed
pub labels_if_ok : {E : Type 0} (call : List ℕ → ℕ → ℕ → List ℕ → Type 0) (ss : List PartShape) (parts : List Part) (items : List Numbered) (from : List ℕ)
    → ((a : List ℕ) (i j : ℕ) (b : List ℕ) → call a i j b → b ≡ joined_at ss i j a)
    → map of_part ss ≡ shapes_from 0 parts → items ≡ numbered_from 0 ss → from ≡ numbers 0 (length parts)
    → (r : Result (List ℕ) E) → IfOk r (LeadsOverMeetingPairs call items from) → IfOk r (λ to. to ≡ part_labels parts)
labels_if_ok call ss parts items from steps shapes are alone (Ok to) led =
    let l = leads_by call (λ a i j b. b ≡ joined_at ss i j a) steps items from to led in
    labels_led_to (λ ls. ls) ss parts from to shapes alone l.0 (subst (λ (xs : List Numbered). SameThings l.0 (meeting_pairs xs)) are l.1) l.2
labels_if_ok call ss parts items from steps shapes are alone (Err e) led = led
