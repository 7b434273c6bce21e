-- Layers one after the other, and the things above one.
use Rattle.std.proofs.Common.{◌≡◌, ◌-◌, ◌^◌, ℕ, Bool, true, false, cond, not, List, [], ◌∷◌, ◌++◌, map, filter, refl, sym, ap, ap₂, subst, ◌∙◌, arith, Option, Some, None, nat_lt}
use Rattle.std.specs.Prelude.{◌&&◌, ◌==◌}
use Rattle.std.proofs.lemmas.Bool.{and_parts}
use Rattle.std.proofs.lemmas.List.{append-nil, map-append}
use Rattle.std.proofs.lemmas.List.Elements.{filter-append}
use Rattle.design_model.specs.declared.identifier.LayerId.{LayerId}
use Rattle.design_model.specs.Families.{pair_lines}
use Rattle.lef_grammar.specs.Measures.{Shape}
use Rattle.line_laws.specs.Lines.{SameLines, times}
use Rattle.line_laws.proofs.PairSums.{times-append}
use Rattle.connection_rules.specs.NetLines.{NetShape}
use Rattle.net_lists.specs.PartCuts.{shape_view}
use Rattle.net_lists.specs.declared.parts.NetShape as code_shape
use Rattle.net_touches.specs.declared.barrier.Barrier as code_barrier
use Rattle.net_touches.specs.Barriers.{barrier_view}
use Rattle.net_touches.specs.Layers.{IsNext, is_above, is_below, is_between}
use Rattle.net_touches.specs.Things.{Thing, all_things, barrier, is_on, layer_of, lines_of_two, shape_of_net}
use Rattle.net_touches.proofs.BoolLemmas.{split, differ, differ_too}
use Rattle.net_touches.proofs.LineLemmas.{layers_none}
use Rattle.net_touches.proofs.PairLemmas.{TheLines, times_parted}

kept : {X : Type 0} (p : X → Bool) (x : X) (xs : List X) → p x ≡ true → filter p (x ∷ xs) ≡ x ∷ filter p xs
kept p x xs t = rw t refl

left_out : {X : Type 0} (p : X → Bool) (x : X) (xs : List X) → p x ≡ false → filter p (x ∷ xs) ≡ filter p xs
left_out p x xs f = rw f refl

first_fails : {X : Type 0} (p : X → Bool) (x : X) (xs : List X) → filter p (x ∷ xs) ≡ [] → p x ≡ false
first_fails p x xs none = split (p x) (λ t. absurd (let k = kept p x xs t in cc)) (λ f. f)

others_fail : {X : Type 0} (p : X → Bool) (x : X) (xs : List X) → filter p (x ∷ xs) ≡ [] → filter p xs ≡ []
others_fail p x xs none = sym (left_out p x xs (first_fails p x xs none)) ∙ none

-- what fails a test fails a narrower one
fewer_pass : {X : Type 0} (p q : X → Bool) → ((x : X) → p x ≡ true → q x ≡ true) → (xs : List X) → filter q xs ≡ [] → filter p xs ≡ []
fewer_pass p q narrower [] none = refl
fewer_pass p q narrower (x ∷ xs) none =
    let f : p x ≡ false = split (p x) (λ t. absurd (let y = narrower x t in let n = first_fails q x xs none in cc)) (λ f. f) in
    left_out p x xs f ∙ fewer_pass p q narrower xs (others_fail q x xs none)

below_itself : (n : ℕ) → nat_lt n n ≡ false
below_itself n = grind arith

narrowed : (after next : Option LayerId) (l : LayerId) (n : ℕ) → is_below next l.0 ≡ true → is_between after (Some l) n ≡ true → is_between after next n ≡ true
narrowed after None l n low h = let p : is_above after n ≡ true = (and_parts _ _ h).0 in rw p refl
narrowed after (Some m) l n low h =
    let p : is_above after n ≡ true = (and_parts _ _ h).0 in
    let q : nat_lt n l.0 ≡ true = (and_parts _ _ h).1 in
    let b : nat_lt n m.0 ≡ true = grind (arith, low, q) in
    rw (p, b) refl

-- a layer between one and the next is the next
pub next_is_lower : (after next : Option LayerId) (layers : List ℕ) (l : LayerId) → is_between after next l.0 ≡ true → IsNext after layers next → IsNext after (layers ++ l.0 ∷ []) (Some l)
next_is_lower after next layers l t h =
    let p = and_parts _ _ t in
    let high : is_above after l.0 ≡ true = p.0 in
    let here : is_between after (Some l) l.0 ≡ false = rw (high, below_itself l.0) refl in
    record {
      above = p.0;
      none_between =
          filter-append (is_between after (Some l)) layers (l.0 ∷ [])
          ∙ ap₂ (λ (a b : List ℕ). a ++ b)
          (fewer_pass (is_between after (Some l)) (is_between after next) (λ n. narrowed after next l n p.1) layers h.none_between)
          (left_out (is_between after (Some l)) l.0 [] here);
    }

-- the things above a layer
abbrev pub is_left : Option LayerId → Thing → Bool
is_left after x = is_above after (layer_of x)

all_left : (xs : List Thing) → filter (is_left None) xs ≡ xs
all_left [] = refl
all_left (x ∷ xs) = ap (λ (ys : List Thing). x ∷ ys) (all_left xs)

on_is_above : (after : Option LayerId) (l : LayerId) (n : ℕ) → is_above after l.0 ≡ true → (n == l.0) ≡ true → is_above after n ≡ true
on_is_above None l n above on = refl
on_is_above (Some m) l n above on = grind (arith, above, on)

higher : (after : Option LayerId) (l : LayerId) (n : ℕ) → is_above after l.0 ≡ true → is_above after n ≡ false → nat_lt l.0 n ≡ false
higher None l n above low = absurd (cc)
higher (Some m) l n above low = grind (arith, above, low)

off_is_above : (l n : ℕ) → nat_lt n l ≡ false → not (n == l) ≡ nat_lt l n
off_is_above l n h = grind (arith, h)

second_is_false : (a b : Bool) → a ≡ true → (a && b) ≡ false → b ≡ false
second_is_false a b t h = rw t at h

module _ (after : Option LayerId) (l : LayerId) (above : is_above after l.0 ≡ true) where
  abbrev on : Thing → Bool
  on x = is_on l.0 x

  abbrev off : Thing → Bool
  off x = not (is_on l.0 x)

  kept_on : (xs : List Thing) → filter on (filter (is_left after) xs) ≡ filter on xs
  kept_on [] = refl
  kept_on (x ∷ xs) =
      split (is_left after x)
      (λ t. ap (filter on) (kept (is_left after) x xs t) ∙ ap (λ (ys : List Thing). cond (on x) (x ∷ ys) ys) (kept_on xs))
      (λ f.
      let o : on x ≡ false = split (on x) (λ t. absurd (let y = on_is_above after l (layer_of x) above t in cc)) (λ o. o) in
      ap (filter on) (left_out (is_left after) x xs f) ∙ kept_on xs ∙ sym (left_out on x xs o))

  kept_off : (xs : List Thing) → filter (is_between after (Some l)) (map layer_of xs) ≡ [] → filter off (filter (is_left after) xs) ≡ filter (is_left (Some l)) xs
  kept_off [] none = refl
  kept_off (x ∷ xs) none =
      let here = first_fails (is_between after (Some l)) (layer_of x) (map layer_of xs) none in
      let r = kept_off xs (others_fail (is_between after (Some l)) (layer_of x) (map layer_of xs) none) in
      split (is_left after x)
      (λ t.
      let same : off x ≡ is_left (Some l) x = off_is_above l.0 (layer_of x) (second_is_false _ _ t here) in
      ap (filter off) (kept (is_left after) x xs t) ∙ ap₂ (λ (b : Bool) (ys : List Thing). cond b (x ∷ ys) ys) same r)
      (λ f. ap (filter off) (left_out (is_left after) x xs f) ∙ r ∙ sym (left_out (is_left (Some l)) x xs (higher after l (layer_of x) above f)))

-- the layers of all things are those of the shapes and the barriers
layers_of_shapes : (xs : List code_shape.NetShape) → map (λ (s : code_shape.NetShape). s.layer.0) xs ≡ map (λ (s : Shape). s.layer) (map shape_view xs)
layers_of_shapes [] = refl
layers_of_shapes (x ∷ xs) = ap (λ ns. x.layer.0 ∷ ns) (layers_of_shapes xs)

layers_of_nets : (ss : List NetShape) → map (λ (s : Shape). s.layer) (map (λ (s : NetShape). s.shape) ss) ≡ map layer_of (map shape_of_net ss)
layers_of_nets [] = refl
layers_of_nets (s ∷ ss) = ap (λ ns. s.shape.layer ∷ ns) (layers_of_nets ss)

layers_of_barriers : (bs : List code_barrier.Barrier) → map (λ (b : code_barrier.Barrier). b.layer.0) bs ≡ map layer_of (map barrier (map barrier_view bs))
layers_of_barriers [] = refl
layers_of_barriers (b ∷ bs) = ap (λ ns. b.layer.0 ∷ ns) (layers_of_barriers bs)

layers_of_all : (xs : List code_shape.NetShape) (ss : List NetShape) (bs : List code_barrier.Barrier) → map shape_view xs ≡ map (λ (s : NetShape). s.shape) ss
    → map (λ (s : code_shape.NetShape). s.layer.0) xs ++ map (λ (b : code_barrier.Barrier). b.layer.0) bs ≡ map layer_of (all_things ss (map barrier_view bs))
layers_of_all xs ss bs same =
    ap₂ (λ (ms ns : List ℕ). ms ++ ns) (layers_of_shapes xs ∙ ap (map (λ (s : Shape). s.layer)) same ∙ layers_of_nets ss) (layers_of_barriers bs)
    ∙ sym (map-append layer_of (map shape_of_net ss) (map barrier (map barrier_view bs)))

pub next_of_all : (after next now : Option LayerId) (xs : List code_shape.NetShape) (ss : List NetShape) (bs : List code_barrier.Barrier) → map shape_view xs ≡ map (λ (s : NetShape). s.shape) ss
    → IsNext after (map (λ (s : code_shape.NetShape). s.layer.0) xs ++ map (λ (b : code_barrier.Barrier). b.layer.0) bs) next → next ≡ now
    → IsNext after (map layer_of (all_things ss (map barrier_view bs))) now
next_of_all after next now xs ss bs same h is =
    subst (λ (o : Option LayerId). IsNext after (map layer_of (all_things ss (map barrier_view bs))) o) is
    (subst (λ (ns : List ℕ). IsNext after ns next) (layers_of_all xs ss bs same) h)

-- how many numbers of 64 bits lie above a layer
abbrev pub layers_left : Option LayerId → ℕ
layers_left None = 2 ^ 64
layers_left (Some l) = 2 ^ 64 - 1 - l.0

pub all_are_left : (name_of : ℕ → List ℕ) (all : List Thing) (old : TheLines) → SameLines (old ++ pair_lines (lines_of_two name_of) (filter (is_left None) all)) (old ++ pair_lines (lines_of_two name_of) all)
all_are_left name_of all old = record { often = λ q. ap (λ (xs : List Thing). times q (old ++ pair_lines (lines_of_two name_of) xs)) (all_left all) }

module _ (name_of : ℕ → List ℕ) (all : List Thing) (after : Option LayerId) (old whole : TheLines) where
  abbrev two : Thing → Thing → TheLines
  two = lines_of_two name_of

  -- the lines of one layer are put in, and those of the layers above it are left
  pub layer_done : (l : LayerId) (new : TheLines) → IsNext after (map layer_of all) (Some l)
      → SameLines new (old ++ pair_lines two (filter (is_on l.0) all))
      → SameLines (old ++ pair_lines two (filter (is_left after) all)) whole
      → SameLines (new ++ pair_lines two (filter (is_left (Some l)) all)) whole
  layer_done l new next put so_far =
      let off : Thing → Bool = λ x. not (is_on l.0 x) in
      let left : List Thing = filter (is_left after) all in
      record {
        often = λ q.
            let parts = times_parted two (is_on l.0)
            (λ x y s o. layers_none name_of x y (differ l.0 (layer_of x) (layer_of y) s o))
            (λ x y o s. layers_none name_of x y (differ_too l.0 (layer_of x) (layer_of y) o s)) q left in
            let a = put.often q in
            let b = so_far.often q in
            let c = times-append q old (pair_lines two (filter (is_on l.0) all)) in
            let d = times-append q old (pair_lines two left) in
            let e = times-append q new (pair_lines two (filter (is_left (Some l)) all)) in
            let f : times q (pair_lines two (filter (is_on l.0) left)) ≡ times q (pair_lines two (filter (is_on l.0) all)) =
            ap (λ (ys : List Thing). times q (pair_lines two ys)) (kept_on after l next.above all) in
            let g : times q (pair_lines two (filter off left)) ≡ times q (pair_lines two (filter (is_left (Some l)) all)) =
            ap (λ (ys : List Thing). times q (pair_lines two ys)) (kept_off after l next.above all next.none_between) in
            omega (arith, parts, a, b, c, d, e, f, g);
      }

  none_left : (xs : List Thing) → filter (is_between after None) (map layer_of xs) ≡ [] → filter (is_left after) xs ≡ []
  none_left [] none = refl
  none_left (x ∷ xs) none =
      let here = first_fails (is_between after None) (layer_of x) (map layer_of xs) none in
      let low : is_left after x ≡ false = split (is_left after x) (λ t. absurd (let y = second_is_false _ _ t here in cc)) (λ f. f) in
      left_out (is_left after) x xs low ∙ none_left xs (others_fail (is_between after None) (layer_of x) (map layer_of xs) none)

  pub layers_done : IsNext after (map layer_of all) None → SameLines (old ++ pair_lines two (filter (is_left after) all)) whole → SameLines old whole
  layers_done next so_far =
      let e : old ++ pair_lines two (filter (is_left after) all) ≡ old = ap (λ (ys : List Thing). old ++ pair_lines two ys) (none_left all next.none_between) ∙ append-nil old in
      subst (λ (ls : TheLines). SameLines ls whole) e so_far
