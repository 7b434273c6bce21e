-- Names and their places, and shapes that are named by them.
use Rattle.std.proofs.Common.{◌≡◌, ◌∙◌, ◌+◌, ℕ, zero, suc, Bool, true, false, not, nat_lt, cond, List, [], ◌∷◌, ◌++◌, length, map, Option, Some, None, Result, Ok, Err, refl, sym, ap, arith, subst, sum_by, slice_get, position, if◌then◌else◌}
use Rattle.std.specs.Prelude.{IfSome, OnOk}
use Rattle.std.specs.List.{cons_option, position_from}
use Rattle.std.specs.Option.{option_map}
use Rattle.std.specs.Str.{bytes_eq}
use Rattle.std.proofs.lemmas.List.{length-append}
use Rattle.std.proofs.lemmas.Iterator.Adapters.{position_from-zero}
use Rattle.std.proofs.lemmas.List.Sums.{sum_by-append, sum_by-cons}
use Rattle.std.proofs.lemmas.Option.{slice_get_within}
use Rattle.std.proofs.lemmas.Slice.Eq.{bytes_eq-Decides}
use Rattle.design_model.specs.declared.identifier.ShapeId.{ShapeId}
use Rattle.lef_grammar.specs.Measures.{Shape}
use Rattle.line_laws.specs.Lines.{SameThings}
use Rattle.connection_rules.specs.NetLines.{NetShape}
use Rattle.net_lists.specs.PartCuts.{shape_view}
use Rattle.net_lists.specs.declared.parts.NetShape as code
use Rattle.net_queries.specs.OwnedShapes.{net_shape_of, net_shapes_of, owned_by}
use Rattle.shape_index.specs.declared.shape.Shape.{Shape as Stored}
use Rattle.placed_shapes.specs.Placed.{at_place, placed_shape, placed_shapes}
use Rattle.named_shapes.specs.Named.{HaveNames, named, named_by, named_shapes, owned_at, owner_in}

-- what is found at the place of a name, counted from a number on
abbrev IsPlaceFrom : List ℕ → List (List ℕ) → ℕ → ℕ → Type 0
IsPlaceFrom name names i n = (k : ℕ) × (n ≡ i + k) × (slice_get names k ≡ Some name)

one_further : (name m : List ℕ) (names : List (List ℕ)) (i : ℕ) (b : Bool) (later : Option ℕ) → bytes_eq name m ≡ b → IfSome later (IsPlaceFrom name names (i + 1))
    → IfSome (if b then Some i else later) (IsPlaceFrom name (m ∷ names) i)
one_further name m names i true later t h = (0, omega arith, ap Some (sym ((bytes_eq-Decides name m).0 t)))
one_further name m names i false None t h = tt
one_further name m names i false (Some n) t h = let is = h.1 in (suc h.0, omega (arith, is), h.2)

found_from : (name : List ℕ) (names : List (List ℕ)) (i : ℕ) → IfSome (position_from (bytes_eq name) i names) (IsPlaceFrom name names i)
found_from name [] i = tt
found_from name (m ∷ names) i = one_further name m names i (bytes_eq name m) (position_from (bytes_eq name) (i + 1) names) refl (found_from name names (i + 1))

from_zero : (name : List ℕ) (names : List (List ℕ)) (found : Option ℕ) → IfSome found (IsPlaceFrom name names 0) → IfSome found (λ n. slice_get names n ≡ Some name)
from_zero name names None h = tt
from_zero name names (Some n) h = let is = h.1 in let same : n ≡ h.0 = omega (arith, is) in rw same h.2

pub place_is : (name : List ℕ) (names : List (List ℕ)) (found : Option ℕ) → found ≡ position (bytes_eq name) names → IfSome found (λ n. slice_get names n ≡ Some name)
place_is name names found is = from_zero name names found (rw (is ∙ position_from-zero (bytes_eq name) names) (found_from name names 0))

-- the owner of a number
pub owner_is : (n : ℕ) (name : List ℕ) (names : List (List ℕ)) → Some name ≡ slice_get names n → Some (owned_at n name) ≡ owner_in names n
owner_is n name names h = ap (option_map (owned_at n)) h

module _ (names : List (List ℕ)) where
  owned_is_named : (s : Stored) → net_shape_of (owner_in names) s ≡ named_by names (placed_shape s)
  owned_is_named s = by (slice_get names s.net)
    where
      by : (o : Option (List ℕ)) → option_map (owned_by s) (option_map (owned_at s.net) o) ≡ option_map (λ net. named net (placed_shape s).1) o
      by None = refl
      by (Some name) = refl

  -- the shapes of a set by their owners are those by their names
  pub owned_are_named : (es : List (ShapeId × Stored)) → net_shapes_of (owner_in names) es ≡ named_shapes names (placed_shapes es)
  owned_are_named [] = refl
  owned_are_named (e ∷ es) = ap (λ o. cons_option o (net_shapes_of (owner_in names) es)) (owned_is_named e.1) ∙ ap (cons_option (named_by names (placed_shape e.1))) (owned_are_named es)

  abbrev pub weight : (NetShape → ℕ) → Option NetShape → ℕ
  weight w None = 0
  weight w (Some s) = w s

  one_more : (w : NetShape → ℕ) (o : Option NetShape) (ss : List NetShape) → sum_by w (cons_option o ss) ≡ weight w o + sum_by w ss
  one_more w None ss = omega arith
  one_more w (Some s) ss = sum_by-cons w s ss

  pub sum_named : (w : NetShape → ℕ) (ps : List (ℕ × Shape)) → sum_by w (named_shapes names ps) ≡ sum_by (λ p. weight w (named_by names p)) ps
  sum_named w [] = refl
  sum_named w (p ∷ ps) =
      let later = sum_named w ps in
      omega (arith, later, one_more w (named_by names p) (named_shapes names ps), sum_by-cons (λ p. weight w (named_by names p)) p ps)

  -- by the same names the same things are the same
  pub named_as : (ps qs : List (ℕ × Shape)) → SameThings ps qs → SameThings (named_shapes names ps) (named_shapes names qs)
  named_as ps qs h = record { sums = λ w. sum_named w ps ∙ h.sums (λ p. weight w (named_by names p)) ∙ sym (sum_named w qs) }

  -- shapes under one place have one name
  module _ (place : ℕ) (net : List ℕ) (at : slice_get names place ≡ Some net) where
    pub with_name : (shapes : List Shape) (rest : List (ℕ × Shape)) → named_shapes names (map (λ s. (place, s)) shapes ++ rest) ≡ map (named net) shapes ++ named_shapes names rest
    with_name [] rest = refl
    with_name (s ∷ shapes) rest =
        ap (λ (o : Option (List ℕ)). cons_option (option_map (λ name. named name s) o) (named_shapes names (map (λ s. (place, s)) shapes ++ rest))) at
        ∙ ap (λ (ss : List NetShape). named net s ∷ ss) (with_name shapes rest)

-- each place has a name
abbrev without : List (List ℕ) → ℕ × Shape → ℕ
without names p = cond (not (nat_lt p.0 (length names))) 1 0

pub have_as : (names : List (List ℕ)) (ps qs : List (ℕ × Shape)) → SameThings ps qs → HaveNames names qs → HaveNames names ps
have_as names ps qs h o = record { none_without = h.sums (without names) ∙ o.none_without }

has_place : {A : Type 0} (xs : List A) (n : ℕ) (x : A) → slice_get xs n ≡ Some x → nat_lt n (length xs) ≡ true
has_place xs n x h = let below = slice_get_within xs n x h in grind (arith, below)

one_with : (names : List (List ℕ)) (p : ℕ × Shape) → nat_lt p.0 (length names) ≡ true → without names p ≡ 0
one_with names p t = ap (λ (b : Bool). cond (not b) 1 0) t

all_with : (names : List (List ℕ)) (place : ℕ) (shapes : List Shape) → nat_lt place (length names) ≡ true → sum_by (without names) (map (λ s. (place, s)) shapes) ≡ 0
all_with names place [] t = refl
all_with names place (s ∷ shapes) t =
    let here = one_with names (place, s) t in
    let later = all_with names place shapes t in
    omega (arith, here, later, sum_by-cons (without names) (place, s) (map (λ s. (place, s)) shapes))

pub have_more : (names : List (List ℕ)) (place : ℕ) (net : List ℕ) (shapes : List Shape) (ps : List (ℕ × Shape)) → slice_get names place ≡ Some net → HaveNames names ps → HaveNames names (map (λ s. (place, s)) shapes ++ ps)
have_more names place net shapes ps at o = record {
  none_without =
      let rest = o.none_without in
      omega (arith, rest, all_with names place shapes (has_place names place net at), sum_by-append (without names) (map (λ s. (place, s)) shapes) ps);
}

-- more names behind others make no difference to what has a name
kept_at : (names more : List (List ℕ)) (n : ℕ) → nat_lt n (length names) ≡ true → slice_get (names ++ more) n ≡ slice_get names n
kept_at [] more n h = absurd (grind (arith, h))
kept_at (m ∷ names) more zero h = refl
kept_at (m ∷ names) more (suc n) h = kept_at names more n (grind (arith, h))

pub first_has : (names : List (List ℕ)) (p : ℕ × Shape) (ps : List (ℕ × Shape)) → HaveNames names (p ∷ ps) → (nat_lt p.0 (length names) ≡ true) × HaveNames names ps
first_has names p ps o = by (nat_lt p.0 (length names)) refl
  where
    by : (b : Bool) → nat_lt p.0 (length names) ≡ b → (nat_lt p.0 (length names) ≡ true) × HaveNames names ps
    by true t = (t, record { none_without = let all = o.none_without in let here = one_with names p t in omega (arith, all, here, sum_by-cons (without names) p ps) })
    by false t =
        let one : without names p ≡ 1 = ap (λ (b : Bool). cond (not b) 1 0) t in
        let all = o.none_without in
        absurd (omega (arith, one, all, sum_by-cons (without names) p ps))

pub more_names : (names more : List (List ℕ)) (ps : List (ℕ × Shape)) → HaveNames names ps → named_shapes (names ++ more) ps ≡ named_shapes names ps
more_names names more [] o = refl
more_names names more (p ∷ ps) o =
    let parts = first_has names p ps o in
    ap (λ (found : Option (List ℕ)). cons_option (option_map (λ net. named net p.1) found) (named_shapes (names ++ more) ps)) (kept_at names more p.0 parts.0)
    ∙ ap (cons_option (named_by names p)) (more_names names more ps parts.1)

pub have_with_more : (names more : List (List ℕ)) (ps : List (ℕ × Shape)) → HaveNames names ps → HaveNames (names ++ more) ps
have_with_more names more [] o = record { none_without = refl }
have_with_more names more (p ∷ ps) o =
    let parts = first_has names p ps o in
    let rest = (have_with_more names more ps parts.1).none_without in
    let below : nat_lt p.0 (length (names ++ more)) ≡ true = let t = parts.0 in grind (arith, t, length-append names more) in
    let here = one_with (names ++ more) p below in
    record { none_without = omega (arith, here, rest, sum_by-cons (without (names ++ more)) p ps) }

alike : (place : ℕ) (ss : List code.NetShape) → at_place place ss ≡ map {B = ℕ × Shape} (λ (s : Shape). (place, s)) (map shape_view ss)
alike place [] = refl
alike place (s ∷ ss) = ap (λ (ps : List (ℕ × Shape)). (place, shape_view s) ∷ ps) (alike place ss)

-- shapes of one net that are taken out or put in
pub apart : (names : List (List ℕ)) (place : ℕ) (net : List ℕ) (shapes : List code.NetShape) (all rest : List (ℕ × Shape)) → slice_get names place ≡ Some net
    → SameThings all (at_place place shapes ++ rest) → SameThings (named_shapes names all) (map (named net) (map shape_view shapes) ++ named_shapes names rest)
apart names place net shapes all rest at h =
    let same = named_as names all (at_place place shapes ++ rest) h in
    subst (λ (ss : List NetShape). SameThings (named_shapes names all) ss) (ap (λ (ps : List (ℕ × Shape)). named_shapes names (ps ++ rest)) (alike place shapes) ∙ with_name names place net at (map shape_view shapes) rest) same

-- where some shapes are taken out, or some of one net are put in, each place still has a name
pub have_left : (names : List (List ℕ)) (gone all rest : List (ℕ × Shape)) → SameThings all (gone ++ rest) → HaveNames names all → HaveNames names rest
have_left names gone all rest h o = record {
  none_without = let same = h.sums (without names) in let zero = o.none_without in omega (arith, same, zero, sum_by-append (without names) gone rest);
}

pub have_put : (names : List (List ℕ)) (place : ℕ) (net : List ℕ) (shapes : List code.NetShape) (all rest : List (ℕ × Shape)) → slice_get names place ≡ Some net → SameThings all (at_place place shapes ++ rest)
    → HaveNames names rest → HaveNames names all
have_put names place net shapes all rest at h o = have_as names all (at_place place shapes ++ rest) h (rw (alike place shapes) (have_more names place net (map shape_view shapes) rest at o))

-- shapes that are put in, under a name that may be new
pub put_in : {A E : Type 0} (r : Result A E) (names more new : List (List ℕ)) (place : ℕ) (net : List ℕ) (shapes : List code.NetShape) (old all : List (ℕ × Shape)) (view : List NetShape) → view ≡ named_shapes names old → HaveNames names old
    → new ≡ names ++ more → slice_get new place ≡ Some net → OnOk r (SameThings all (at_place place shapes ++ old))
    → OnOk r (SameThings (named_shapes new all) (map (named net) (map shape_view shapes) ++ view))
put_in (Ok x) names more new place net shapes old all view is have grown at h =
    let same : named_shapes new old ≡ view = ap (λ (ns : List (List ℕ)). named_shapes ns old) grown ∙ more_names names more old have ∙ sym is in
    subst (λ (ss : List NetShape). SameThings (named_shapes new all) (map (named net) (map shape_view shapes) ++ ss)) same (apart new place net shapes all old at h)
put_in (Err e) names more new place net shapes old all view is have grown at h = tt
