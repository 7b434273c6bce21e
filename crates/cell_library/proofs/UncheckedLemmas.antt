-- The parts of a macro's pins without a checked shape are no more than the statements in that macro.
use Rattle.std.proofs.Common.{◌≡◌, ◌≤◌, ◌+◌, ℕ, suc, Bool, true, false, cond, List, [], ◌∷◌, ◌++◌, length, map, filter, sum, drop, slice_get, refl, sym, ap, ◌∙◌, arith, Option, Some, None, if◌then◌else◌}
use Rattle.std.specs.List.{filter_map, cons_option, list_any}
use Rattle.std.specs.Option.{option_map}
use Rattle.std.proofs.lemmas.List.Sums.{sum_by-cons}
use Rattle.lef_grammar.specs.Definitions.{Pin, pin_record, pin_with, pins_of, port_record, opened_pin}
use Rattle.form_meanings.specs.Firsts.{found_then, front, headed, has_name, with_all, with_first}
use Rattle.lef_grammar.specs.LefRecords.{LefRecord, outside, in_layer, in_site, in_via, in_rule, in_rule_layer, in_macro, in_pin, in_port, in_kept}
use Rattle.lef_grammar.specs.PortBlock.{is_unchecked}
use Rattle.cell_library.specs.PinViews.{pin_view, pins_view, unchecked_in}
use Rattle.cell_library.specs.declared.pin.Pin as code_pin
use Rattle.cell_library.proofs.WalkLemmas.{no_pin, pin_there}

abbrev total : {X : Type 0} → (X → ℕ) → List X → ℕ
total f xs = sum (map f xs)

total-cons : {X : Type 0} (f : X → ℕ) (x : X) (xs : List X) → total f (x ∷ xs) ≡ f x + total f xs
total-cons f x xs = sum_by-cons (λ (n : ℕ). n) (f x) (map f xs)

total-append : {X : Type 0} (f : X → ℕ) (xs : List X) (x : X) → total f (xs ++ x ∷ []) ≡ total f xs + f x
total-append f [] x = refl
total-append f (y ∷ ys) x = rw (total-cons f y (ys ++ x ∷ []), total-cons f y ys, total-append f ys x) (omega arith)

-- what stands behind headers, where a statement is never both
module _ {A B C : Type 0} (header : A → Option B) (inner : A → Option C) (f : B × List C → ℕ) (light : (x : B × List C) → f x ≤ length x.1) (apart : (a : A) (c : C) → inner a ≡ Some c → header a ≡ None) where
  few_step : (h : Option B) (i : Option C) (cs : List C) (xs : List (B × List C)) (n : ℕ) → ((c : C) → i ≡ Some c → h ≡ None) → length cs + total f xs ≤ n
      → length (found_then i cs) + total f (cons_option (option_map (λ b. (b, cs)) h) xs) ≤ suc n
  few_step None None cs xs n none few = omega (arith, few)
  few_step None (Some c) cs xs n none few = omega (arith, few)
  few_step (Some b) None cs xs n none few = let k = light (b, cs) in rw (total-cons f (b, cs) xs) (omega (arith, few, k))
  few_step (Some b) (Some c) cs xs n none few = let k = none c refl in absurd (cc)

  pub few_behind : (all : List A) → length (front inner all) + total f (headed header inner all) ≤ length all
  unfolding front headed
  few_behind [] = omega arith
  few_behind (a ∷ all) = few_step (header a) (inner a) (front inner all) (headed header inner all) (length all) (apart a) (few_behind all)

-- the first of each name are no more than all
module _ {X : Type 0} (name_of : X → List ℕ) (f : X → ℕ) where
  few_with : (b : Bool) (before : List X) (x : X) → total f (if b then before else before ++ x ∷ []) ≤ total f before + f x
  few_with true before x = omega arith
  few_with false before x = rw (total-append f before x) (omega arith)

  few_firsts : (before all : List X) → total f (with_all name_of before all) ≤ total f before + total f all
  unfolding with_all
  few_firsts before [] = omega arith
  few_firsts before (x ∷ all) =
      let one = few_with (list_any (has_name name_of (name_of x)) before) before x in
      let others = few_firsts (with_first name_of before x) all in
      rw (total-cons f x all) (omega (arith, one, others))

-- what passes tests is no more than all
few_kept : {X : Type 0} (b : Bool) (x : X) (xs : List X) (n : ℕ) → length xs ≤ n → length (cond b (x ∷ xs) xs) ≤ suc n
few_kept true x xs n few = omega (arith, few)
few_kept false x xs n few = omega (arith, few)

few_passing : {X : Type 0} (p : X → Bool) (xs : List X) → length (filter p xs) ≤ length xs
few_passing p [] = omega arith
few_passing p (x ∷ xs) = few_kept (p x) x (filter p xs) (length xs) (few_passing p xs)

few_seen : {Y : Type 0} (y : Option Y) (ys : List Y) (n : ℕ) → length ys ≤ n → length (cons_option y ys) ≤ suc n
few_seen None ys n few = omega (arith, few)
few_seen (Some y) ys n few = omega (arith, few)

few_found : {X Y : Type 0} (f : X → Option Y) (xs : List X) → length (filter_map f xs) ≤ length xs
few_found f [] = omega arith
few_found f (x ∷ xs) = few_seen (f x) (filter_map f xs) (length xs) (few_found f xs)

-- of a pin
few_of_pin : (x : List ℕ × List LefRecord) → (pin_with x).unchecked ≤ length x.1
few_of_pin x =
    let ports = filter_map port_record x.1 in
    let k = few_passing is_unchecked ports in
    let l = few_found port_record x.1 in
    omega (arith, k, l)

no_header : (r c : LefRecord) → pin_record r ≡ Some c → opened_pin r ≡ None
no_header (outside r) c is = absurd (cc)
no_header (in_layer r) c is = absurd (cc)
no_header (in_site r) c is = absurd (cc)
no_header (in_via r) c is = absurd (cc)
no_header (in_rule r) c is = absurd (cc)
no_header (in_rule_layer r) c is = absurd (cc)
no_header (in_macro r) c is = absurd (cc)
no_header (in_pin r) c is = refl
no_header (in_port r) c is = refl
no_header (in_kept r) c is = absurd (cc)

as_pins : (xs : List (List ℕ × List LefRecord)) → unchecked_in (map pin_with xs) ≡ total (λ x. (pin_with x).unchecked) xs
as_pins [] = refl
as_pins (x ∷ xs) =
    total-cons (λ (p : Pin). p.unchecked) (pin_with x) (map pin_with xs) ∙ ap (λ n. (pin_with x).unchecked + n) (as_pins xs)
    ∙ sym (total-cons (λ (y : List ℕ × List LefRecord). (pin_with y).unchecked) x xs)

pub few_in_pins : (rs : List LefRecord) → unchecked_in (pins_of rs) ≤ length rs
few_in_pins rs =
    let heads = headed opened_pin pin_record rs in
    let k = few_firsts (λ (p : Pin). p.name) (λ (p : Pin). p.unchecked) [] (map pin_with heads) in
    let l = few_behind opened_pin pin_record (λ x. (pin_with x).unchecked) few_of_pin no_header rs in
    let e = as_pins heads in
    omega (arith, k, l, e)

-- the pins from a place on, as they are counted
module _ {A : Type 0} (pins : List (List ℕ × code_pin.Pin A)) (count place : ℕ) (so_far : count + unchecked_in (drop place (pins_view pins)) ≡ unchecked_in (pins_view pins)) where
  pub one_counted : (e : List ℕ × code_pin.Pin A) → Some e ≡ slice_get pins place → (count + e.1.unchecked) + unchecked_in (drop (place + 1) (pins_view pins)) ≡ unchecked_in (pins_view pins)
  one_counted e here =
      let next = ap unchecked_in (pin_there pins place e (sym here)) ∙ total-cons (λ (p : Pin). p.unchecked) (pin_view e) (drop (place + 1) (pins_view pins)) in
      omega (arith, next, so_far)

  pub all_counted : None ≡ slice_get pins place → count ≡ unchecked_in (pins_view pins)
  all_counted past =
      let none = ap unchecked_in (no_pin pins place (sym past)) in
      omega (arith, none, so_far)
