-- Shapes, parts and pins put in one after the other.
use Rattle.std.proofs.Common.{◌≡◌, Bool, true, false, ◌||◌, List, [], ◌∷◌, ◌++◌, filter, map, refl, sym, ap, ◌∙◌, Option, Some, None, if◌then◌else◌}
use Rattle.std.specs.List.{cons_option, filter_map, list_any}
use Rattle.form_meanings.specs.Words.{◌>>=◌}
use Rattle.std.specs.Option.{option_to_list}
use Rattle.statement_model.specs.Grammar.{Key}
use Rattle.statement_model.specs.Reading.{is_among, same_words}
use Rattle.lef_grammar.specs.Library.{Library}
use Rattle.lef_grammar.specs.Measures.{Shape}
use Rattle.connection_rules.specs.NetParts.{Net, Part, pin_part}
use Rattle.connection_rules.specs.Terminals.{NetPin, each_once}
use Rattle.net_lists.specs.Building.{with_part, with_parts, with_shape, with_shapes}
use Rattle.net_pins.specs.Counting.{State, counted, with_pin, with_pins}
use Rattle.net_pins.specs.Putting.{HasPart, Puts}
use Rattle.net_pins.specs.Walking.{IsReady, PutsPins, Walk}

pub with_more_shapes : (xs ys : List Shape) (ns : List Net) → with_shapes (xs ++ ys) ns ≡ with_shapes ys (with_shapes xs ns)
with_more_shapes [] ys ns = refl
with_more_shapes (x ∷ xs) ys ns = with_more_shapes xs ys (with_shape x ns)

pub with_more_parts : (xs ys : List Part) (ns : List Net) → with_parts (xs ++ ys) ns ≡ with_parts ys (with_parts xs ns)
with_more_parts [] ys ns = refl
with_more_parts (p ∷ xs) ys ns = with_more_parts xs ys (with_shapes p.shapes (with_part p.is_pin ns))

pub with_more_pins : (xs ys : List NetPin) (s : State) → with_pins (xs ++ ys) s ≡ with_pins ys (with_pins xs s)
with_more_pins [] ys s = refl
with_more_pins (p ∷ xs) ys s = with_more_pins xs ys (with_pin p s)

-- the pin of one more thing, where it has one
pub with_one_more : (o : Option NetPin) (ps : List NetPin) (s : State) → with_pins (cons_option o ps) s ≡ with_pins ps (with_pins (option_to_list o) s)
with_one_more None ps s = refl
with_one_more (Some p) ps s = refl

or_swap : (a b : Bool) → (a || (b || false)) ≡ (b || a)
or_swap true true = refl
or_swap true false = refl
or_swap false true = refl
or_swap false false = refl

or_assoc : (a b c : Bool) → ((a || b) || c) ≡ (a || (b || c))
or_assoc true b c = refl
or_assoc false b c = refl

pub any_append : (test : Key → Bool) (xs ys : List Key) → list_any test (xs ++ ys) ≡ (list_any test xs || list_any test ys)
any_append test [] ys = refl
any_append test (x ∷ xs) ys = ap (λ (b : Bool). test x || b) (any_append test xs ys) ∙ sym (or_assoc (test x) (list_any test xs) (list_any test ys))

-- one more key, in front or behind
one_more : (now seen : List Key) (k : Key) → ((j : Key) → is_among now j ≡ is_among seen j) → (j : Key) → is_among (now ++ k ∷ []) j ≡ is_among (k ∷ seen) j
one_more now seen k same j =
    any_append (same_words j) now (k ∷ [])
    ∙ or_swap (is_among now j) (same_words j k)
    ∙ ap (λ (b : Bool). same_words j k || b) (same j)

counted_first : (b : Bool) (p : NetPin) (ps : List NetPin) (ns : List Net)
    → with_parts (map pin_part (if b then p ∷ filter (λ (q : NetPin). q.counts) ps else filter (λ (q : NetPin). q.counts) ps)) ns
    ≡ with_parts (map pin_part (filter (λ (q : NetPin). q.counts) ps)) (with_parts (if b then pin_part p ∷ [] else []) ns)
counted_first true p ps ns = refl
counted_first false p ps ns = refl

abbrev once : List Key → List NetPin → List Part
once seen ps = map pin_part (filter (λ (q : NetPin). q.counts) (each_once seen ps))

-- what is said of a state and of the pins that were seen
abbrev Agrees : List NetPin → List Key → List Key → List Net → Type 0
Agrees ps now seen ns = (with_pins ps (now, ns)).1 ≡ with_parts (once seen ps) ns

seen_or_not : (p : NetPin) (ps : List NetPin) (now seen : List Key) (ns : List Net) (a b : Bool) → a ≡ b
    → Agrees ps now seen ns → Agrees ps (now ++ p.words ∷ []) (p.words ∷ seen) (with_parts (counted p) ns)
    → (with_pins ps (if a then (now, ns) else (now ++ p.words ∷ [], with_parts (counted p) ns))).1
    ≡ with_parts (map pin_part (filter (λ (q : NetPin). q.counts) (if b then each_once seen ps else p ∷ each_once (p.words ∷ seen) ps))) ns
seen_or_not p ps now seen ns true true e skipped put = skipped
seen_or_not p ps now seen ns false false e skipped put = put ∙ sym (counted_first p.counts p (each_once (p.words ∷ seen) ps) ns)
seen_or_not p ps now seen ns true false e skipped put = absurd (cc)
seen_or_not p ps now seen ns false true e skipped put = absurd (cc)

-- Pins are put in one after the other as each of them once.
put_once : (ps : List NetPin) (now seen : List Key) (ns : List Net) → ((j : Key) → is_among now j ≡ is_among seen j) → Agrees ps now seen ns
unfolding each_once
put_once [] now seen ns same = refl
put_once (p ∷ ps) now seen ns same =
    seen_or_not p ps now seen ns (is_among now p.words) (is_among seen p.words) (same p.words)
    (put_once ps now seen ns same)
    (put_once ps (now ++ p.words ∷ []) (p.words ∷ seen) (with_parts (counted p) ns) (one_more now seen p.words same))

pub all_put_once : (ps : List NetPin) (ns : List Net) → (with_pins ps ([], ns)).1 ≡ with_parts (map pin_part (filter (λ (p : NetPin). p.counts) (each_once [] ps))) ns
all_put_once ps ns = put_once ps [] [] ns (λ j. refl)

-- some of the shapes that are left were put in
pub more_put : {all : List Shape} {old : List Net} {left : List Shape} {now next : List Net} (xs ys : List Shape) → left ≡ xs ++ ys → Puts all old left now → next ≡ with_shapes xs now → HasPart next → Puts all old ys next
more_put {now = now} xs ys is p e h = record { same = ap (with_shapes ys) e ∙ sym (with_more_shapes xs ys now) ∙ ap (λ ss. with_shapes ss now) (sym is) ∙ p.same; part = h }

-- some of the pins that are left were put
pub more_pins_put : {all : List NetPin} {seen : List Key} {nets : List Net} {left : List NetPin} {library : Library} {walk walk_next : Walk} {now next : List Net} (xs ys : List NetPin) → left ≡ xs ++ ys
    → PutsPins all seen nets left library walk now → (walk_next.seen, next) ≡ with_pins xs (walk.seen, now) → IsReady library walk_next next → PutsPins all seen nets ys library walk_next next
more_pins_put {walk = walk} {now = now} xs ys is p e h = record {
  same = ap (with_pins ys) e ∙ sym (with_more_pins xs ys (walk.seen, now)) ∙ ap (λ ps. with_pins ps (walk.seen, now)) (sym is) ∙ p.same;
  ready = h;
}

-- shapes by another name
pub same_put : (a b c : List Shape) (now old : List Net) → a ≡ b → b ≡ c → now ≡ with_shapes a old → now ≡ with_shapes c old
same_put a b c now old e f h = h ∙ ap (λ ss. with_shapes ss old) (e ∙ f)

-- what filter_map gives of one thing more
pub filter_more : {A : Type 0} (f : A → Option NetPin) (o : Option A) (rest : List A) → filter_map f (cons_option o rest) ≡ option_to_list (o >>= f) ++ filter_map f rest
filter_more f None rest = refl
filter_more f (Some a) rest = cases (f a)
  where
    cases : (q : Option NetPin) → cons_option q (filter_map f rest) ≡ option_to_list q ++ filter_map f rest
    cases None = refl
    cases (Some p) = refl
