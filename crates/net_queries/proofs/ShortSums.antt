-- The lines of what a search finds, one after the other, and those of a whole set.
use Rattle.std.proofs.Common.{◌≡◌, ◌<◌, ◌≤◌, ◌+◌, ℕ, Bool, true, false, not, ◌&&◌, cond, map, length, drop, get_or, List, [], ◌∷◌, ◌++◌, filter, Option, Some, None, Result, Ok, Err, append_assoc, refl, sym, ap, ◌∙◌, if◌then◌else◌}
use Rattle.std.specs.Prelude.{IfOk}
use Rattle.std.specs.List.{FoldsTo, cons_option, flat_map}
use Rattle.std.specs.Option.{option_map, option_map_or}
use Rattle.std.proofs.lemmas.List.{append-nil, drop_all, drop_more}
use Rattle.design_model.specs.declared.identifier.ShapeId.{ShapeId}
use Rattle.connection_rules.specs.NetLines.{NetShape, short_line, short_of}
use Rattle.connection_rules.specs.PartClasses.{touch}
use Rattle.shape_rules.specs.Meeting.{shared}
use Rattle.std.specs.Str.{bytes_eq}
use Rattle.line_laws.specs.Lines.{SameLines, SameThings, times}
use Rattle.line_laws.proofs.PairSums.{times-append, times-flat_map}
use Rattle.net_lists.specs.Heads.{Head}
use Rattle.shape_index.specs.declared.shape.Shape.{Shape as Stored}
use Rattle.net_queries.specs.Held.{shape_of}
use Rattle.net_queries.specs.OwnedShapes.{Adds, lines_of, net_shape_of, net_shapes_of, owned_by}
use Rattle.net_queries.specs.declared.owner.PartOwner.{PartOwner}
use Rattle.net_queries.proofs.Joins.{split}
use Rattle.net_queries.proofs.Parted.{touch_turned}
use Rattle.net_queries.proofs.Sums.{sums_same, sums_tested}

abbrev Lists : Type 0
Lists = List (List ℕ)

-- what a result holds is what stood before and more
abbrev pub AddsTo : {E : Type 0} → Result Lists E → Lists → Result Lists E → Type 0
AddsTo from more (Ok new) = Adds from more new
AddsTo from more (Err e) = Unit {0}

adds_none : {E : Type 0} (r : Result Lists E) → AddsTo r [] r
adds_none (Ok ls) = sym (append-nil ls)
adds_none (Err e) = tt

adds_on : {E : Type 0} (a b c : Result Lists E) (xs ys : Lists) → AddsTo a xs b → AddsTo b ys c → AddsTo a (xs ++ ys) c
adds_on a b (Err e) xs ys h k = tt
adds_on a (Err e) (Ok l) xs ys h k = absurd k
adds_on (Err e) (Ok m) (Ok l) xs ys h k = absurd h
adds_on (Ok n) (Ok m) (Ok l) xs ys h k = k ∙ ap (λ z. z ++ ys) h ∙ append_assoc n xs ys

adds : {E : Type 0} (a b : Result Lists E) (more : Lists) → IfOk b (λ l. Adds a more l) → AddsTo a more b
adds a (Ok l) more h = h
adds a (Err e) more h = tt

-- a fold each of whose steps adds lines
pub added : {E X : Type 0} (R : Result Lists E → X → Result Lists E → Type 0) (f : X → Lists) → ((a : Result Lists E) (x : X) (b : Result Lists E) → R a x b → IfOk b (λ l. Adds a (f x) l))
    → (xs : List X) (a b : Result Lists E) → FoldsTo R a xs b → AddsTo a (flat_map f xs) b
added R f step [] a b e = rw (← e) (adds_none a)
added R f step (x ∷ xs) a b e = adds_on a e.0 b (f x) (flat_map f xs) (adds a e.0 (f x) (step a x e.0 e.1)) (added R f step xs e.0 b e.2)

pub all_added : {E : Type 0} (start : Lists) (r : Result Lists E) (l more : Lists) → r ≡ Ok l → AddsTo (Ok start) more r → l ≡ start ++ more
all_added start r l more is h = rw is at h

-- one more thing of a list has its lines put
pub next_put : {X : Type 0} (f : X → Lists) (xs : List X) (i : ℕ) (x : X) (before now all : Lists) → i < length xs → x ≡ get_or xs i x → now ≡ before ++ f x
    → before ++ flat_map f (drop i xs) ≡ all → now ++ flat_map f (drop (i + 1) xs) ≡ all
next_put f xs i x before now all below is put h =
    ap (λ ls. ls ++ flat_map f (drop (i + 1) xs)) put
    ∙ append_assoc before (f x) (flat_map f (drop (i + 1) xs))
    ∙ sym (ap (λ ys. before ++ flat_map f ys) (drop_more xs i x below ∙ ap (λ y. y ∷ drop (i + 1) xs) (sym is)))
    ∙ h

pub each_mapped : {X Y : Type 0} (f : Y → Lists) (g : X → Y) (xs : List X) → flat_map f (map g xs) ≡ flat_map (λ x. f (g x)) xs
each_mapped f g [] = refl
each_mapped f g (x ∷ xs) = ap (λ ls. f (g x) ++ ls) (each_mapped f g xs)

pub all_put : {X Y : Type 0} (f : Y → Lists) (g : X → Y) (xs : List X) (i : ℕ) (before now : Lists) → length xs ≤ i
    → now ++ flat_map (λ x. f (g x)) (drop i xs) ≡ before ++ flat_map (λ x. f (g x)) xs → now ≡ before ++ flat_map f (map g xs)
all_put f g xs i before now past h =
    sym (ap (λ ys. now ++ flat_map (λ x. f (g x)) ys) (drop_all i xs past) ∙ append-nil now)
    ∙ h ∙ ap (λ ls. before ++ ls) (sym (each_mapped f g xs))

no_line : (p q : Bool) (l : List ℕ) → q ≡ false → (if p && q then l ∷ [] else []) ≡ []
no_line true q l h = ap (λ t. if t then l ∷ [] else []) h
no_line false q l h = refl

one_of_some : (f : NetShape → Lists) (o : Option NetShape) (xs : List NetShape) (ls : Lists) → flat_map f xs ≡ ls → flat_map f (cons_option o xs) ≡ option_map_or f o [] ++ ls
one_of_some f None xs ls h = h
one_of_some f (Some x) xs ls h = ap (λ zs. f x ++ zs) h

module _ (owner : ℕ → Option (PartOwner × Head)) where
  -- the lines of a whole set, entry by entry
  each_entry : (f : NetShape → Lists) (entries : List (ShapeId × Stored)) → flat_map f (net_shapes_of owner entries) ≡ flat_map (λ e. lines_of f owner e.1) entries
  each_entry f [] = refl
  each_entry f (e ∷ es) = one_of_some f (net_shape_of owner e.1) (net_shapes_of owner es) (flat_map (λ e. lines_of f owner e.1) es) (each_entry f es)

  -- a shape that doesn't touch has no line
  apart_none : (name_of : ℕ → List ℕ) (a : NetShape) (s : Stored) (o : Option (PartOwner × Head)) → touch (shape_of s) a.shape ≡ false → option_map_or (short_of name_of a) (option_map (owned_by s) o) [] ≡ []
  apart_none name_of a s None h = refl
  apart_none name_of a s (Some o) h =
      no_line (not (bytes_eq a.net o.1.name)) (touch a.shape (shape_of s)) (short_line name_of a.net o.1.name a.shape.layer (shared a.shape.box (shape_of s).box))
      (touch_turned a.shape (shape_of s) ∙ h)

  module _ (name_of : ℕ → List ℕ) (a : NetShape) (entries met : List (ShapeId × Stored)) (same : SameThings met (filter (λ e. touch (shape_of e.1) a.shape) entries)) where
    times_met : (q : List ℕ) → times q (flat_map (λ e. lines_of (short_of name_of a) owner e.1) met) ≡ times q (flat_map (short_of name_of a) (net_shapes_of owner entries))
    times_met q =
        let f : ShapeId × Stored → Lists = λ e. lines_of (short_of name_of a) owner e.1 in
        let test : ShapeId × Stored → Bool = λ e. touch (shape_of e.1) a.shape in
        times-flat_map q f met
        ∙ same.sums (λ e. times q (f e))
        ∙ sums_tested (λ e. times q (f e)) test entries
        ∙ sums_same (λ e. cond (test e) (times q (f e)) 0) (λ e. times q (f e))
        (λ e. split (test e) (λ t. ap (λ b. cond b (times q (f e)) 0) t) (λ t. ap (λ b. cond b (times q (f e)) 0) t ∙ sym (ap (times q) (apart_none name_of a e.1 (owner e.1.net) t)))) entries
        ∙ sym (times-flat_map q f entries)
        ∙ sym (ap (times q) (each_entry (short_of name_of a) entries))

    pub touching : (start lines : Lists) → lines ≡ start ++ flat_map (λ e. lines_of (short_of name_of a) owner e.1) met → SameLines lines (start ++ flat_map (short_of name_of a) (net_shapes_of owner entries))
    touching start lines is = record {
      often = λ q.
          ap (times q) is ∙ times-append q start (flat_map (λ e. lines_of (short_of name_of a) owner e.1) met)
          ∙ ap (λ k. times q start + k) (times_met q)
          ∙ sym (times-append q start (flat_map (short_of name_of a) (net_shapes_of owner entries)));
    }
