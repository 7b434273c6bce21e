-- Components of a text whose boxes meet a rectangle, by sums over the numbers of statements.
use Rattle.std.proofs.Common.{◌≡◌, ◌≤◌, ◌<◌, ◌+◌, ℕ, Bool, true, false, cond, eqb, List, [], ◌∷◌, Option, Some, None, refl, sym, ap, subst, ◌∙◌, arith, map, sum_by, filter, ⊎_elim}
use Rattle.std.specs.List.{filter_map, cons_option}
use Rattle.std.specs.Option.{option_map}
use Rattle.std.proofs.lemmas.Bool.{cases_Bool as cases, eq-eqb, eqb-true}
use Rattle.std.proofs.lemmas.List.Sums.{sum_by-cons, sum_by-le-sum_by}
use Rattle.design_model.specs.Geometry.{Rectangle}
use Rattle.design_model.specs.declared.identifier.StmtId.{StmtId}
use Rattle.def_grammar.specs.Records.{Record}
use Rattle.lef_grammar.specs.Library.{Library}
use Rattle.design_rules.specs.Boxes.{Boxed, box_of}
use Rattle.shape_rules.specs.Meeting.{meets}
use Rattle.line_laws.specs.Lines.{SameThings}
use Rattle.line_laws.proofs.PairSums.{sum_by-same}
use Rattle.statement_boxes.specs.Boxes.{met_by}
use Rattle.text_pieces.specs.KeptRecords.{HasPiece, HavePieces, record_of, records_under}
use Rattle.text_pieces.specs.Tables.{Kept, kept_at}
use Rattle.followed_places.specs.Lines.{AreBoxesOf, boxed_under}
use Rattle.followed_places.specs.Places.{component_under, components_under, place_under}

-- the weight of what may be there
abbrev weigh : {A : Type 0} → (A → ℕ) → Option A → ℕ
weigh w None = 0
weigh w (Some x) = w x

sum_by-option : {A : Type 0} (w : A → ℕ) (o : Option A) (xs : List A) → sum_by w (cons_option o xs) ≡ weigh w o + sum_by w xs
sum_by-option w None xs = omega arith
sum_by-option w (Some x) xs = sum_by-cons w x xs

sum_by-filter_map : {A B : Type 0} (w : B → ℕ) (h : A → Option B) (xs : List A) → sum_by w (filter_map h xs) ≡ sum_by (λ x. weigh w (h x)) xs
sum_by-filter_map w h [] = refl
sum_by-filter_map w h (x ∷ xs) =
    let r = sum_by-filter_map w h xs in
    omega (arith, r, sum_by-option w (h x) (filter_map h xs), sum_by-cons (λ x. weigh w (h x)) x xs)

sum_by-cond : {A : Type 0} (w : A → ℕ) (b : Bool) (x : A) (xs : List A) → sum_by w (cond b (x ∷ xs) xs) ≡ cond b (w x) 0 + sum_by w xs
sum_by-cond w true x xs = sum_by-cons w x xs
sum_by-cond w false x xs = omega arith

pub sum_by-filter : {A : Type 0} (w : A → ℕ) (p : A → Bool) (xs : List A) → sum_by w (filter p xs) ≡ sum_by (λ x. cond (p x) (w x) 0) xs
sum_by-filter w p [] = refl
sum_by-filter w p (x ∷ xs) =
    let r = sum_by-filter w p xs in
    omega (arith, r, sum_by-cond w (p x) x (filter p xs), sum_by-cons (λ x. cond (p x) (w x) 0) x xs)

pub sum_by-map : {A B : Type 0} (w : B → ℕ) (f : A → B) (xs : List A) → sum_by w (map f xs) ≡ sum_by (λ x. w (f x)) xs
sum_by-map w f [] = refl
sum_by-map w f (x ∷ xs) = let r = sum_by-map w f xs in omega (arith, r, sum_by-cons w (f x) (map f xs), sum_by-cons (λ y. w (f y)) x xs)

-- 1 for the same number
abbrev is_it : StmtId → StmtId → ℕ
is_it i j = cond (eqb j.0 i.0) 1 0

same_number : (i j : StmtId) → eqb j.0 i.0 ≡ true → j ≡ i
same_number i j e = ap (λ (n : ℕ). let x : StmtId = record { 0 = n } in x) (eqb-true j.0 i.0 e)

it_is : (i : StmtId) → is_it i i ≡ 1
it_is i = ap (λ (b : Bool). cond {A = ℕ} b 1 0) (eq-eqb i.0 i.0 refl)

-- a number that stands among others has a piece where they have
piece_of : (slots : List (Option Kept)) (i : StmtId) (ids : List StmtId) → HavePieces slots ids → 0 < sum_by (is_it i) ids → HasPiece slots i
piece_of slots i [] have some = absurd (omega arith)
piece_of slots i (j ∷ js) have some = ⊎_elim
    (λ (same : eqb j.0 i.0 ≡ true). subst (λ (k : StmtId). HasPiece slots k) (same_number i j same) have.0)
    (λ (other : eqb j.0 i.0 ≡ false).
    let none : is_it i j ≡ 0 = ap (λ (b : Bool). cond {A = ℕ} b 1 0) other in
    piece_of slots i js have.1 (omega (arith, some, none, sum_by-cons (is_it i) j js)))
    (cases (eqb j.0 i.0))

have_pieces : (slots : List (Option Kept)) (ids found : List StmtId) → HavePieces slots ids → ((i : StmtId) → sum_by (is_it i) found ≤ sum_by (is_it i) ids) → HavePieces slots found
have_pieces slots ids [] have few = tt
have_pieces slots ids (i ∷ found) have few = (
  piece_of slots i ids have (omega (arith, few i, it_is i, sum_by-cons (is_it i) i found)),
  have_pieces slots ids found have (λ k. omega (arith, few k, sum_by-cons (is_it k) i found)),
)

weigh-under : (w : StmtId × Boxed → ℕ) (id : StmtId) (o : Option Boxed) → weigh w (option_map (λ b. (id, b)) o) ≡ weigh (λ b. w (id, b)) o
weigh-under w id None = refl
weigh-under w id (Some b) = refl

-- what is found of one by its number is the one
weigh-met : (w : Boxed → ℕ) (r : Rectangle) (o : Option Boxed) → weigh (λ b. cond (meets b.box r) (weigh w o) 0) o ≡ weigh (λ b. cond (meets b.box r) (w b) 0) o
weigh-met w r None = refl
weigh-met w r (Some b) = refl

cond_less : (b : Bool) (n : ℕ) → cond b n 0 ≤ n
cond_less true n = omega arith
cond_less false n = omega arith

weigh_less : (n : ℕ) (r : Rectangle) (o : Option Boxed) → weigh (λ (b : Boxed). cond (meets b.box r) n 0) o ≤ n
weigh_less n r None = omega arith
weigh_less n r (Some b) = cond_less (meets b.box r) n

module _ (library : Library) (u : ℕ) (slots : List (Option Kept)) (ids : List StmtId) where
  -- the record under a number, and its box
  abbrev record_under : StmtId → Record
  record_under id = record_of (kept_at slots id)

  abbrev box_under : StmtId → Option Boxed
  box_under id = box_of library u (record_under id)

  -- the components, by the numbers
  under-sum : (w : StmtId × Boxed → ℕ) → sum_by w (components_under library u (records_under slots ids)) ≡ sum_by (λ id. weigh (λ b. w (id, b)) (box_under id)) ids
  under-sum w =
      sum_by-filter_map w (component_under library u) (records_under slots ids)
      ∙ sum_by-map (λ (x : StmtId × Record). weigh w (component_under library u x)) (λ (id : StmtId). (id, record_under id)) ids
      ∙ sum_by-same (λ (id : StmtId). weigh w (component_under library u (id, record_under id))) (λ (id : StmtId). weigh (λ b. w (id, b)) (box_under id)) (λ id. weigh-under w id (box_under id)) ids

  module _ (boxes : List (StmtId × Rectangle)) (are : AreBoxesOf library u slots ids boxes) (r : Rectangle) (found : List StmtId) (those : SameThings found (map (λ b. b.0) (met_by r boxes))) where
    -- the numbers that were found, by all
    found-sum : (w : StmtId → ℕ) → sum_by w found ≡ sum_by (λ id. weigh (λ b. cond (meets b.box r) (w id) 0) (box_under id)) ids
    found-sum w =
        let v : StmtId × Rectangle → ℕ = λ b. cond (meets b.1 r) (w b.0) 0 in
        those.sums w
        ∙ sum_by-map w (λ (b : StmtId × Rectangle). b.0) (met_by r boxes)
        ∙ sum_by-filter (λ (b : StmtId × Rectangle). w b.0) (λ (b : StmtId × Rectangle). meets b.1 r) boxes
        ∙ are.boxes_are.sums v
        ∙ sum_by-map v place_under (components_under library u (records_under slots ids))
        ∙ under-sum (λ c. v (place_under c))

    pub found_have_pieces : HavePieces slots found
    found_have_pieces = have_pieces slots ids found are.kept (λ i.
        let fewer = sum_by-le-sum_by (λ (id : StmtId). weigh (λ (b : Boxed). cond (meets b.box r) (is_it i id) 0) (box_under id)) (is_it i) ids (λ id. weigh_less (is_it i id) r (box_under id)) in
        omega (arith, fewer, found-sum (is_it i)))

    -- the boxes under the numbers that were found are those that meet the rectangle
    pub found_boxes : (records : List Record) (items : List Boxed) → records ≡ map record_under found → items ≡ filter_map (box_of library u) records → SameThings items (filter (λ b. meets b.box r) (boxed_under library u slots ids))
    found_boxes records items read is = record {
      sums = λ w.
          let v : Boxed → ℕ = λ b. cond (meets b.box r) (w b) 0 in
          ap (sum_by w) (is ∙ ap (λ (rs : List Record). filter_map (box_of library u) rs) read)
          ∙ sum_by-filter_map w (box_of library u) (map record_under found)
          ∙ sum_by-map (λ (x : Record). weigh w (box_of library u x)) record_under found
          ∙ found-sum (λ id. weigh w (box_under id))
          ∙ sum_by-same (λ (id : StmtId). weigh (λ b. cond (meets b.box r) (weigh w (box_under id)) 0) (box_under id)) (λ (id : StmtId). weigh v (box_under id)) (λ id. weigh-met w r (box_under id)) ids
          ∙ sym (under-sum (λ c. v c.1))
          ∙ sym (sum_by-map v (λ (c : StmtId × Boxed). c.1) (components_under library u (records_under slots ids)))
          ∙ sym (sum_by-filter w (λ (b : Boxed). meets b.box r) (boxed_under library u slots ids));
    }
