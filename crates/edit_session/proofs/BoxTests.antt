-- How many pairs of boxes are compared where exchanges are followed one after the other.
use Rattle.std.proofs.Common.{◌≡◌, ◌≤◌, ◌+◌, ℕ, suc, cond, List, [], ◌∷◌, ◌++◌, map, count_by, sum_by, length, Option, Some, None, refl, sym, ap, ap₂, ◌∙◌, arith}
use Rattle.std.specs.List.{cons_option, filter_map}
use Rattle.std.specs.Prelude.{IfSome}
use Rattle.std.specs.Option.{option_map}
use Rattle.std.proofs.lemmas.List.{map-append}
use Rattle.std.proofs.lemmas.List.Sums.{sum_by-append, sum_by-cons}
use Rattle.design_model.specs.declared.identifier.StmtId.{StmtId}
use Rattle.design_model.specs.Geometry.{Rectangle}
use Rattle.def_grammar.specs.Records.{Record}
use Rattle.lef_grammar.specs.Library.{Library}
use Rattle.design_rules.specs.Boxes.{Boxed, box_of, scale}
use Rattle.design_rules.specs.Surroundings.{keep_outs}
use Rattle.line_laws.proofs.PairSums.{sum_by-same}
use Rattle.shape_index.specs.Near.{are_near}
use Rattle.text_pieces.specs.KeptRecords.{records_under}
use Rattle.text_pieces.specs.Tables.{Kept}
use Rattle.design_text.specs.Exchanges.{IsExchange}
use Rattle.design_text.specs.Exchanges as text
use Rattle.followed_places.specs.Places.{components_under, keep_outs_under, place_under, said}
use Rattle.followed_places.specs.Tests.{near_pairs}
use Rattle.followed_places.proofs.KeepOutLemmas.{outs_said}
use Rattle.edit_session.specs.Tests.{AreNearIn, Exchanged, FewBoxes, near_boxes, near_keep_outs}

-- the components among numbered statements, and without their numbers
seconds : (library : Library) (u : ℕ) (rs : List (StmtId × Record)) → map (λ (x : StmtId × Boxed). x.1) (components_under library u rs) ≡ filter_map (box_of library u) (said rs)
seconds library u [] = refl
seconds library u (x ∷ rs) = one (box_of library u x.1) (components_under library u rs) (filter_map (box_of library u) (said rs)) (seconds library u rs)
  where
    one : (b : Option Boxed) (cs : List (StmtId × Boxed)) (bs : List Boxed) → map (λ (c : StmtId × Boxed). c.1) cs ≡ bs → map (λ (c : StmtId × Boxed). c.1) (cons_option (option_map (λ d. (x.0, d)) b) cs) ≡ cons_option b bs
    one None cs bs same = same
    one (Some b) cs bs same = ap (λ (l : List Boxed). b ∷ l) same

near_one : (r : Rectangle) (cs : List (StmtId × Boxed)) → count_by (λ (b : StmtId × Rectangle). are_near r b.1) (map place_under cs) ≡ count_by (λ (c : Boxed). are_near r c.box) (map (λ (x : StmtId × Boxed). x.1) cs)
near_one r [] = refl
near_one r (c ∷ cs) =
    sum_by-cons (λ (b : StmtId × Rectangle). cond (are_near r b.1) 1 0) (place_under c) (map place_under cs)
    ∙ ap (λ n. cond (are_near r c.1.box) 1 0 + n) (near_one r cs)
    ∙ sym (sum_by-cons (λ (d : Boxed). cond (are_near r d.box) 1 0) c.1 (map (λ (x : StmtId × Boxed). x.1) cs))

-- a sum over rectangles that keep components out, without the numbers of their statements
sum_seconds : (w : Rectangle → ℕ) (xs : List (StmtId × Rectangle)) → sum_by (λ (b : StmtId × Rectangle). w b.1) xs ≡ sum_by w (map (λ (b : StmtId × Rectangle). b.1) xs)
sum_seconds w [] = refl
sum_seconds w (x ∷ xs) =
    sum_by-cons (λ (b : StmtId × Rectangle). w b.1) x xs
    ∙ ap (λ n. w x.1 + n) (sum_seconds w xs)
    ∙ sym (sum_by-cons w x.1 (map (λ (b : StmtId × Rectangle). b.1) xs))

sum_said : (w : Rectangle → ℕ) (rs : List (StmtId × Record)) → sum_by (λ (b : StmtId × Rectangle). w b.1) (keep_outs_under rs) ≡ sum_by w (keep_outs (said rs))
sum_said w rs = sum_seconds w (keep_outs_under rs) ∙ ap (sum_by w) (outs_said rs)

near_obstacles : (rs : List (StmtId × Record)) (r : Rectangle) (all : List (StmtId × Boxed)) → count_by (λ (b : StmtId × Rectangle). are_near r b.1) (map place_under all ++ keep_outs_under rs)
    ≡ count_by (λ (c : Boxed). are_near r c.box) (map (λ (x : StmtId × Boxed). x.1) all) + near_keep_outs (said rs) r
near_obstacles rs r all =
    sum_by-append (λ (b : StmtId × Rectangle). cond {A = ℕ} (are_near r b.1) 1 0) (map place_under all) (keep_outs_under rs)
    ∙ ap₂ (λ m n. m + n) (near_one r all) (sum_said (λ b. cond {A = ℕ} (are_near r b) 1 0) rs)

near_all : (rs : List (StmtId × Record)) (all some : List (StmtId × Boxed)) → sum_by (λ (b : StmtId × Rectangle). count_by (λ (c : StmtId × Rectangle). are_near b.1 c.1) (map place_under all ++ keep_outs_under rs)) (map place_under some)
    ≡ sum_by (λ (b : Boxed). count_by (λ (c : Boxed). are_near b.box c.box) (map (λ (x : StmtId × Boxed). x.1) all) + near_keep_outs (said rs) b.box) (map (λ (x : StmtId × Boxed). x.1) some)
near_all rs all [] = refl
near_all rs all (c ∷ some) =
    sum_by-cons (λ (b : StmtId × Rectangle). count_by (λ (d : StmtId × Rectangle). are_near b.1 d.1) (map place_under all ++ keep_outs_under rs)) (place_under c) (map place_under some)
    ∙ ap₂ (λ m n. m + n) (near_obstacles rs c.1.box all) (near_all rs all some)
    ∙ sym (sum_by-cons (λ (b : Boxed). count_by (λ (d : Boxed). are_near b.box d.box) (map (λ (x : StmtId × Boxed). x.1) all) + near_keep_outs (said rs) b.box) c.1 (map (λ (x : StmtId × Boxed). x.1) some))

near_rectangles_all : (all : List (StmtId × Boxed)) (rs : List Rectangle) → sum_by (λ (r : Rectangle). count_by (λ (b : StmtId × Rectangle). are_near r b.1) (map place_under all)) rs
    ≡ sum_by (λ (r : Rectangle). count_by (λ (c : Boxed). are_near r c.box) (map (λ (x : StmtId × Boxed). x.1) all)) rs
near_rectangles_all all rs =
    sum_by-same (λ (r : Rectangle). count_by (λ (b : StmtId × Rectangle). are_near r b.1) (map place_under all)) (λ (r : Rectangle). count_by (λ (c : Boxed). are_near r c.box) (map (λ (x : StmtId × Boxed). x.1) all)) (λ r. near_one r all) rs

-- pairs of boxes by numbered statements are those of the definition
pub same_pairs : (library : Library) (rs some : List (StmtId × Record)) → near_pairs library rs some ≡ near_boxes library (said rs) (said some)
same_pairs library rs some =
    let u = scale (said rs) in
    let outs = keep_outs (said some) in
    ap₂ (λ m n. m + n)
    (near_all rs (components_under library u rs) (components_under library u some)
    ∙ ap₂ (λ (xs ys : List Boxed). sum_by (λ (b : Boxed). count_by (λ (c : Boxed). are_near b.box c.box) xs + near_keep_outs (said rs) b.box) ys) (seconds library u rs) (seconds library u some))
    (sum_said (λ (r : Rectangle). count_by (λ (b : StmtId × Rectangle). are_near r b.1) (map place_under (components_under library u rs))) some
    ∙ near_rectangles_all (components_under library u rs) outs ∙ ap (λ (xs : List Boxed). sum_by (λ (r : Rectangle). count_by (λ (c : Boxed). are_near r c.box) xs) outs) (seconds library u rs))

-- statements under numbers are as many as these
many : (slots : List (Option Kept)) (ids : List StmtId) → length (said (records_under slots ids)) ≡ length ids
many slots [] = refl
many slots (i ∷ ids) = ap (λ n. suc n) (many slots ids)

-- whatever is compared from a design on, with what was compared before it, by so many exchanges, is all of an edit's
abbrev pub IsAhead : Library → List Record → List Record → List Record → ℕ → ℕ → Type 0
IsAhead library old between new made tests =
    (xs : List Exchanged) (pairs : ℕ) → AreNearIn library between xs new pairs → (all : List Exchanged) × (total : ℕ) × (length all ≡ made + length xs) × AreNearIn library old all new total × (tests + pairs ≤ total)

pub none_ahead : (library : Library) (old new : List Record) → IsAhead library old old new 0 0
none_ahead library old new xs pairs near = (xs, pairs, omega arith, near, omega arith)

module _ (library : Library) (slots : List (Option Kept)) (old between : List (StmtId × Record)) (x : text.Exchanged) (e : IsExchange slots old between x) where
  abbrev one : Exchanged
  one = record { went = said (records_under slots x.went); came = said (records_under slots x.came) }

  parted : (all some : List (StmtId × Record)) (ids : List StmtId) → all ≡ records_under slots (e.front ++ (ids ++ e.rest)) → said all ≡ said (records_under slots e.front) ++ (said (records_under slots ids) ++ said (records_under slots e.rest))
  parted all some ids is = ap said is ∙ grind (arith, map-append)

  -- one exchange more, before those that are made later
  pub near_then : (xs : List Exchanged) (new : List Record) (later : ℕ) → length x.went ≤ 256 → length x.came ≤ 256 → AreNearIn library (said between) xs new later
      → AreNearIn library (said old) (one ∷ xs) new (near_pairs library old (records_under slots x.went) + near_pairs library between (records_under slots x.came) + later)
  near_then xs new later few also near =
      let behind = said (records_under slots e.rest) in
      let front = said (records_under slots e.front) in
      let was = parted old old x.went e.old_is in
      let then = parted between between x.came e.new_is in (
        front,
        behind,
        later,
        was,
        rw (many slots x.went) few,
        rw (many slots x.came) also,
        ap₂ (λ m n. m + n + later) (same_pairs library old (records_under slots x.went)) (same_pairs library between (records_under slots x.came) ∙ ap (λ (d : List Record). near_boxes library d one.came) then),
        rw (← then) near,
      )

  -- so it is one exchange further
  pub ahead_then : (first new : List Record) (made tests more next : ℕ) → length x.went ≤ 256 → length x.came ≤ 256 → IsAhead library first (said old) new made tests
      → more ≤ near_pairs library old (records_under slots x.went) + near_pairs library between (records_under slots x.came) → next ≤ tests + more → IsAhead library first (said between) new (made + 1) next
  ahead_then first new made tests more next few also ahead within sum xs pairs near =
      let all = ahead (one ∷ xs) _ (near_then xs new pairs few also near) in
      let count : length all.0 ≡ made + suc (length xs) = all.2 in
      let counted : length all.0 ≡ (made + 1) + length xs = omega (arith, count) in
      (all.0, all.1, counted, all.3, let le = all.4 in omega (arith, le, within, sum))

-- and in the end
pub few_boxes : (library : Library) (old between new : List Record) (made tests : ℕ) → made ≤ 8 → new ≡ between → IsAhead library old between new made tests → FewBoxes library old new tests
few_boxes library old between new made tests few same ahead =
    let all = ahead [] 0 (same, refl) in
    let count : length all.0 ≡ made + 0 = all.2 in
    let le = all.4 in
    (all.1, Some all.0, (omega (arith, count, few), all.3), omega (arith, le))

pub no_boxes : (library : Library) (old new : List Record) (tests : ℕ) → tests ≡ 0 → FewBoxes library old new tests
no_boxes library old new tests none = (0, None, refl, omega (arith, none))

-- where something is found for which none was compared
pub some_boxes : {A : Type 0} (library : Library) (old new : List Record) (count : A → ℕ) (found : Option A) → IfSome found (λ a. count a ≡ 0) → IfSome found (λ a. FewBoxes library old new (count a))
some_boxes library old new count None none = tt
some_boxes library old new count (Some a) none = no_boxes library old new (count a) none
