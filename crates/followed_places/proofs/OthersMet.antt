-- The lines on components with those whose boxes meet theirs are those with all.
use Rattle.std.proofs.Common.{◌≡◌, ◌≤◌, ◌<◌, ◌+◌, ℕ, Bool, true, false, cond, List, [], ◌∷◌, ◌++◌, length, get_or, drop, drop-cons, add-one, refl, sym, ap, subst, ◌∙◌, arith, map, sum_by, filter, ⊎_elim, ℤ}
use Rattle.std.specs.Prelude.{int_lt, ◌&&◌}
use Rattle.std.specs.Int.{int_max, int_min}
use Rattle.std.specs.Int.Signed.{le_z}
use Rattle.std.specs.List.{flat_map}
use Rattle.std.proofs.lemmas.Bool.{and_from, and_parts, both_ways, cases_Bool as cases}
use Rattle.std.proofs.lemmas.Int.{ints}
use Rattle.std.proofs.lemmas.List.{drop_all}
use Rattle.std.proofs.lemmas.List.Sums.{sum_by-append}
use Rattle.design_model.specs.Families.{cross_lines, pair_lines}
use Rattle.design_model.specs.Geometry.{Rectangle, overlap}
use Rattle.design_model.specs.declared.identifier.StmtId.{StmtId}
use Rattle.design_rules.specs.Boxes.{Boxed}
use Rattle.design_rules.specs.OverlapLines.{overlap_of}
use Rattle.design_rules.specs.PlaceLines.{blocked_of, lines_in}
use Rattle.design_rules.specs.Surroundings.{Surroundings}
use Rattle.following_laws.specs.DesignLaws.{lines_of_components}
use Rattle.line_laws.specs.Lines.{SameLines, SameThings, times}
use Rattle.line_laws.specs.OneLaws.{own_lines}
use Rattle.line_laws.proofs.PairSums.{sum_by-same, times-append, times-flat_map}
use Rattle.shape_rules.specs.Meeting.{meets}
use Rattle.statement_boxes.specs.Boxes.{met_by}
use Rattle.followed_places.specs.Placed.{component_of}
use Rattle.followed_places.specs.declared.components.Placed.{Placed}
use Rattle.followed_places.proofs.MetLemmas.{sum_by-filter, sum_by-map}

-- the rectangles of boxes without their numbers
abbrev rects_of : List (StmtId × Rectangle) → List Rectangle
rects_of boxes = map (λ b. b.1) boxes

-- what shares area shares a point
near_low : (a b c d : ℤ) → int_lt (int_max a b) (int_min c d) ≡ true → le_z b c ≡ true
near_low a b c d h = grind (arith, ints)

near_high : (a b c d : ℤ) → int_lt (int_max a b) (int_min c d) ≡ true → le_z a d ≡ true
near_high a b c d h = grind (arith, ints)

pub overlap_meets : (a b : Rectangle) → overlap a b ≡ true → meets b a ≡ true
overlap_meets a b h =
    let p = and_parts (int_lt (int_max a.x1 b.x1) (int_min a.x2 b.x2)) (int_lt (int_max a.y1 b.y1) (int_min a.y2 b.y2)) h in
    and_from (le_z b.x1 a.x2 && le_z a.x1 b.x2) (le_z b.y1 a.y2 && le_z a.y1 b.y2)
    (and_from (le_z b.x1 a.x2) (le_z a.x1 b.x2) (near_low a.x1 b.x1 a.x2 b.x2 p.0) (near_high a.x1 b.x1 a.x2 b.x2 p.0))
    (and_from (le_z b.y1 a.y2) (le_z a.y1 b.y2) (near_low a.y1 b.y1 a.y2 b.y2 p.1) (near_high a.y1 b.y1 a.y2 b.y2 p.1))

apart : (a b : Rectangle) → meets b a ≡ false → overlap a b ≡ false
apart a b h = ⊎_elim
    (λ (t : overlap a b ≡ true). absurd (both_ways (meets b a) h (overlap_meets a b t)))
    (λ (f : overlap a b ≡ false). f)
    (cases (overlap a b))

only_met : (q : List ℕ) (c b : Boxed) → cond (meets b.box c.box) (times q (overlap_of c b)) 0 ≡ times q (overlap_of c b)
only_met q c b = ⊎_elim
    (λ (t : meets b.box c.box ≡ true). ap (λ (m : Bool). cond m (times q (overlap_of c b)) 0) t)
    (λ (f : meets b.box c.box ≡ false).
    let none : times q (overlap_of c b) ≡ 0 = rw (apart c.box b.box f) refl in
    ap (λ (m : Bool). cond m (times q (overlap_of c b)) 0) f ∙ sym none)
    (cases (meets b.box c.box))

-- with those that meet, and with others
met-lines : (q : List ℕ) (c : Boxed) (stay met rest : List Boxed) → SameThings met (filter (λ b. meets b.box c.box) stay)
    → times q (flat_map (overlap_of c) (met ++ rest)) ≡ times q (flat_map (overlap_of c) stay) + times q (flat_map (overlap_of c) rest)
met-lines q c stay met rest those =
    let v : Boxed → ℕ = λ b. times q (overlap_of c b) in
    let p : Boxed → Bool = λ b. meets b.box c.box in
    let all : sum_by v met ≡ sum_by v stay = those.sums v ∙ sum_by-filter v p stay ∙ sum_by-same (λ (b : Boxed). cond (p b) (v b) 0) v (λ b. only_met q c b) stay in
    omega (arith, all, times-flat_map q (overlap_of c) (met ++ rest), times-flat_map q (overlap_of c) stay, times-flat_map q (overlap_of c) rest, sum_by-append v met rest)

only_blocked : (q : List ℕ) (c : Boxed) (b : StmtId × Rectangle) → cond (meets b.1 c.box) (times q (blocked_of c b.1)) 0 ≡ times q (blocked_of c b.1)
only_blocked q c b = ⊎_elim
    (λ (t : meets b.1 c.box ≡ true). ap (λ (m : Bool). cond m (times q (blocked_of c b.1)) 0) t)
    (λ (f : meets b.1 c.box ≡ false).
    let none : times q (blocked_of c b.1) ≡ 0 = rw (apart c.box b.1 f) refl in
    ap (λ (m : Bool). cond m (times q (blocked_of c b.1)) 0) f ∙ sym none)
    (cases (meets b.1 c.box))

-- on the rectangles that meet it, of those that keep components out
blocked_by_met : (q : List ℕ) (c : Boxed) (outs : List (StmtId × Rectangle)) (near : List Rectangle) → SameThings near (map (λ b. b.1) (met_by c.box outs))
    → times q (flat_map (blocked_of c) near) ≡ times q (flat_map (blocked_of c) (rects_of outs))
blocked_by_met q c outs near those =
    let v : Rectangle → ℕ = λ r. times q (blocked_of c r) in
    let w : StmtId × Rectangle → ℕ = λ b. v b.1 in
    times-flat_map q (blocked_of c) near
    ∙ those.sums v
    ∙ sum_by-map v (λ (b : StmtId × Rectangle). b.1) (met_by c.box outs)
    ∙ sum_by-filter w (λ (b : StmtId × Rectangle). meets b.1 c.box) outs
    ∙ sum_by-same (λ (b : StmtId × Rectangle). cond (meets b.1 c.box) (w b) 0) w (λ b. only_blocked q c b) outs
    ∙ sym (sum_by-map v (λ (b : StmtId × Rectangle). b.1) outs)
    ∙ sym (times-flat_map q (blocked_of c) (rects_of outs))

-- one component more
one_more : (s : Surroundings) (outs : List (StmtId × Rectangle)) (stay met rest : List Boxed) (near : List Rectangle) (c : Boxed) (old new all : List (List ℕ)) → SameThings met (filter (λ b. meets b.box c.box) stay)
    → SameThings near (map (λ b. b.1) (met_by c.box outs)) → new ≡ old ++ own_lines s near c (met ++ rest)
    → SameLines (old ++ lines_of_components s (c ∷ rest) stay (rects_of outs) []) all → SameLines (new ++ lines_of_components s rest stay (rects_of outs) []) all
one_more s outs stay met rest near c old new all those blocking is so_far =
    let pairs = pair_lines overlap_of in
    let each = flat_map (lines_in s) in
    let cross = λ (xs : List Boxed). cross_lines overlap_of xs stay in
    let out = λ (xs : List Boxed). cross_lines blocked_of xs (rects_of outs) in
    let none = cross_lines blocked_of stay [] in
    let at = flat_map (blocked_of c) (rects_of outs) in
    let found = flat_map (blocked_of c) near in
    record {
      often = λ q.
          let a = so_far.often q in
          let b = ap (times q) is in
          let d = met-lines q c stay met rest those in
          let e = blocked_by_met q c outs near blocking in
          omega (
            arith,
            a,
            b,
            d,
            e,
            times-append q old (own_lines s near c (met ++ rest)),
            times-append q (flat_map (overlap_of c) (met ++ rest)) (lines_in s c ++ found),
            times-append q (lines_in s c) found,
            times-append q old (lines_of_components s (c ∷ rest) stay (rects_of outs) []),
            times-append q (pairs (c ∷ rest) ++ cross (c ∷ rest)) (each (c ∷ rest) ++ (out (c ∷ rest) ++ none)),
            times-append q (pairs (c ∷ rest)) (cross (c ∷ rest)),
            times-append q (each (c ∷ rest)) (out (c ∷ rest) ++ none),
            times-append q (out (c ∷ rest)) none,
            times-append q (flat_map (overlap_of c) rest) (pairs rest),
            times-append q (flat_map (overlap_of c) stay) (cross rest),
            times-append q (lines_in s c) (each rest),
            times-append q at (out rest),
            times-append q new (lines_of_components s rest stay (rects_of outs) []),
            times-append q (pairs rest ++ cross rest) (each rest ++ (out rest ++ none)),
            times-append q (pairs rest) (cross rest),
            times-append q (each rest) (out rest ++ none),
            times-append q (out rest) none,
          );
    }

left_from : (xs : List Placed) (i : ℕ) (x : Placed) → i < length xs → x ≡ get_or xs i x → drop i xs ≡ x ∷ drop (i + 1) xs
left_from xs i x below is = rw (add-one, drop-cons xs i x, ← is) refl

pub one_of_components : (s : Surroundings) (outs : List (StmtId × Rectangle)) (stay met others : List Boxed) (near : List Rectangle) (components : List Placed) (i : ℕ) (x : Placed) (old new all : List (List ℕ))
    → i < length components → x ≡ get_or components i x → SameThings met (filter (λ b. meets b.box (component_of x).box) stay)
    → SameThings near (map (λ b. b.1) (met_by (component_of x).box outs)) → others ≡ met ++ map component_of (drop (i + 1) components) → new ≡ old ++ own_lines s near (component_of x) others
    → SameLines (old ++ lines_of_components s (map component_of (drop i components)) stay (rects_of outs) []) all
    → SameLines (new ++ lines_of_components s (map component_of (drop (i + 1) components)) stay (rects_of outs) []) all
one_of_components s outs stay met others near components i x old new all below is those blocking are added so_far =
    one_more s outs stay met (map component_of (drop (i + 1) components)) near (component_of x) old new all those blocking
    (added ∙ ap (λ (xs : List Boxed). old ++ own_lines s near (component_of x) xs) are)
    (subst (λ (xs : List Placed). SameLines (old ++ lines_of_components s (map component_of xs) stay (rects_of outs) []) all) (left_from components i x below is) so_far)

no_blocked : (stay : List Boxed) → cross_lines blocked_of stay [] ≡ []
no_blocked [] = refl
no_blocked (x ∷ xs) = no_blocked xs

-- with the lines on rectangles that go or come
pub with_blocked : (s : Surroundings) (outs changed : List Rectangle) (some stay : List Boxed) (own all : List (List ℕ)) → SameLines own (lines_of_components s some stay outs [])
    → SameLines all (own ++ cross_lines blocked_of stay changed) → SameLines all (lines_of_components s some stay outs changed)
with_blocked s outs changed some stay own all same put = record {
  often = λ q.
      let pairs = pair_lines overlap_of some ++ cross_lines overlap_of some stay in
      let each = flat_map (lines_in s) some in
      let out = cross_lines blocked_of some outs in
      let more = cross_lines blocked_of stay changed in
      let none = cross_lines blocked_of stay [] in
      let a = put.often q in
      let b = same.often q in
      let c = ap (times q) (no_blocked stay) in
      omega (
        arith,
        a,
        b,
        c,
        times-append q own more,
        times-append q pairs (each ++ (out ++ none)),
        times-append q each (out ++ none),
        times-append q out none,
        times-append q pairs (each ++ (out ++ more)),
        times-append q each (out ++ more),
        times-append q out more,
      );
}

-- behind the last
pub ended : (s : Surroundings) (outs : List Rectangle) (stay : List Boxed) (components : List Placed) (i : ℕ) (lines all : List (List ℕ)) → length components ≤ i
    → SameLines (lines ++ lines_of_components s (map component_of (drop i components)) stay outs []) all → SameLines lines all
ended s outs stay components i lines all over so_far =
    let done : SameLines (lines ++ cross_lines blocked_of stay []) all =
    subst (λ (xs : List Placed). SameLines (lines ++ lines_of_components s (map component_of xs) stay outs []) all) (drop_all i components over) so_far
    in
    record {
      often = λ q.
          let a = done.often q in
          let b = ap (times q) (no_blocked stay) in
          omega (arith, a, b, times-append q lines (cross_lines blocked_of stay []));
    }
