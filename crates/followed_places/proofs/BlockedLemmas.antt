-- The lines on rectangles with the components whose boxes meet them are those with all.
use Rattle.std.proofs.Common.{◌≡◌, ◌≤◌, ◌<◌, ◌+◌, ℕ, Bool, true, false, cond, List, [], ◌∷◌, ◌++◌, length, get_or, drop, drop-cons, add-one, refl, sym, ap, subst, ◌∙◌, arith, map, filter, ⊎_elim}
use Rattle.std.specs.Prelude.{◌&&◌}
use Rattle.std.specs.Int.Signed.{le_z}
use Rattle.std.specs.List.{flat_map}
use Rattle.std.proofs.lemmas.Bool.{and_from, and_parts, both_ways, cases_Bool as cases}
use Rattle.std.proofs.lemmas.List.{append-nil, drop_all}
use Rattle.design_model.specs.Families.{cross_lines}
use Rattle.design_model.specs.Geometry.{Rectangle, overlap}
use Rattle.design_model.specs.Views.{rectangle_of}
use Rattle.design_rules.specs.Boxes.{Boxed}
use Rattle.design_rules.specs.PlaceLines.{blocked_of}
use Rattle.line_laws.specs.EachLaws.{CrossesTurn}
use Rattle.line_laws.specs.Lines.{SameLines, SameThings, times}
use Rattle.line_laws.proofs.PairSums.{sum_by-same, times-append, times-flat_map}
use Rattle.place_checks.specs.Views.{boxed_view}
use Rattle.place_checks.specs.declared.placed_box.PlacedBox.{PlacedBox}
use Rattle.shape_rules.specs.Meeting.{meets}
use Rattle.statement_boxes.specs.Boxes.{box_view}
use Rattle.statement_boxes.specs.declared.statement_box.StatementBox.{StatementBox}
use Rattle.followed_places.proofs.MetLemmas.{sum_by-filter}
use Rattle.followed_places.proofs.OthersMet.{overlap_meets}

-- what shares area shares a point
meets_back : (a b : Rectangle) → meets b a ≡ true → meets a b ≡ true
meets_back a b h =
    let p = and_parts (le_z b.x1 a.x2 && le_z a.x1 b.x2) (le_z b.y1 a.y2 && le_z a.y1 b.y2) h in
    let x = and_parts (le_z b.x1 a.x2) (le_z a.x1 b.x2) p.0 in
    let y = and_parts (le_z b.y1 a.y2) (le_z a.y1 b.y2) p.1 in
    and_from (le_z a.x1 b.x2 && le_z b.x1 a.x2) (le_z a.y1 b.y2 && le_z b.y1 a.y2) (and_from (le_z a.x1 b.x2) (le_z b.x1 a.x2) x.1 x.0) (and_from (le_z a.y1 b.y2) (le_z b.y1 a.y2) y.1 y.0)

apart : (a b : Rectangle) → meets a b ≡ false → overlap a b ≡ false
apart a b h = ⊎_elim
    (λ (t : overlap a b ≡ true). absurd (both_ways (meets a b) h (meets_back a b (overlap_meets a b t))))
    (λ (f : overlap a b ≡ false). f)
    (cases (overlap a b))

only_met : (q : List ℕ) (r : Rectangle) (b : Boxed) → cond (meets b.box r) (times q (blocked_of b r)) 0 ≡ times q (blocked_of b r)
only_met q r b = ⊎_elim
    (λ (t : meets b.box r ≡ true). ap (λ (m : Bool). cond m (times q (blocked_of b r)) 0) t)
    (λ (f : meets b.box r ≡ false).
    let none : times q (blocked_of b r) ≡ 0 = rw (apart b.box r f) refl in
    ap (λ (m : Bool). cond m (times q (blocked_of b r)) 0) f ∙ sym none)
    (cases (meets b.box r))

-- with those that meet it
met_lines : (q : List ℕ) (r : Rectangle) (stay met : List Boxed) → SameThings met (filter (λ b. meets b.box r) stay)
    → times q (flat_map (λ b. blocked_of b r) met) ≡ times q (flat_map (λ b. blocked_of b r) stay)
met_lines q r stay met those =
    let v : Boxed → ℕ = λ b. times q (blocked_of b r) in
    times-flat_map q (λ (b : Boxed). blocked_of b r) met
    ∙ those.sums v
    ∙ sum_by-filter v (λ (b : Boxed). meets b.box r) stay
    ∙ sum_by-same (λ (b : Boxed). cond (meets b.box r) (v b) 0) v (λ b. only_met q r b) stay
    ∙ sym (times-flat_map q (λ (b : Boxed). blocked_of b r) stay)

-- the lines of each rectangle with each component
abbrev pub turned : List Rectangle → List Boxed → List (List ℕ)
turned rects stay = cross_lines (λ (r : Rectangle) (b : Boxed). blocked_of b r) rects stay

one_more : (stay met : List Boxed) (r : Rectangle) (rest : List Rectangle) (old new all : List (List ℕ)) → SameThings met (filter (λ b. meets b.box r) stay)
    → new ≡ old ++ flat_map (λ b. blocked_of b r) met → SameLines (old ++ turned (r ∷ rest) stay) all → SameLines (new ++ turned rest stay) all
one_more stay met r rest old new all those is so_far = record {
  often = λ q.
      let here = flat_map (λ (b : Boxed). blocked_of b r) stay in
      let a = so_far.often q in
      let b = ap (times q) is in
      let c = met_lines q r stay met those in
      omega (
        arith,
        a,
        b,
        c,
        times-append q old (flat_map (λ (b : Boxed). blocked_of b r) met),
        times-append q old (turned (r ∷ rest) stay),
        times-append q here (turned rest stay),
        times-append q new (turned rest stay),
      );
}

-- the rectangles of boxes
abbrev pub rects_of : List StatementBox → List Rectangle
rects_of boxes = map (λ b. b.1) (map box_view boxes)

left_from : (blocks : List StatementBox) (i : ℕ) (x : StatementBox) → i < length blocks → x ≡ get_or blocks i x → drop i blocks ≡ x ∷ drop (i + 1) blocks
left_from blocks i x below is = rw (add-one, drop-cons blocks i x, ← is) refl

-- one rectangle more
pub one_of_rectangles : (stay : List Boxed) (met : List PlacedBox) (blocks : List StatementBox) (i : ℕ) (x : StatementBox) (old new all : List (List ℕ)) → i < length blocks → x ≡ get_or blocks i x
    → SameThings (map boxed_view met) (filter (λ b. meets b.box (rectangle_of x.rect)) stay) → new ≡ old ++ flat_map (λ b. blocked_of b (rectangle_of x.rect)) (map boxed_view met)
    → SameLines (old ++ turned (rects_of (drop i blocks)) stay) all → SameLines (new ++ turned (rects_of (drop (i + 1) blocks)) stay) all
one_of_rectangles stay met blocks i x old new all below is those added so_far =
    one_more stay (map boxed_view met) (rectangle_of x.rect) (rects_of (drop (i + 1) blocks)) old new all those added
    (subst (λ (bs : List StatementBox). SameLines (old ++ turned (rects_of bs) stay) all) (left_from blocks i x below is) so_far)

-- behind the last
pub ended : CrossesTurn Boxed Rectangle → (stay : List Boxed) (blocks : List StatementBox) (i : ℕ) (old lines : List (List ℕ)) → length blocks ≤ i
    → SameLines (lines ++ turned (rects_of (drop i blocks)) stay) (old ++ turned (rects_of blocks) stay) → SameLines lines (old ++ cross_lines blocked_of stay (rects_of blocks))
ended law stay blocks i old lines over so_far =
    let done : SameLines (lines ++ []) (old ++ turned (rects_of blocks) stay) =
    subst (λ (bs : List StatementBox). SameLines (lines ++ turned (rects_of bs) stay) (old ++ turned (rects_of blocks) stay)) (drop_all i blocks over) so_far
    in
    record {
      often = λ q.
          ap (times q) (sym (append-nil lines))
          ∙ done.often q
          ∙ times-append q old (turned (rects_of blocks) stay)
          ∙ ap (λ n. times q old + n) (sym ((law blocked_of stay (rects_of blocks)).often q))
          ∙ sym (times-append q old (cross_lines blocked_of stay (rects_of blocks)));
    }
