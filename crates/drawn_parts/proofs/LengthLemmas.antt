-- Lengths that are added up one after the other.
use Rattle.std.proofs.Common.{◌≡◌, ℕ, suc, ◌+◌, ◌-◌, ◌^◌, ◌<◌, ◌≤◌, Bool, true, false, List, [], ◌∷◌, ◌++◌, Option, Some, None, drop, flat_map, get_or, length, map, min, refl, sym, ap, ◌∙◌, add-zero, zero-add, arith}
use Rattle.std.proofs.lemmas.List.Sums.{sum_by-append, sum_by-cons}
use Rattle.std.specs.List.{cons_option, filter_map, sum_by}
use Rattle.design_model.specs.declared.geometry.Point.{Point}
use Rattle.def_grammar.specs.Parts.{Coordinates}
use Rattle.def_grammar.specs.Points.{place_of}
use Rattle.def_grammar.specs.Records.{Record}
use Rattle.def_grammar.specs.SpecialNets.{SpecialClause, special_rectangle, special_vias, via_points}
use Rattle.lef_grammar.specs.Library.{Library}
use Rattle.wire_rules.specs.Paths.{Piece, ViaUse, shape_at, shapes_there}
use Rattle.wire_rules.specs.ViaShapes.{NamedShape}
use Rattle.entry_rules.specs.WireItems.{net_via}
use Rattle.net_rules.specs.ViaRectangles.{via_shapes}
use Rattle.connection_rules.specs.NetParts.{Wired, clause_pieces}
use Rattle.measure_rules.specs.Lengths.{piece_length, wired_length}
use Rattle.drawn_parts.specs.DrawnLengths.{capped, length_if}
use Rattle.drawn_parts.proofs.EntryLemmas.{left_from}

-- a length that was capped, and what comes to it
pub capped_more : (n x rest : ℕ) → capped (capped (n + x) + rest) ≡ capped (n + (x + rest))
capped_more n x rest = omega arith

pub capped_inside : (n x : ℕ) → capped (n + capped x) ≡ capped (n + x)
capped_inside n x = omega arith

-- nothing comes to it
pub capped_below : (n m : ℕ) → m ≡ capped n → m < 2 ^ 64
capped_below n m is = omega (arith, is)

pub capped_whole : (n : ℕ) → n < 2 ^ 64 → capped (n + 0) ≡ n
capped_whole n below = omega arith

-- what was added up is all
pub all_added : {X : Type 0} (f : X → ℕ) (n all : ℕ) (left : List X) → left ≡ [] → n < 2 ^ 64 → capped (n + sum_by f left) ≡ all → n ≡ all
all_added f n all left none below so_far = sym (capped_whole n below) ∙ ap (λ (xs : List _). capped (n + sum_by f xs)) (sym none) ∙ so_far

-- none of these pieces has a length
abbrev HaveNone : List Piece → Type 0
HaveNone ps = sum_by piece_length ps ≡ 0

none_in_two : (xs ys : List Piece) → HaveNone xs → HaveNone ys → HaveNone (xs ++ ys)
none_in_two xs ys first second = sum_by-append piece_length xs ys ∙ ap (λ n. n + sum_by piece_length ys) first ∙ ap (λ n. 0 + n) second

via_has_none : (shapes : List NamedShape) (via : ViaUse) (at : Point) (is_first : Bool) → HaveNone (shapes_there via at is_first shapes)
via_has_none [] via at is_first = refl
via_has_none (s ∷ shapes) via at is_first = sum_by-cons piece_length (shape_at via at is_first s) (shapes_there via at false shapes) ∙ ap (λ n. 0 + n) (via_has_none shapes via at false)

module _ (library : Library) (design : List Record) (u : ℕ) where
  clause_has_none : (c : SpecialClause) → HaveNone (clause_pieces library design u c)
  clause_has_none (special_rectangle layer corners) = refl
  clause_has_none (special_vias v) = walk (via_points v)
    where
      walk : (ps : List Coordinates) → HaveNone (flat_map (λ p. shapes_there (net_via v.via) (place_of p) true (via_shapes library design u v.via.name)) ps)
      walk [] = refl
      walk (p ∷ ps) =
          none_in_two (shapes_there (net_via v.via) (place_of p) true (via_shapes library design u v.via.name)) (flat_map (λ q. shapes_there (net_via v.via) (place_of q) true (via_shapes library design u v.via.name)) ps)
          (via_has_none (via_shapes library design u v.via.name) (net_via v.via) (place_of p) true) (walk ps)
  clause_has_none _ = refl

  -- the vias and rectangles of clauses have no length
  pub clauses_have_none : (cs : List SpecialClause) → sum_by piece_length (flat_map (clause_pieces library design u) cs) ≡ 0
  clauses_have_none [] = refl
  clauses_have_none (c ∷ cs) = none_in_two (clause_pieces library design u c) (flat_map (clause_pieces library design u) cs) (clause_has_none c) (clauses_have_none cs)

  -- so that wires have the whole length of an entry
  pub wires_have_all : (n : ℕ) (wires : List Piece) (cs : List SpecialClause) → n ≡ capped (sum_by piece_length wires) → n ≡ capped (sum_by piece_length (wires ++ flat_map (clause_pieces library design u) cs))
  wires_have_all n wires cs h =
      let rest = flat_map (clause_pieces library design u) cs in
      h ∙ ap capped (sym (sum_by-append piece_length wires rest ∙ ap (λ m. sum_by piece_length wires + m) (clauses_have_none cs) ∙ add-zero (sum_by piece_length wires)))

-- what an entry adds, and the entries behind it
entry_first : (o : Option Wired) (ws : List Wired) → sum_by wired_length (cons_option o ws) ≡ length_if o + sum_by wired_length ws
entry_first None ws = sym (zero-add (sum_by wired_length ws))
entry_first (Some w) ws = sum_by-cons wired_length w ws

pub entry_added : {X E : Type 0} (view : X → E) (wired : E → Option Wired) (xs : List X) (i : ℕ) (x : X) (so_far more now all : ℕ) → i < length xs → x ≡ get_or xs i x
    → more ≡ capped (length_if (wired (view x))) → now ≡ capped (so_far + more)
    → capped (so_far + sum_by wired_length (filter_map wired (map view (drop i xs)))) ≡ all
    → capped (now + sum_by wired_length (filter_map wired (map view (drop (i + 1) xs)))) ≡ all
entry_added view wired xs i x so_far more now all below is more_is now_is going =
    let here = length_if (wired (view x)) in
    let later = filter_map wired (map view (drop (i + 1) xs)) in
    ap (λ n. capped (n + sum_by wired_length later)) (now_is ∙ ap (λ m. capped (so_far + m)) more_is ∙ capped_inside so_far here)
    ∙ capped_more so_far here (sum_by wired_length later)
    ∙ ap (λ n. capped (so_far + n)) (sym (entry_first (wired (view x)) later))
    ∙ ap (λ ys. capped (so_far + sum_by wired_length (filter_map wired (map view ys)))) (sym (left_from xs i x below is))
    ∙ going
