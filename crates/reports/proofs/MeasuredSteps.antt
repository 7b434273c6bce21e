-- Nets that are measured one after the other.
use Rattle.std.proofs.Common.{◌≡◌, ◌+◌, ◌<◌, ◌≤◌, ℕ, suc, List, [], ◌∷◌, ◌++◌, drop, flat_map, length, map, sum, take, refl, sym, ap, ap₂, ◌∙◌, Option, Some, ℤ, arith, slice_get}
use Rattle.std.proofs.lemmas.Grind.{flat_map-append}
use Rattle.std.proofs.lemmas.List.{append-nil, drop_all, drop_more, length-append, length-map, length-take, map-append, take_all, take_more}
use Rattle.std.proofs.lemmas.List.Sums.{sum_by_push}
use Rattle.std.proofs.lemmas.Option.{slice_get_within, get_or_from_slice_get}
use Rattle.design_model.specs.Geometry.{Rectangle}
use Rattle.lef_grammar.specs.Measures.{Shape}
use Rattle.connection_rules.specs.NetLines.{shapes_of_net}
use Rattle.connection_rules.specs.NetParts.{Net}
use Rattle.drawn_parts.specs.DrawnLengths.{capped}
use Rattle.cell_sums.specs.Tables.{CellTable}
use Rattle.net_lists.specs.PartCuts.{shape_view}
use Rattle.net_lists.specs.declared.parts.NetShape.{NetShape}
use Rattle.net_lists.proofs.ShapeLemmas.{bare, of_parts, shapes_in}
use Rattle.name_groups.specs.Groups.{Group}
use Rattle.net_entries.specs.Places.{group_names}
use Rattle.measure_rules.specs.NetBoxes.{box_round, rectangles_of}
use Rattle.reports.specs.Densities.{HoldsDensities, HoldsMore}
use Rattle.reports.specs.MeasuredNets.{AreMeasured, MeasuredNet, measured, measured_at, name_of, shape_box}

abbrev box_of : Shape → Rectangle
box_of s = s.box

boxes_seen : (ss : List NetShape) → map box_of (map shape_view ss) ≡ map shape_box ss
boxes_seen [] = refl
boxes_seen (s ∷ ss) = ap (λ rs. shape_box s ∷ rs) (boxes_seen ss)

-- the shapes of a net are those of its parts
pub shapes_of_parts : (n : Net) → map bare (flat_map shapes_of_net (n ∷ [])) ≡ flat_map shapes_in n.parts
shapes_of_parts n = ap (map bare) (append-nil (shapes_of_net n)) ∙ of_parts n n.parts

-- so that nothing else of the net matters to them
pub same_shapes : (m n : Net) → m.parts ≡ n.parts → map bare (flat_map shapes_of_net (m ∷ [])) ≡ map bare (flat_map shapes_of_net (n ∷ []))
same_shapes m n same = shapes_of_parts m ∙ ap (flat_map shapes_in) same ∙ sym (shapes_of_parts n)

-- the rectangles of a net are those of its shapes
pub rectangles_are : (n : Net) (ss : List NetShape) → map shape_view ss ≡ map bare (flat_map shapes_of_net (n ∷ [])) → map shape_box ss ≡ rectangles_of n
rectangles_are n ss seen =
    sym (boxes_seen ss)
    ∙ ap (map box_of) (seen ∙ shapes_of_parts n)

-- a net of a length
abbrev net_measured : Net → ℕ → MeasuredNet
net_measured n l = record { name = n.name; net_length = l; net_box = box_round (rectangles_of n) }

measured_push : (ns : List Net) (ls : List ℕ) (n : Net) (l : ℕ) → length ns ≡ length ls → measured (ns ++ n ∷ []) (ls ++ l ∷ []) ≡ measured ns ls ++ net_measured n l ∷ []
measured_push [] [] n l same = refl
measured_push [] (k ∷ ls) n l same = absurd (omega (arith, same))
measured_push (m ∷ ns) [] n l same = absurd (omega (arith, same))
measured_push (m ∷ ns) (k ∷ ls) n l same = ap (λ ms. net_measured m k ∷ ms) (measured_push ns ls n l (omega (arith, same)))

pub capped_twice : (n x : ℕ) → capped (capped n + x) ≡ capped (n + x)
capped_twice n x = omega arith

measured_length : (ns : List Net) (ls : List ℕ) → length ns ≡ length ls → length (measured ns ls) ≡ length ns
measured_length [] ls same = refl
measured_length (n ∷ ns) [] same = absurd (omega (arith, same))
measured_length (n ∷ ns) (l ∷ ls) same = ap suc (measured_length ns ls (omega (arith, same)))

-- a net that is measured behind others
put_behind : (ms : List MeasuredNet) (u : MeasuredNet) (us : List MeasuredNet) (name : List ℕ) (l : ℕ) (b : Option Rectangle) → name_of u ≡ name
    → measured_at (length ms) l b (ms ++ u ∷ us) ≡ (ms ++ record { name = name; net_length = l; net_box = b } ∷ []) ++ us
put_behind [] u us name l b is = ap (λ (n : List ℕ). record { name = n; net_length = l; net_box = b } ∷ us) is
put_behind (m ∷ ms) u us name l b is = ap (λ (ns : List MeasuredNet). m ∷ ns) (put_behind ms u us name l b is)

first_left : (u : MeasuredNet) (us : List MeasuredNet) (name : List ℕ) (left : List (List ℕ)) → map name_of (u ∷ us) ≡ name ∷ left → name_of u ≡ name
first_left u us name left is = cc

others_left : (u : MeasuredNet) (us : List MeasuredNet) (name : List ℕ) (left : List (List ℕ)) → map name_of (u ∷ us) ≡ name ∷ left → map name_of us ≡ left
others_left u us name left is = cc

module _ (columns rows : List ℤ) where
  -- names of nets, none of them measured
  pub names_alone : (names : List (List ℕ)) (table : List MeasuredNet) (cells : CellTable) → map name_of table ≡ names → HoldsDensities columns rows [] cells → AreMeasured columns rows [] [] names table 0 cells
  names_alone names table cells are held = record { each = refl; unmeasured = table; by_name = refl; named = are; together = refl; densities = held }

  -- all nets
  none_left : (us : List MeasuredNet) → map name_of us ≡ [] → us ≡ []
  none_left [] is = refl
  none_left (u ∷ us) is = absurd (cc)

  pub all_by_name : (ns : List Net) (ls : List ℕ) (table : List MeasuredNet) (total : ℕ) (cells : CellTable) → AreMeasured columns rows ns ls [] table total cells → table ≡ measured ns ls
  all_by_name ns ls table total cells are =
      are.by_name ∙ ap (λ us. measured ns ls ++ us) (none_left are.unmeasured are.named) ∙ append-nil (measured ns ls)

  -- one net more
  module _ (ns : List Net) (ls : List ℕ) (n : Net) (l : ℕ) (left : List (List ℕ)) (ss : List NetShape) (seen : map shape_view ss ≡ map bare (flat_map shapes_of_net (n ∷ [])))
      (table table_after : List MeasuredNet) (total total_after : ℕ) (cells cells_after : CellTable)
      (put : table_after ≡ measured_at (length ns) l (box_round (map shape_box ss)) table)
      (added : total_after ≡ capped (total + l)) (held : HoldsMore (map shape_view ss) cells cells_after) (old : AreMeasured columns rows ns ls (n.name ∷ left) table total cells) where
    shapes_are : map bare (flat_map shapes_of_net ns) ++ map shape_view ss ≡ map bare (flat_map shapes_of_net (ns ++ n ∷ []))
    shapes_are =
        ap (λ xs. map bare (flat_map shapes_of_net ns) ++ xs) seen
        ∙ sym (map-append bare (flat_map shapes_of_net ns) (flat_map shapes_of_net (n ∷ [])))
        ∙ ap (map bare) (sym (flat_map-append shapes_of_net ns (n ∷ [])))

    table_is : (u : MeasuredNet) (us : List MeasuredNet) → table ≡ measured ns ls ++ u ∷ us → name_of u ≡ n.name → table_after ≡ measured (ns ++ n ∷ []) (ls ++ l ∷ []) ++ us
    table_is u us is named =
        put
        ∙ ap₂ (λ b t. measured_at (length ns) l (box_round b) t) (rectangles_are n ss seen) is
        ∙ ap (λ i. measured_at i l (box_round (rectangles_of n)) (measured ns ls ++ u ∷ us)) (sym (measured_length ns ls old.each))
        ∙ put_behind (measured ns ls) u us n.name l (box_round (rectangles_of n)) named
        ∙ ap (λ ms. ms ++ us) (sym (measured_push ns ls n l old.each))

    one_by : (us : List MeasuredNet) → table ≡ measured ns ls ++ us → map name_of us ≡ n.name ∷ left → AreMeasured columns rows (ns ++ n ∷ []) (ls ++ l ∷ []) left table_after total_after cells_after
    one_by [] is named = absurd (cc)
    one_by (u ∷ us) is named = record {
      each = let same = old.each in omega (arith, same, length-append ns (n ∷ []), length-append ls (l ∷ []));
      unmeasured = us;
      by_name = table_is u us is (first_left u us n.name left named);
      named = others_left u us n.name left named;
      together = added ∙ ap (λ k. capped (k + l)) old.together ∙ capped_twice (sum ls) l ∙ ap capped (sym (sum_by_push (λ k. k) ls l));
      densities = rw (← shapes_are) (held.holds columns rows (map bare (flat_map shapes_of_net ns)) old.densities);
    }

    one_measured : AreMeasured columns rows (ns ++ n ∷ []) (ls ++ l ∷ []) left table_after total_after cells_after
    one_measured = one_by old.unmeasured old.by_name old.named

  -- a net that is left has its place in the table
  place_by : (ns : List Net) (ls : List ℕ) (us table : List MeasuredNet) (name : List ℕ) (left : List (List ℕ)) → length ns ≡ length ls → table ≡ measured ns ls ++ us → map name_of us ≡ name ∷ left → length ns < length table
  place_by ns ls [] table name left same is named = absurd (cc)
  place_by ns ls (u ∷ us) table name left same is named =
      omega (arith, ap length is, length-append (measured ns ls) (u ∷ us), measured_length ns ls same)

  -- the nets of groups, of which so many were measured
  module _ {T : Type 0} (one : Group T → Net) (long : Group T → ℕ) (gs : List (Group T)) where
    abbrev pub SoMany : ℕ → List MeasuredNet → ℕ → CellTable → Type 0
    SoMany i table total cells = AreMeasured columns rows (map one (take i gs)) (map long (take i gs)) (group_names (drop i gs)) table total cells

    so_many : (i : ℕ) → i ≤ length gs → length (map one (take i gs)) ≡ i
    so_many i within = omega (arith, within, length-map (take i gs) one, length-take i gs)

    left_is : (i : ℕ) (g : Group T) → slice_get gs i ≡ Some g → group_names (drop i gs) ≡ g.name ∷ group_names (drop (i + 1) gs)
    left_is i g here =
        ap group_names (drop_more gs i g (slice_get_within gs i g here) ∙ ap (λ (x : Group T). x ∷ drop (i + 1) gs) (get_or_from_slice_get gs i g g here))

    pub has_place : (i : ℕ) (g : Group T) → slice_get gs i ≡ Some g → (table : List MeasuredNet) (total : ℕ) (cells : CellTable) → SoMany i table total cells → i < length table
    has_place i g here table total cells old =
        let within = slice_get_within gs i g here in
        let below = place_by (map one (take i gs)) (map long (take i gs)) old.unmeasured table g.name (group_names (drop (i + 1) gs)) old.each old.by_name (old.named ∙ left_is i g here) in
        omega (arith, below, so_many i (omega (arith, within)))

    pub next_measured : (i : ℕ) (g : Group T) → slice_get gs i ≡ Some g → (one g).name ≡ g.name
        → (ss : List NetShape) → map shape_view ss ≡ map bare (flat_map shapes_of_net (one g ∷ []))
        → (table table_after : List MeasuredNet) (total total_after : ℕ) (cells cells_after : CellTable)
        → table_after ≡ measured_at i (long g) (box_round (map shape_box ss)) table
        → total_after ≡ capped (total + long g) → HoldsMore (map shape_view ss) cells cells_after → SoMany i table total cells
        → SoMany (i + 1) table_after total_after cells_after
    next_measured i g here same ss seen table table_after total total_after cells cells_after put added held old =
        let within = slice_get_within gs i g here in
        let more : take (i + 1) gs ≡ take i gs ++ g ∷ [] = take_more gs i g within ∙ ap (λ x. take i gs ++ x ∷ []) (get_or_from_slice_get gs i g g here) in
        let nets : map one (take (i + 1) gs) ≡ map one (take i gs) ++ one g ∷ [] = ap (map one) more ∙ map-append one (take i gs) (g ∷ []) in
        let lengths : map long (take (i + 1) gs) ≡ map long (take i gs) ++ long g ∷ [] = ap (map long) more ∙ map-append long (take i gs) (g ∷ []) in
        let left = left_is i g here ∙ ap (λ (n : List ℕ). n ∷ group_names (drop (i + 1) gs)) (sym same) in
        let here_put = put ∙ ap (λ k. measured_at k (long g) (box_round (map shape_box ss)) table) (sym (so_many i (omega (arith, within)))) in
        rw (nets, lengths)
        (one_measured (map one (take i gs)) (map long (take i gs)) (one g) (long g) (group_names (drop (i + 1) gs)) ss seen table table_after total total_after cells cells_after here_put added held (rw (left) at old))

    pub all_measured : (i : ℕ) (table : List MeasuredNet) (total : ℕ) (cells : CellTable) → length gs ≤ i → SoMany i table total cells → AreMeasured columns rows (map one gs) (map long gs) [] table total cells
    all_measured i table total cells past held = rw (take_all i gs past, drop_all i gs past) at held

-- what is made of what is seen of each is made of each
pub map_twice : {G H Y : Type 0} (view : G → H) (make : H → Y) (gs : List G) → map make (map view gs) ≡ map (λ g. make (view g)) gs
map_twice view make [] = refl
map_twice view make (g ∷ gs) = ap (λ ys. make (view g) ∷ ys) (map_twice view make gs)
