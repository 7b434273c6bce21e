-- Pieces that are put in one after the other give the parts that they draw.
use Rattle.std.proofs.Common.{◌≡◌, Bool, true, false, List, [], ◌∷◌, ◌++◌, filter, map, refl, sym, ap, ◌∙◌, append_assoc, ℕ, Option, if◌then◌else◌}
use Rattle.std.proofs.lemmas.List.{append-nil}
use Rattle.lef_grammar.specs.Definitions.{Layer}
use Rattle.lef_grammar.specs.Measures.{Shape}
use Rattle.wire_rules.specs.Paths.{Piece, segment, diagonal, rectangle, via_shape, unknown_via, via_off_layer}
use Rattle.wire_rules.specs.ViaShapes.{NamedShape}
use Rattle.connection_rules.specs.NetParts.{Net, Part, drawn, drawn_part, goes_on, has_shapes, shapes_of, with_front}
use Rattle.connection_rules.specs.PinShapes.{checked_named}
use Rattle.checked_layers.specs.CheckedLayers.{checked_place, on_place_if}
use Rattle.checked_layers.proofs.LayerLemmas.{checked_one_by_one}
use Rattle.net_lists.specs.Building.{with_parts, with_shapes}
use Rattle.drawn_parts.specs.Drawing.{Drawing, ended, put_named, put_pieces, put_shapes}

pub shapes_append : (xs ys : List Shape) (d : Drawing) → put_shapes (xs ++ ys) d ≡ put_shapes ys (put_shapes xs d)
shapes_append [] ys d = refl
shapes_append (x ∷ xs) ys d = shapes_append xs ys _

pub with_parts_append : (xs ys : List Part) (nets : List Net) → with_parts (xs ++ ys) nets ≡ with_parts ys (with_parts xs nets)
with_parts_append [] ys nets = refl
with_parts_append (x ∷ xs) ys nets = with_parts_append xs ys _

-- shapes that come into a part that is begun, and into one that isn't
put_begun : (ss : List Shape) (nets : List Net) → put_shapes ss (record { is_begun = true; nets = nets }) ≡ record { is_begun = true; nets = with_shapes ss nets }
put_begun [] nets = refl
put_begun (s ∷ ss) nets = put_begun ss _

abbrev fresh : List Net → Drawing
fresh nets = record { is_begun = false; nets = nets }

-- a part, where it has shapes
abbrev part_if : List Shape → List Part
part_if ss = filter has_shapes (record { is_pin = false; shapes = ss } ∷ [])

put_fresh : (ss : List Shape) (nets : List Net) → (put_shapes ss (fresh nets)).nets ≡ with_parts (part_if ss) nets
put_fresh [] nets = refl
put_fresh (s ∷ ss) nets = ap (λ (d : Drawing). d.nets) (put_begun ss _)

goes_by_first : (p : Piece) (ps : List Piece) → goes_on (p ∷ ps) ≡ goes_on (p ∷ [])
goes_by_first (segment s n) ps = refl
goes_by_first diagonal ps = refl
goes_by_first (rectangle s) ps = refl
goes_by_first (via_shape name at true s) ps = refl
goes_by_first (via_shape name at false s) ps = refl
goes_by_first (unknown_via name) ps = refl
goes_by_first (via_off_layer name) ps = refl

module _ (layers : List Layer) where
  -- the layer of one shape, as a look-up finds it
  pub put_one : (s : NamedShape) (place : Option ℕ) (d : Drawing) → place ≡ checked_place layers s.layer → put_shapes (on_place_if s.box place) d ≡ put_named layers (s ∷ []) d
  put_one s place d h =
      ap (λ place. put_shapes (on_place_if s.box place) d) h
      ∙ ap (λ ss. put_shapes ss d) (sym (checked_one_by_one layers s [] ∙ append-nil _))

  checked_append : (xs ys : List NamedShape) → checked_named layers (xs ++ ys) ≡ checked_named layers xs ++ checked_named layers ys
  checked_append [] ys = refl
  checked_append (x ∷ xs) ys =
      let first = on_place_if x.box (checked_place layers x.layer) in
      checked_one_by_one layers x (xs ++ ys)
      ∙ ap (λ ss. first ++ ss) (checked_append xs ys)
      ∙ sym (append_assoc first (checked_named layers xs) (checked_named layers ys))
      ∙ ap (λ ss. ss ++ checked_named layers ys) (sym (checked_one_by_one layers x xs))

  named_append : (xs ys : List NamedShape) (d : Drawing) → put_named layers (xs ++ ys) d ≡ put_named layers ys (put_named layers xs d)
  named_append xs ys d = ap (λ ss. put_shapes ss d) (checked_append xs ys) ∙ shapes_append (checked_named layers xs) (checked_named layers ys) d

  pub pieces_append : (xs ys : List Piece) (d : Drawing) → put_pieces layers (xs ++ ys) d ≡ put_pieces layers ys (put_pieces layers xs d)
  pieces_append [] ys d = refl
  pieces_append (x ∷ xs) ys d = pieces_append xs ys _

  -- the parts of groups of shapes
  abbrev pub parts : List (List NamedShape) → List Part
  parts groups = filter has_shapes (map (drawn_part layers) groups)

  parts_first : (g : List NamedShape) (gs : List (List NamedShape)) → parts (g ∷ gs) ≡ part_if (checked_named layers g) ++ parts gs
  parts_first g gs = cases (checked_named layers g)
    where
      cases : (ss : List Shape) → filter has_shapes (record { is_pin = false; shapes = ss } ∷ map (drawn_part layers) gs) ≡ part_if ss ++ parts gs
      cases [] = refl
      cases (s ∷ ss) = refl

  pub parts_append : (xs ys : List (List NamedShape)) → parts (xs ++ ys) ≡ parts xs ++ parts ys
  parts_append [] ys = refl
  parts_append (x ∷ xs) ys =
      let first = part_if (checked_named layers x) in
      parts_first x (xs ++ ys) ∙ ap (λ ps. first ++ ps) (parts_append xs ys) ∙ sym (append_assoc first (parts xs) (parts ys)) ∙ ap (λ ps. ps ++ parts ys) (sym (parts_first x xs))

  -- shapes that were drawn, and the groups of the pieces behind them
  abbrev groups : List NamedShape → List Piece → List (List NamedShape)
  groups done ps = if goes_on ps then with_front done (drawn ps) else done ∷ drawn ps

  front_twice : (a b : List NamedShape) (gs : List (List NamedShape)) → with_front a (with_front b gs) ≡ with_front (a ++ b) gs
  front_twice a b [] = refl
  front_twice a b (g ∷ gs) = ap (λ x. x ∷ gs) (sym (append_assoc a b g))

  front_of_groups : (a b : List NamedShape) (ps : List Piece) → with_front a (groups b ps) ≡ groups (a ++ b) ps
  front_of_groups a b ps = cases (goes_on ps)
    where
      cases : (c : Bool) → with_front a (if c then with_front b (drawn ps) else b ∷ drawn ps) ≡ (if c then with_front (a ++ b) (drawn ps) else (a ++ b) ∷ drawn ps)
      cases true = front_twice a b (drawn ps)
      cases false = refl

  drawn_first : (p : Piece) (ps : List Piece) → drawn (p ∷ ps) ≡ groups (shapes_of p) ps
  unfolding drawn
  drawn_first p ps = refl

  drawn_none : drawn [] ≡ []
  unfolding drawn
  drawn_none = refl

  abbrev so_far : List NamedShape → List Net → Drawing
  so_far done nets = put_named layers done (fresh nets)

  abbrev Behind : List Piece → Type 0
  Behind ps = (done : List NamedShape) (nets : List Net) → (put_pieces layers ps (so_far done nets)).nets ≡ with_parts (parts (groups done ps)) nets

  abbrev groups_if : Bool → List NamedShape → List Piece → List (List NamedShape)
  groups_if c done ps = if c then with_front done (drawn ps) else done ∷ drawn ps

  -- a further shape of the via before it, and a piece that isn't one
  further : (p : Piece) (ps : List Piece) (done : List NamedShape) (nets : List Net) → Behind ps
      → (put_pieces layers ps (put_named layers (shapes_of p) (so_far done nets))).nets ≡ with_parts (parts (with_front done (drawn (p ∷ ps)))) nets
  further p ps done nets rest =
      ap (λ (d : Drawing). (put_pieces layers ps d).nets) (sym (named_append done (shapes_of p) (fresh nets)))
      ∙ rest (done ++ shapes_of p) nets
      ∙ ap (λ gs. with_parts (parts gs) nets) (sym (front_of_groups done (shapes_of p) ps) ∙ ap (with_front done) (sym (drawn_first p ps)))

  apart : (p : Piece) (ps : List Piece) (done : List NamedShape) (nets : List Net) → Behind ps
      → (put_pieces layers ps (put_named layers (shapes_of p) (ended (so_far done nets)))).nets ≡ with_parts (parts (done ∷ drawn (p ∷ ps))) nets
  apart p ps done nets rest =
      let before = part_if (checked_named layers done) in
      ap (λ ns. (put_pieces layers ps (so_far (shapes_of p) ns)).nets) (put_fresh (checked_named layers done) nets)
      ∙ rest (shapes_of p) (with_parts before nets)
      ∙ ap (λ gs. with_parts (parts gs) (with_parts before nets)) (sym (drawn_first p ps))
      ∙ sym (with_parts_append before (parts (drawn (p ∷ ps))) nets)
      ∙ ap (λ ps. with_parts ps nets) (sym (parts_first done (drawn (p ∷ ps))))

  either : (c : Bool) (p : Piece) (ps : List Piece) (done : List NamedShape) (nets : List Net) → Behind ps
      → (put_pieces layers ps (put_named layers (shapes_of p) (if c then so_far done nets else ended (so_far done nets)))).nets ≡ with_parts (parts (groups_if c done (p ∷ ps))) nets
  either true p ps done nets rest = further p ps done nets rest
  either false p ps done nets rest = apart p ps done nets rest

  pub drawn_behind : (ps : List Piece) → Behind ps
  drawn_behind [] done nets = put_fresh (checked_named layers done) nets ∙ ap (λ gs. with_parts (parts (done ∷ gs)) nets) (sym drawn_none)
  drawn_behind (p ∷ ps) done nets =
      either (goes_on (p ∷ [])) p ps done nets (drawn_behind ps) ∙ ap (λ c. with_parts (parts (groups_if c done (p ∷ ps))) nets) (sym (goes_by_first p ps))

  -- from a net on whose parts none is begun
  pub drawn_all : (ps : List Piece) (nets : List Net) → (put_pieces layers ps (fresh nets)).nets ≡ with_parts (parts (drawn ps)) nets
  drawn_all [] nets = ap (λ gs. with_parts (parts gs) nets) (sym drawn_none)
  drawn_all (p ∷ ps) nets =
      ap (λ (d : Drawing). (put_pieces layers ps (put_named layers (shapes_of p) d)).nets) (cases (goes_on (p ∷ [])))
      ∙ drawn_behind ps (shapes_of p) nets
      ∙ ap (λ gs. with_parts (parts gs) nets) (sym (drawn_first p ps))
    where
      cases : (c : Bool) → (if c then fresh nets else ended (fresh nets)) ≡ fresh nets
      cases true = refl
      cases false = refl
