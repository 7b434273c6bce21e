-- The lines on nets of a text follow an edit by those that it touches.
use Rattle.std.proofs.Common.{◌≡◌, ◌∙◌, ◌+◌, ◌≤◌, ℕ, Bool, true, false, not, ◌||◌, List, [], ◌∷◌, ◌++◌, append-nil, Option, Some, None, map, sum_by, refl, sym, ap, ap₂, arith, subst}
use Rattle.std.specs.Prelude.{IfNone, IfSome, filter, flat_map}
use Rattle.std.specs.Option.{option_map}
use Rattle.std.specs.List.{AllByRecursion, list_any}
use Rattle.std.specs.Str.{bytes_eq}
use Rattle.std.proofs.lemmas.List.Sums.{sum_by-append}
use Rattle.std.proofs.lemmas.Slice.Eq.{bytes_eq-Decides}
use Rattle.design_model.specs.Order.{sorted_by_bytes}
use Rattle.design_model.specs.declared.identifier.StmtId.{StmtId}
use Rattle.def_grammar.specs.Records.{Record}
use Rattle.def_grammar.specs.Terminals.{is_of_all}
use Rattle.lef_grammar.specs.Library.{Library}
use Rattle.lef_grammar.specs.Measures.{Shape}
use Rattle.design_rules.specs.Boxes.{scale}
use Rattle.connection_rules.specs.NetLines.{Barrier, NetShape, barriers, class_lines, layer_name, net_shapes, shapes_of_net, short_of}
use Rattle.connection_rules.specs.NetParts.{Net, Part, all_nets, net_named}
use Rattle.following_laws.specs.DesignLaws.{lines_on_nets}
use Rattle.kept_lines.specs.Kept.{Kept}
use Rattle.line_laws.specs.Lines.{SameThings, times}
use Rattle.line_laws.specs.PairLaws.{IsSymmetric}
use Rattle.line_laws.specs.SortingLaws.{SameLinesSortAlike}
use Rattle.named_shapes.specs.Named.{shapes_by_name}
use Rattle.net_laws.specs.NetChanges as net_changes
use Rattle.net_laws.specs.NetChanges.{ToldExchange, ToldNetsAreExchanged, is_one_of}
use Rattle.net_laws.specs.NetExchanges.{nets_where}
use Rattle.net_laws.specs.NetsTold.{AgreeOnNet, NetsAreTold, is_of_net, terminals_in, terminals_of}
use Rattle.net_laws.specs.OneNet.{TellNet}
use Rattle.net_laws.specs.PinLines.{ArePins, PinLinesFollow}
use Rattle.net_laws.specs.StarNets.{OneComponentExchanged, EntriesTell, PinsAreExchanged, pins_by_one, tells_of}
use Rattle.net_queries.specs.ShortLaws.{ShortIsSymmetric}
use Rattle.shape_index.specs.Near.{near_shapes}
use Rattle.followed_nets.specs.Blocked.{AllTell}
use Rattle.followed_nets.specs.Exchanging.{AreToldIn, name_of, nets_told}
use Rattle.followed_nets.specs.FollowedNets.{HasNets, Nets}
use Rattle.followed_nets.specs.Listed.{AreApart}
use Rattle.followed_nets.specs.Noted.{AreCommon, said}
use Rattle.followed_nets.specs.Pieces.{AreOnPieces, ArePieces, Piece, piece_of}
use Rattle.followed_nets.specs.StarExchanges.{AwaitsOwn, HaveComponent, nets_of}
use Rattle.followed_nets.specs.StarTests.{FewForStars}
use Rattle.followed_nets.specs.Stars.{AreStarNames, AreStars, IsStar, names_of}
use Rattle.followed_nets.specs.Tests.{near_each, near_own, near_pairs, near_told}
use Rattle.followed_nets.specs.Told.{IsToldIn, Told}
use Rattle.followed_nets.specs.Touched.{AreFollowed, ArePinsBy, ArePinsOf, AreTouched, StarPins, Touched, star_names}
use Rattle.followed_nets.specs.Within.{Fits, LeavesOthers}
use Rattle.followed_nets.proofs.NearPairs.{near_nets, near_pins}
use Rattle.followed_nets.proofs.OwnPairs.{own_is_few}
use Rattle.followed_nets.proofs.PartedNets.{Splits, as_pieces, both_pieces, in_parts, lines_as_nets, made_whole, shapes_as_nets, told_pieces}
use Rattle.followed_nets.proofs.PinPieces.{left_piece, net_splits, pins_piece, pins_told, same_left, they_are_pins}
use Rattle.followed_nets.proofs.ShortLines.{same_shorts}
use Rattle.followed_nets.proofs.StarPairs.{both_few, plainly_few, stars_few}

tells : (library : Library) (bars : List Barrier) (design : List Record) (ts : List Told) → AreToldIn library bars design ts → AllTell design (map name_of ts)
tells library bars design [] told = tt
tells library bars design (t ∷ ts) told = ((told.0.some, told.0.tell), tells library bars design ts told.1)

all_of_both : {A : Type 0} (P : A → Type 0) (xs ys : List A) → AllByRecursion P xs → AllByRecursion P ys → AllByRecursion P (xs ++ ys)
all_of_both P [] ys h g = g
all_of_both P (x ∷ xs) ys h g = (h.0, all_of_both P xs ys h.1 g)

pub apart_tell : (design : List Record) (names : List (List ℕ)) → AreApart names → AllTell design names → net_changes.AreToldIn design names
apart_tell design [] apart tell = tt
apart_tell design (n ∷ names) apart tell = (apart.0, tell.0, apart_tell design names apart.1 tell.1)

-- those that are kept with their parts are told by their entries
stars_tell : EntriesTell → (library : Library) (old design : List Record) → ((net : List ℕ) → filter (is_of_net net) old ≡ filter (is_of_net net) design)
    → (stars : List Net) → AllByRecursion (IsStar library old) stars → AllTell design (names_of stars)
stars_tell law library old design same [] kept = tt
stars_tell law library old design same (s ∷ stars) kept = (law design s.name kept.0.entry kept.0.others (sym (same s.name) ∙ kept.0.entries), stars_tell law library old design same stars kept.1)

-- and these nets are those of the names
nets_are : (library : Library) (design : List Record) (ts : List Told) → nets_told library design ts ≡ nets_of library design (map name_of ts)
nets_are library design [] = refl
nets_are library design (t ∷ ts) = ap (λ (ns : List Net). net_named library design (scale design) t.name ∷ ns) (nets_are library design ts)

turned : {A : Type 0} {xs ys : List A} → SameThings xs ys → SameThings ys xs
turned same = record { sums = λ w. sym (same.sums w) }

-- What goes and what comes are pieces: what is kept is on those that go and the rest, and on those that come and the rest it is on the nets
-- of the new design. Neither is compared with more shapes than are near these nets'.
pub record AreExchanged (library : Library) (old new : List Record) (names stars : List (List ℕ)) (shapes : List NetShape) (lines : List (List ℕ)) (gone come : List Told) : Type 0 where
  pub bars : List Barrier
  pub out : List Piece
  pub put : List Piece
  pub rest : List Piece
  pub goes : ArePieces (layer_name library.layers) bars out gone
  pub comes : ArePieces (layer_name library.layers) bars put come
  pub had : AreOnPieces (layer_name library.layers) bars (out ++ rest) shapes lines
  pub then_shapes : (now : List NetShape) (then : List (List ℕ)) → AreOnPieces (layer_name library.layers) bars (put ++ rest) now then → SameThings now (shapes_by_name (all_nets library new (scale new)))
  pub then_lines : (now : List NetShape) (then : List (List ℕ)) → AreOnPieces (layer_name library.layers) bars (put ++ rest) now then
      → then ≡ sorted_by_bytes (lines_on_nets (layer_name library.layers) (all_nets library new (scale new)) (barriers library old (scale old)))
  pub few : near_told gone shapes ≤ near_pairs library old (names ++ stars)
  pub then_few : (now : List NetShape) → SameThings now (shapes_by_name (all_nets library new (scale new))) → near_told come now ≤ near_pairs library new (names ++ stars)

near_append : (library : Library) (design : List Record) (names more : List (List ℕ)) → near_pairs library design (names ++ more) ≡ near_pairs library design names + near_pairs library design more
near_append library design names more =
    sum_by-append (λ (name : List ℕ). sum_by (λ (s : Shape). near_shapes s (map (λ (n : NetShape). n.shape) (net_shapes library design (scale design)))) (map (λ (n : NetShape). n.shape) (shapes_of_net (net_named library design (scale design) name)))) names more

near_as : (library : Library) (design : List Record) (names more : List (List ℕ)) → SameThings names more → near_pairs library design names ≡ near_pairs library design more
near_as library design names more same =
    same.sums (λ (name : List ℕ). sum_by (λ (s : Shape). near_shapes s (map (λ (n : NetShape). n.shape) (net_shapes library design (scale design)))) (map (λ (n : NetShape). n.shape) (shapes_of_net (net_named library design (scale design) name))))

module _ (library : Library) (records then_records : List (StmtId × Record)) (noted : Nets) (kept : Kept) (t : Touched) (after : List Told)
    (exchanged : ToldNetsAreExchanged) (entries : EntriesTell) (sorted : SameLinesSortAlike) (symmetric : ShortIsSymmetric)
    (touched : AreTouched library (said records) t) (followed : AreFollowed library records noted kept) (leaves : LeavesOthers (said records) (said then_records) t) (fits : Fits noted.stars noted.heads t)
    (then_told : AreToldIn library (barriers library (said records) (scale (said records))) (said then_records) after) (then_named : map name_of after ≡ t.names) where
  abbrev old : List Record
  old = said records

  abbrev new : List Record
  new = said then_records

  abbrev stars : List (List ℕ)
  stars = star_names t.stars

  abbrev pub stay : List Net
  stay = nets_where library old (scale old) (λ net. not (is_one_of (t.names ++ stars) net))

  -- where the edit is of no component
  no_stars : t.component ≡ None → t.stars ≡ []
  no_stars none = subst (λ (c : Option (List ℕ)). ArePinsOf library old c t.stars) none touched.pins

  are_kept : (ss : List Net) → noted.stars ≡ Some ss → AreStars library old ss
  are_kept ss is = subst (λ (s : Option (List Net)). IfSome s (AreStars library old)) is followed.nets.stars_are

  stars_are_told : (component : Option (List ℕ)) → t.component ≡ component → AllTell old stars × AllTell new stars
  stars_are_told None is = subst (λ (ss : List StarPins). AllTell old (star_names ss) × AllTell new (star_names ss)) (sym (no_stars is)) (tt, tt)
  stars_are_told (Some name) is =
      let own = fits.own name is in
      let are = are_kept own.0 own.1 in (
        subst (AllTell old) (sym own.2) (stars_tell entries library old old (λ net. refl) own.0 are.kept),
        subst (AllTell new) (sym own.2) (stars_tell entries library old new (λ net. (leaves.but name net is).entries) own.0 are.kept),
      )

  told : ToldExchange library old new (t.names ++ stars)
  told =
      let both = stars_are_told t.component refl in
      let TellIn = λ (design : List Record). λ (n : List ℕ). (some : List Record) × TellNet some design n in
      exchanged library old new (t.names ++ stars) leaves.apart
      (apart_tell old (t.names ++ stars) touched.apart (all_of_both (TellIn old) t.names stars (subst (AllTell old) touched.named (tells library (barriers library old (scale old)) old t.before touched.told)) both.0))
      (apart_tell new (t.names ++ stars) touched.apart (all_of_both (TellIn new) t.names stars (subst (AllTell new) then_named (tells library (barriers library old (scale old)) new after then_told)) both.1))

  abbrev name_of_layer : ℕ → List ℕ
  name_of_layer = layer_name library.layers

  abbrev symmetric_shorts : IsSymmetric (short_of name_of_layer)
  symmetric_shorts = same_shorts symmetric name_of_layer

  abbrev old_bars : List Barrier
  old_bars = barriers library old (scale old)

  had : AreOnPieces name_of_layer old_bars (map piece_of (all_nets library old (scale old))) noted.shapes kept.lines
  had = as_pieces name_of_layer old_bars (all_nets library old (scale old)) noted.shapes kept.lines followed.nets.shapes_are followed.lines

  -- what was compared to tell nets, before it and after it
  pub own_few : near_own t.before ≤ near_pairs library old (t.names ++ stars)
  own_few = own_is_few library old t.names stars stay told.exchange.old_is old_bars t.before touched.told touched.named

  pub then_own_few : near_own after ≤ near_pairs library new (t.names ++ stars)
  then_own_few = own_is_few library new t.names stars stay told.exchange.new_is old_bars after then_told then_named

  -- what is told goes and comes, with some parts of the nets that are kept with theirs
  module _ (gone_part come_part left_part : List ℕ → Piece) (gone_split : (n : List ℕ) → Splits (piece_of (net_named library old (scale old) n)) (gone_part n) (left_part n))
      (come_split : (n : List ℕ) → Splits (piece_of (net_named library new (scale new) n)) (come_part n) (left_part n)) (out put : List Told)
      (out_names : SameThings (map name_of out) stars) (put_names : SameThings (map name_of put) stars)
      (out_are : (bars : List Barrier) → ArePieces name_of_layer bars (map gone_part (map name_of out)) out) (put_are : (bars : List Barrier) → ArePieces name_of_layer bars (map come_part (map name_of put)) put)
      (out_near : near_told out noted.shapes ≤ near_pairs library old (map name_of out))
      (put_near : (shapes : List NetShape) → SameThings shapes (shapes_by_name (all_nets library new (scale new))) → near_told put shapes ≤ near_pairs library new (map name_of put)) where
    abbrev rest : List Piece
    rest = map left_part stars ++ map piece_of stay

    gone_in : AreOnPieces name_of_layer old_bars ((map piece_of (nets_of library old t.names) ++ map gone_part (map name_of out)) ++ rest) noted.shapes kept.lines
    gone_in = in_parts library old gone_part left_part gone_split t.names stars (map name_of out) out_names stay (all_nets library old (scale old)) told.exchange.old_is name_of_layer old_bars sorted symmetric_shorts noted.shapes kept.lines had

    gone_told : ArePieces name_of_layer old_bars (map piece_of (nets_of library old t.names) ++ map gone_part (map name_of out)) (t.before ++ out)
    gone_told =
        both_pieces name_of_layer old_bars (map piece_of (nets_of library old t.names)) (map gone_part (map name_of out)) t.before out
        (subst (λ (ns : List Net). ArePieces name_of_layer old_bars (map piece_of ns) t.before) (nets_are library old t.before ∙ ap (nets_of library old) touched.named) (told_pieces library old_bars old t.before touched.told))
        (out_are old_bars)

    come_told : ArePieces name_of_layer old_bars (map piece_of (nets_of library new t.names) ++ map come_part (map name_of put)) (after ++ put)
    come_told =
        both_pieces name_of_layer old_bars (map piece_of (nets_of library new t.names)) (map come_part (map name_of put)) after put
        (subst (λ (ns : List Net). ArePieces name_of_layer old_bars (map piece_of ns) after) (nets_are library new after ∙ ap (nets_of library new) then_named) (told_pieces library old_bars new after then_told))
        (put_are old_bars)

    come_whole : (shapes : List NetShape) (lines : List (List ℕ)) → AreOnPieces name_of_layer old_bars ((map piece_of (nets_of library new t.names) ++ map come_part (map name_of put)) ++ rest) shapes lines
        → AreOnPieces name_of_layer old_bars (map piece_of (all_nets library new (scale new))) shapes lines
    come_whole shapes lines are =
        made_whole library new come_part left_part come_split t.names stars (map name_of put) put_names stay (all_nets library new (scale new)) told.exchange.new_is name_of_layer old_bars sorted symmetric_shorts shapes lines
        are

    near_both : (design : List Record) (ts more : List Told) (shapes : List NetShape) → AreToldIn library old_bars design ts → map name_of ts ≡ t.names → SameThings (map name_of more) stars
        → SameThings shapes (shapes_by_name (all_nets library design (scale design))) → near_told more shapes ≤ near_pairs library design (map name_of more)
        → near_told (ts ++ more) shapes ≤ near_pairs library design (t.names ++ stars)
    near_both design ts more shapes are named names all few =
        let w = λ (u : Told). near_each u.shapes shapes in
        let own = near_nets library design shapes all old_bars ts are ∙ ap (near_pairs library design) named in
        let same = near_as library design (map name_of more) stars names in
        omega (arith, own, same, few, sum_by-append w ts more, near_append library design t.names stars)

    pub exchanged_parts : AreExchanged library old new t.names stars noted.shapes kept.lines (t.before ++ out) (after ++ put)
    exchanged_parts = record {
      bars = old_bars;
      out = map piece_of (nets_of library old t.names) ++ map gone_part (map name_of out);
      put = map piece_of (nets_of library new t.names) ++ map come_part (map name_of put);
      rest = rest;
      goes = gone_told;
      comes = come_told;
      had = gone_in;
      then_shapes = λ shapes lines are. shapes_as_nets name_of_layer old_bars (all_nets library new (scale new)) shapes lines (come_whole shapes lines are);
      then_lines = λ shapes lines are. lines_as_nets name_of_layer old_bars (all_nets library new (scale new)) shapes lines (come_whole shapes lines are);
      few = near_both old t.before out noted.shapes touched.told touched.named out_names followed.nets.shapes_are out_near;
      then_few = λ shapes all. near_both new after put shapes then_told then_named put_names all (put_near shapes all);
    }

  abbrev no_piece : Piece
  no_piece = record { shapes = []; lines = [] }

  all_of_it : (n : Net) → Splits (piece_of n) (piece_of n) no_piece
  all_of_it n = record {
    shapes = record { sums = λ w. ap (sum_by w) (sym (append-nil (shapes_of_net n))) };
    lines = record { often = λ q. ap (times q) (sym (append-nil (class_lines n))) };
  }

  -- a net of the same entries lists the same
  same_stars : (net : List ℕ) → filter (is_of_net net) old ≡ filter (is_of_net net) new → list_any is_of_all (terminals_in old net) ≡ true → list_any is_of_all (terminals_in new net) ≡ true
  same_stars net same there = ap (λ (rs : List Record). list_any is_of_all (flat_map terminals_of rs)) (sym same) ∙ there

  -- after an edit of a net, the nets that are kept with their parts stay
  module _ (law : NetsAreTold) (none : t.component ≡ None) where
    pub exchanged_nets : (gone come : List Told) → gone ≡ t.before → come ≡ after → AreExchanged library old new t.names stars noted.shapes kept.lines gone come
    exchanged_nets gone come gone_are come_are =
        let no_names : SameThings [] stars = subst (λ (ss : List StarPins). SameThings [] (star_names ss)) (sym (no_stars none)) (record { sums = λ w. refl }) in
        let e = exchanged_parts (λ n. piece_of (net_named library old (scale old) n)) (λ n. piece_of (net_named library new (scale new) n)) (λ n. no_piece) (λ n. all_of_it (net_named library old (scale old) n)) (λ n. all_of_it (net_named library new (scale new) n))
        [] [] no_names no_names (λ bars. tt) (λ bars. tt) (omega arith) (λ shapes all. omega arith) in
        subst (λ (ts : List Told). AreExchanged library old new t.names stars noted.shapes kept.lines ts come) (append-nil t.before ∙ sym gone_are)
        (subst (λ (ts : List Told). AreExchanged library old new t.names stars noted.shapes kept.lines (t.before ++ []) ts) (append-nil after ∙ sym come_are) e)

    still_star : (s : Net) → is_one_of t.names s.name ≡ false → IsStar library old s → IsStar library new s
    still_star s other star =
        let out : is_one_of (t.names ++ stars) s.name ≡ false = ap (λ (ss : List StarPins). is_one_of (t.names ++ star_names ss) s.name) (no_stars none) ∙ ap (λ (ns : List (List ℕ)). is_one_of ns s.name) (append-nil t.names) ∙ other in
        let agree : AgreeOnNet old new s.name = leaves.apart.agree s.name out in
        let same : net_named library old (scale old) s.name ≡ net_named library new (scale new) s.name =
        law library old new (scale old) s.name agree ∙ ap (λ (u : ℕ). net_named library new u s.name) told.scales in
        record {
          net = record {
            same_power = star.net.same_power ∙ ap (λ (n : Net). n.is_power) same;
            same_parts = subst (λ (n : Net). SameThings s.parts n.parts) same star.net.same_parts;
          };
          entry = star.entry;
          others = star.others;
          entries = sym agree.entries ∙ star.entries;
        }

    still_stars : (ss : List Net) → AllByRecursion (λ (s : Net). is_one_of t.names s.name ≡ false) ss → AllByRecursion (IsStar library old) ss → AllByRecursion (IsStar library new) ss
    still_stars [] others are = tt
    still_stars (s ∷ ss) others are = (still_star s others.0 are.0, still_stars ss others.1 are.1)

    -- a net that is kept isn't touched
    star_other : (ss : List Net) (net : List ℕ) → AllByRecursion (λ (s : Net). is_one_of t.names s.name ≡ false) ss → is_one_of (names_of ss) net ≡ true → is_one_of t.names net ≡ false
    star_other [] net others there = absurd (cc)
    star_other (s ∷ ss) net others there = either (bytes_eq s.name net) refl there (λ h. star_other ss net others.1 h)
      where
        either : (b : Bool) → bytes_eq s.name net ≡ b → (b || is_one_of (names_of ss) net) ≡ true → (is_one_of (names_of ss) net ≡ true → is_one_of t.names net ≡ false) → is_one_of t.names net ≡ false
        either true this h later = ap (is_one_of t.names) (sym ((bytes_eq-Decides s.name net).0 this)) ∙ others.0
        either false this h later = later h

    no_star : (net : List ℕ) → is_one_of t.names net ≡ false → is_one_of (t.names ++ stars) net ≡ false
    no_star net other = ap (λ (ss : List StarPins). is_one_of (t.names ++ star_names ss) net) (no_stars none) ∙ ap (λ (ns : List (List ℕ)). is_one_of ns net) (append-nil t.names) ∙ other

    pub still_kept : (found : Option (List Net)) → noted.stars ≡ found → IfSome found (AreStars library new)
    still_kept None is = tt
    still_kept (Some ss) is =
        let are = are_kept ss is in
        record {
          names = record {
            apart = are.names.apart;
            all = λ net out. leaves.no_stars net (are.names.all net out);
            own = λ net there. same_stars net (leaves.apart.agree net (no_star net (star_other ss net (fits.others none ss is) there))).entries (are.names.own net there);
          };
          kept = still_stars ss (fits.others none ss is) are.kept;
        }

  -- after an edit of a component, its pins are exchanged in them
  module _ (pins : PinLinesFollow) (exchange : OneComponentExchanged) (name : List ℕ) (is : t.component ≡ Some name) where
    abbrev pub kept_stars : List Net
    kept_stars = (fits.own name is).0

    abbrev stars_named : stars ≡ names_of kept_stars
    stars_named = (fits.own name is).2

    pub awaits_own : AwaitsOwn library old new name kept_stars t.stars
    awaits_own then_pins after_names after_pins = record {
      agree = λ net. leaves.but name net is;
      scales = told.scales;
      kept = (are_kept kept_stars (fits.own name is).1).kept;
      before_names = stars_named;
      after_names = after_names;
      before_pins = subst (λ (c : Option (List ℕ)). ArePinsOf library old c t.stars) is touched.pins;
      after_pins = after_pins;
    }

    same_net : (n : List ℕ) → PinsAreExchanged library old new (scale old) n name
    same_net n = exchange library old new (scale old) n name (leaves.but name n is)

    abbrev old_pins : List ℕ → List Part
    old_pins n = pins_by_one library old (scale old) n name

    abbrev new_pins : List ℕ → List Part
    new_pins n = pins_by_one library new (scale new) n name

    abbrev old_net : List ℕ → Net
    old_net n = net_named library old (scale old) n

    abbrev new_net : List ℕ → Net
    new_net n = net_named library new (scale new) n

    new_parted : (n : List ℕ) → SameThings (new_net n).parts (new_pins n ++ (same_net n).stay)
    new_parted n = subst (λ (u : ℕ). SameThings (net_named library new u n).parts (pins_by_one library new u n name ++ (same_net n).stay)) told.scales (same_net n).exchange.new_is

    new_split : (n : List ℕ) → Splits (piece_of (new_net n)) (pins_piece (new_net n) (new_pins n)) (left_piece (old_net n) (same_net n).stay)
    new_split n =
        subst (λ (p : Piece). Splits (piece_of (new_net n)) (pins_piece (new_net n) (new_pins n)) p)
        (same_left (new_net n) (old_net n) (same_net n).stay refl (sym ((same_net n).same_power ∙ ap (λ (u : ℕ). (net_named library new u n).is_power) told.scales)))
        (net_splits (new_net n) (new_pins n) (same_net n).stay (new_parted n))

    are_pins : (design : List Record) (n : List ℕ) → ArePins (pins_by_one library design (scale design) n name)
    are_pins design n = they_are_pins (net_named library (filter (tells_of n name) design) (scale design) n).parts

    module _ (gone come : List Told) (then_kept : Option (List Net)) (have : HaveComponent library old new name (names_of kept_stars) t.before after then_kept gone come) where
      out_named : SameThings (map name_of have.out) stars
      out_named = subst (SameThings (map name_of have.out)) (sym stars_named) have.own.gone_names

      put_named : SameThings (map name_of have.put) stars
      put_named = subst (SameThings (map name_of have.put)) (sym stars_named) have.own.come_names

      pub exchanged_stars : AreExchanged library old new t.names stars noted.shapes kept.lines gone come
      exchanged_stars =
          let e = exchanged_parts (λ n. pins_piece (old_net n) (old_pins n)) (λ n. pins_piece (new_net n) (new_pins n)) (λ n. left_piece (old_net n) (same_net n).stay)
          (λ n. net_splits (old_net n) (old_pins n) (same_net n).stay (same_net n).exchange.old_is) new_split have.out have.put out_named put_named
          (λ bars. pins_told pins name_of_layer symmetric_shorts bars library old name (are_pins old) have.out have.own.gone_are)
          (λ bars. pins_told pins name_of_layer symmetric_shorts bars library new name (are_pins new) have.put have.own.come_are)
          (near_pins library old noted.shapes followed.nets.shapes_are name (λ n. (same_net n).stay) (λ n. (same_net n).exchange.old_is) have.out have.own.gone_are)
          (λ shapes all. near_pins library new shapes all name (λ n. (same_net n).stay) new_parted have.put have.own.come_are) in
          subst (λ (ts : List Told). AreExchanged library old new t.names stars noted.shapes kept.lines ts come) (sym have.gone_are)
          (subst (λ (ts : List Told). AreExchanged library old new t.names stars noted.shapes kept.lines (t.before ++ have.out) ts) (sym have.come_are) e)

      pub then_stars : IfSome then_kept (AreStars library new)
      then_stars =
          let names = (are_kept kept_stars (fits.own name is).1).names in
          let same = have.own.same_names in
          let are : AreStars library new have.stars = record {
            names = record {
              apart = subst AreApart (sym same) names.apart;
              all = λ net out. leaves.no_stars net (names.all net (ap (λ (ns : List (List ℕ)). is_one_of ns net) (sym same) ∙ out));
              own = λ net there. same_stars net (leaves.but name net is).entries (names.own net (ap (λ (ns : List (List ℕ)). is_one_of ns net) (sym same) ∙ there));
            };
            kept = have.own.kept;
          } in
          subst (λ (s : Option (List Net)). IfSome s (AreStars library new)) (sym have.kept_are) are

  -- after either
  pub record AllExchanged (gone come : List Told) (then_kept : Option (List Net)) : Type 0 where
    pub parts : AreExchanged library old new t.names stars noted.shapes kept.lines gone come
    pub then_stars : IfSome then_kept (AreStars library new)

  pub all_exchanged : {C : Type 0} (component : Option C) (name : C → List ℕ) (own_pins : C → List StarPins) → t.component ≡ option_map name component → ((own : C) → component ≡ Some own → t.stars ≡ own_pins own)
      → NetsAreTold → PinLinesFollow → OneComponentExchanged → (gone come : List Told) (then_kept : Option (List Net))
      → IfNone component ((then_kept ≡ noted.stars) × (gone ≡ t.before) × (come ≡ after))
      → IfSome component (λ own. (d : List Record) (kept_nets : List Net) → noted.stars ≡ Some kept_nets → AwaitsOwn library d new (name own) kept_nets (own_pins own)
      → HaveComponent library d new (name own) (names_of kept_nets) t.before after then_kept gone come)
      → AllExchanged gone come then_kept
  all_exchanged None name own_pins is pins_are law lines_follow exchange gone come then_kept none some = record {
    parts = exchanged_nets law is gone come none.1 none.2;
    then_stars = subst (λ (s : Option (List Net)). IfSome s (AreStars library new)) (sym none.0) (still_kept law is noted.stars refl);
  }
  all_exchanged (Some own) name own_pins is pins_are law lines_follow exchange gone come then_kept none some =
      let kept_nets = kept_stars lines_follow exchange (name own) is in
      let awaits = subst (λ (ps : List StarPins). AwaitsOwn library old new (name own) kept_nets ps) (pins_are own refl) (awaits_own lines_follow exchange (name own) is) in
      let have = some old kept_nets (fits.own (name own) is).1 awaits in
      record { parts = exchanged_stars lines_follow exchange (name own) is gone come then_kept have; then_stars = then_stars lines_follow exchange (name own) is gone come then_kept have }

  -- so few pairs are compared to tell the nets, and those that are kept with their parts
  pub all_few : {C : Type 0} (component : Option C) (name : C → List ℕ) (own_pins : C → List StarPins) → t.component ≡ option_map name component → ((own : C) → component ≡ Some own → t.stars ≡ own_pins own)
      → PinLinesFollow → OneComponentExchanged → (gone come : List Told) (then_kept : Option (List Net)) (begun tests : ℕ)
      → IfNone component (tests ≡ begun)
      → IfSome component (λ own. (d : List Record) (kept_nets : List Net) → noted.stars ≡ Some kept_nets → AwaitsOwn library d new (name own) kept_nets (own_pins own)
      → HaveComponent library d new (name own) (names_of kept_nets) t.before after then_kept gone come)
      → IfSome component (λ own. (kept_nets : List Net) → noted.stars ≡ Some kept_nets → FewForStars kept_nets then_kept begun tests)
      → begun ≤ near_own t.before + near_own after
      → tests ≤ near_pairs library old (t.names ++ stars) + near_pairs library new (t.names ++ stars)
  all_few None name own_pins is pins_are lines_follow exchange gone come then_kept begun tests none some few start = plainly_few tests begun _ _ _ _ start none own_few then_own_few
  all_few (Some own) name own_pins is pins_are lines_follow exchange gone come then_kept begun tests none some few start =
      let kept_nets = kept_stars lines_follow exchange (name own) is in
      let there = (fits.own (name own) is).1 in
      let named = (fits.own (name own) is).2 in
      let awaits = subst (λ (ps : List StarPins). AwaitsOwn library old new (name own) kept_nets ps) (pins_are own refl) (awaits_own lines_follow exchange (name own) is) in
      let have = some old kept_nets there awaits in
      let compared = subst (λ (s : Option (List Net)). FewForStars kept_nets s begun tests) have.kept_are (few kept_nets there) in
      let before = both_few library old t.names stars stay told.exchange.old_is old_bars t.before kept_nets touched.told touched.named (are_kept kept_nets there).kept (sym named) in
      let then = both_few library new t.names stars stay told.exchange.new_is old_bars after have.stars then_told then_named have.own.kept (have.own.same_names ∙ sym named) in
      stars_few tests begun _ _ _ _ _ _ start compared before then

pub if_none_so : {C P Q : Type 0} (o : Option C) → (P → Q) → IfNone o P → IfNone o Q
if_none_so None f h = f h
if_none_so (Some x) f h = tt
