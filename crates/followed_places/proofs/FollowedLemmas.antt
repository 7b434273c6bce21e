-- What is noted of a text whose statements are exchanged.
use Rattle.std.proofs.Common.{◌≡◌, ◌<◌, ◌≤◌, ◌+◌, ◌-◌, ◌^◌, ◌||◌, ℕ, min, Bool, true, false, List, [], ◌∷◌, ◌++◌, filter, flat_map, map, sum_by, Option, Some, None, Result, Ok, Err, refl, sym, subst, ap, ap₂, ◌∙◌, arith, if◌then◌else◌}
use Rattle.std.specs.Prelude.{IfOk, IfSome}
use Rattle.std.specs.List.{cons_option, filter_map, list_any}
use Rattle.std.specs.Option.{option_map}
use Rattle.std.proofs.lemmas.Grind.{flat_map-append}
use Rattle.std.proofs.lemmas.List.{map-append}
use Rattle.std.proofs.lemmas.List.Elements.{filter_map-append}
use Rattle.std.proofs.lemmas.List.Sums.{sum_by-append}
use Rattle.design_model.specs.declared.identifier.StmtId.{StmtId}
use Rattle.design_model.specs.Families.{cross_lines, pair_lines}
use Rattle.design_model.specs.Geometry.{Rectangle}
use Rattle.design_model.specs.Order.{sorted_by_bytes}
use Rattle.def_grammar.specs.Records.{Record}
use Rattle.lef_grammar.specs.Library.{Library}
use Rattle.design_rules.specs.Boxes.{Boxed, box_of, scale}
use Rattle.design_rules.specs.OverlapLines.{overlap_of}
use Rattle.design_rules.specs.PlaceLines.{blocked_of, lines_in}
use Rattle.design_rules.specs.Surroundings.{Surroundings, keep_outs, surroundings}
use Rattle.place_checks.specs.SameSurroundings.{HaveSameLines}
use Rattle.line_laws.specs.EachLaws.{CrossesAreUnordered}
use Rattle.line_laws.specs.Lines.{SameLines, SameThings}
use Rattle.line_laws.proofs.PairSums.{times-append}
use Rattle.following_laws.specs.DesignLaws.{lines_of_components}
use Rattle.following_laws.specs.FamilyLaws.{SameLinesFollow}
use Rattle.following_laws.specs.Following.{Exchange}
use Rattle.staying_laws.specs.PlaceStatements.{ComponentsAreExchanged, PlacesFollow, boxes_among, is_surrounding, surrounds_or_blocks}
use Rattle.staying_laws.specs.Staying.{lines_on_places}
use Rattle.text_pieces.specs.KeptRecords.{HavePieces, record_of, records_under}
use Rattle.text_pieces.specs.Tables.{Kept, kept_at}
use Rattle.kept_lines.specs.Kept.{Kept as KeptLines}
use Rattle.design_text.specs.Exchanges.{Exchanged, IsExchange}
use Rattle.design_text.proofs.KeptExchanges.{pieces-append}
use Rattle.statement_boxes.specs.Boxes.{met_count}
use Rattle.followed_places.specs.Lines.{Awaits, boxed_under}
use Rattle.followed_places.specs.Places.{AreFollowed, Places, component_under, components_under, keep_outs_under, place_under, said}
use Rattle.followed_places.specs.Tests.{met_among, met_pairs, met_sum, near_pairs, near_sum, obstacles_in, places_in}
use Rattle.followed_places.proofs.KeepOutLemmas.{outs_as_said, outs_said, rects_of}
use Rattle.followed_places.proofs.NearSums.{met_parted, met_sum_same, near_sum_part, near_sum_same, parts_and_others}

abbrev surrounds : StmtId × Record → Bool
surrounds x = is_surrounding x.1

-- the statements that a test finds, by their numbers or without
filter_said : (test : Record → Bool) (rs : List (StmtId × Record)) → said (filter (λ x. test x.1) rs) ≡ filter test (said rs)
filter_said test [] = refl
filter_said test (x ∷ rs) = one (test x.1) x (filter (λ y. test y.1) rs) (filter test (said rs)) (filter_said test rs)
  where
    one : (b : Bool) (y : StmtId × Record) (ys : List (StmtId × Record)) (zs : List Record) → said ys ≡ zs → said (if b then y ∷ ys else ys) ≡ (if b then y.1 ∷ zs else zs)
    one true y ys zs same = ap (λ (l : List Record). y.1 ∷ l) same
    one false y ys zs same = same

pub filter-append : {A : Type 0} (p : A → Bool) (xs ys : List A) → filter p (xs ++ ys) ≡ filter p xs ++ filter p ys
filter-append p [] ys = refl
filter-append {A = A} p (x ∷ xs) ys = one (p x) (filter p (xs ++ ys)) (filter p xs) (filter-append p xs ys)
  where
    one : (b : Bool) (all some : List A) → all ≡ some ++ filter p ys → (if b then x ∷ all else all) ≡ (if b then x ∷ some else some) ++ filter p ys
    one true all some same = ap (λ (l : List A). x ∷ l) same
    one false all some same = same

none_of : {A : Type 0} (p : A → Bool) (xs : List A) → list_any p xs ≡ false → filter p xs ≡ []
none_of p [] none = refl
none_of {A = A} p (x ∷ xs) none = one (p x) (filter p xs) (list_any p xs) none (none_of p xs)
  where
    one : (b : Bool) (others : List A) (any : Bool) → (b || any) ≡ false → (any ≡ false → others ≡ []) → (if b then x ∷ others else others) ≡ []
    one true others any h later = absurd (cc)
    one false others any h later = later h

module _ (slots : List (Option Kept)) where
  abbrev under : List StmtId → List (StmtId × Record)
  under ids = records_under slots ids

  -- the numbers of the statements that tell what stands round components and what keeps them out
  abbrev tells : StmtId × Record → Bool
  tells x = surrounds_or_blocks x.1

  abbrev around : List StmtId → List StmtId
  around ids = map (λ x. x.0) (filter tells (under ids))

  pub around_pieces : (ids : List StmtId) → HavePieces slots ids → HavePieces slots (around ids)
  around_pieces [] p = tt
  around_pieces (i ∷ ids) p = one (surrounds_or_blocks (record_of (kept_at slots i))) (filter tells (under ids)) (around_pieces ids p.1)
    where
      one : (b : Bool) (others : List (StmtId × Record)) → HavePieces slots (map (λ x. x.0) others)
          → HavePieces slots (map (λ x. x.0) (if b then (i, record_of (kept_at slots i)) ∷ others else others))
      one true others later = (p.0, later)
      one false others later = later

  pub around_said : (ids : List StmtId) → map (λ id. record_of (kept_at slots id)) (around ids) ≡ said (filter tells (under ids))
  around_said [] = refl
  around_said (i ∷ ids) = one (surrounds_or_blocks (record_of (kept_at slots i))) (filter tells (under ids)) (around_said ids)
    where
      one : (b : Bool) (others : List (StmtId × Record)) → map (λ id. record_of (kept_at slots id)) (map (λ x. x.0) others) ≡ said others
          → map (λ id. record_of (kept_at slots id)) (map (λ x. x.0) (if b then (i, record_of (kept_at slots i)) ∷ others else others)) ≡ said (if b then (i, record_of (kept_at slots i)) ∷ others else others)
      one true others later = ap (λ (l : List Record). record_of (kept_at slots i) ∷ l) later
      one false others later = later

  -- of all statements of a text
  module _ (records : List (StmtId × Record)) (ids : List StmtId) (is : records ≡ under ids) (pieces : HavePieces slots ids) where
    pub their_pieces : HavePieces slots (map (λ x. x.0) (filter tells records))
    their_pieces = rw is (around_pieces ids pieces)

    pub their_records : map (λ id. record_of (kept_at slots id)) (map (λ x. x.0) (filter tells records)) ≡ filter surrounds_or_blocks (said records)
    their_records = rw is (around_said ids ∙ filter_said surrounds_or_blocks (under ids))

-- what two clauses say of what was found
pub both_found : {A E : Type 0} (P R : A → Type 0) (Q : Type 0) (r : Result (Option A) E) → ((a : A) → P a → Q → R a) → IfOk r (λ found. IfSome found P) → IfOk r (λ found. IfSome found (λ a. Q)) → IfOk r (λ found. IfSome found R)
both_found P R Q (Ok (Some a)) f p q = f a p q
both_found P R Q (Ok None) f p q = tt
both_found P R Q (Err e) f p q = tt

pub three_found : {A E : Type 0} (P R : A → Type 0) (Q S : Type 0) (r : Result (Option A) E) → ((a : A) → P a → Q → S → R a) → IfOk r (λ found. IfSome found P) → IfOk r (λ found. IfSome found (λ a. Q)) → IfOk r (λ found. IfSome found (λ a. S)) → IfOk r (λ found. IfSome found R)
three_found P R Q S (Ok (Some a)) f p q s = f a p q s
three_found P R Q S (Ok None) f p q s = tt
three_found P R Q S (Err e) f p q s = tt

-- what one says
pub as_ok : {A E : Type 0} (P R : A → Type 0) (r : Result A E) → ((a : A) → P a → R a) → IfOk r P → IfOk r R
as_ok P R (Ok a) f p = f a p
as_ok P R (Err e) f p = tt

pub as_found : {A E : Type 0} (P R : A → Type 0) (r : Result (Option A) E) → ((a : A) → P a → R a) → IfOk r (λ found. IfSome found P) → IfOk r (λ found. IfSome found R)
as_found P R (Ok (Some a)) f p = f a p
as_found P R (Ok None) f p = tt
as_found P R (Err e) f p = tt

-- the components among statements
seconds : (library : Library) (u : ℕ) (rs : List (StmtId × Record)) → map (λ x. x.1) (components_under library u rs) ≡ filter_map (box_of library u) (said rs)
seconds library u [] = refl
seconds library u (x ∷ rs) = one (box_of library u x.1) (components_under library u rs) (filter_map (box_of library u) (said rs)) (seconds library u rs)
  where
    one : (b : Option Boxed) (cs : List (StmtId × Boxed)) (bs : List Boxed) → map (λ c. c.1) cs ≡ bs → map (λ c. c.1) (cons_option (option_map (λ d. (x.0, d)) b) cs) ≡ cons_option b bs
    one None cs bs same = same
    one (Some b) cs bs same = ap (λ (l : List Boxed). b ∷ l) same

lines_the_same : (s t : Surroundings) → HaveSameLines s t → (cs : List Boxed) → flat_map (lines_in s) cs ≡ flat_map (lines_in t) cs
lines_the_same s t same [] = refl
lines_the_same s t same (c ∷ cs) = ap₂ (λ (a b : List (List ℕ)). a ++ b) (rw (same.rows c, same.die, same.fences c) refl) (lines_the_same s t same cs)

-- which of the rectangles that keep components out is first makes no difference to the lines
same_but_outs : CrossesAreUnordered Boxed Rectangle → (s : Surroundings) (some rest : List Boxed) (outs others changed : List Rectangle) → SameThings outs others
    → SameLines (lines_of_components s some rest outs changed) (lines_of_components s some rest others changed)
same_but_outs crosses s some rest outs others changed same = record {
  often = λ q.
      let pairs = pair_lines overlap_of some ++ cross_lines overlap_of some rest in
      let each = flat_map (lines_in s) some in
      let more = cross_lines blocked_of rest changed in
      let h = (crosses blocked_of some some outs others (record { sums = λ w. refl }) same).often q in
      omega (
        arith,
        h,
        times-append q pairs (each ++ (cross_lines blocked_of some outs ++ more)),
        times-append q each (cross_lines blocked_of some outs ++ more),
        times-append q (cross_lines blocked_of some outs) more,
        times-append q pairs (each ++ (cross_lines blocked_of some others ++ more)),
        times-append q each (cross_lines blocked_of some others ++ more),
        times-append q (cross_lines blocked_of some others) more,
      );
}

-- what is left of rectangles of which some went and others came
exchanged_sums : (outs new old went came rest : ℕ) → old + came ≡ went + outs → old ≡ went + rest → new ≡ came + rest → outs ≡ new
exchanged_sums outs new old went came rest both was is = omega (arith, both, was, is)

-- statements are exchanged
module _ (library : Library) (slots : List (Option Kept)) (old new : List (StmtId × Record)) (x : Exchanged) (e : IsExchange slots old new x) where
  old_pieces : HavePieces slots (e.front ++ (x.went ++ e.rest))
  old_pieces = pieces-append slots e.front (x.went ++ e.rest) e.in_front (pieces-append slots x.went e.rest e.went e.behind)

  abbrev pub stay : List StmtId
  stay = e.front ++ e.rest

  stay_pieces : HavePieces slots stay
  stay_pieces = pieces-append slots e.front e.rest e.in_front e.behind

  abbrev these : List StmtId → List (StmtId × Record)
  these ids = records_under slots ids

  abbrev say : List StmtId → List Record
  say ids = said (these ids)

  abbrev with_these : List StmtId → List StmtId
  with_these some = e.front ++ (some ++ e.rest)

  parted : (some : List StmtId) → these (with_these some) ≡ these e.front ++ (these some ++ these e.rest)
  parted some = map-append (λ id. (id, record_of (kept_at slots id))) e.front (some ++ e.rest) ∙ ap (λ (l : List (StmtId × Record)). these e.front ++ l) (map-append (λ id. (id, record_of (kept_at slots id))) some e.rest)

  stay_parted : these stay ≡ these e.front ++ these e.rest
  stay_parted = map-append (λ id. (id, record_of (kept_at slots id))) e.front e.rest

  said_parted : (some : List StmtId) → say (with_these some) ≡ say e.front ++ (say some ++ say e.rest)
  said_parted some =
      ap said (parted some)
      ∙ map-append (λ x. x.1) (these e.front) (these some ++ these e.rest)
      ∙ ap (λ (l : List Record). say e.front ++ l) (map-append (λ x. x.1) (these some) (these e.rest))

  said_stay : say stay ≡ say e.front ++ say e.rest
  said_stay = ap said stay_parted ∙ map-append (λ x. x.1) (these e.front) (these e.rest)

  one_side : (all : List (StmtId × Record)) (some : List StmtId) → all ≡ these (with_these some) → SameThings (said all) (say some ++ say stay)
  one_side all some is = record {
    sums = λ w.
        let here = ap (λ rs. sum_by w (said rs)) is ∙ ap (sum_by w) (said_parted some) in
        let there = ap (sum_by w) said_stay in
        omega (
          arith,
          here,
          there,
          sum_by-append w (say some) (say stay),
          sum_by-append w (say e.front) (say some ++ say e.rest),
          sum_by-append w (say some) (say e.rest),
          sum_by-append w (say e.front) (say e.rest),
        );
  }

  exchange : Exchange (said old) (said new) (say x.went) (say x.came) (say stay)
  exchange = record { old_is = one_side old x.went e.old_is; new_is = one_side new x.came e.new_is }

  places-append : (u : ℕ) (xs ys : List (StmtId × Record)) → map place_under (components_under library u (xs ++ ys)) ≡ map place_under (components_under library u xs) ++ map place_under (components_under library u ys)
  places-append u xs ys = ap (map place_under) (filter_map-append (component_under library u) xs ys) ∙ map-append place_under (components_under library u xs) (components_under library u ys)

  -- what is made of numbered statements part by part
  made_parted : (p : List (StmtId × Record) → List (StmtId × Rectangle)) → ((xs ys : List (StmtId × Record)) → p (xs ++ ys) ≡ p xs ++ p ys) → (all : List (StmtId × Record)) (some : List StmtId) → all ≡ these (with_these some)
      → SameThings (p all) (p (these some) ++ p (these stay))
  made_parted p appends all some is = record {
    sums = λ w.
        let here = ap (λ xs. sum_by w (p xs)) (is ∙ parted some) in
        let there = ap (λ xs. sum_by w (p xs)) stay_parted in
        omega (
          arith,
          here,
          there,
          ap (sum_by w) (appends (these e.front) (these some ++ these e.rest)),
          ap (sum_by w) (appends (these some) (these e.rest)),
          ap (sum_by w) (appends (these e.front) (these e.rest)),
          sum_by-append w (p (these some)) (p (these stay)),
          sum_by-append w (p (these e.front)) (p (these some ++ these e.rest)),
          sum_by-append w (p (these some)) (p (these e.rest)),
          sum_by-append w (p (these e.front)) (p (these e.rest)),
        );
  }

  places_parted : (u : ℕ) (all : List (StmtId × Record)) (some : List StmtId) → all ≡ these (with_these some)
      → SameThings (map place_under (components_under library u all)) (map place_under (components_under library u (these some)) ++ map place_under (components_under library u (these stay)))
  places_parted u all some is = made_parted (λ xs. map place_under (components_under library u xs)) (places-append u) all some is

  outs_parted : (all : List (StmtId × Record)) (some : List StmtId) → all ≡ these (with_these some) → SameThings (keep_outs_under all) (keep_outs_under (these some) ++ keep_outs_under (these stay))
  outs_parted all some is = made_parted keep_outs_under (flat_map-append (λ (x : StmtId × Record). map (λ r. (x.0, r)) (keep_outs (x.1 ∷ [])))) all some is

  -- as many at most, by what is counted on the two sides
  no_more : (n a b c d a' b' c' d' : ℕ) → n ≤ (a + b) + (c + d) → a ≤ a' → b ≤ b' → c ≤ c' → d ≤ d' → n ≤ (a' + b') + (c' + d')
  no_more n a b c d a' b' c' d' few h i j k = omega (arith, few, h, i, j, k)

  -- as many at least, where nothing but what stays was compared
  some_of_stay : (n so to sn tn ao bo an bn po ro pn rn mo mn : ℕ) → min ((so + to) + (sn + tn)) (2 ^ 64 - 1) ≤ n → po ≡ ao + so → ro ≡ bo + to → pn ≡ an + sn → rn ≡ bn + tn → mo ≡ ao + bo → mn ≡ an + bn
      → min ((po + ro) + (pn + rn)) (2 ^ 64 - 1) ≤ n + (mo + mn)
  some_of_stay n so to sn tn ao bo an bn po ro pn rn mo mn some h i j k l m = omega (arith, some, h, i, j, k, l, m)

  -- and where rectangles alone go and come
  more_alone : (n a b c d : ℕ) → n ≤ b + d → n ≤ (a + b) + (c + d)
  more_alone n a b c d few = omega (arith, few)

  some_alone : (n a c b d b' d' : ℕ) → a ≡ 0 → c ≡ 0 → b' ≡ b → d' ≡ d → min (b' + d') (2 ^ 64 - 1) ≤ n → min ((a + b) + (c + d)) (2 ^ 64 - 1) ≤ n
  some_alone n a c b d b' d' h i j k some = omega (arith, h, i, j, k, some)

  module _ (places : Places) (kept : KeptLines) (f : AreFollowed library old places kept) where
    pub some_units : 0 < places.scale
    some_units = rw f.places.scale_is f.some

    pub few_units : places.scale ≤ 100000
    few_units = rw f.places.scale_is f.few

    -- unless one of those that went or came is of what stands round components
    module _ (exchanged : ComponentsAreExchanged) (went_loose : list_any (λ (r : StmtId × Record). is_surrounding r.1) (these x.went) ≡ false)
        (came_loose : list_any (λ (r : StmtId × Record). is_surrounding r.1) (these x.came) ≡ false) where
      filtered : (all : List (StmtId × Record)) (some : List StmtId) → all ≡ these (with_these some) → list_any surrounds (these some) ≡ false
          → filter surrounds all ≡ filter surrounds (these e.front) ++ filter surrounds (these e.rest)
      filtered all some is loose =
          ap (filter surrounds) (is ∙ parted some)
          ∙ filter-append surrounds (these e.front) (these some ++ these e.rest)
          ∙ ap (λ (l : List (StmtId × Record)). filter surrounds (these e.front) ++ l)
          (filter-append surrounds (these some) (these e.rest) ∙ ap (λ (l : List (StmtId × Record)). l ++ filter surrounds (these e.rest)) (none_of surrounds (these some) loose))

      same_around : filter is_surrounding (said old) ≡ filter is_surrounding (said new)
      same_around =
          sym (filter_said is_surrounding old) ∙ ap said (filtered old x.went e.old_is went_loose ∙ sym (filtered new x.came e.new_is came_loose)) ∙ filter_said is_surrounding new

      -- so what stands round components stays
      follow : PlacesFollow library (said old) (said new) (say x.went) (say x.came) (say stay)
      follow = exchanged library (said old) (said new) (say x.went) (say x.came) (say stay) exchange same_around

      abbrev u : ℕ
      u = places.scale

      -- the boxes of components, by what is noted
      boxes_old : SameThings places.boxes (map place_under (components_under library u old))
      boxes_old = record { sums = λ w. f.places.boxes_are.sums w ∙ ap (λ v. sum_by w (map place_under (components_under library v old))) (sym f.places.scale_is) }

      noted : (boxes outs : List (StmtId × Rectangle)) (lines : KeptLines) → lines.lines ≡ sorted_by_bytes (lines_on_places library (said new))
          → SameThings boxes (map place_under (components_under library u new)) → SameThings outs (keep_outs_under new)
          → AreFollowed library new (record { boxes = boxes; keep_outs = outs; surroundings = places.surroundings; scale = u }) lines
      noted boxes outs lines lines_are same outs_are = record {
        places = record {
          boxes_are = record { sums = λ w. same.sums w ∙ ap (λ v. sum_by w (map place_under (components_under library v new))) (f.places.scale_is ∙ follow.scale) };
          keep_outs_are = outs_are;
          surroundings_are = subst (HaveSameLines places.surroundings) follow.surroundings f.places.surroundings_are;
          scale_is = f.places.scale_is ∙ follow.scale;
        };
        lines = lines_are;
        some = rw (← follow.scale) f.some;
        few = rw (← follow.scale) f.few;
      }

      lines_are : (some : List StmtId) (outs changed : List Rectangle) → lines_of_components places.surroundings (map (λ x. x.1) (components_under library u (these some))) (boxed_under library u slots stay) outs changed
          ≡ lines_of_components (surroundings library (said old)) (boxes_among library (said old) (say some)) (boxes_among library (said old) (say stay)) outs changed
      lines_are some outs changed =
          rw (lines_the_same places.surroundings (surroundings library (said old)) f.places.surroundings_are (map (λ x. x.1) (components_under library u (these some))), seconds library u (these some), seconds library u (these stay), f.places.scale_is)
          refl

      lines_alike : CrossesAreUnordered Boxed Rectangle → (some : List StmtId) (all : List Rectangle) (outs changed : List (StmtId × Rectangle)) → SameThings all (rects_of outs) → changed ≡ keep_outs_under (these some)
          → SameLines (lines_of_components (surroundings library (said old)) (boxes_among library (said old) (say some)) (boxes_among library (said old) (say stay)) all (keep_outs (say some)))
          (lines_of_components places.surroundings (map (λ x. x.1) (components_under library u (these some))) (boxed_under library u slots stay) (rects_of outs) (rects_of changed))
      lines_alike crosses some all outs changed same is =
          rw (ap rects_of is ∙ outs_said (these some), lines_are some (rects_of outs) (keep_outs (say some)))
          (same_but_outs crosses (surroundings library (said old)) (boxes_among library (said old) (say some)) (boxes_among library (said old) (say stay)) all (rects_of outs) (keep_outs (say some)) same)

      -- by the components, and the rectangles that keep components out, of those that went and of those that came
      module _ (went came : List (StmtId × Boxed)) (gone come : List (StmtId × Rectangle)) (went_are : went ≡ components_under library u (these x.went)) (came_are : came ≡ components_under library u (these x.came))
          (gone_are : gone ≡ keep_outs_under (these x.went)) (come_are : come ≡ keep_outs_under (these x.came)) where
        -- those that keep components out then
        outs_then : (later : List (StmtId × Rectangle)) → SameThings (places.keep_outs ++ come) (gone ++ later) → SameThings later (keep_outs_under new)
        outs_then later same = record {
          sums = λ w.
              let rest = keep_outs_under (these stay) in
              let was = f.places.keep_outs_are.sums w in
              let before = (outs_parted old x.went e.old_is).sums w in
              let after = (outs_parted new x.came e.new_is).sums w in
              let left = ap (sum_by w) gone_are in
              let put = ap (sum_by w) come_are in
              let both = same.sums w in
              exchanged_sums
              (sum_by w later)
              (sum_by w (keep_outs_under new))
              (sum_by w places.keep_outs)
              (sum_by w gone)
              (sum_by w come)
              (sum_by w rest)
              (sym (sum_by-append w places.keep_outs come) ∙ both ∙ sum_by-append w gone later)
              (was ∙ before ∙ sum_by-append w (keep_outs_under (these x.went)) rest ∙ ap (λ n. n + sum_by w rest) (sym left))
              (after ∙ sum_by-append w (keep_outs_under (these x.came)) rest ∙ ap (λ n. n + sum_by w rest) (sym put));
        }

        all_awaited : SameLinesFollow → CrossesAreUnordered Boxed Rectangle
            → Awaits library u slots stay places.surroundings (components_under library u (these x.went)) (components_under library u (these x.came)) gone come places.boxes places.keep_outs kept.lines (lines_on_places library (said new))
        all_awaited alike crosses = record {
          pieces = stay_pieces;
          boxes_are = record { sums = λ w. boxes_old.sums w ∙ (places_parted u old x.went e.old_is).sums w };
          before = lines_on_places library (said old);
          kept_are = f.lines;
          follow = λ later same.
              alike
              _
              _
              _
              _
              (lines_on_places library (said old))
              (lines_on_places library (said new))
              _
              _
              (record { often = λ q. refl })
              (record { often = λ q. refl })
              (lines_alike crosses x.went (keep_outs (said old)) places.keep_outs gone (outs_as_said places.keep_outs old f.places.keep_outs_are) gone_are)
              (lines_alike crosses x.came (keep_outs (said new)) later come (outs_as_said later new (outs_then later same)) come_are)
              follow.lines;
        }

        pub awaits : SameLinesFollow → CrossesAreUnordered Boxed Rectangle → Awaits library u slots stay places.surroundings went came gone come places.boxes places.keep_outs kept.lines (lines_on_places library (said new))
        awaits alike crosses = rw (went_are, came_are) (all_awaited alike crosses)

        pub follows : (boxes later : List (StmtId × Rectangle)) (lines : KeptLines) → lines.lines ≡ sorted_by_bytes (lines_on_places library (said new)) → SameThings boxes (map place_under came ++ map place_under (components_under library u (these stay)))
            → SameThings (places.keep_outs ++ come) (gone ++ later) → AreFollowed library new (record { boxes = boxes; keep_outs = later; surroundings = places.surroundings; scale = u }) lines
        follows boxes later lines lines_are same same_outs =
            noted boxes later lines lines_are
            (record {
              sums = λ w.
                  same.sums w
                  ∙ ap (λ (cs : List (StmtId × Boxed)). sum_by w (map place_under cs ++ map place_under (components_under library u (these stay)))) came_are
                  ∙ sym ((places_parted u new x.came e.new_is).sums w);
            })
            (outs_then later same_outs)

        -- those that stay are part of those before and of those after
        obstacles_old : SameThings (map place_under (components_under library u old) ++ keep_outs_under old) (map place_under (components_under library u (these x.went)) ++ (map place_under (components_under library u (these stay)) ++ places.keep_outs))
        obstacles_old = parts_and_others _ _ _ (keep_outs_under old) places.keep_outs (places_parted u old x.went e.old_is) f.places.keep_outs_are

        obstacles_new : (later : List (StmtId × Rectangle)) → SameThings later (keep_outs_under new)
            → SameThings (map place_under (components_under library u new) ++ keep_outs_under new) (map place_under (components_under library u (these x.came)) ++ (map place_under (components_under library u (these stay)) ++ later))
        obstacles_new later are = parts_and_others _ _ _ (keep_outs_under new) later (places_parted u new x.came e.new_is) are

        few_near : (later : List (StmtId × Rectangle)) → SameThings later (keep_outs_under new) → (n : ℕ)
            → n ≤ (near_sum (map place_under (components_under library u (these stay)) ++ places.keep_outs) (map place_under went) + near_sum (map place_under (components_under library u (these stay))) gone) + (near_sum (map place_under (components_under library u (these stay)) ++ later) (map place_under came) + near_sum (map place_under (components_under library u (these stay))) come)
            → n ≤ near_pairs library old (these x.went) + near_pairs library new (these x.came)
        few_near later are n few =
            let boxes_of = λ (rs : List (StmtId × Record)). map place_under (components_under library u rs) in
            let rest = boxes_of (these stay) in
            let before = near_sum_part (boxes_of old ++ keep_outs_under old) (boxes_of (these x.went)) (rest ++ places.keep_outs) (map place_under went) obstacles_old in
            let before_outs = near_sum_part (boxes_of old) (boxes_of (these x.went)) rest gone (places_parted u old x.went e.old_is) in
            let after = near_sum_part (boxes_of new ++ keep_outs_under new) (boxes_of (these x.came)) (rest ++ later) (map place_under came) (obstacles_new later are) in
            let after_outs = near_sum_part (boxes_of new) (boxes_of (these x.came)) rest come (places_parted u new x.came e.new_is) in
            let old_pairs : near_sum (boxes_of old ++ keep_outs_under old) (map place_under went) ≡ near_sum (obstacles_in library old) (map place_under (components_under library (scale (said old)) (these x.went))) = rw (went_are, f.places.scale_is) refl in
            let old_outs : near_sum (boxes_of old) gone ≡ near_sum (places_in library old) (keep_outs_under (these x.went)) = rw (gone_are, f.places.scale_is) refl in
            let new_pairs : near_sum (boxes_of new ++ keep_outs_under new) (map place_under came) ≡ near_sum (obstacles_in library new) (map place_under (components_under library (scale (said new)) (these x.came))) = rw (came_are, f.places.scale_is, follow.scale) refl in
            let new_outs : near_sum (boxes_of new) come ≡ near_sum (places_in library new) (keep_outs_under (these x.came)) = rw (come_are, f.places.scale_is, follow.scale) refl in
            no_more n _ _ _ _ _ _ _ _ few
            (subst (λ m. near_sum (rest ++ places.keep_outs) (map place_under went) ≤ m) old_pairs before)
            (subst (λ m. near_sum rest gone ≤ m) old_outs before_outs)
            (subst (λ m. near_sum (rest ++ later) (map place_under came) ≤ m) new_pairs after)
            (subst (λ m. near_sum rest come ≤ m) new_outs after_outs)

        some_met : (later : List (StmtId × Rectangle)) → SameThings later (keep_outs_under new) → (n : ℕ)
            → min ((met_sum (map place_under (components_under library u (these stay)) ++ places.keep_outs) (map place_under went) + met_sum (map place_under (components_under library u (these stay))) gone) + (met_sum (map place_under (components_under library u (these stay)) ++ later) (map place_under came) + met_sum (map place_under (components_under library u (these stay))) come)) (2 ^ 64 - 1) ≤ n
            → min (met_pairs library old (these x.went) + met_pairs library new (these x.came)) (2 ^ 64 - 1) ≤ n + (met_among library old (these x.went) + met_among library new (these x.came))
        some_met later are n some =
            let boxes_of = λ (rs : List (StmtId × Record)). map place_under (components_under library u rs) in
            let rest = boxes_of (these stay) in
            let before = met_parted (boxes_of old ++ keep_outs_under old) (boxes_of (these x.went)) (rest ++ places.keep_outs) (map place_under went) obstacles_old in
            let before_outs = met_parted (boxes_of old) (boxes_of (these x.went)) rest gone (places_parted u old x.went e.old_is) in
            let after = met_parted (boxes_of new ++ keep_outs_under new) (boxes_of (these x.came)) (rest ++ later) (map place_under came) (obstacles_new later are) in
            let after_outs = met_parted (boxes_of new) (boxes_of (these x.came)) rest come (places_parted u new x.came e.new_is) in
            let old_pairs : met_sum (boxes_of old ++ keep_outs_under old) (map place_under went) ≡ met_sum (obstacles_in library old) (map place_under (components_under library (scale (said old)) (these x.went))) = rw (went_are, f.places.scale_is) refl in
            let old_outs : met_sum (boxes_of old) gone ≡ met_sum (places_in library old) (keep_outs_under (these x.went)) = rw (gone_are, f.places.scale_is) refl in
            let new_pairs : met_sum (boxes_of new ++ keep_outs_under new) (map place_under came) ≡ met_sum (obstacles_in library new) (map place_under (components_under library (scale (said new)) (these x.came))) = rw (came_are, f.places.scale_is, follow.scale) refl in
            let new_outs : met_sum (boxes_of new) come ≡ met_sum (places_in library new) (keep_outs_under (these x.came)) = rw (come_are, f.places.scale_is, follow.scale) refl in
            let old_own : met_sum (boxes_of (these x.went)) (map place_under went ++ gone) ≡ met_among library old (these x.went) = rw (went_are, gone_are, f.places.scale_is) refl in
            let new_own : met_sum (boxes_of (these x.came)) (map place_under came ++ come) ≡ met_among library new (these x.came) = rw (came_are, come_are, f.places.scale_is, follow.scale) refl in
            some_of_stay n _ _ _ _ _ _ _ _ _ _ _ _ _ _ some
            (sym old_pairs ∙ before)
            (sym old_outs ∙ before_outs)
            (sym new_pairs ∙ after)
            (sym new_outs ∙ after_outs)
            (sym old_own ∙ sum_by-append (λ (b : StmtId × Rectangle). met_count b.1 (boxes_of (these x.went))) (map place_under went) gone)
            (sym new_own ∙ sum_by-append (λ (b : StmtId × Rectangle). met_count b.1 (boxes_of (these x.came))) (map place_under came) come)

        pub few_tests : (later : List (StmtId × Rectangle)) → SameThings (places.keep_outs ++ come) (gone ++ later) → (n : ℕ)
            → n ≤ (near_sum (map place_under (components_under library u (these stay)) ++ places.keep_outs) (map place_under went) + near_sum (map place_under (components_under library u (these stay))) gone) + (near_sum (map place_under (components_under library u (these stay)) ++ later) (map place_under came) + near_sum (map place_under (components_under library u (these stay))) come)
            → n ≤ near_pairs library old (these x.went) + near_pairs library new (these x.came)
        few_tests later same n few = few_near later (outs_then later same) n few

        pub some_tests : (later : List (StmtId × Rectangle)) → SameThings (places.keep_outs ++ come) (gone ++ later) → (n : ℕ)
            → min ((met_sum (map place_under (components_under library u (these stay)) ++ places.keep_outs) (map place_under went) + met_sum (map place_under (components_under library u (these stay))) gone) + (met_sum (map place_under (components_under library u (these stay)) ++ later) (map place_under came) + met_sum (map place_under (components_under library u (these stay))) come)) (2 ^ 64 - 1) ≤ n
            → min (met_pairs library old (these x.went) + met_pairs library new (these x.came)) (2 ^ 64 - 1) ≤ n + (met_among library old (these x.went) + met_among library new (these x.came))
        some_tests later same n some = some_met later (outs_then later same) n some

        -- where no component goes or comes
        module _ (none_went : [] ≡ went) (none_came : [] ≡ came) where
          boxes_stay : SameThings places.boxes (map place_under (components_under library u (these stay)))
          boxes_stay = record {
            sums = λ w.
                boxes_old.sums w
                ∙ (places_parted u old x.went e.old_is).sums w
                ∙ ap (λ (cs : List (StmtId × Boxed)). sum_by w (map place_under cs ++ map place_under (components_under library u (these stay)))) (sym (none_went ∙ went_are));
          }

          pub follows_alone : (later : List (StmtId × Rectangle)) (lines : KeptLines) → lines.lines ≡ sorted_by_bytes (lines_on_places library (said new)) → SameThings (places.keep_outs ++ come) (gone ++ later)
              → AreFollowed library new (record { boxes = places.boxes; keep_outs = later; surroundings = places.surroundings; scale = u }) lines
          follows_alone later lines lines_are same =
              follows places.boxes later lines lines_are (subst (λ (cs : List (StmtId × Boxed)). SameThings places.boxes (map place_under cs ++ map place_under (components_under library u (these stay)))) none_came boxes_stay) same

          pub few_tests_alone : (n : ℕ) → n ≤ near_sum places.boxes gone + near_sum places.boxes come → n ≤ near_pairs library old (these x.went) + near_pairs library new (these x.came)
          few_tests_alone n few =
              few_near (keep_outs_under new) (record { sums = λ w. refl }) n
              (more_alone n _ _ _ _ (subst (λ m. n ≤ near_sum (map place_under (components_under library u (these stay))) gone + m) (near_sum_same places.boxes (map place_under (components_under library u (these stay))) come boxes_stay) (subst (λ m. n ≤ m + near_sum places.boxes come) (near_sum_same places.boxes (map place_under (components_under library u (these stay))) gone boxes_stay) few)))

          pub some_tests_alone : (n : ℕ) → min (met_sum places.boxes gone + met_sum places.boxes come) (2 ^ 64 - 1) ≤ n
              → min (met_pairs library old (these x.went) + met_pairs library new (these x.came)) (2 ^ 64 - 1) ≤ n + (met_among library old (these x.went) + met_among library new (these x.came))
          some_tests_alone n some =
              some_met (keep_outs_under new) (record { sums = λ w. refl }) n
              (some_alone n _ _ _ _ _ _
              (ap (λ (cs : List (StmtId × Boxed)). met_sum (map place_under (components_under library u (these stay)) ++ places.keep_outs) (map place_under cs)) (sym none_went))
              (ap (λ (cs : List (StmtId × Boxed)). met_sum (map place_under (components_under library u (these stay)) ++ keep_outs_under new) (map place_under cs)) (sym none_came))
              (met_sum_same places.boxes (map place_under (components_under library u (these stay))) gone boxes_stay)
              (met_sum_same places.boxes (map place_under (components_under library u (these stay))) come boxes_stay)
              some)
