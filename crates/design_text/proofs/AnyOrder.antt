-- The statements of a text that is changed: those that stay, and those that go out or come in.
use Rattle.std.proofs.Common.{◌≡◌, ◌≢◌, ◌+◌, ℕ, Bool, false, ◌||◌, List, [], ◌∷◌, ◌++◌, Option, refl, sym, ap, ◌∙◌, arith}
use Rattle.std.specs.Prelude.{◌==◌, sum_by}
use Rattle.std.specs.List.{list_any}
use Rattle.std.proofs.lemmas.List.{map-append}
use Rattle.std.proofs.lemmas.List.Folds.{list_any-append}
use Rattle.std.proofs.lemmas.List.Sums.{sum_by-append}
use Rattle.design_model.specs.declared.identifier.StmtId.{StmtId}
use Rattle.def_grammar.specs.Records.{Record}
use Rattle.text_pieces.specs.Chunks.{AreOnce, IsAbsent}
use Rattle.text_pieces.specs.Changes.{Prepared}
use Rattle.text_pieces.specs.Content.{Content}
use Rattle.text_pieces.specs.KeptRecords.{AreParted, records_under}
use Rattle.text_pieces.specs.Lent.{numbered_records}
use Rattle.text_pieces.specs.Tables.{Kept}
use Rattle.design_tables.specs.AnyOrder.{AreSame, KeysInAnyOrder, TablesInAnyOrder}
use Rattle.design_tables.specs.Changes.{has_number}
use Rattle.design_tables.specs.Listings.{Listing}
use Rattle.design_tables.specs.Prepared.{AreKeyed, IsBetween, IsKept}

module _ (slots : List (Option Kept)) (front rest : List StmtId) where
  abbrev pub stays : List (StmtId × Record)
  stays = records_under slots front ++ records_under slots rest

  three : (ids : List StmtId) → records_under slots (front ++ (ids ++ rest)) ≡ records_under slots front ++ (records_under slots ids ++ records_under slots rest)
  three ids = map-append _ front (ids ++ rest) ∙ ap (λ l. records_under slots front ++ l) (map-append _ ids rest)

  sums : (ids : List StmtId) (w : StmtId × Record → ℕ) → sum_by w (records_under slots (front ++ (ids ++ rest))) ≡ sum_by w (records_under slots front) + (sum_by w (records_under slots ids) + sum_by w (records_under slots rest))
  sums ids w =
      ap (sum_by w) (three ids)
      ∙ sum_by-append w (records_under slots front) (records_under slots ids ++ records_under slots rest)
      ∙ ap (λ k. sum_by w (records_under slots front) + k) (sum_by-append w (records_under slots ids) (records_under slots rest))

  pub put_behind : (put : List StmtId) → AreSame (stays ++ records_under slots put) (records_under slots (front ++ (put ++ rest)))
  put_behind put w =
      let e1 = sum_by-append w stays (records_under slots put) in
      let e2 = sum_by-append w (records_under slots front) (records_under slots rest) in
      let e3 = sums put w in
      omega (arith, e1, e2, e3)

absent_front : (x : StmtId) (ys zs : List StmtId) → IsAbsent x (ys ++ zs) → IsAbsent x ys
absent_front x [] zs h = tt
absent_front x (y ∷ ys) zs h = (h.0, absent_front x ys zs h.1)

absent_back : (x : StmtId) (ys zs : List StmtId) → IsAbsent x (ys ++ zs) → IsAbsent x zs
absent_back x [] zs h = h
absent_back x (y ∷ ys) zs h = absent_back x ys zs h.1

once_back : (ys zs : List StmtId) → AreOnce (ys ++ zs) → AreOnce zs
once_back [] zs h = h
once_back (y ∷ ys) zs h = once_back ys zs h.1

absent_without : (x r : StmtId) (ys rs : List StmtId) → IsAbsent x (ys ++ r ∷ rs) → IsAbsent x (ys ++ rs)
absent_without x r [] rs h = h.1
absent_without x r (y ∷ ys) rs h = (h.0, absent_without x r ys rs h.1)

once_without : (r : StmtId) (ids rs : List StmtId) → AreOnce (ids ++ r ∷ rs) → AreOnce (ids ++ rs)
once_without r [] rs h = h.1
once_without r (o ∷ os) rs h = (absent_without o r os rs h.0, once_without r os rs h.1)

rest_apart : (r : StmtId) (ids rs : List StmtId) → AreOnce (ids ++ r ∷ rs) → IsAbsent r ids
rest_apart r [] rs h = tt
rest_apart r (o ∷ os) rs h = (λ e. (absent_back o os (r ∷ rs) h.0).0 (sym e), rest_apart r os rs h.1)

differ : (a b : ℕ) → (a ≢ b) → (a == b) ≡ false
differ a b h = grind arith

none_either : (a b : Bool) → a ≡ false → b ≡ false → (a || b) ≡ false
none_either a b h k = rw (h, k) refl

module _ (slots : List (Option Kept)) where
  not_there : (id : StmtId) (ids : List StmtId) → IsAbsent id ids → has_number (records_under slots ids) id ≡ false
  not_there id [] h = refl
  not_there id (x ∷ xs) h = none_either (id.0 == x.0) (has_number (records_under slots xs) id) (differ id.0 x.0 h.0) (not_there id xs h.1)

  module _ (ids : List StmtId) where
    abbrev goes : StmtId × Record → Bool
    goes x = has_number (records_under slots ids) x.0

    none_front : (front rest : List StmtId) → AreOnce (front ++ (ids ++ rest)) → list_any goes (records_under slots front) ≡ false
    none_front [] rest h = refl
    none_front (x ∷ xs) rest h =
        none_either _ _ (not_there x ids (absent_front x ids rest (absent_back x xs (ids ++ rest) h.0))) (none_front xs rest h.1)

    none_rest : (rest : List StmtId) → AreOnce (ids ++ rest) → list_any goes (records_under slots rest) ≡ false
    none_rest [] h = refl
    none_rest (r ∷ rs) h = none_either _ _ (not_there r ids (rest_apart r ids rs h)) (none_rest rs (once_without r ids rs h))

  pub stay_is_kept : (front out rest : List StmtId) → AreOnce (front ++ (out ++ rest)) → IsKept (records_under slots (front ++ (out ++ rest))) (records_under slots out) (stays slots front rest)
  stay_is_kept front out rest once = record {
    sums = λ w.
        let e1 = sums slots front rest out w in
        let e2 = sum_by-append w (records_under slots front) (records_under slots rest) in
        omega (arith, e1, e2);
    apart =
        list_any-append (goes out) (records_under slots front) (records_under slots rest)
        ∙ none_either _ _ (none_front out front rest once) (none_rest out rest (once_back front (out ++ rest) once));
  }

module _ (order : TablesInAnyOrder) (keys : KeysInAnyOrder) (slots : List (Option Kept)) (p : Prepared) (base other : Content) (parted : AreParted slots p base other)
    (outs puts : List (StmtId × Record)) (out_is : outs ≡ records_under slots p.out) (put_is : puts ≡ records_under slots p.put) where
  abbrev pub left : List (StmtId × Record)
  left = stays slots parted.front parted.rest

  pub left_is_kept : IsKept (numbered_records base) outs left
  left_is_kept = rw (parted.goes, out_is) (stay_is_kept slots parted.front p.out parted.rest parted.base_once)

  after : AreSame (left ++ puts) (numbered_records other)
  after = rw (put_is, parted.comes) (put_behind slots parted.front parted.rest p.put)

  pub leads_to_other : (names change : List (List ℕ × Listing)) → IsBetween names change (numbered_records base) (left ++ puts) → IsBetween names change (numbered_records base) (numbered_records other)
  leads_to_other names change b = record {
    base_is = b.base_is;
    other_is = order (left ++ puts) (numbered_records other) (change ++ names) after b.other_is;
    apart = b.apart;
    places = b.places;
  }

  pub keyed_other : AreKeyed (left ++ puts) → AreKeyed (numbered_records other)
  keyed_other = keys (left ++ puts) (numbered_records other) after

  pub keyed_left : AreKeyed (numbered_records other) → AreKeyed (left ++ puts)
  keyed_left = keys (numbered_records other) (left ++ puts) (λ w. sym (after w))
