-- Nets by their names, as a map holds them.
use Rattle.std.proofs.Common.{◌≡◌, ◌+◌, ℕ, zero, suc, Bool, true, false, not, cond, ◌||◌, List, [], ◌∷◌, ◌++◌, map, refl, sym, ap, ◌∙◌, Option, Some, if◌then◌else◌, arith}
use Rattle.std.specs.List.{list_any, position_or_len}
use Rattle.std.specs.Map.{keys_of, lookup}
use Rattle.std.specs.Option.{option_map}
use Rattle.std.specs.Str.{bytes_eq}
use Rattle.std.proofs.lemmas.Slice.Eq.{bytes_eq-Decides}
use Rattle.indexmap.specs.IndexMap.{insert_entry, set_value_at}
use Rattle.form_meanings.specs.Firsts.{find_named, has_name, with_first}
use Rattle.design_model.specs.Views.{rectangle_of}
use Rattle.net_entries.specs.Places.{place_in}
use Rattle.reports.specs.MeasuredNets.{MeasuredNet, entry_view, measured_at, measures_view, name_of}
use Rattle.reports.specs.declared.net_table.Measures.{Measures}

pub bytes_eq_sym : (a b : List ℕ) → bytes_eq a b ≡ bytes_eq b a
bytes_eq_sym a b = grind (arith, bytes_eq-Decides)

pub same_bytes : (a b : List ℕ) → bytes_eq a b ≡ true → a ≡ b
same_bytes a b t = grind (arith, bytes_eq-Decides)

abbrev Entry : Type 0
Entry = List ℕ × Measures

-- a key is the name
abbrev pub is_key : List ℕ → List ℕ → Bool
is_key name k = bytes_eq name k

found_step : (name : List ℕ) (b : Bool) (e : Entry) → (b ≡ true → e.0 ≡ name) → (r : Option Measures) (q : Option MeasuredNet) → option_map (measures_view name) r ≡ q
    → option_map (measures_view name) (cond b (Some e.1) r) ≡ (if b then Some (entry_view e) else q)
found_step name true e same r q i = ap (λ n. Some (measures_view n e.1)) (sym (same refl))
found_step name false e same r q i = i

-- what is looked up is the net of the name
pub found : (name : List ℕ) (es : List Entry) → option_map (measures_view name) (lookup (is_key name) es) ≡ find_named name_of (map entry_view es) name
found name [] = refl
found name (e ∷ es) =
    ap (λ b. option_map (measures_view name) (cond b (Some e.1) (lookup (is_key name) es))) (bytes_eq_sym name e.0)
    ∙ found_step name (bytes_eq e.0 name) e (same_bytes e.0 name) (lookup (is_key name) es) (find_named name_of (map entry_view es) name) (found name es)

-- a name that is put in
module _ (k : List ℕ) where
  abbrev names : List Entry → List (List ℕ)
  names es = map name_of (map entry_view es)

  -- its place among the keys is that among the names
  pub key_place : (es : List Entry) → position_or_len (λ (x : List ℕ). bytes_eq k x) (keys_of es) ≡ place_in (names es) k
  key_place [] = refl
  key_place (e ∷ es) =
      ap (λ (b : Bool). cond (not b) (1 + position_or_len (λ (x : List ℕ). bytes_eq k x) (keys_of es)) 0) (bytes_eq_sym k e.0)
      ∙ ap (λ n. cond (not (bytes_eq e.0 k)) (1 + n) 0) (key_place es)

  named_step : (m : Measures) (b a : Bool) (e : Entry) (es more : List Entry) → names more ≡ (if a then names es else names es ++ k ∷ [])
      → names (if b then (e.0, m) ∷ es else e ∷ more) ≡ (if b || a then e.0 ∷ names es else e.0 ∷ (names es ++ k ∷ []))
  named_step m true a e es more later = refl
  named_step m false true e es more later = ap (λ ns. e.0 ∷ ns) later
  named_step m false false e es more later = ap (λ ns. e.0 ∷ ns) later

  -- the names then
  pub names_put : (m : Measures) (es : List Entry) → names (insert_entry (λ (a b : List ℕ). bytes_eq a b) es k m) ≡ with_first (λ (n : List ℕ). n) (names es) k
  names_put m [] = refl
  names_put m (e ∷ es) =
      let known = list_any (has_name (λ (n : List ℕ). n) k) (names es) in
      named_step m (bytes_eq k e.0) known e es (insert_entry (λ (a b : List ℕ). bytes_eq a b) es k m) (names_put m es)
      ∙ ap (λ (b : Bool). if b || known then e.0 ∷ names es else e.0 ∷ (names es ++ k ∷ [])) (bytes_eq_sym k e.0)

-- measures that are written at a place
pub written_at : (es : List Entry) (i : ℕ) (m : Measures) → map entry_view (set_value_at es i m) ≡ measured_at i m.length (option_map rectangle_of m.bounds) (map entry_view es)
written_at [] i m = refl
written_at (e ∷ es) zero m = refl
written_at (e ∷ es) (suc i) m = ap (λ ns. entry_view e ∷ ns) (written_at es i m)

-- a net that has a name already is found in the place of the one that had it
module _ (k : List ℕ) (m : Measures) (n : List ℕ) where
  abbrev found_in : List Entry → Option MeasuredNet
  found_in es = find_named name_of (map entry_view es) n

  abbrev put_in : List Entry → List Entry
  put_in es = insert_entry (λ (a b : List ℕ). bytes_eq a b) es k m

  in_place : (p q : Bool) → p ≡ q → (x y z : Option MeasuredNet) → (if p then x else z) ≡ (if q then x else (if p then y else z))
  in_place true true e x y z = refl
  in_place false false e x y z = refl
  in_place true false e x y z = ap (λ (b : Bool). if b then x else y) e
  in_place false true e x y z = ap (λ (b : Bool). if b then x else z) e

  further_on : (p q : Bool) → (p ≡ true → q ≡ false) → (x y z w : Option MeasuredNet) → w ≡ (if q then x else z) → (if p then y else w) ≡ (if q then x else (if p then y else z))
  further_on true q apart x y z w e = ap (λ (b : Bool). if b then x else y) (sym (apart refl))
  further_on false q apart x y z w e = e

  set_step : (b : Bool) (e : Entry) (es : List Entry) → bytes_eq k e.0 ≡ b → found_in (put_in es) ≡ (if bytes_eq k n then Some (measures_view k m) else found_in es)
      → found_in (if b then ((e.0, m) ∷ es) else (e ∷ put_in es)) ≡ (if bytes_eq k n then Some (measures_view k m) else found_in (e ∷ es))
  set_step true e es is later =
      let same : k ≡ e.0 = same_bytes k e.0 is in
      ap (λ (l : List ℕ). if bytes_eq e.0 n then Some (measures_view l m) else found_in es) (sym same)
      ∙ in_place (bytes_eq e.0 n) (bytes_eq k n) (ap (λ (l : List ℕ). bytes_eq l n) (sym same)) (Some (measures_view k m)) (Some (entry_view e)) (found_in es)
  set_step false e es is later =
      further_on (bytes_eq e.0 n) (bytes_eq k n) (λ t. ap (bytes_eq k) (sym (same_bytes e.0 n t)) ∙ is) (Some (measures_view k m)) (Some (entry_view e)) (found_in es) (found_in (put_in es)) later

  put_found : (es : List Entry) → found_in (put_in es) ≡ (if bytes_eq k n then Some (measures_view k m) else found_in es)
  put_found [] = refl
  put_found (e ∷ es) = set_step (bytes_eq k e.0) e es refl (put_found es)

pub set_found : (name : List ℕ) (m : Measures) (k : List ℕ) (es new : List Entry) → k ≡ name → new ≡ insert_entry (λ (a b : List ℕ). bytes_eq a b) es k m
    → (n : List ℕ) → find_named name_of (map entry_view new) n ≡ (if bytes_eq name n then Some (measures_view name m) else find_named name_of (map entry_view es) n)
set_found name m k es new is put n =
    ap (λ xs. find_named name_of (map entry_view xs) n) put
    ∙ put_found k m n es
    ∙ ap (λ (l : List ℕ). if bytes_eq l n then Some (measures_view l m) else find_named name_of (map entry_view es) n) is
