-- Definitions by name, as a map holds them.
use Rattle.std.proofs.Common.{◌≡◌, ℕ, ◌+◌, suc, Bool, true, false, cond, ◌||◌, List, [], ◌∷◌, ◌++◌, map, refl, sym, ap, ◌∙◌, Bor, Option, Some, None, is_some, option_copied, slice_get, position, add-one, if◌then◌else◌, arith}
use Rattle.std.specs.List.{list_any, position_from}
use Rattle.std.specs.Option.{option_map}
use Rattle.std.specs.Map.{lookup, keys_of}
use Rattle.std.specs.Str.{bytes_eq}
use Rattle.std.proofs.lemmas.List.{map-append}
use Rattle.std.proofs.lemmas.Option.{slice_get-map}
use Rattle.std.proofs.lemmas.Iterator.Adapters.{position_from-zero}
use Rattle.std.proofs.lemmas.Slice.Eq.{bytes_eq-Decides}
use Rattle.indexmap.specs.IndexMap.{insert_entry}
use Rattle.form_meanings.specs.Firsts.{find_named, has_name, with_first}
use Rattle.name_keys.specs.declared.name.Name.{Name}
use Rattle.cell_library.specs.Naming.{entries_view, entry_seen, name_of, named, place_of, seen_by}
use Rattle.lefdef_tokens.specs.Views.{word_view}

bytes_eq_sym : (a b : List ℕ) → bytes_eq a b ≡ bytes_eq b a
bytes_eq_sym a b = grind (arith, bytes_eq-Decides)

-- a key is the name
abbrev pub is_key : List ℕ → Name → Bool
is_key name k = bytes_eq name k.bytes.now

module _ (D : Type 0) where
  abbrev Entry : Type 0
  Entry = Name × D

  abbrev seen : Entry → List ℕ × D
  seen e = (e.0.bytes.now, e.1)

  value_of : List ℕ × D → D
  value_of e = e.1

  found_step : (b : Bool) (e : Entry) (r : Option D) (q : Option (List ℕ × D)) → r ≡ option_map (λ (x : List ℕ × D). x.1) q → cond b (Some e.1) r ≡ option_map (λ (x : List ℕ × D). x.1) (if b then Some (seen e) else q)
  found_step true e r q i = refl
  found_step false e r q i = i

  pub found : (name : List ℕ) (es : List Entry) → lookup (is_key name) es ≡ named (entries_view es) name
  found name [] = refl
  found name (e ∷ es) =
      found_step (bytes_eq name e.0.bytes.now) e (lookup (is_key name) es) (find_named name_of (entries_view es) name) (found name es)
      ∙ ap (λ (b : Bool). option_map (λ (x : List ℕ × D). x.1) (if b then Some (seen e) else find_named name_of (entries_view es) name)) (bytes_eq_sym name e.0.bytes.now)

  taken_step : (b : Bool) (v : D) (r : Option D) (q : Bool) → is_some r ≡ q → is_some (cond b (Some v) r) ≡ (b || q)
  taken_step true v r q h = refl
  taken_step false v r q h = h

  taken : (name : List ℕ) (es : List Entry) → is_some (lookup (is_key name) es) ≡ list_any (has_name name_of name) (entries_view es)
  taken name [] = refl
  taken name (e ∷ es) =
      taken_step (bytes_eq name e.0.bytes.now) e.1 (lookup (is_key name) es) (list_any (has_name name_of name) (entries_view es)) (taken name es)
      ∙ ap (λ (b : Bool). b || list_any (has_name name_of name) (entries_view es)) (bytes_eq_sym name e.0.bytes.now)

  module _ (k : Name) (v : D) where
    put_step : (b : Bool) (e : Entry) (es more : List Entry) (r : Option D) → is_some (cond b (Some e.1) r) ≡ false → (is_some r ≡ false → more ≡ es ++ (k, v) ∷ []) → (if b then ((e.0, v) ∷ es) else (e ∷ more)) ≡ e ∷ (es ++ (k, v) ∷ [])
    put_step true e es more r h i = cc
    put_step false e es more r h i = ap (λ z. e ∷ z) (i h)

    put_last : (es : List Entry) → is_some (lookup (is_key k.bytes.now) es) ≡ false → insert_entry (λ (a b : Name). bytes_eq a.bytes.now b.bytes.now) es k v ≡ es ++ (k, v) ∷ []
    put_last [] h = refl
    put_last (e ∷ es) h = put_step (bytes_eq k.bytes.now e.0.bytes.now) e es (insert_entry (λ (a b : Name). bytes_eq a.bytes.now b.bytes.now) es k v) (lookup (is_key k.bytes.now) es) h (put_last es)

    pub added_new : (es new : List Entry) → is_some (lookup (is_key k.bytes.now) es) ≡ false → new ≡ insert_entry (λ (a b : Name). bytes_eq a.bytes.now b.bytes.now) es k v
        → entries_view new ≡ with_first name_of (entries_view es) (k.bytes.now, v)
    added_new es new h e =
        let fresh : list_any (has_name name_of k.bytes.now) (entries_view es) ≡ false = sym (taken k.bytes.now es) ∙ h in
        rw (e, put_last es h, map-append seen es ((k, v) ∷ []), fresh) refl

    pub added_old : (es : List Entry) → is_some (lookup (is_key k.bytes.now) es) ≡ true → entries_view es ≡ with_first name_of (entries_view es) (k.bytes.now, v)
    added_old es h = let old : list_any (has_name name_of k.bytes.now) (entries_view es) ≡ true = sym (taken k.bytes.now es) ∙ h in rw old refl

  place_step : (b : Bool) (r q : Option ℕ) → r ≡ option_map suc q → cond b (Some 0) r ≡ (if b then Some 0 else option_map suc q)
  place_step true r q i = refl
  place_step false r q i = i

  shift_step : (b : Bool) (i : ℕ) (r q : Option ℕ) → r ≡ option_map suc q → cond b (Some (i + 1)) r ≡ option_map suc (cond b (Some i) q)
  shift_step true i r q h = rw (add-one) refl
  shift_step false i r q h = h

  shifted : (t : Name → Bool) (i : ℕ) (es : List Entry) → position_from t (i + 1) (keys_of es) ≡ option_map suc (position_from t i (keys_of es))
  shifted t i [] = refl
  shifted t i (e ∷ es) = shift_step (t e.0) i (position_from t (i + 1 + 1) (keys_of es)) (position_from t (i + 1) (keys_of es)) (shifted t (i + 1) es)

  from_start : (name : List ℕ) (es : List Entry) → position_from (is_key name) 0 (keys_of es) ≡ place_of (entries_view es) name
  from_start name [] = refl
  from_start name (e ∷ es) =
      place_step (bytes_eq name e.0.bytes.now) (position_from (is_key name) 1 (keys_of es)) (place_of (entries_view es) name)
      (shifted (is_key name) 0 es ∙ ap (option_map suc) (from_start name es))
      ∙ ap (λ (b : Bool). if b then Some 0 else option_map suc (place_of (entries_view es) name)) (bytes_eq_sym name e.0.bytes.now)

  pub placed : (name : List ℕ) (es : List Entry) → position (is_key name) (keys_of es) ≡ place_of (entries_view es) name
  placed name es = position_from-zero (is_key name) (keys_of es) ∙ from_start name es

-- what a map holds, as definitions of a library with their names
module _ (D C : Type 0) (view : List ℕ × D → C) (name_in : C → List ℕ) (named_so : (e : List ℕ × D) → name_in (view e) ≡ e.0) where
  any_seen : (name : List ℕ) (es : List (List ℕ × D)) → list_any (has_name name_in name) (map view es) ≡ list_any (has_name name_of name) es
  any_seen name [] = refl
  any_seen name (e ∷ es) = rw (named_so e, any_seen name es) refl

  first_step : (b : Bool) (es : List (List ℕ × D)) (e : List ℕ × D) → map view (if b then es else es ++ e ∷ []) ≡ (if b then map view es else map view es ++ view e ∷ [])
  first_step true es e = refl
  first_step false es e = map-append view es (e ∷ [])

  pub first_seen : (es : List (List ℕ × D)) (e : List ℕ × D) → map view (with_first name_of es e) ≡ with_first name_in (map view es) (view e)
  first_seen es e =
      first_step (list_any (has_name name_of e.0) es) es e
      ∙ ap (λ (b : Bool). if b then map view es else map view es ++ view e ∷ []) (sym (any_seen e.0 es) ∙ ap (λ (n : List ℕ). list_any (has_name name_in n) (map view es)) (sym (named_so e)))

  find_step : (b : Bool) (e : List ℕ × D) (name : List ℕ) (r : Option C) (q : Option (List ℕ × D)) → (b ≡ true → e.0 ≡ name) → r ≡ option_map (λ (x : List ℕ × D). view (name, x.1)) q
      → (if b then Some (view e) else r) ≡ option_map (λ (x : List ℕ × D). view (name, x.1)) (if b then Some e else q)
  find_step true e name r q same i = ap (λ (n : List ℕ). Some (view (n, e.1))) (same refl)
  find_step false e name r q same i = i

  same_bytes : (a b : List ℕ) → bytes_eq a b ≡ true → a ≡ b
  same_bytes a b t = grind (arith, bytes_eq-Decides)

  found_seen : (name : List ℕ) (es : List (List ℕ × D)) → find_named name_in (map view es) name ≡ option_map (λ (x : List ℕ × D). view (name, x.1)) (find_named name_of es name)
  found_seen name [] = refl
  found_seen name (e ∷ es) = rw (named_so e)
      (find_step (bytes_eq e.0 name) e name (find_named name_in (map view es) name) (find_named name_of es name) (same_bytes e.0 name) (found_seen name es))

  copied_seen : (name : List ℕ) (r : Option (Bor D)) (q : Option (List ℕ × D)) → option_copied r ≡ option_map (λ (x : List ℕ × D). x.1) q → option_map (seen_by view name) r ≡ option_map (λ (x : List ℕ × D). view (name, x.1)) q
  copied_seen name None None h = refl
  copied_seen name None (Some x) h = cc
  copied_seen name (Some d) None h = cc
  copied_seen name (Some d) (Some x) h = ap (λ (o : Option D). option_map (λ (y : D). view (name, y)) o) h

  -- what a map lends is the definition of the name
  pub lent_seen : (name : List ℕ) (r : Option (Bor D)) (es : List (List ℕ × D)) → option_copied r ≡ named es name → option_map (seen_by view name) r ≡ find_named name_in (map view es) name
  lent_seen name r es h = copied_seen name r (find_named name_of es name) h ∙ sym (found_seen name es)

  named_step : (b : Bool) (e : List ℕ × D) (r : Option C) (q : Option (List ℕ × D)) → r ≡ option_map view q → (if b then Some (view e) else r) ≡ option_map view (if b then Some e else q)
  named_step true e r q h = refl
  named_step false e r q h = h

  named_seen : (name : List ℕ) (es : List (List ℕ × D)) → find_named name_in (map view es) name ≡ option_map view (find_named name_of es name)
  named_seen name [] = refl
  named_seen name (e ∷ es) = rw (named_so e) (named_step (bytes_eq e.0 name) e (find_named name_in (map view es) name) (find_named name_of es name) (named_seen name es))

  both_seen : (r : Option (Bor (List ℕ) × Bor D)) → option_map (λ e. view (entry_seen e)) r ≡ option_map view (option_map entry_seen r)
  both_seen None = refl
  both_seen (Some e) = refl

  -- what a map lends with its name is the definition of the name
  pub found_as : (name : List ℕ) (r : Option (Bor (List ℕ) × Bor D)) (es : List (List ℕ × D)) → option_map entry_seen r ≡ find_named name_of es name → option_map (λ e. view (entry_seen e)) r ≡ find_named name_in (map view es) name
  found_as name r es h = both_seen r ∙ ap (option_map view) h ∙ sym (named_seen name es)

-- the name at a place
pub name_there : {D : Type 0} (es : List (Name × D)) (i : ℕ) (e : Name × D) → Some e ≡ slice_get es i → Some (word_view e.0.bytes) ≡ option_map name_of (slice_get (entries_view es) i)
name_there {D} es i e h =
    let seen_of : Name × D → List ℕ × D = λ x. (x.0.bytes.now, x.1) in
    rw (slice_get-map seen_of es i, ← h) refl

-- the definition at a place, with its name
pub entry_there : {D : Type 0} (es : List (Name × D)) (i : ℕ) (e : Name × D) → Some e ≡ slice_get es i → Some (e.0.bytes.now, e.1) ≡ slice_get (entries_view es) i
entry_there {D} es i e h =
    let seen_of : Name × D → List ℕ × D = λ x. (x.0.bytes.now, x.1) in
    rw (slice_get-map seen_of es i, ← h) refl

-- what stands at the place of a name, if there is one
abbrev pub at_place : {E : Type 0} → List E → Option ℕ → Option E
at_place es None = None
at_place es (Some i) = slice_get es i

at_later : {E : Type 0} (e : E) (es : List E) (o : Option ℕ) → at_place (e ∷ es) (option_map suc o) ≡ at_place es o
at_later e es None = refl
at_later e es (Some i) = refl

find_place_step : {E : Type 0} (b : Bool) (e : E) (es : List E) (o : Option ℕ) (r : Option E) → r ≡ at_place es o → (if b then Some e else r) ≡ at_place (e ∷ es) (if b then Some 0 else option_map suc o)
find_place_step true e es o r h = refl
find_place_step false e es o r h = h ∙ sym (at_later e es o)

-- the definition of a name is the one at its place
pub found_at_place : {D : Type 0} (name : List ℕ) (es : List (List ℕ × D)) → find_named name_of es name ≡ at_place es (place_of es name)
found_at_place name [] = refl
found_at_place name (e ∷ es) = find_place_step (bytes_eq e.0 name) e es (place_of es name) (find_named name_of es name) (found_at_place name es)
