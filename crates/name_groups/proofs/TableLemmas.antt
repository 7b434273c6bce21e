-- A table by names, as groups.
use Rattle.std.proofs.Common.{◌≡◌, ℕ, Bool, true, false, cond, if◌then◌else◌, List, [], ◌∷◌, ◌++◌, map, refl, sym, ap, ◌∙◌, Option, Some, None, Bor, arith}
use Rattle.std.specs.List.{slice_get}
use Rattle.std.specs.Map.{lookup}
use Rattle.std.specs.Option.{option_map}
use Rattle.std.specs.Str.{bytes_eq}
use Rattle.std.specs.declared.vec.Vec.{Vec}
use Rattle.std.proofs.lemmas.Option.{slice_get-map}
use Rattle.std.proofs.lemmas.Slice.Eq.{bytes_eq-Decides}
use Rattle.indexmap.specs.IndexMap.{insert_entry}
use Rattle.name_keys.specs.declared.name.Name.{Name}
use Rattle.name_groups.specs.Groups.{Group, members_named, with_member}
use Rattle.name_groups.specs.GroupViews.{group_view}

pub bytes_eq_sym : (a b : List ℕ) → bytes_eq a b ≡ bytes_eq b a
bytes_eq_sym a b = grind (arith, bytes_eq-Decides)

abbrev pub is_key : List ℕ → Name → Bool
is_key name k = bytes_eq name k.bytes.now

module _ {T A : Type 0} where
  abbrev pub items_of : Option (Vec T A) → List T
  items_of None = []
  items_of (Some v) = v.items

  found_step : (b c : Bool) → c ≡ b → (v : Vec T A) (later : List T) (o : Option (Vec T A)) → later ≡ items_of o → (if c then v.items else later) ≡ items_of (cond b (Some v) o)
  found_step true true e v later o h = refl
  found_step false false e v later o h = h
  found_step true false e v later o h = cc
  found_step false true e v later o h = cc

  -- a look-up in the table finds the members
  pub members_found : (name : List ℕ) (es : List (Name × Vec T A)) → members_named name (map group_view es) ≡ items_of (lookup (is_key name) es)
  members_found name [] = refl
  members_found name (e ∷ es) =
      found_step (is_key name e.0) (bytes_eq e.0.bytes.now name) (bytes_eq_sym e.0.bytes.now name) e.1 (members_named name (map group_view es)) (lookup (is_key name) es) (members_found name es)

  -- what is put in the place of the members that were there
  module _ (k : Name) (x : T) (v : Vec T A) where
    put_step : (b c : Bool) → c ≡ b → (e : Name × Vec T A) (es put : List (Name × Vec T A)) (gs : List (Group T)) (o : Option (Vec T A))
        → v.items ≡ items_of (cond b (Some e.1) o) ++ x ∷ [] → (v.items ≡ items_of o ++ x ∷ [] → map group_view put ≡ gs)
        → map group_view (if b then (e.0, v) ∷ es else e ∷ put) ≡ (if c then record { name = e.0.bytes.now; members = e.1.items ++ x ∷ [] } ∷ map group_view es else group_view e ∷ gs)
    put_step true true same e es put gs o is later = ap (λ xs. record { name = e.0.bytes.now; members = xs } ∷ map group_view es) is
    put_step false false same e es put gs o is later = ap (λ rest. group_view e ∷ rest) (later is)
    put_step true false same e es put gs o is later = cc
    put_step false true same e es put gs o is later = cc

    pub member_put : (es : List (Name × Vec T A)) → v.items ≡ items_of (lookup (is_key k.bytes.now) es) ++ x ∷ []
        → map group_view (insert_entry (λ (a b : Name). is_key a.bytes.now b) es k v) ≡ with_member k.bytes.now x (map group_view es)
    member_put [] is = ap (λ xs. record { name = k.bytes.now; members = xs } ∷ []) is
    member_put (e ∷ es) is =
        put_step (is_key k.bytes.now e.0) (bytes_eq e.0.bytes.now k.bytes.now) (bytes_eq_sym e.0.bytes.now k.bytes.now) e es (insert_entry (λ (a b : Name). is_key a.bytes.now b) es k v)
        (with_member k.bytes.now x (map group_view es)) (lookup (is_key k.bytes.now) es) is (member_put es)

    -- the table that comes after, as groups
    pub member_added : (es after : List (Name × Vec T A)) (gs : List (Group T)) (had : List T)
        → after ≡ insert_entry (λ (a b : Name). is_key a.bytes.now b) es k v → items_of (lookup (is_key k.bytes.now) es) ≡ had → v.items ≡ had ++ x ∷ [] → map group_view es ≡ gs
        → map group_view after ≡ with_member k.bytes.now x gs
    member_added es after gs had put found items is =
        ap (λ entries. map group_view entries) put
        ∙ member_put es (items ∙ ap (λ xs. xs ++ x ∷ []) (sym found))
        ∙ ap (λ groups. with_member k.bytes.now x groups) is

  -- the group at a place of the table
  pub group_at : (es : List (Name × Vec T A)) (i : ℕ) (found : Option (Bor Name × Bor (Vec T A))) (key : Bor Name) (members : Bor (Vec T A))
      → found ≡ Some (key, members) → option_map (λ (p : Bor Name × Bor (Vec T A)). (p.0.now, p.1.now)) found ≡ slice_get es i
      → slice_get (map group_view es) i ≡ Some (record { name = key.now.bytes.now; members = members.now.items })
  group_at es i found key members is at =
      slice_get-map group_view es i
      ∙ ap (λ (e : Option (Name × Vec T A)). option_map group_view e) (sym at ∙ ap (λ (o : Option (Bor Name × Bor (Vec T A))). option_map (λ (p : Bor Name × Bor (Vec T A)). (p.0.now, p.1.now)) o) is)
