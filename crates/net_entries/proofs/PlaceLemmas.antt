-- Names by their places, and things by the places of their names.
use Rattle.std.proofs.Common.{◌≡◌, ◌<◌, ◌≤◌, ◌+◌, ℕ, zero, suc, Bool, true, false, not, cond, ◌||◌, if◌then◌else◌, List, [], ◌∷◌, ◌++◌, map, length, get_or, set, refl, ap, ap₂, ◌∙◌, Bor, arith}
use Rattle.std.proofs.lemmas.List.{length-map, map-append}
use Rattle.std.proofs.lemmas.Slice.Eq.{bytes_eq-Decides}
use Rattle.std.specs.List.{list_any, position_or_len}
use Rattle.std.specs.Str.{bytes_eq}
use Rattle.indexmap.specs.IndexSet.{insert_key}
use Rattle.name_groups.specs.Groups.{Group, with_member}
use Rattle.form_meanings.specs.Firsts.{has_name, with_first}
use Rattle.net_entries.specs.Places.{entries_listed, group_names, name_of_group, net_group_view, place_in, with_member_at}
use Rattle.net_entries.specs.declared.lent_entry.LentEntry.{LentEntry}
use Rattle.net_entries.specs.declared.net_groups.NetGroup.{NetGroup}

bytes_eq_sym : (a b : List ℕ) → bytes_eq a b ≡ bytes_eq b a
bytes_eq_sym a b = grind (arith, bytes_eq-Decides)

-- names as the keys of a set
module _ (k : List ℕ) where
  abbrev is_name : List ℕ → Bool
  is_name n = bytes_eq n k

  -- the place of a key is that of its name
  pub key_place : (ks : List (List ℕ)) → position_or_len (bytes_eq k) ks ≡ place_in ks k
  key_place [] = refl
  key_place (x ∷ ks) =
      ap (λ b. cond (not b) (1 + position_or_len (bytes_eq k) ks) 0) (bytes_eq_sym k x)
      ∙ ap (λ n. cond (not (bytes_eq x k)) (1 + n) 0) (key_place ks)

  key_known : (ks : List (List ℕ)) → list_any (bytes_eq k) ks ≡ list_any is_name ks
  key_known [] = refl
  key_known (x ∷ ks) =
      ap (λ b. b || list_any (bytes_eq k) ks) (bytes_eq_sym k x)
      ∙ ap (λ (b : Bool). bytes_eq x k || b) (key_known ks)

  -- a key that is put in is the first of its name
  pub key_put : (ks : List (List ℕ)) → insert_key bytes_eq ks k ≡ with_first (λ (n : List ℕ). n) ks k
  key_put ks = ap (λ (b : Bool). if b then ks else ks ++ k ∷ []) (key_known ks)

one_more : (n : ℕ) → 1 + n ≡ suc n
one_more n = omega arith

-- a thing more, by the place of its name
module _ {T : Type 0} (name : List ℕ) (x : T) where
  abbrev place : List (Group T) → ℕ
  place gs = place_in (group_names gs) name

  abbrev pub one : Group T
  one = record { name = name; members = x ∷ [] }

  at_step : (b : Bool) (g : Group T) (gs more : List (Group T)) → (place gs < length gs → with_member_at (place gs) x gs ≡ more)
      → cond (not b) (1 + place gs) 0 < suc (length gs)
      → with_member_at (cond (not b) (1 + place gs) 0) x (g ∷ gs) ≡ (if b then record { name = g.name; members = g.members ++ x ∷ [] } ∷ gs else g ∷ more)
  at_step true g gs more later below = refl
  at_step false g gs more later below = ap (λ n. with_member_at n x (g ∷ gs)) (one_more (place gs)) ∙ ap (λ hs. g ∷ hs) (later (omega (arith, below)))

  -- a name that is there
  pub added_at : (gs : List (Group T)) → place gs < length gs → with_member_at (place gs) x gs ≡ with_member name x gs
  added_at [] below = absurd (omega (arith, below))
  added_at (g ∷ gs) below = at_step (bytes_eq g.name name) g gs (with_member name x gs) (added_at gs) below

  last_step : (b : Bool) (g : Group T) (gs more : List (Group T)) → (length gs ≤ place gs → gs ++ one ∷ [] ≡ more)
      → suc (length gs) ≤ cond (not b) (1 + place gs) 0
      → g ∷ (gs ++ one ∷ []) ≡ (if b then record { name = g.name; members = g.members ++ x ∷ [] } ∷ gs else g ∷ more)
  last_step true g gs more later past = absurd (omega (arith, past))
  last_step false g gs more later past = ap (λ hs. g ∷ hs) (later (omega (arith, past)))

  -- a new name
  pub added_last : (gs : List (Group T)) → length gs ≤ place gs → gs ++ one ∷ [] ≡ with_member name x gs
  added_last [] past = refl
  added_last (g ∷ gs) past = last_step (bytes_eq g.name name) g gs (with_member name x gs) (added_last gs) past

  named_step : (b a : Bool) (g : Group T) (gs more : List (Group T)) → map name_of_group more ≡ (if a then map name_of_group gs else map name_of_group gs ++ name ∷ [])
      → map name_of_group (if b then record { name = g.name; members = g.members ++ x ∷ [] } ∷ gs else g ∷ more)
      ≡ (if b || a then g.name ∷ map name_of_group gs else g.name ∷ (map name_of_group gs ++ name ∷ []))
  named_step true a g gs more later = refl
  named_step false true g gs more later = ap (λ ns. g.name ∷ ns) later
  named_step false false g gs more later = ap (λ ns. g.name ∷ ns) later

  -- the names of the groups then
  pub names_after : (gs : List (Group T)) → group_names (with_member name x gs) ≡ with_first (λ (n : List ℕ). n) (group_names gs) name
  names_after [] = refl
  names_after (g ∷ gs) =
      named_step (bytes_eq g.name name) (list_any (has_name (λ (n : List ℕ). n) name) (group_names gs)) g gs (with_member name x gs) (names_after gs)

-- an entry more at a place of a list of nets
module _ {A : Type 0} (e : LentEntry) where
  abbrev view : List (NetGroup A) → List (Group LentEntry)
  view gs = map net_group_view gs

  view_is : (g h : NetGroup A) → g.name ≡ h.name → entries_listed g.entries ≡ entries_listed h.entries ++ e ∷ [] → net_group_view g ≡ record { name = h.name.now; members = entries_listed h.entries ++ e ∷ [] }
  view_is g h same more = ap₂ (λ n es. record { name = n; members = es }) (ap (λ (n : Bor (List ℕ)). n.now) same) more

  pub pushed_at : (gs : List (NetGroup A)) (i : ℕ) (d g : NetGroup A) → i < length gs → g.name ≡ (get_or gs i d).name
      → entries_listed g.entries ≡ entries_listed (get_or gs i d).entries ++ e ∷ [] → view (set gs i g) ≡ with_member_at i e (view gs)
  pushed_at [] i d g below same more = absurd (omega (arith, below))
  pushed_at (h ∷ gs) zero d g below same more = ap (λ k. k ∷ view gs) (view_is g h same more)
  pushed_at (h ∷ gs) (suc i) d g below same more = ap (λ ks. net_group_view h ∷ ks) (pushed_at gs i d g (omega (arith, below)) same more)

  -- an entry more of a net that is there
  pub added_there : (name : List ℕ) (i : ℕ) (old new : List (NetGroup A)) (gs : List (Group LentEntry)) → i ≡ place_in (group_names gs) name → view old ≡ gs → i < length old
      → view new ≡ with_member_at i e (view old) → view new ≡ with_member name e gs
  added_there name i old new gs is seen below put =
      let fits : place_in (group_names gs) name < length gs = omega (arith, is, below, ap length seen, length-map old net_group_view) in
      put ∙ ap₂ (λ k hs. with_member_at k e hs) is seen ∙ added_at name e gs fits

  -- the first entry of a net
  pub added_behind : (name : List ℕ) (i : ℕ) (old new : List (NetGroup A)) (g : NetGroup A) (gs : List (Group LentEntry)) → i ≡ place_in (group_names gs) name → view old ≡ gs → length old ≤ i
      → new ≡ old ++ g ∷ [] → net_group_view g ≡ one name e → view new ≡ with_member name e gs
  added_behind name i old new g gs is seen past put is_one =
      let behind : length gs ≤ place_in (group_names gs) name = omega (arith, is, past, ap length seen, length-map old net_group_view) in
      ap view put ∙ map-append net_group_view old (g ∷ []) ∙ ap₂ (λ hs h. hs ++ h ∷ []) seen is_one ∙ added_last name e gs behind
