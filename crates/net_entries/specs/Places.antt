-- Nets by the places of their names.
use Rattle.std.specs.Prelude.{ℕ, zero, suc, List, [], ◌∷◌, ◌++◌, map}
use Rattle.std.specs.List.{position_or_len}
use Rattle.std.specs.Str.{bytes_eq}
use Rattle.name_groups.specs.Groups.{Group}
use Rattle.net_entries.specs.declared.entry_list.EntryList.{EntryList}
use Rattle.net_entries.specs.declared.entry_list.EntryList.TheVariants.{One, Several}
use Rattle.net_entries.specs.declared.lent_entry.LentEntry.{LentEntry}
use Rattle.net_entries.specs.declared.net_groups.NetGroup.{NetGroup}

-- the place of a name among others, or the one behind them all
abbrev pub place_in : List (List ℕ) → List ℕ → ℕ
place_in names name = position_or_len (λ n. bytes_eq n name) names

abbrev pub name_of_group : {T : Type 0} → Group T → List ℕ
name_of_group g = g.name

abbrev pub group_names : {T : Type 0} → List (Group T) → List (List ℕ)
group_names gs = map name_of_group gs

abbrev pub entries_listed : {A : Type 0} → EntryList A → List LentEntry
entries_listed (One e) = e ∷ []
entries_listed (Several v) = v.items

abbrev pub net_group_view : {A : Type 0} → NetGroup A → Group LentEntry
net_group_view g = record { name = g.name.now; members = entries_listed g.entries }

-- one thing more behind the members of the group at a place
abbrev pub with_member_at : {T : Type 0} → ℕ → T → List (Group T) → List (Group T)
with_member_at place x [] = []
with_member_at zero x (g ∷ gs) = record { name = g.name; members = g.members ++ x ∷ [] } ∷ gs
with_member_at (suc place) x (g ∷ gs) = g ∷ with_member_at place x gs
